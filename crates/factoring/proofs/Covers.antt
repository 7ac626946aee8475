-- Which places are covered.
use Rattle.std.proofs.Common.{◌≡◌, ℕ, Bool, true, false, cond, ◌&&◌, ◌||◌, List, [], ◌∷◌, ◌++◌, nat_eq, sym, refl, ap, ◌∙◌, ap₂, ⊎_elim}
use Rattle.std.specs.List.{list_any}
use Rattle.std.proofs.lemmas.Bool.{cases_eq, eq-eqb, ne_eqb}
use Rattle.few.specs.Listed.{listed}
use Rattle.rewriting.specs.Factor.{Taken, covered, has, taken_in}
use Rattle.rewriting.specs.Order.{factored_from}
use Rattle.rewriting.specs.Styles.{equal}
use Rattle.rewriting.proofs.Parts.{equal_apart, equal_refl}
use Rattle.factoring.specs.Takens.{as_taken, as_takens}
use Rattle.factoring.specs.declared.taken.TakenKernel.{TakenKernel}

or_assoc : (a b c : Bool) → ((a || b) || c) ≡ (a || (b || c))
or_assoc true b c = refl
or_assoc false b c = refl

has_append : (xs ys : List ℕ) (k : ℕ) → has (xs ++ ys) k ≡ (has xs k || has ys k)
has_append [] ys k = refl
has_append (x ∷ xs) ys k = ap (λ (b : Bool). equal k x || b) (has_append xs ys k) ∙ sym (or_assoc (equal k x) (has xs k) (has ys k))

pub equal_from : (m n : ℕ) → m ≡ n → equal m n ≡ true
equal_from m n e = ap (λ (k : ℕ). equal m k) (sym e) ∙ equal_refl m

equal_eqb : (m n : ℕ) → equal m n ≡ nat_eq n m
equal_eqb m n =
    ⊎_elim (λ e. equal_from m n e ∙ sym (eq-eqb n m (sym e)))
    (λ e. equal_apart m n e ∙ sym (ne_eqb n m (λ q. e (sym q))))
    (cases_eq m n)

has_any : (xs : List ℕ) (k : ℕ) → list_any (λ y. nat_eq y k) xs ≡ has xs k
has_any [] k = refl
has_any (x ∷ xs) k = ap₂ ◌||◌ (sym (equal_eqb k x)) (has_any xs k)

-- a place is covered where some kernel of the expression covers it
pub covers_any : (e p : ℕ) (ts : List TakenKernel)
    → list_any (λ (t : TakenKernel). nat_eq t.expression e && list_any (λ y. nat_eq y p) (listed t.places)) ts ≡ has (covered (taken_in e (as_takens ts))) p
covers_any e p [] = refl
covers_any e p (t ∷ ts) =
    ap₂ (λ (b : Bool) (v : Bool). (b && list_any (λ y. nat_eq y p) (listed t.places)) || v) (sym (equal_eqb e t.expression)) (covers_any e p ts) ∙ go (equal e t.expression)
  where
    rest : List Taken
    rest = taken_in e (as_takens ts)

    go : (b : Bool) → ((b && list_any (λ y. nat_eq y p) (listed t.places)) || has (covered rest) p) ≡ has (covered (cond b (as_taken t ∷ rest) rest)) p
    go true = ap (λ (v : Bool). v || has (covered rest) p) (has_any (listed t.places) p) ∙ sym (has_append (listed t.places) (covered rest) p)
    go false = refl

-- an expression is a source where some kernel is taken from it
pub source_any : (e : ℕ) (ts : List TakenKernel) → list_any (λ (t : TakenKernel). nat_eq t.expression e) ts ≡ factored_from (as_takens ts) e
source_any e [] = refl
source_any e (t ∷ ts) = ap₂ ◌||◌ (sym (equal_eqb e t.expression)) (source_any e ts)
