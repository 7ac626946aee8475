-- The factors of a product, one after another.
use Rattle.std.proofs.Common.{◌≡◌, ℕ, zero, suc, ◌+◌, ◌-◌, ◌<◌, ◌≤◌, List, [], ◌∷◌, ◌++◌, map, length, replicate, Some, None, Option, option_to_list, sym, refl, ap, ◌∙◌, subst, ⊎_elim, add-one, add-zero, arith}
use lib.LanesLaws.{map-replicate}
use Rattle.std.proofs.lemmas.List.{length-map, map-append}
use Rattle.std.proofs.lemmas.Bool.{cases_lt, true≢false, false≢true}
use Rattle.sheet.specs.declared.operand.Operand.{Operand}
use Rattle.sheet.specs.declared.operation.Operation.TheVariants.{Mul}
use Rattle.algebra.specs.Counts.{less_one}
use Rattle.algebra.specs.Cubes.{Powers, letters}
use Rattle.algebra.specs.Rows.{degree}
use Rattle.algebra.specs.Sums.{counting, up_to}
use Rattle.algebra.proofs.Sums.{up_to_more}
use Rattle.emission.specs.Steps.{Link, chain_end, chain_steps, letters_below, product_chain}
use Rattle.emission.proofs.Letters.{letters_length}
use Rattle.emitter.specs.declared.draft.Draft.{Draft}
use Rattle.emitter.specs.Appended.{Appended, HasRoom}
use Rattle.emitter.specs.Multiplied.{Multiplied}
use Rattle.emitter.proofs.Writes.{appended_none, appended_then, chained_next, chained_none, chained_same, chained_then}

pub multiplied_none : (d : Draft) → Multiplied d [] None d
multiplied_none d = record { chain = record { steps = appended_none d; end = refl }; some = refl }

pub multiplied_one : (d : Draft) (f : Operand) → Multiplied d (f ∷ []) (Some f) d
multiplied_one d f = record { chain = chained_none d f; some = refl }

pub multiplied_same : {old new new' : Draft} {fs fs' : List Operand} {product product' : Option Operand} → Multiplied old fs product new → fs ≡ fs' → product' ≡ product → new' ≡ new
    → Multiplied old fs' product' new'
multiplied_same {old} {new} {new'} {fs} {fs'} {product} {product'} m e p d =
    subst (λ (xs : List Operand). Multiplied old xs product' new') e
    (subst (λ (o : Option Operand). Multiplied old fs o new') (sym p)
    (subst (λ (x : Draft). Multiplied old fs product x) (sym d) m))

-- how many steps are written: the first factor takes none
pub multiplied_next : {old new : Draft} (fs : List Operand) (product : Option Operand) → Multiplied old fs product new
    → record { next : new.next ≡ old.next + (length fs - 1); factors : new.next + length (option_to_list product) ≡ old.next + length fs }
multiplied_next [] None m = let e = m.chain.steps.next in record { next = omega arith; factors = omega arith }
multiplied_next [] (Some y) m = absurd (true≢false m.some)
multiplied_next (x ∷ fs) None m = absurd (false≢true m.some)
multiplied_next {old} {new} (x ∷ fs) (Some y) m =
    let link : Operand → Link = λ y. (Mul, y) in
    let e : new.next ≡ old.next + length (map link fs) = chained_next m.chain in
    let s : length (map link fs) ≡ length fs = length-map fs link in
    record { next = omega arith; factors = omega arith }

-- more factors on the product of some
pub multiplied_then : {old mid new : Draft} (fs gs : List Operand) (product : Option Operand) {last : Option Operand} → Multiplied old fs product mid → Multiplied mid (option_to_list product ++ gs) last new
    → Multiplied old (fs ++ gs) last new
multiplied_then (x ∷ fs) gs None p q = absurd (false≢true p.some)
multiplied_then [] gs (Some y) p q = absurd (true≢false p.some)
multiplied_then {old} {mid} {new} [] gs None {last} p q =
    let same : mid.next ≡ old.next = p.chain.steps.next ∙ add-zero old.next in
    record {
      chain = record {
        steps = subst (λ (n : ℕ). Appended old (chain_steps n (product_chain gs)) new) same (appended_then p.chain.steps q.chain.steps);
        end = q.chain.end ∙ ap (λ (n : ℕ). chain_end n (product_chain gs)) same;
      };
      some = q.some;
    }
multiplied_then {old} {mid} {new} (x ∷ fs) gs (Some y) {last} p q =
    record {
      chain = chained_same (chained_then p.chain q.chain) (sym (map-append (λ (z : Operand). (Mul, z)) fs gs));
      some = q.some;
    }

-- the letters below l, as factors
module _ (f : ℕ → Operand) (a : Powers) where
  abbrev pub factors : ℕ → List Operand
  factors l = map f (letters_below a l)

  pub factors_none : factors 0 ≡ []
  unfolding letters_below
  factors_none = refl

  pub factors_more : (l : ℕ) → factors l ++ replicate (a l) (f l) ≡ factors (l + 1)
  unfolding letters_below
  factors_more l =
      ap (λ (xs : List Operand). factors l ++ xs) (sym (map-replicate f (a l) l)) ∙ sym (map-append f (letters_below a l) (replicate (a l) l))
      ∙ ap (λ (m : ℕ). factors m) (sym (add-one l))

  factors_length : (l : ℕ) → length (factors l) ≡ up_to counting l a
  factors_length l = length-map (letters_below a l) f ∙ letters_length a l

  degree_up : (l m : ℕ) → l < m → up_to counting l a + a l ≤ up_to counting m a
  degree_up l zero h = absurd (omega arith)
  degree_up l (suc m) h =
      let e = up_to_more counting m a in
      ⊎_elim (λ (b : l < m). let i = degree_up l m b in omega arith)
      (λ (b : m ≤ l). let q : m ≡ l = omega arith in let p = subst (λ (i : ℕ). up_to counting l a + a l ≤ up_to counting i a + a i) (sym q) (omega arith) in omega arith)
      (cases_lt l m)

  less_one_is : (n : ℕ) → less_one n ≡ n - 1
  less_one_is zero = refl
  less_one_is (suc n) = omega arith

  -- one letter more has room for its steps
  pub letter_room : {old new : Draft} (l : ℕ) (product : Option Operand) → Multiplied old (factors l) product new → l < letters → HasRoom old (less_one (degree a)) → HasRoom new (length (option_to_list product) + a l - 1)
  letter_room {old} {new} l product m low room =
      let up = degree_up l letters low in
      let d = less_one_is (degree a) in
      let len = factors_length l in
      let n = multiplied_next (factors l) product m in
      let long = m.chain.steps.long in
      omega arith
