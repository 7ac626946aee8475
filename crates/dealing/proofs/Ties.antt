-- The best column set: by cards, and by the rewriting.
use Rattle.std.proofs.Common.{◌≡◌, ℕ, zero, suc, ◌*◌, ◌/◌, ◌%◌, ◌^◌, ◌<◌, ◌≤◌, Bool, true, false, cond, eqb, List, [], ◌∷◌, map, length, Some, None, Option, sym, refl, ap, ◌∙◌, subst, subst₂, arith}
use Rattle.std.specs.List.{AllByRecursion}
use Rattle.algebra.specs.Cubes.{Powers}
use Rattle.algebra.specs.Rows.{Distinct, Row, divides_test, multiples, quotient_row, quotients}
use Rattle.algebra.proofs.Apart.{distinct_quotients}
use Rattle.choosing.specs.declared.card.Card.{Card}
use Rattle.choosing.specs.declared.choice.Choice.{Choice}
use Rattle.choosing.specs.declared.column.Column.{Column}
use Rattle.choosing.specs.Best.{Chosen, NoGain, columns_at, set_at, value}
use Rattle.choosing.specs.Best.{Candidate as CardCandidate}
use Rattle.choosing.specs.Sets.{chosen}
use Rattle.rewriting.specs.Choosing.{Candidate, GainsNothing, column_set, columns_in, kernel_in, named_by, reckoned}
use Rattle.rewriting.specs.Styles.{Style}
use Rattle.rewriting.specs.Taking.{Kernel}
use Rattle.rewriting.proofs.Places.{Other}
use Rattle.dealing.specs.Cards.{Deals, Named, column_of, columns_of}
use Rattle.dealing.specs.Chosen.{BestSet, Chooses}
use Rattle.dealing.proofs.Finds.{AllTell}
use Rattle.dealing.proofs.Values.{as_many, length_tell, same_additions, same_multiplications, same_saving}

-- the columns of a card tell the quotients of the rows
columns_tell : (names : List Row) (c : Powers) (p : ℕ) (rs : List Row) → Named names (quotients c rs) → AllTell names (columns_of names c p rs) (quotients c rs)
columns_tell names c p [] a = tt
columns_tell names c p (r ∷ rs) a = go (divides_test c r.cube) a (columns_tell names c (suc p) rs)
  where
    go : (t : Bool) → Named names (map (quotient_row c) (cond t (r ∷ multiples c rs) (multiples c rs)))
        → (Named names (quotients c rs) → AllTell names (columns_of names c (suc p) rs) (quotients c rs))
        → AllTell names (cond t (column_of names c p r ∷ columns_of names c (suc p) rs) (columns_of names c (suc p) rs)) (map (quotient_row c) (cond t (r ∷ multiples c rs) (multiples c rs)))
    go true b rest = (record { named = b.0; name = refl; degree = refl }, rest b.1)
    go false b rest = rest b

chosen_tell : (names : List Row) (n : ℕ) (xs : List Column) (rs : List Row) → AllTell names xs rs → AllTell names (chosen n xs) (named_by n rs)
chosen_tell names n [] [] t = tt
chosen_tell names n [] (r ∷ rs) t = absurd t
chosen_tell names n (x ∷ xs) [] t = absurd t
chosen_tell names n (x ∷ xs) (r ∷ rs) t = go (eqb (n % 2) 1) (chosen_tell names (n / 2) xs rs t.1)
  where
    go : (b : Bool) → AllTell names (chosen (n / 2) xs) (named_by (n / 2) rs)
        → AllTell names (cond b (x ∷ chosen (n / 2) xs) (chosen (n / 2) xs)) (cond b (r ∷ named_by (n / 2) rs) (named_by (n / 2) rs))
    go true h = (t.0, h)
    go false h = h

-- some of a list of distinct rows
named_all : (P : Row → Type 0) (n : ℕ) (rs : List Row) → AllByRecursion P rs → AllByRecursion P (named_by n rs)
named_all P n [] a = tt
named_all P n (r ∷ rs) a = go (eqb (n % 2) 1) (named_all P (n / 2) rs a.1)
  where
    go : (b : Bool) → AllByRecursion P (named_by (n / 2) rs) → AllByRecursion P (cond b (r ∷ named_by (n / 2) rs) (named_by (n / 2) rs))
    go true h = (a.0, h)
    go false h = h

named_distinct : (n : ℕ) (rs : List Row) → Distinct rs → Distinct (named_by n rs)
named_distinct n [] d = tt
named_distinct n (r ∷ rs) d = go (eqb (n % 2) 1) (named_distinct (n / 2) rs d.1)
  where
    go : (b : Bool) → Distinct (named_by (n / 2) rs) → Distinct (cond b (r ∷ named_by (n / 2) rs) (named_by (n / 2) rs))
    go true h = (named_all (Other r) (n / 2) rs d.0, h)
    go false h = h

-- of a list of kernels and their cards
length_deals : (names : List Row) (s : Style) (ks : List Kernel) (xs : List Card) → Deals names s ks xs → length xs ≡ length ks
length_deals names s [] [] d = refl
length_deals names s [] (x ∷ xs) d = absurd d
length_deals names s (k ∷ ks) [] d = absurd d
length_deals names s (k ∷ ks) (x ∷ xs) d = ap suc (length_deals names s ks xs d.1)

columns_at_tell : (names : List Row) (s : Style) (ks : List Kernel) (xs : List Card) → Deals names s ks xs → (p : ℕ) → p < length ks → AllTell names (columns_at xs p) (columns_in s (kernel_in ks p))
columns_at_tell names s [] xs d p l = absurd (omega arith)
columns_at_tell names s (k ∷ ks) [] d p l = absurd d
columns_at_tell names s (k ∷ ks) (x ∷ xs) d zero l =
    subst (λ (cs : List Column). AllTell names cs (columns_in s k)) (sym d.0.columns) (columns_tell names k.co_kernel (8 * k.expression) (s.expression k.expression) d.0.named)
columns_at_tell names s (k ∷ ks) (x ∷ xs) d (suc p) l = columns_at_tell names s ks xs d.1 p (omega arith)

module _ (names : List Row) (s : Style) (few : (e : ℕ) → length (s.expression e) ≤ 8) (apart : (e : ℕ) → Distinct (s.expression e)) (ks : List Kernel) (xs : List Card) (d : Deals names s ks xs) where
  sets_tell : (p n : ℕ) → p < length ks → AllTell names (set_at xs p n) (column_set s ks p n)
  sets_tell p n l = chosen_tell names n (columns_at xs p) (columns_in s (kernel_in ks p)) (columns_at_tell names s ks xs d p l)

  set_distinct : (p n : ℕ) → Distinct (column_set s ks p n)
  set_distinct p n = named_distinct n (columns_in s (kernel_in ks p)) (distinct_quotients (kernel_in ks p).co_kernel (s.expression (kernel_in ks p).expression) (apart (kernel_in ks p).expression))

  -- the candidates are the same
  of_cards : (p n : ℕ) → Candidate s ks p n → CardCandidate xs p n
  of_cards p n c = record {
    kernel = omega (arith, c.place, length_deals names s ks xs d);
    number = subst (λ (m : ℕ). n < 2 ^ m) (sym (length_tell names (columns_at xs p) (columns_in s (kernel_in ks p)) (columns_at_tell names s ks xs d p c.place))) c.number;
    two = omega (arith, c.two, length_tell names (set_at xs p n) (column_set s ks p n) (sets_tell p n c.place));
  }

  of_kernels : (p n : ℕ) → CardCandidate xs p n → Candidate s ks p n
  of_kernels p n c =
      let l : p < length ks = omega (arith, c.kernel, length_deals names s ks xs d) in
      record {
        place = l;
        number = subst (λ (m : ℕ). n < 2 ^ m) (length_tell names (columns_at xs p) (columns_in s (kernel_in ks p)) (columns_at_tell names s ks xs d p l)) c.number;
        two = omega (arith, c.two, length_tell names (set_at xs p n) (column_set s ks p n) (sets_tell p n l));
      }

  -- and save the same
  same_value : (w p n : ℕ) → Candidate s ks p n → value w xs p n ≡ reckoned w s ks p n
  same_value w p n c = same_saving names s few (set_at xs p n) (column_set s ks p n) (sets_tell p n c.place) ks xs d w c.two (set_distinct p n)

  best_by_rows : (w : ℕ) (x : Choice) → Chosen w xs x → BestSet w s ks x
  best_by_rows w x h =
      let p = x.kernel in
      let n = x.set in
      let c = of_kernels p n h.best.candidate in
      let t = sets_tell p n c.place in
      let same = same_value w p n c in
      record {
        best = record {
          candidate = c;
          most = λ q m k. subst₂ (λ (u v : ℕ). u ≤ v) (same_value w q m k) same (h.best.most q m (of_cards q m k));
          first = λ q m k e. subst₂ (λ (u v : ℕ). u < v) (same_value w q m k) same (h.best.first q m (of_cards q m k) e);
        };
        gains = subst (λ (u : ℕ). 0 < u) same h.gains;
        rows = h.tells.rows ∙ as_many names s few (set_at xs p n) (column_set s ks p n) t ks xs d;
        columns = h.tells.columns ∙ length_tell names (set_at xs p n) (column_set s ks p n) t;
        multiplications = h.tells.multiplications ∙ same_multiplications names s few (set_at xs p n) (column_set s ks p n) t ks xs d c.two (set_distinct p n);
        additions = h.tells.additions ∙ same_additions names s few (set_at xs p n) (column_set s ks p n) t ks xs d;
      }

  no_gain_by_rows : (w : ℕ) → NoGain w xs → GainsNothing (reckoned w s ks) s ks
  no_gain_by_rows w h p n c = sym (same_value w p n c) ∙ h p n (of_cards p n c)

  pub by_rows : (w : ℕ) (o : Option Choice) → elim o as (λ _. Type 0) [ Some x ↦ Chosen w xs x | None ↦ NoGain w xs ] → Chooses w s ks o
  by_rows w (Some x) h = best_by_rows w x h
  by_rows w None h = no_gain_by_rows w h
