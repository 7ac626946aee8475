-- The best of the pairs met so far.
use Rattle.std.proofs.Common.{◌≡◌, ℕ, ◌+◌, ◌<◌, ◌≤◌, ◌⊎◌, length, Some, None, Option, sym, ap, ◌∙◌, subst, inl, inr, arith}
use Rattle.std.proofs.lemmas.Bool.{cases_eq, cases_lt}
use Rattle.cubes.specs.Powers.{power}
use Rattle.rewriting.specs.Sharing.{Ahead, MetBefore, NoPair, Sharing, Spot, pair_saving, shared_cube}
use Rattle.rewriting.specs.Styles.{Style, standing}
use Rattle.sharing.specs.Pairs.{Best, Better, Leads, KnownSoFar, Told, Weighed, at, spot}
use Rattle.sharing.specs.declared.pair.Pair.{Pair}
use Rattle.sharing.specs.declared.pair.Place.{Place}
use Rattle.sharing.proofs.Rows.{saved_same}

same_spot : (u v : Spot) → u.expression ≡ v.expression → u.row ≡ v.row → u ≡ v
same_spot u v p q = ap (λ (e : ℕ). at e u.row) p ∙ ap (λ (k : ℕ). at v.expression k) q

-- the next row of an expression, and the next expression
ahead_more : (v : Spot) (e k : ℕ) → Ahead v (at e (k + 1)) → Ahead v (at e k) ⊎ (v ≡ at e k)
ahead_more v e k (inl h) = inl (inl h)
ahead_more v e k (inr (p, h)) = elim (cases_lt v.row k) [ inl g ↦ inl (inr (p, g)) | inr g ↦ inr (same_spot v (at e k) p (omega arith)) ]

ahead_over : (v : Spot) (e n : ℕ) → (v.expression ≡ e → v.row < n) → Ahead v (at (e + 1) 0) → Ahead v (at e n)
ahead_over v e n low (inl h) = elim (cases_eq v.expression e) [ inl p ↦ inr (p, low p) | inr ne ↦ inl (omega arith) ]
ahead_over v e n low (inr (p, h)) = absurd (omega arith)

ahead_none : (v : Spot) → Ahead v (at 0 0) → ⊥
ahead_none v (inl h) = omega arith
ahead_none v (inr (p, h)) = omega arith

-- the next pair
met_more : (u v x : Spot) (e k : ℕ) → MetBefore u v x (at e (k + 1)) → MetBefore u v x (at e k) ⊎ ((u ≡ x) × (v ≡ at e k))
met_more u v x e k (inl h) = inl (inl h)
met_more u v x e k (inr (p, h)) = elim (ahead_more v e k h) [ inl g ↦ inl (inr (p, g)) | inr q ↦ inr (p, q) ]

module _ (s : Style) where
  saved_is : (x : Pair) → Told s x → pair_saving s (spot x.first) (spot x.second) ≡ x.saved
  saved_is x told = sym (told.saved ∙ saved_same (power x.cube) (shared_cube s (spot x.first) (spot x.second)) told.cube s)

  -- no pair more is met
  so_far_on : (x y x' y' : Spot) → ((u v : Spot) → Sharing s u v → MetBefore u v x' y' → MetBefore u v x y) → (b : Option Pair) → KnownSoFar s x y b → KnownSoFar s x' y' b
  so_far_on x y x' y' back None f = λ u v p m. f u v p (back u v p m)
  so_far_on x y x' y' back (Some z) f = record { told = f.told; pair = f.pair; most = λ u v p m. f.most u v p (back u v p m); earliest = f.earliest }

  pub so_far_none : KnownSoFar s (at 0 0) (at 0 0) None
  so_far_none u v p (inl h) = ahead_none u h
  so_far_none u v p (inr (q, h)) = ahead_none v h

  pub so_far_skip : (x : Spot) (e k : ℕ) → (Sharing s x (at e k) → ⊥) → (b : Option Pair) → KnownSoFar s x (at e k) b → KnownSoFar s x (at e (k + 1)) b
  so_far_skip x e k out =
      so_far_on x (at e k) x (at e (k + 1))
      (λ u v p m.
      elim (met_more u v x e k m) [
        | inl g ↦ g
        | inr q ↦ absurd (out (subst (λ (w : Spot). Sharing s x w) q.1 (subst (λ (w : Spot). Sharing s w v) q.0 p)))
      ])

  -- all pairs up to this one keep to a bound, if those before do and it does
  up_to : (x : Spot) (e k n : ℕ) → ((u v : Spot) → Sharing s u v → MetBefore u v x (at e k) → pair_saving s u v ≤ n) → pair_saving s x (at e k) ≤ n
      → (u v : Spot) → Sharing s u v → MetBefore u v x (at e (k + 1)) → pair_saving s u v ≤ n
  up_to x e k n before here u v p m =
      elim (met_more u v x e k m) [
        | inl g ↦ before u v p g
        | inr q ↦ subst (λ (w : Spot). pair_saving s w v ≤ n) (sym q.0) (subst (λ (w : Spot). pair_saving s x w ≤ n) (sym q.1) here)
      ]

  -- x saves more than the pairs before it
  so_far_take : (x : Pair) → Told s x → Sharing s (spot x.first) (spot x.second)
      → ((u v : Spot) → Sharing s u v → MetBefore u v (spot x.first) (spot x.second) → pair_saving s u v < x.saved)
      → Leads s (spot x.first) (at x.second.expression (x.second.row + 1)) x
  so_far_take x told pair less = record {
    told = told;
    pair = pair;
    most =
        up_to (spot x.first) x.second.expression x.second.row x.saved (λ u v p m. omega (arith, less u v p m))
        (omega (arith, saved_is x told));
    earliest = less;
  }

  -- it does not
  so_far_keep : (x : Pair) → Told s x → (z : Pair) → x.saved ≤ z.saved → Leads s (spot x.first) (spot x.second) z
      → Leads s (spot x.first) (at x.second.expression (x.second.row + 1)) z
  so_far_keep x told z le f = record {
    told = f.told;
    pair = f.pair;
    most = up_to (spot x.first) x.second.expression x.second.row z.saved f.most (omega (arith, saved_is x told));
    earliest = f.earliest;
  }

  better_here : (x : Pair) → Told s x → Sharing s (spot x.first) (spot x.second) → (b : Option Pair) (r : Pair) → Better b x r
      → KnownSoFar s (spot x.first) (spot x.second) b → Leads s (spot x.first) (at x.second.expression (x.second.row + 1)) r
  better_here x told pair None r is f =
      subst (Leads s (spot x.first) (at x.second.expression (x.second.row + 1))) (sym is)
      (so_far_take x told pair (λ u v p m. absurd (f u v p m)))
  better_here x told pair (Some z) r is f =
      elim (cases_lt z.saved x.saved) [
        | inl h ↦
            subst (Leads s (spot x.first) (at x.second.expression (x.second.row + 1))) (sym (is.0 h))
            (so_far_take x told pair (λ u v p m. omega (arith, f.most u v p m)))
        | inr h ↦
            subst (Leads s (spot x.first) (at x.second.expression (x.second.row + 1))) (sym (is.1 h))
            (so_far_keep x told z h f)
      ]

  pub so_far_better : (first second : Place) (x : Pair) → Weighed s first second x → (b : Option Pair) (r : Pair) → Better b x r
      → KnownSoFar s (spot first) (spot second) b → KnownSoFar s (spot first) (at second.expression (second.row + 1)) (Some r)
  so_far_better first second x w b r is f =
      let here : KnownSoFar s (spot x.first) (spot x.second) b =
      subst (λ (p : Place). KnownSoFar s (spot p) (spot x.second) b) (sym w.is_first)
      (subst (λ (p : Place). KnownSoFar s (spot first) (spot p) b) (sym w.is_second) f) in
      let pair : Sharing s (spot x.first) (spot x.second) =
      subst (λ (p : Place). Sharing s (spot p) (spot x.second)) (sym w.is_first)
      (subst (λ (p : Place). Sharing s (spot first) (spot p)) (sym w.is_second) w.pair) in
      subst (λ (p : Place). Leads s (spot p) (at second.expression (second.row + 1)) r) w.is_first
      (subst (λ (p : Place). Leads s (spot x.first) (at p.expression (p.row + 1)) r) w.is_second
      (better_here x w.told pair b r is here))

  -- past the last row of an expression, as the second row and as the first
  pub so_far_second_over : (x : Spot) (e n : ℕ) → length (s.expression e) ≤ n → (b : Option Pair) → KnownSoFar s x (at e n) b → KnownSoFar s x (at (e + 1) 0) b
  so_far_second_over x e n all = so_far_on x (at e n) x (at (e + 1) 0) back
    where
      back : (u v : Spot) → Sharing s u v → MetBefore u v x (at (e + 1) 0) → MetBefore u v x (at e n)
      back u v p (inl h) = inl h
      back u v p (inr (q, h)) = inr (q, ahead_over v e n (λ i. omega (arith, p.second.row, ap (λ (k : ℕ). length (s.expression k)) i)) h)

  pub so_far_first_over : (e n : ℕ) → length (s.expression e) ≤ n → (b : Option Pair) → KnownSoFar s (at e n) (at 0 0) b → KnownSoFar s (at (e + 1) 0) (at 0 0) b
  so_far_first_over e n all = so_far_on (at e n) (at 0 0) (at (e + 1) 0) (at 0 0) back
    where
      back : (u v : Spot) → Sharing s u v → MetBefore u v (at (e + 1) 0) (at 0 0) → MetBefore u v (at e n) (at 0 0)
      back u v p (inl h) = inl (ahead_over u e n (λ i. omega (arith, p.first.row, ap (λ (k : ℕ). length (s.expression k)) i)) h)
      back u v p (inr (q, h)) = absurd (ahead_none v h)

  -- the second rows start in the expression of the first row
  pub so_far_start : (x : Spot) (b : Option Pair) → KnownSoFar s x (at 0 0) b → KnownSoFar s x (at x.expression 0) b
  so_far_start x = so_far_on x (at 0 0) x (at x.expression 0) back
    where
      back : (u v : Spot) → Sharing s u v → MetBefore u v x (at x.expression 0) → MetBefore u v x (at 0 0)
      back u v p (inl h) = inl h
      back u v p (inr (q, inl h)) =
          let i : u.expression ≡ x.expression = ap (λ (w : Spot). w.expression) q in
          absurd (elim p.ahead [ inl g ↦ omega arith | inr g ↦ omega (arith, g.0) ])
      back u v p (inr (q, inr h)) = absurd (omega (arith, h.1))

  -- and they end with the last expression
  pub so_far_end : (e k n : ℕ) → standing s ≤ n → (b : Option Pair) → KnownSoFar s (at e k) (at n 0) b → KnownSoFar s (at e (k + 1)) (at 0 0) b
  so_far_end e k n all = so_far_on (at e k) (at n 0) (at e (k + 1)) (at 0 0) back
    where
      back : (u v : Spot) → Sharing s u v → MetBefore u v (at e (k + 1)) (at 0 0) → MetBefore u v (at e k) (at n 0)
      back u v p (inl h) = elim (ahead_more u e k h) [ inl g ↦ inl g | inr q ↦ inr (q, inl (omega (arith, p.second.expression))) ]
      back u v p (inr (q, h)) = absurd (ahead_none v h)

  -- all pairs are met
  pub found : (n : ℕ) → standing s ≤ n → (b : Option Pair) → KnownSoFar s (at n 0) (at 0 0) b → elim b as (λ _. Type 0) [ Some x ↦ Best s x | None ↦ NoPair s ]
  found n all None f = λ u v p. f u v p (inl (inl (omega (arith, p.first.expression))))
  found n all (Some x) f =
      let is = saved_is x f.told in
      record {
        told = f.told;
        pair = record {
          pair = f.pair;
          most = λ u v p. omega (arith, f.most u v p (inl (inl (omega (arith, p.first.expression)))));
          earliest = λ u v p m. omega (arith, f.earliest u v p m);
        };
      }
