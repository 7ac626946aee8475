-- The list of kernels grows by those that a letter leads to.
use Rattle.std.proofs.Common.{◌≡◌, ℕ, zero, suc, ◌+◌, ◌-◌, ◌^◌, ◌<◌, ◌≤◌, min, Bool, false, ◌⊎◌, List, [], ◌∷◌, ◌++◌, length, get_or, set, sym, refl, ap, ◌∙◌, subst, inl, inr, arith, below_more, is_some}
use Rattle.std.proofs.lemmas.List.{get_or_append_left, get_or-append_right, get_or-append-add, length-append}
use Rattle.std.proofs.lemmas.Bool.{cases_lt}
use Rattle.algebra.specs.Cubes.{letters, Powers, Same, Divides, Before}
use Rattle.cubes.specs.declared.cube.Cube.{Cube}
use Rattle.cubes.specs.Powers.{power}
use Rattle.cubes.specs.Rows.{most_rows}
use Rattle.kernels.specs.declared.kernel.Kernel.{Kernel}
use Rattle.kernels.specs.declared.rest.Rest.{Rest}
use Rattle.kernels.specs.Kernels.{no_kernel, cokernel_at}
use Rattle.kernels.specs.Lists.{overlay, Written}
use Rattle.kernels.specs.Rests.{slot}
use Rattle.kernels.specs.Search.{Under, IsKernel, Agrees, Entry, Kernels, Leads, Barren}
use Rattle.kernels.proofs.Overlays.{overlay_one, overlay_over, written_as, written_join}

-- the list of one kernel, d itself
module _ (n : ℕ) (q : Rest) (d : Cube) (us : List Bool) (own : IsKernel q (power d) (power d))
    (mask : (k : ℕ) → k < most_rows → get_or us k false ≡ (is_some (slot q k))) where
  one : Kernel
  one = record { expression = n; cokernel = d; rows = us }

  entry_one : Entry n q (power d) letters one
  unfolding one
  entry_one = record {
    number = refl;
    kernel = own;
    above = λ l h. omega arith;
    agrees = λ l h. refl;
    rows_in = λ k h u. ((h, sym (mask k h) ∙ u), λ l h. omega arith);
    rows_all = λ k u. mask k u.0.0 ∙ u.0.1;
  }

  sound_one : (a : ℕ) → a < 1 → Entry n q (power d) letters (get_or (one ∷ []) a no_kernel)
  sound_one zero h = entry_one
  sound_one (suc a) h = absurd (omega arith)

  kernels_one : Kernels n q (power d) letters (record { expression = n; cokernel = d; rows = us } ∷ [])
  unfolding one
  kernels_one = record {
    rising = λ a b lt h. absurd (omega arith);
    sound = sound_one;
    all = λ c is above agrees. (0, (omega arith), λ l h. sym (agrees l h));
  }

-- with one letter more to agree on
agrees_less : (i : ℕ) (d c : Powers) → Agrees (i + 1) d c → Agrees i d c
agrees_less i d c h l lt = h l (omega arith)

entry_less : (n : ℕ) (q : Rest) (d : Powers) (i : ℕ) (e : Kernel) → Entry n q d (i + 1) e → Entry n q d i e
entry_less n q d i e h = record
    { number = h.number; kernel = h.kernel; above = h.above; agrees = agrees_less i d (power e.cokernel) h.agrees; rows_in = h.rows_in; rows_all = h.rows_all }

-- c has more of the letter i than d, or agrees with it there too
agrees_more : (i : ℕ) (d c : Powers) → i < letters → Divides d c → Agrees i d c → (d i < c i) ⊎ Agrees (i + 1) d c
agrees_more i d c lt above h =
    elim (cases_lt (d i) (c i)) [
      | inl m ↦ inl m
      | inr m ↦ inr (below_more (λ l. c l ≡ d l) i h (omega (arith, above i lt)))
    ]

kernels_skip : (n : ℕ) (q : Rest) (d : Powers) (i : ℕ) (xs : List Kernel) → i < letters → Barren q d i → Kernels n q d (i + 1) xs → Kernels n q d i xs
kernels_skip n q d i xs lt barren ks = record {
  rising = ks.rising;
  sound = λ a h. entry_less n q d i (get_or xs a no_kernel) (ks.sound a h);
  all = λ c is above agrees.
      elim (agrees_more i d c lt above agrees) [
        | inl m ↦ absurd (barren c is above agrees m)
        | inr more ↦ ks.all c is above more
      ];
}

module _ (n : ℕ) (q : Rest) (d : Powers) (j : ℕ) (lt : j < letters) (r : Rest) (e : Powers) (leads : Leads q d j r e) where
  -- a row that c divides, seen from either quotient
  under_up : (c : Powers) (k : ℕ) → Under r e c k → Under q d c k
  under_up c k u = let f = leads.rows k u.0 in (f.0, λ l h. omega (arith, f.1 l h, u.1 l h))

  under_down : (c : Powers) → d j < c j → (k : ℕ) → Under q d c k → Under r e c k
  under_down c m k u =
      let w = leads.every k u.0 (omega (arith, m, u.1 j lt)) in
      (w, λ l h. omega (arith, (leads.rows k w).1 l h, u.1 l h))

  kernel_up : (c : Powers) → IsKernel r e c → IsKernel q d c
  kernel_up c is = record {
    two = let t = is.two in (t.0, t.1, t.2, under_up c t.0 t.3, under_up c t.1 t.4);
    free = λ l h.
        let t = is.free l h in
        (t.0, under_up c t.0 t.1, omega (arith, t.2, (leads.rows t.0 t.1.0).1 l h));
  }

  kernel_down : (c : Powers) → d j < c j → IsKernel q d c → IsKernel r e c
  kernel_down c m is = record {
    two = let t = is.two in (t.0, t.1, t.2, under_down c m t.0 t.3, under_down c m t.1 t.4);
    free = λ l h.
        let t = is.free l h in
        let u = under_down c m t.0 t.1 in
        (t.0, u, omega (arith, t.2, (leads.rows t.0 u.0).1 l h));
  }

  -- the cube that the letter leads to divides each such co-kernel
  above_down : (c : Powers) → d j < c j → IsKernel q d c → Divides e c
  above_down c m is l h =
      let t = (kernel_down c m is).free l h in omega (arith, t.2)

  entry_up : (x : Kernel) → Entry n r e j x → Entry n q d j x
  entry_up x h = record {
    number = h.number;
    kernel = kernel_up (power x.cokernel) h.kernel;
    above = λ l lt. omega (arith, h.above l lt, leads.above l lt);
    agrees = λ l lt. h.agrees l lt ∙ leads.before l lt;
    rows_in = λ k lt u. under_up (power x.cokernel) k (h.rows_in k lt u);
    rows_all = λ k u. h.rows_all k (under_down (power x.cokernel) (omega (arith, h.above j lt, leads.more)) k u);
  }

  -- what agrees with d at the letter comes before what has more of it
  ordered : (x y : Kernel) → Entry n q d (j + 1) x → Entry n r e j y → Before (power x.cokernel) (power y.cokernel)
  ordered x y f g = (
    j,
    lt,
    omega (arith, f.agrees j (omega arith), leads.more, g.above j lt),
    λ l h. f.agrees l (omega arith) ∙ sym (leads.before l h) ∙ sym (g.agrees l h),
  )

  module _ (xs ys : List Kernel) (ks : Kernels n q d (j + 1) xs) (hs : Kernels n r e j ys) where
    at_left : (P : Kernel → Type 0) (a : ℕ) → a < length xs → P (get_or xs a no_kernel) → P (get_or (xs ++ ys) a no_kernel)
    at_left P a h p = subst P (sym (get_or_append_left xs ys no_kernel a h)) p

    at_right : (P : Kernel → Type 0) (a : ℕ) → length xs ≤ a → P (get_or ys (a - length xs) no_kernel) → P (get_or (xs ++ ys) a no_kernel)
    at_right P a h p = subst P (sym (get_or-append_right xs ys (length xs) a no_kernel refl h)) p

    within : (a : ℕ) → length xs ≤ a → a < length (xs ++ ys) → a - length xs < length ys
    within a h lt = omega (arith, length-append xs ys)

    rising_join : (a b : ℕ) → a < b → b < length (xs ++ ys) → Before (cokernel_at (xs ++ ys) a) (cokernel_at (xs ++ ys) b)
    rising_join a b ab h =
        elim (cases_lt b (length xs)) [
          | inl bx ↦
              at_left (λ y. Before (cokernel_at (xs ++ ys) a) (power y.cokernel)) b bx
              (at_left (λ x. Before (power x.cokernel) (cokernel_at xs b)) a (omega arith) (ks.rising a b ab bx))
          | inr bx ↦
              at_right (λ y. Before (cokernel_at (xs ++ ys) a) (power y.cokernel)) b bx
              (elim (cases_lt a (length xs)) [
                | inl ax ↦
                    at_left (λ x. Before (power x.cokernel) (cokernel_at ys (b - length xs))) a ax
                    (ordered (get_or xs a no_kernel) (get_or ys (b - length xs) no_kernel) (ks.sound a ax) (hs.sound (b - length xs) (within b bx h)))
                | inr ax ↦
                    at_right (λ x. Before (power x.cokernel) (cokernel_at ys (b - length xs))) a ax
                    (hs.rising (a - length xs) (b - length xs) (omega arith) (within b bx h))
              ])
        ]

    kernels_join : Kernels n q d j (xs ++ ys)
    kernels_join = record {
      rising = rising_join;
      sound = λ a h.
          elim (cases_lt a (length xs)) [
            | inl ax ↦ at_left (Entry n q d j) a ax (entry_less n q d j (get_or xs a no_kernel) (ks.sound a ax))
            | inr ax ↦ at_right (Entry n q d j) a ax (entry_up (get_or ys (a - length xs) no_kernel) (hs.sound (a - length xs) (within a ax h)))
          ];
      all = λ c is above agrees.
          elim (agrees_more j d c lt above agrees) [
            | inl m ↦
                let f = hs.all c (kernel_down c m is) (above_down c m is) (λ l h. agrees l h ∙ sym (leads.before l h)) in (
                  length xs + f.0,
                  (omega (arith, length-append xs ys, f.1)),
                  subst (λ x. Same (power x.cokernel) c) (sym (get_or-append-add xs ys f.0 no_kernel)) f.2,
                )
            | inr more ↦
                let f = ks.all c is above more in
                (f.0, (omega (arith, length-append xs ys, f.1)), at_left (λ x. Same (power x.cokernel) c) f.0 f.1 f.2)
          ];
    }

-- the same of what is written
pub written_skip : (n : ℕ) (q : Rest) (d : Powers) (i j from : ℕ) (old new : List Kernel) (m : ℕ)
    → i ≡ j + 1 → j < letters → Barren q d j → Written (Kernels n q d i) from old new m → Written (Kernels n q d j) from old new m
written_skip n q d i j from old new m e lt barren h =
    written_as (Kernels n q d i) (Kernels n q d j) from old new m h
    (kernels_skip n q d j h.list lt barren (subst (λ x. Kernels n q d x h.list) e h.is))

pub written_child : (n : ℕ) (q : Rest) (d : Powers) (i j from : ℕ) (old mid new : List Kernel) (m z : ℕ) (r : Rest) (c : Powers)
    → i ≡ j + 1 → j < letters → length old < 2 ^ 64 → Leads q d j r c
    → Written (Kernels n q d i) from old mid m → Written (Kernels n r c j) m mid new z → Written (Kernels n q d j) from old new z
written_child n q d i j from old mid new m z r c e lt short leads f g =
    written_join (Kernels n q d i) (Kernels n r c j) (Kernels n q d j) from m z old mid new short f g
    (kernels_join n q d j lt r c leads f.list g.list (subst (λ x. Kernels n q d x f.list) e f.is) g.is)

-- the loop begins with d itself written
pub written_one : (n : ℕ) (q : Rest) (d : Cube) (us : List Bool) (from : ℕ) (old new : List Kernel) (m : ℕ)
    → IsKernel q (power d) (power d) → ((k : ℕ) → k < most_rows → get_or us k false ≡ (is_some (slot q k)))
    → m ≡ min (from + 1) (2 ^ 64 - 1) → new ≡ set old from (record { expression = n; cokernel = d; rows = us })
    → Written (Kernels n q (power d) letters) from new new m
written_one n q d us from old new m own mask end written =
    let x : Kernel = record { expression = n; cokernel = d; rows = us } in
    record {
      list = x ∷ [];
      is = kernels_one n q d us own mask;
      end = end;
      written =
          written ∙ overlay_one old from x
          ∙ sym (overlay_over old from x (x ∷ []) (omega arith))
          ∙ ap (λ t. overlay t from (x ∷ [])) (sym written);
    }

-- and ends with the whole list
pub written_all : (n : ℕ) (q : Rest) (d : Powers) (x : Kernel) (i j from : ℕ) (old mid new : List Kernel) (m : ℕ)
    → IsKernel q d d → i ≡ j → mid ≡ set old from x → Written (Kernels n q d i) from mid new m → Written (Kernels n q d j) from old new m
written_all n q d x i j from old mid new m own e written h = record {
  list = h.list;
  is = subst (λ t. Kernels n q d t h.list) e h.is;
  end = h.end;
  written =
      h.written ∙ ap (λ t. overlay t from h.list) written
      ∙ overlay_over old from x h.list (let f = h.is.all d own (λ l h. omega arith) (λ l h. refl) in omega (arith, f.1));
}
