-- There is one list of an expression's kernels.
use Rattle.std.proofs.Common.{◌≡◌, ℕ, zero, suc, ◌^◌, ◌<◌, ◌≤◌, Bool, true, false, List, [], ◌++◌, length, get_or, take, drop, sym, refl, ap, ◌∙◌, subst, inl, inr, arith}
use Rattle.std.proofs.lemmas.List.{take_at, drop_at}
use Rattle.std.proofs.lemmas.Bool.{cases_lt, cases_order}
use Rattle.algebra.specs.Cubes.{Powers, Same, Before}
use Rattle.cubes.specs.declared.row.Row.{Row}
use Rattle.cubes.specs.Powers.{power}
use Rattle.cubes.specs.Rows.{powers_at}
use Rattle.kernels.specs.declared.kernel.Kernel.{Kernel}
use Rattle.algebra.specs.Kernels.{Uses}
use Rattle.kernels.specs.Kernels.{no_kernel, cokernel_at, Names, KernelList, SameKernel, Alike, OneList}
use Rattle.kernels.specs.Lists.{Written, Filled}
use Rattle.kernels.proofs.Overlays.{overlay_all, length_overlay}

never_same : (a b : Powers) → Before a b → Same a b → ⊥
never_same a b h s = omega (arith, h.2, s h.0 h.1)

never_both : (a b : Powers) → Before a b → Before b a → ⊥
never_both a b f g =
    elim (cases_order f.0 g.0) [
      | inl e ↦ omega (arith, f.2, subst (λ l. b l < a l) (sym e) g.2)
      | inr o ↦ elim o [
        | inl h ↦ omega (arith, f.2, g.3 f.0 h)
        | inr h ↦ omega (arith, g.2, f.3 g.0 h)
      ]
    ]

-- the order goes by the powers alone
before_same : (a b c d : Powers) → Same a c → Same b d → Before a b → Before c d
before_same a b c d s t h = (
  h.0,
  h.1,
  omega (arith, h.2, s h.0 h.1, t h.0 h.1),
  λ m lt. sym (s m (omega (arith, h.1))) ∙ h.3 m lt ∙ t m (omega (arith, h.1)),
)

module _ (n : ℕ) (e : List Row) (xs ys : List Kernel) (f : KernelList n e xs) (g : KernelList n e ys) where
  -- where ys has what stands at the place a in xs
  place : (a : ℕ) → a < length xs → (b : ℕ) × (b < length ys) × Same (cokernel_at ys b) (cokernel_at xs a)
  place a h = g.all (cokernel_at xs a) (f.sound a h).kernel

  rises : (a b : ℕ) (h : a < length xs) (k : b < length xs) → a < b → (place a h).0 < (place b k).0
  unfolding place
  rises a b h k lt =
      let p = place a h in
      let q = place b k in
      elim (cases_order p.0 q.0) [
        | inl same ↦ absurd (never_same (cokernel_at xs a) (cokernel_at xs b) (f.rising a b lt k)
            (λ l u. sym (p.2 l u) ∙ ap (λ i. cokernel_at ys i l) same ∙ q.2 l u))
        | inr o ↦ elim o [
          | inl u ↦ u
          | inr u ↦ absurd (never_both (cokernel_at xs a) (cokernel_at xs b) (f.rising a b lt k)
              (before_same (cokernel_at ys q.0) (cokernel_at ys p.0) (cokernel_at xs b) (cokernel_at xs a) q.2 p.2 (g.rising q.0 p.0 u p.1)))
        ]
      ]

  above : (a : ℕ) (h : a < length xs) → a ≤ (place a h).0
  above zero h = omega arith
  above (suc a) h =
      let k : a < length xs = omega arith in
      omega (arith, above a k, rises a (suc a) k h (omega arith))

  no_longer : length xs ≤ length ys
  no_longer =
      elim (cases_lt (length ys) (length xs)) [
        | inl h ↦ absurd (omega (arith, above (length ys) h, (place (length ys) h).1))
        | inr h ↦ h
      ]

same_place : (n : ℕ) (e : List Row) (xs : List Kernel) → KernelList n e xs → (a b : ℕ) → a < length xs → b < length xs
    → Same (cokernel_at xs a) (cokernel_at xs b) → a ≡ b
same_place n e xs f a b h k s =
    elim (cases_order a b) [
      | inl e ↦ e
      | inr o ↦ elim o [
        | inl lt ↦ absurd (never_same (cokernel_at xs a) (cokernel_at xs b) (f.rising a b lt k) s)
        | inr lt ↦ absurd (never_same (cokernel_at xs b) (cokernel_at xs a) (f.rising b a lt h) (λ l u. sym (s l u)))
      ]
    ]

-- the place in ys of what stands at a in xs is a
place_is : (n : ℕ) (e : List Row) (xs ys : List Kernel) (f : KernelList n e xs) (g : KernelList n e ys)
    → (a : ℕ) (h : a < length xs) → (place n e xs ys f g a h).0 ≡ a
unfolding place
place_is n e xs ys f g a h =
    let p = place n e xs ys f g a h in
    let q = place n e ys xs g f p.0 p.1 in
    let back : q.0 ≡ a = same_place n e xs f q.0 a q.1 h (λ l u. q.2 l u ∙ p.2 l u) in
    omega (arith, back, above n e xs ys f g a h, above n e ys xs g f p.0 p.1)

same_bool : (s t : Bool) → (s ≡ true → t ≡ true) → (t ≡ true → s ≡ true) → s ≡ t
same_bool true t f g = sym (f refl)
same_bool false true f g = g refl
same_bool false false f g = refl

in_same : (e : List Row) (c d : Powers) (k : ℕ) → Same c d → Uses (length e) (powers_at e) c k → Uses (length e) (powers_at e) d k
in_same e c d k s i = (i.0, λ l h. omega (arith, s l h, i.1 l h))

same_kernel : (n : ℕ) (e : List Row) (x y : Kernel) → Names n e x → Names n e y → Same (power x.cokernel) (power y.cokernel) → SameKernel x y
same_kernel n e x y f g s = record {
  number = f.number ∙ sym g.number;
  cokernels = s;
  rows = λ k h. same_bool (get_or x.rows k false) (get_or y.rows k false)
      (λ u. g.rows_all k (in_same e (power x.cokernel) (power y.cokernel) k s (f.rows_in k h u)))
      (λ u. f.rows_all k (in_same e (power y.cokernel) (power x.cokernel) k (λ l h. sym (s l h)) (g.rows_in k h u)));
}

pub one_list : OneList
one_list n e xs ys f g = (
  omega (arith, no_longer n e xs ys f g, no_longer n e ys xs g f),
  λ a h.
      let p = place n e xs ys f g a h in
      let s : Same (cokernel_at xs a) (cokernel_at ys a) =
      λ l u. sym (subst (λ b. cokernel_at ys b l ≡ cokernel_at xs a l) (place_is n e xs ys f g a h) (p.2 l u)) in
      let k : a < length ys = subst (λ b. b < length ys) (place_is n e xs ys f g a h) p.1 in
      same_kernel n e (get_or xs a no_kernel) (get_or ys a no_kernel) (f.sound a h) (g.sound a k) s,
)

-- after the count, the list fills its places
pub filled : (Is : List Kernel → Type 0) → ((xs ys : List Kernel) → Is xs → Is ys → Alike xs ys)
    → (old new mid : List Kernel) (m r : ℕ) → length old < 2 ^ 63
    → m ≤ length old → Written Is 0 [] mid m → Written Is 0 old new r → Filled Is old new r
filled Is unique old new mid m r room fits f g =
    let same : length g.list ≡ length f.list = (unique g.list f.list g.is f.is).0 in
    let short : length g.list ≤ length old = omega (arith, f.end) in
    let count : length g.list ≡ r = omega (arith, g.end) in
    let all : new ≡ g.list ++ drop (length g.list) old = g.written ∙ overlay_all old g.list short in
    record {
      fits = omega arith;
      same_length = ap length g.written ∙ length_overlay old 0 g.list;
      listed = subst Is (sym (ap (take r) all ∙ take_at g.list (drop (length g.list) old) r count)) g.is;
      behind = ap (drop r) all ∙ drop_at g.list (drop (length g.list) old) r count ∙ ap (λ k. drop k old) count;
    }
