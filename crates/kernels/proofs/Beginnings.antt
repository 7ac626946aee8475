-- From an expression to its quotient by the common cube of its rows, and back.
use Rattle.std.proofs.Common.{◌≡◌, ℕ, ◌<◌, ◌≤◌, List, [], length, get_or, ap, inl, inr, arith, is_some}
use Rattle.std.proofs.lemmas.Bool.{cases_lt, both_ways}
use Rattle.algebra.specs.Cubes.{Powers, Divides}
use Rattle.cubes.specs.declared.cube.Cube.{Cube}
use Rattle.cubes.specs.declared.row.Row.{Row}
use Rattle.cubes.specs.Powers.{power}
use Rattle.cubes.specs.Rows.{most_rows, powers_at}
use Rattle.kernels.specs.declared.kernel.Kernel.{Kernel}
use Rattle.kernels.specs.declared.rest.Rest.{Rest}
use Rattle.algebra.specs.Kernels.{Uses}
use Rattle.kernels.specs.Kernels.{KernelOf, Names, KernelList, no_kernel}
use Rattle.kernels.specs.Lists.{Written}
use Rattle.kernels.specs.Rests.{Live, row, slot, Quotient, Pair, Lone, Greatest, Spread}
use Rattle.kernels.specs.Search.{Under, IsKernel, Entry, Kernels, Small, Begins, Bare}
use Rattle.kernels.proofs.Letters.{row_of, row_in}

module _ (e : List Row) (short : length e ≤ most_rows) (q : Rest) (spread : Spread e q) where
  live : (k : ℕ) → k < length e → Live q k
  live k h = ((omega arith), (spread.at k h).0)

  inside : (k : ℕ) → Live q k → k < length e
  inside k w =
      elim (cases_lt k (length e)) [
        | inl h ↦ h
        | inr h ↦ absurd (both_ways (is_some (slot q k)) (spread.past k w.0 h) w.1)
      ]

  pub bare : Lone q → Bare e
  bare lone c is = let t = is.two in lone t.0 t.1 t.2 (live t.0 t.3.0) (live t.1 t.4.0)

  power_at : (k : ℕ) → k < length e → (l : ℕ) → row q k l ≡ powers_at e k l
  power_at k h l = ap (λ (x : Cube). power x l) (spread.at k h).1

  pub begins : Pair q → (g : Powers) → Greatest q g → (r : Rest) → Quotient q g r → Begins e r g
  begins pair g greatest r by = record {
    rows = λ k w.
        let f = row_of q g r by k w in
        let h = inside k f.0 in
        (h, λ l lt. omega (arith, f.1 l lt, power_at k h l));
    every = λ k h. within k (live k h);
    small = λ k h l lt.
        let w = within k (live k h) in
        omega (arith, ((by k w.0).kept w.1).1.bytes l lt, power_at k h l);
    own = record {
      two = (pair.0, pair.1, pair.2, own_row pair.0 (within pair.0 pair.3), own_row pair.1 (within pair.1 pair.4));
      free = λ l h.
          let t = (greatest l h).tight in
          let w = within t.0 t.1 in
          (t.0, own_row t.0 w, omega (arith, t.2, (row_of q g r by t.0 w).1 l h));
    };
  }
    where
      within : (k : ℕ) → Live q k → Live r k
      within k w = row_in q g r by k w (λ l h. (greatest l h).each k w)

      own_row : (k : ℕ) → Live r k → Under r g g k
      own_row k w = (w, λ l h. omega arith)

module _ (n : ℕ) (e : List Row) (r : Rest) (d : Powers) (begins : Begins e r d) where
  pub small : Small r d
  small k w l h = let f = begins.rows k w in omega (arith, f.1 l h, begins.small k f.0 l h)

  up : (c : Powers) (k : ℕ) → Under r d c k → Uses (length e) (powers_at e) c k
  up c k u = let f = begins.rows k u.0 in (f.0, λ l h. omega (arith, f.1 l h, u.1 l h))

  down : (c : Powers) (k : ℕ) → Uses (length e) (powers_at e) c k → Under r d c k
  down c k i = let w = begins.every k i.0 in (w, λ l h. omega (arith, (begins.rows k w).1 l h, i.1 l h))

  kernel_up : (c : Powers) → IsKernel r d c → KernelOf e c
  kernel_up c is = record {
    two = let t = is.two in (t.0, t.1, t.2, up c t.0 t.3, up c t.1 t.4);
    free = λ l h. let t = is.free l h in (t.0, up c t.0 t.1, omega (arith, t.2, (begins.rows t.0 t.1.0).1 l h));
  }

  kernel_down : (c : Powers) → KernelOf e c → IsKernel r d c
  kernel_down c is = record {
    two = let t = is.two in (t.0, t.1, t.2, down c t.0 t.3, down c t.1 t.4);
    free = λ l h.
        let t = is.free l h in
        let u = down c t.0 t.1 in
        (t.0, u, omega (arith, t.2, t.1.1 l h, (begins.rows t.0 u.0).1 l h));
  }

  above : (c : Powers) → KernelOf e c → Divides d c
  above c is l h = let t = (kernel_down c is).free l h in omega (arith, t.2)

  names : (x : Kernel) → Entry n r d 0 x → Names n e x
  names x h = record {
    number = h.number;
    kernel = kernel_up (power x.cokernel) h.kernel;
    rows_in = λ k lt u. up (power x.cokernel) k (h.rows_in k lt u);
    rows_all = λ k i. h.rows_all k (down (power x.cokernel) k i);
  }

  kernel_list : (xs : List Kernel) → Kernels n r d 0 xs → KernelList n e xs
  kernel_list xs ks = record {
    rising = ks.rising;
    sound = λ a h. names (get_or xs a no_kernel) (ks.sound a h);
    all = λ c is. ks.all c (kernel_down c is) (above c is) (λ l h. absurd (omega arith));
  }

  pub ran : (from : ℕ) (old new : List Kernel) (m : ℕ) → Written (Kernels n r d 0) from old new m → Written (KernelList n e) from old new m
  ran from old new m h = record { list = h.list; is = kernel_list h.list h.is; end = h.end; written = h.written }

-- no kernels
pub none : (n : ℕ) (e : List Row) → Bare e → KernelList n e []
none n e bare = record {
  rising = λ a b lt h. absurd (omega arith);
  sound = λ a h. absurd (omega arith);
  all = λ c is. absurd (bare c is);
}
