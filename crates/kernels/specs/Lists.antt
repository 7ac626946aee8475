-- A list written into a slice.
use Rattle.std.specs.Prelude.{◌≡◌, ℕ, zero, suc, ◌+◌, ◌-◌, ◌^◌, ◌<◌, ◌≤◌, min, List, [], ◌∷◌, length, take, drop}
use Rattle.kernels.specs.declared.kernel.Kernel.{Kernel}

-- the slice with xs written from the place n on, as far as it reaches
abbrev pub overlay : {X : Type 0} → List X → ℕ → List X → List X
overlay [] n xs = []
overlay (o ∷ os) zero [] = o ∷ os
overlay (o ∷ os) zero (x ∷ xs) = x ∷ overlay os zero xs
overlay (o ∷ os) (suc n) xs = o ∷ overlay os n xs

-- some list that `Is` says is the one is written from the place `from` on, and ends before the place r
pub record Written (Is : List Kernel → Type 0) (from : ℕ) (old new : List Kernel) (r : ℕ) : Type 0 where
  pub list : List Kernel
  pub is : Is list
  pub end : r ≡ min (from + length list) (2 ^ 64 - 1)
  pub written : new ≡ overlay old from list

-- the first r places hold the list, and those behind are as they were
pub record Filled (Is : List Kernel → Type 0) (old new : List Kernel) (r : ℕ) : Type 0 where
  pub fits : r ≤ length old
  pub same_length : length new ≡ length old
  pub listed : Is (take r new)
  pub behind : drop r new ≡ drop r old

-- the list is longer than there are places, and nothing is written
pub record TooMany (Is : List Kernel → Type 0) (old new : List Kernel) : Type 0 where
  pub list : List Kernel
  pub is : Is list
  pub longer : length old < length list
  pub untouched : new ≡ old
