-- What the six calls answer, in plain numbers, where the ring is the whole numbers modulo m.
use Rattle.std.specs.Prelude.{◌≡◌, ℕ, ◌+◌, ◌-◌, ◌*◌, ◌%◌}

-- at numbers x and y below m, and at the numeral n
pub record Modular (m x y n zero one numeral sum product opposite : ℕ) : Type 0 where
  pub zero_is : zero ≡ 0
  pub one_is : one ≡ 1
  pub numeral_is : numeral ≡ n % m
  pub sum_is : sum ≡ (x + y) % m
  pub product_is : product ≡ (x * y) % m
  pub opposite_is : opposite ≡ (m - x) % m

-- at pairs of such numbers, each a value and its rate
pub record Dual (m : ℕ) (x y : ℕ × ℕ) (n : ℕ) (zero one numeral sum product opposite : ℕ × ℕ) : Type 0 where
  pub zero_is : zero ≡ (0, 0)
  pub one_is : one ≡ (1, 0)
  pub numeral_is : numeral ≡ (n % m, 0)
  pub sum_is : sum ≡ ((x.0 + y.0) % m, (x.1 + y.1) % m)
  pub product_is : product ≡ ((x.0 * y.0) % m, (x.0 * y.1 + x.1 * y.0) % m)
  pub opposite_is : opposite ≡ ((m - x.0) % m, (m - x.1) % m)
