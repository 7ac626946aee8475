use Rattle.std.specs.Prelude.{◌≡◌, ℕ, suc, ◌<◌}
use Rattle.std.proofs.Common.{ap}
use mathlib.Core.HLevel.{Σ_prop_path}
use Rattle.std.proofs.Math.Bridge.{le_prop}
use Rattle.ring.specs.declared.wheel.Wheel.{Wheel}

-- a wheel is told by its number
pub same_wheel : (x y : Wheel) → x.value ≡ y.value → x ≡ y
same_wheel x y e =
    ap (λ (r : (n : ℕ) × (n < 97)). record { value = r.0; ok = r.1 })
    (Σ_prop_path (λ (k : ℕ). le_prop {n = suc k} {m = 97}) {u = (x.value, x.ok)} {v = (y.value, y.ok)} e)
