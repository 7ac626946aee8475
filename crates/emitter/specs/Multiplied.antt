-- Products that are multiplied factor by factor, and are none before their first factor.
use Rattle.std.specs.Prelude.{◌≡◌, Bool, true, false, List, [], ◌∷◌, is_some, Option, unwrap_or}
use Rattle.sheet.specs.declared.operand.Operand.{Operand}
use Rattle.sheet.specs.declared.operand.Operand.TheVariants.{One}
use Rattle.emission.specs.Steps.{product_chain}
use Rattle.emitter.specs.declared.draft.Draft.{Draft}
use Rattle.emitter.specs.Chained.{Built}

abbrev pub has_factor : List Operand → Bool
has_factor [] = false
has_factor (x ∷ xs) = true

-- the factors `fs` are multiplied; without a factor the product is one
pub record Multiplied (old : Draft) (fs : List Operand) (product : Option Operand) (new : Draft) : Type 0 where
  pub chain : Built old (product_chain fs) (unwrap_or product One) new
  pub some : is_some product ≡ has_factor fs
