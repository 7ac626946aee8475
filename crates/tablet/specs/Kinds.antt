-- The names of the kinds.
use Rattle.std.specs.Prelude.{ℕ, List, codes}
use Rattle.tablet.specs.declared.kind.Kind.{Kind}
use Rattle.tablet.specs.declared.kind.Kind.TheVariants.{Word, Wheel, Pair}

abbrev pub kind_name : Kind → List ℕ
kind_name Word = codes "word"
kind_name Wheel = codes "wheel"
kind_name Pair = codes "pair"
