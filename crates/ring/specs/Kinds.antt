-- What the values of the three kinds mean.
use Rattle.std.specs.Prelude.{ℕ, ◌^◌}
use Rattle.std.proofs.Common.{lit<}
use Rattle.ring.specs.Ring.{CommRing}
use Rattle.ring.specs.Residue.{Residue, residue, residues}
use Rattle.ring.specs.declared.word.Word.{Word}
use Rattle.ring.specs.declared.wheel.Wheel.{Wheel}
use Rattle.ring.specs.declared.pair.Pair.{Pair}

-- the whole numbers modulo 2^32, and what a word means among them
abbrev pub word_ring : CommRing (Residue (2 ^ 32))
word_ring = residues (2 ^ 32) (lit< tt)

abbrev pub word_meaning : Word → Residue (2 ^ 32)
word_meaning w = residue (2 ^ 32) (lit< tt) w.value

-- the whole numbers modulo 97, and what a wheel means among them
abbrev pub wheel_ring : CommRing (Residue 97)
wheel_ring = residues 97 (lit< tt)

abbrev pub wheel_meaning : Wheel → Residue 97
wheel_meaning w = residue 97 (lit< tt) w.value

-- what a pair means: the pair of what its halves mean
abbrev pub pair_meaning : {V S : Type 0} → (V → S) → Pair V → S × S
pair_meaning half p = (half p.value, half p.rate)

-- the two numbers of a pair of words
abbrev pub numbers : Pair Word → ℕ × ℕ
numbers p = (p.value.value, p.rate.value)
