-- Terms of a sum, as the definition of the steps has them.
use Rattle.std.specs.Prelude.{◌≡◌, List, map}
use Rattle.sheet.specs.declared.operand.Operand.{Operand}
use Rattle.sheet.specs.declared.operation.Operation.{Operation}
use Rattle.cubes.specs.Rows.{minus}
use Rattle.emission.specs.Steps.{Link, Signed}
use Rattle.emitter.specs.declared.sums.Summand.{Summand}

abbrev pub signed_one : Summand → Signed
signed_one t = (minus t.sign, t.operand)

abbrev pub signed : List Summand → List Signed
signed ts = map signed_one ts

abbrev pub operands : List Summand → List Operand
operands ts = map (λ t. t.operand) ts

-- each term as a link, with the operation that `of` has for it
abbrev pub links_by : (Summand → Operation) → List Summand → List Link
links_by of ts = map (λ t. (of t, t.operand)) ts

-- the calls that `Answers` relates to their results answer what `of` says
abbrev pub Chooses : (Summand → Operation → Type 0) → (Summand → Operation) → Type 0
Chooses Answers of = (t : Summand) (o : Operation) → Answers t o → o ≡ of t
