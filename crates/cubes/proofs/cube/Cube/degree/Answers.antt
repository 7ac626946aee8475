use Rattle.std.proofs.Common.{rules, ◌≡◌, ◌≤◌, length, sum, ◌∙◌, arith}
use Rattle.std.specs.List.{All}
use Rattle.std.proofs.iter.runs.Sources.{sums}
use Rattle.std.proofs.lemmas.List.Sums.{sum_by-le}
use Rattle.algebra.specs.Cubes.{letters}
use Rattle.cubes.proofs.Orders.{degree_is}
use Rattle.cubes.proofs.cube.Cube.degree.Goals as goal

pub sum-requires-clause-fits : goal.sum-requires-clause-fits
sum-requires-clause-fits c = search (rules, sums)

pub returns-clause-is : goal.returns-clause-is
returns-clause-is c =
    let e : c.sum.result ≡ sum c.args.self.powers = search (rules, sums) in
    e ∙ degree_is c.args.self.powers (search rules)

pub returns-clause-small : goal.returns-clause-small
returns-clause-small c =
    let e : c.sum.result ≡ sum c.args.self.powers = search (rules, sums) in
    let few : length c.args.self.powers ≡ letters = search rules in
    let bytes : All (λ x. x ≤ 255) c.args.self.powers = search rules in
    omega (arith, e, few, sum_by-le (λ x. x) 255 c.args.self.powers bytes)
