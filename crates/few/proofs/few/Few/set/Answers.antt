use Rattle.std.proofs.Common.{rules, ◌<◌, ◌≤◌, length, arith}
use Rattle.std.proofs.lemmas.List.{length-take-le}
use Rattle.std.proofs.Math.Seq.{take-set-lt}
use Rattle.few.proofs.few.Few.set.Goals as goal

pub returns : goal.returns
returns g c =
    let xs = c.args.self.now in
    let lt : c.args.place < xs.len = search rules in
    let within : xs.len ≤ length xs.items = search rules in
    (omega (arith, lt, length-take-le xs.len xs.items within), take-set-lt xs.len xs.items c.args.place c.args.item lt)
