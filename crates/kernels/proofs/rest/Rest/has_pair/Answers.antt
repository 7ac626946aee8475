use Rattle.std.proofs.Common.{◌≡◌, ◌<◌, ◌≤◌, is_some, length, rules, arith}
use Rattle.std.specs.List.{count_by}
use Rattle.std.proofs.iter.runs.Made.{chains}
use borrow.Author.Tests.{leb-true, leb-false}
use Rattle.cubes.specs.Rows.{most_rows}
use Rattle.kernels.proofs.Pairs.{pair, lone}
use Rattle.kernels.proofs.rest.Rest.has_pair.Goals as goal

pub returns-clause-yes : goal.returns-clause-yes
returns-clause-yes c = λ t.
    let xs = c.args.self.now.slots in
    let e : c.count.result ≡ count_by is_some xs = search (rules, chains) in
    let all : length xs ≡ most_rows = search rules in
    let two : 2 ≤ c.count.result = omega (arith, leb-true) in
    let p = pair xs (omega arith) in
    (p.0, p.1, p.2, ((omega (arith, p.2, p.3)), p.4), ((omega (arith, p.3)), p.5))

pub returns-clause-no : goal.returns-clause-no
returns-clause-no c = λ f k m lt a b.
    let xs = c.args.self.now.slots in
    let e : c.count.result ≡ count_by is_some xs = search (rules, chains) in
    let all : length xs ≡ most_rows = search rules in
    let few : c.count.result < 2 = omega (arith, leb-false) in
    lone xs (omega arith) k m lt (omega (arith, b.0)) a.1 b.1
