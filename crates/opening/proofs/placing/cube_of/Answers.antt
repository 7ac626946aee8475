use Rattle.std.proofs.Common.{get_or, arith, rules}
use Rattle.opening.proofs.TermCubes.{made_by, with_numeral_at, without_numeral}
use Rattle.opening.proofs.placing.cube_of.Goals as goal

pub returns-then-magnitude-ge2 : goal.returns-then-magnitude-ge2
returns-then-magnitude-ge2 c l h =
    let ps = c.args.powers.now in
    let made = c.from_fn-all.ensures.items in
    with_numeral_at c.from_fn-all.result ps.each ps.eight (λ k q. made_by _ _ (λ j. get_or ps.each j 0) (λ i y f w. search rules) c.from_fn-all.result 0 32 0 made.each k (omega arith) (omega arith))
    c.args.magnitude c.args.at l c.if-magnitude-ge2.true c.requires made.long h

pub returns-else-magnitude-ge2 : goal.returns-else-magnitude-ge2
returns-else-magnitude-ge2 c l h =
    let ps = c.args.powers.now in
    let made = c.from_fn-all.ensures.items in
    without_numeral c.from_fn-all.result ps.each ps.eight (λ k q. made_by _ _ (λ j. get_or ps.each j 0) (λ i y f w. search rules) c.from_fn-all.result 0 32 0 made.each k (omega arith) (omega arith))
    c.args.magnitude c.args.at l c.if-magnitude-ge2.false h
