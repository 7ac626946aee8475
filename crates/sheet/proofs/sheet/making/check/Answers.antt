use Rattle.std.proofs.Common.{arith, rules}
use Rattle.sheet.proofs.Rules.{legal_front}
use Rattle.sheet.proofs.sheet.making.check.Goals as goal

pub returns-then-not-outputs_legal : goal.returns-then-not-outputs_legal
returns-then-not-outputs_legal c =
    let legal = legal_front c.args.held c.args.used c.args.buffer.now (omega arith) (c.steps_legal.ensures.0 (search rules)) in
    search rules

pub returns : goal.returns
returns c =
    let legal = legal_front c.args.held c.args.used c.args.buffer.now (omega arith) (c.steps_legal.ensures.0 (search rules)) in
    search rules
