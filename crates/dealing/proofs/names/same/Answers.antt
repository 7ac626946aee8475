use Rattle.std.proofs.Common.{◌∙◌, rules}
use Rattle.dealing.proofs.Lookings.{entries_tell}
use Rattle.dealing.proofs.names.same.Goals as goal

pub returns : goal.returns
returns c = c.eq.ensures ∙ entries_tell c.args.a c.args.b (search rules) (search rules)
