use Rattle.sheet.proofs.Rules.{sheet_lawful}
use Rattle.sheet.proofs.sheet.Sheet.steps.Goals as goal

pub returns : goal.returns
returns c = record { value = c.front.ensures; lawful = sheet_lawful c.args.self.now }
