use Rattle.sheet_file.proofs.Put.{puts_one}
use Rattle.sheet_file.proofs.writing.writer.Writer.put.Goals as goal

pub returns-clause-puts : goal.returns-clause-puts
returns-clause-puts c = puts_one c.args.self.now.out.now c.copy_from_slice.new.self c.args.bytes.now c.args.self.now.at c.requires c.copy_from_slice.ensures.after
