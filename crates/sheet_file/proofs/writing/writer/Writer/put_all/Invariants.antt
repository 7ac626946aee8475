use Rattle.std.proofs.Common.{◌≡◌, length, take}
use Rattle.std.specs.List.{flat_map}
use Rattle.sheet_file.specs.Writing.{Puts}
use Rattle.sheet_file.proofs.writing.writer.Writer.put_all.Given as goal

abbrev pub invariant-loop-entry : goal.invariant-loop-entry
invariant-loop-entry g l =
    record {
      same_reference : l.self.out.ghost_name ≡ l.fn.self.out.ghost_name;
      long : length l.self.out.now ≡ length l.fn.self.out.now;
      puts : Puts l.fn.self.out.now l.fn.self.at (flat_map g.T.Entry.written (take l.entry-index l.entries)) l.self.at l.self.out.now;
    }
