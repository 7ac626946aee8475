use Rattle.std.proofs.Common.{sym, ◌∙◌, arith, rules}
use Rattle.sheet.specs.Numerals.{numerals_list}
use Rattle.sheet.proofs.Rules.{few_numerals}
use Rattle.opening.proofs.Numerals.{length_new, length_old}
use Rattle.opening.proofs.style.OpenStyle.check_room.Goals as goal
use Rattle.opening.proofs.style.OpenStyle.check_room.Goals.{else-is_new-via-then-is_new+else-count-ge-NUMERALS, else-is_new-via-else-is_new}

pub returns : goal.returns
returns c =
    let held = c.args.self.now.table.numerals in
    let ns = numerals_list held in
    let m = c.args.magnitude in
    record {
      fresh = search rules;
      formula = search rules;
      style = search rules;
      numerals = elim c.else-is_new.branch [
        | else-is_new-via-then-is_new+else-count-ge-NUMERALS w ↦
            omega (arith, length_new ns m (sym c.is_new.ensures ∙ w.if-is_new.true), w.count.ensures, w.if-count-ge-NUMERALS.false)
        | else-is_new-via-else-is_new w ↦ omega (arith, length_old ns m (sym c.is_new.ensures ∙ w.if-is_new.false), few_numerals held)
      ];
    }
