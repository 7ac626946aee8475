use Rattle.std.proofs.Common.{◌≡◌, length, get_or, sym, ap, ◌∙◌, subst, arith}
use Rattle.sheet_file.proofs.Put.{puts_more, puts_same, row_part}
use Rattle.sheet_file.proofs.writing.writer.Writer.put_all.Goals as goal

pub bytes-requires : goal.bytes-requires
bytes-requires g c =
    let short = c.requires.short in
    (omega arith, subst g.T.Entry.fits (sym c.entry-item.is) (c.requires.fit c.loop-entry.entry-index c.entry-item.result c.loop-entry-test.true))

pub shared_whole_as_slice-put : goal.shared_whole_as_slice-put
shared_whole_as_slice-put g c = let short = c.requires.short in omega arith

pub put-requires : goal.put-requires
put-requires g c =
    let place = c.loop-entry.invariant.puts.place in
    let long = c.loop-entry.invariant.long in
    let room = c.requires.room in
    let same : length c.bytes.result ≡ length (g.T.Entry.written (get_or c.args.entries.now c.loop-entry.entry-index c.entry-item.result)) = ap length (c.bytes.ensures ∙ ap g.T.Entry.written c.entry-item.is) in
    let part = row_part g.T.Entry.written c.args.entries.now c.loop-entry.entry-index c.entry-item.result c.loop-entry-test.true in
    omega arith

pub loop-entry-preserved : goal.loop-entry-preserved
loop-entry-preserved g c =
    let kept = c.loop-entry.invariant in
    record {
      same_reference = c.put.ensures.same_reference ∙ kept.same_reference;
      long = c.put.ensures.long ∙ kept.long;
      puts = puts_more g.T.Entry.written c.args.entries.now c.loop-entry.entry-index c.entry-item.result c.loop-entry-test.true kept.puts (puts_same _ _ (c.bytes.ensures ∙ ap g.T.Entry.written c.entry-item.is) c.put.ensures.puts);
    }
