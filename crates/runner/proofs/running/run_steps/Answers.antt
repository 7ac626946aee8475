use Rattle.std.proofs.Common.{◌≡◌, ◌+◌, ◌<◌, List, map, length, drop, set, sym, ap, ◌∙◌, subst, arith}
use Rattle.std.proofs.lemmas.List.{map-set, length-map, length-set, drop-set-lt}
use Rattle.sheet.specs.Values.{StepValues}
use Rattle.runner.proofs.Laws.{values_more}
use Rattle.runner.proofs.running.run_steps.Goals as goal

pub loop-n-preserved : goal.loop-n-preserved
loop-n-preserved g c =
    let m = g.R.Ring in
    let f = m.meaning in
    let steps = c.args.steps.now in
    let numerals = c.args.setting.now.numerals.now in
    let cells = c.loop-n.bench.cells.now in
    let v = c.step_value-value.result in
    let n = c.loop-n.n in
    let under : n < length steps = c.loop-n-test.true in
    let room = c.requires.room in
    let kept = c.loop-n.invariant.2 in
    let within : n < length cells = omega arith in
    let e : map f c.write.new.self.cells.now ≡ set (map f cells) n (f v) = ap (map f) c.write.ensures ∙ map-set f cells n v in
    let here : n < length (map f cells) = simp length-map within in (
      subst (λ (xs : List m.Meaning). StepValues m.ring numerals (map f c.args.setting.now.measures.now) steps (n + 1) xs) (sym e)
          (values_more m.ring numerals (map f c.args.setting.now.measures.now) (length numerals) n steps (map f cells) _ (f v) c.requires.legal under here c.step_value-value.ensures c.loop-n.invariant.0),
      ap (drop (length steps)) c.write.ensures ∙ drop-set-lt (length steps) cells n v under ∙ c.loop-n.invariant.1,
      ap length c.write.ensures ∙ length-set cells n v ∙ c.loop-n.invariant.2,
    )
