use Rattle.std.proofs.Common.{◌≡◌, ℕ, ◌-◌, List, length, take, sym, ap, ◌∙◌, subst, arith, rules}
use Rattle.sheet.specs.declared.sheet.Sheet.{Sheet}
use Rattle.sheet_file.specs.File.{sheet_bytes}
use Rattle.sheet_file.specs.Writing.{Puts}
use Rattle.sheet_file.proofs.Known.{known_short, same_sheet}
use Rattle.sheet_file.proofs.copying.copy_sheet.Goals as goal

-- what was written is what is read
there : (s : Sheet) (out out' : List ℕ) (end : ℕ) → Puts out 0 (sheet_bytes s) end out' → sheet_bytes s ≡ take (end - 0) out'
there s out out' end p =
    let e : end ≡ end - 0 = omega arith in
    sym p.front ∙ ap (λ (n : ℕ). take n out') e

pub returns : goal.returns
returns c =
    let s = c.args.sheet.now in
    let p = c.in_ok-end.ensures.written in
    let out' = c.write.new.out in
    let long : c.in_ok-end.end ≡ length (sheet_bytes s) = p.place ∙ omega arith in (
      same_sheet s c.in_ok-read.field-0 (there s c.args.out.now out' c.in_ok-end.end p ∙ sym c.in_ok-read.ensures.answer.0),
      subst (λ (n : ℕ). Puts c.args.out.now 0 (sheet_bytes s) n out') long p,
    )

pub returns-in_err-read : goal.returns-in_err-read
returns-in_err-read c =
    let s = c.args.sheet.now in
    let refused = c.in_err-read.field-0.0 in
    let short = known_short s _ refused.why refused.place _ (there s c.args.out.now c.write.new.out c.in_ok-end.end c.in_ok-end.ensures.written) c.in_err-read.ensures.answer.1 in
    search rules
