use Rattle.std.proofs.Common.{lit<}
use Rattle.std.proofs.lemmas.Str.Pattern.{strip_prefix_char}
use Rattle.std.proofs.lemmas.Option.{MatchOption-at_some, MatchOption-at_none}
use Rattle.spelling.specs.Spellings.{negated, spelled_plain}
use Rattle.spelling.proofs.numbers.signed.Goals as goal

pub returns-in_ok-decimal-in-Some : goal.returns-in_ok-decimal-in-Some
returns-in_ok-decimal-in-Some c =
    let e = MatchOption-at_some _ _ c.in-Some.digits c.in-Some.is (strip_prefix_char 45 c.args.text.now c.strip_prefix.result c.strip_prefix.ensures.cases (lit< tt)) in
    let d = c.in_ok-decimal-in-Some.ensures in
    negated c.args.modulus c.opposite.result e d.0 d.1 c.opposite.ensures.below c.opposite.ensures.cancels

pub returns-in-None : goal.returns-in-None
returns-in-None c =
    let e = MatchOption-at_none _ _ c.in-None.is (strip_prefix_char 45 c.args.text.now c.strip_prefix.result c.strip_prefix.ensures.cases (lit< tt)) in
    spelled_plain c.args.modulus c.args.text.now c.decimal-in-None.result e c.decimal-in-None.ensures
