use Rattle.std.proofs.Common.{lit<}
use Rattle.std.proofs.lemmas.Str.Pattern.{split_parts, split_after}
use Rattle.std.proofs.lemmas.Option.{MatchOption-at_some, MatchOption-at_none}
use Rattle.spelling.specs.Spellings.{no_colon, spelled_halves}
use Rattle.spelling.proofs.PairWordSpelled.read.Goals as goal

pub returns-in_err-left : goal.returns-in_err-left
returns-in_err-left c =
    rw c.from_residual.ensures
    (λ p s. MatchOption-at_none _ _ c.in_err-left.was (split_after 58 c.args.text.now s.left s.right c.split_once.result c.split_once.ensures.cases (lit< tt) s.colon (no_colon s.first)))

pub returns : goal.returns
returns c =
    let x = c.in_ok-left in
    let parts = MatchOption-at_some _ _ (x.left, x.right) x.was (split_parts 58 c.args.text.now c.split_once.result c.split_once.ensures.cases (lit< tt)) in
    spelled_halves c.args.text.now x.left.now x.right.now c.pair_of.result parts.0 parts.1 c.pair_of.ensures
