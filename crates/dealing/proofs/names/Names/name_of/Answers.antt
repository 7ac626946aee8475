use Rattle.std.proofs.Common.{is_ok, vec_items, ap, ◌∙◌}
use Rattle.std.proofs.lemmas.Bool.{cond-true}
use Rattle.dealing.proofs.Lookings.{naming_push}
use Rattle.dealing.proofs.names.Names.name_of.Goals as goal

pub returns-in_ok-push-in-None : goal.returns-in_ok-push-in-None
returns-in_ok-push-in-None c =
    naming_push (vec_items c.args.self.now.entries) (vec_items c.push.new.self) _ c.len-n.result c.in-None.ensures
    (c.push.ensures.items ∙ cond-true _ _ _ (ap is_ok c.in_ok-push-in-None.was))
    (c.len-n.ensures ∙ c.args.self.now.entries.ok.0)
