use Rattle.std.proofs.Common.{◌∙◌, ap, refl}
use Rattle.mw_text.specs.Mentions.{seen_key, is_met}
use Rattle.mw_text.proofs.Keys.{held_any, keys_held}
use Rattle.mw_text.proofs.variables.Variables.has.Goals as goal

pub returns : goal.returns
returns c =
    c.contains.ensures ∙ held_any _ (λ k l. refl) c.deref.result.now.keys c.args.key.now ∙ ap (λ s. is_met (keys_held s.keys) (seen_key c.args.key.now)) c.deref.ensures
    ∙ ap (λ xs. is_met xs (seen_key c.args.key.now)) c.self.view_is
