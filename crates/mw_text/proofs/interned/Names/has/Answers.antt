use Rattle.std.proofs.Common.{◌≡◌, ◌∙◌, ap}
use Rattle.mw_text.specs.Interned.{is_among}
use Rattle.mw_text.proofs.Held.{held_any, names_held}
use Rattle.mw_text.proofs.interned.Names.has.Goals as goal

pub returns : goal.returns
returns c =
    let keys : names_held c.deref.result.now.keys ≡ c.args.self.now = ap (λ s. names_held s.keys) c.deref.ensures ∙ c.self.view_is in
    c.contains.ensures ∙ held_any c.deref.result.now.keys c.args.name.now ∙ ap (λ ns. is_among ns c.args.name.now) keys
