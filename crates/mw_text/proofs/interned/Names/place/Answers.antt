use Rattle.std.proofs.Common.{◌≡◌, ◌∙◌, ap, position, bytes_eq}
use Rattle.mw_text.proofs.Held.{held_position, names_held}
use Rattle.mw_text.proofs.interned.Names.place.Goals as goal

pub returns : goal.returns
returns c =
    let keys : names_held c.deref.result.now.keys ≡ c.args.self.now = ap (λ s. names_held s.keys) c.deref.ensures ∙ c.self.view_is in
    c.get_index_of.ensures.index ∙ held_position c.deref.result.now.keys c.args.name.now ∙ ap (position (bytes_eq c.args.name.now)) keys
