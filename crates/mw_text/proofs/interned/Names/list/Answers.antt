use Rattle.std.proofs.Common.{◌∙◌, ap}
use Rattle.mw_text.proofs.Held.{held_front, names_held}
use Rattle.mw_text.proofs.interned.Names.list.Goals as goal

pub returns : goal.returns
returns c =
    c.of-2.ensures ∙ c.loop-name.invariant ∙ held_front c.as_slice-name-items.result.now c.loop-name.name-index c.loop-name-test.false
    ∙ ap names_held c.as_slice-name-items.ensures.keys ∙ ap (λ s. names_held s.keys) c.deref.ensures ∙ c.self.view_is
