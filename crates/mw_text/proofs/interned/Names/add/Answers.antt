use Rattle.std.proofs.Common.{◌∙◌, ap}
use Rattle.mw_text.specs.Interned.{with_name}
use Rattle.mw_text.proofs.Held.{held_insert, names_held}
use Rattle.mw_text.proofs.interned.Names.add.Goals as goal

pub returns : goal.returns
returns c =
    let key = c.in_ok-to_vec.ensures.items_if_clones_equal (λ x y e. e) in
    ap names_held c.in_ok-insert.ensures.keys ∙ held_insert c.deref_mut.result.now.keys c.in_ok-to_vec.field-0
    ∙ ap (λ n. with_name (names_held c.deref_mut.result.now.keys) n) key ∙ ap (λ s. with_name (names_held s.keys) c.args.name.now) c.deref_mut.ensures.value ∙ ap (λ ns. with_name ns c.args.name.now) c.self.view_is
