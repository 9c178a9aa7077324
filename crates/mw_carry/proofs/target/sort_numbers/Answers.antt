use Rattle.std.proofs.Common.{◌≡◌, ◌∙◌, ◌+◌, Some, refl, sym, ap}
use Rattle.indexmap.specs.IndexMap.{insert_entry}
use Rattle.mw_logic.specs.Signature.{Signature}
use Rattle.mw_carry.proofs.Tables.{sorts_more, read_at}
use Rattle.mw_carry.proofs.target.sort_numbers.Goals as goal

pub loop-index-preserved : goal.loop-index-preserved
loop-index-preserved c =
    let sig = c.args.signature.now in
    let i = c.loop-index.index in
    let key : c.in_ok-name.name.items ≡ c.name-item.result = c.in_ok-name.ensures.items_if_clones_equal (λ x y e. e) ∙ c.as_slice.ensures in
    let all = c.as_slice-name-items.ensures ∙ ap (λ (s : Signature). s.sorts) c.signature.view_is in
    sorts_more sig i (i + 1) refl _ (λ p q. refl) c.in_ok-name.name c.loop-index.numbers.entries c.insert.new.self.entries
    (read_at _ sig.sorts i c.name-item.result all c.loop-index-test.true c.name-item.is ∙ ap Some (sym key))
    (c.in_ok-insert.ensures.entries ∙ ap (insert_entry _ c.loop-index.numbers.entries c.in_ok-name.name) c.in_ok-number_at.ensures)
    c.loop-index.invariant
