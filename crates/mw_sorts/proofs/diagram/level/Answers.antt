use Rattle.std.proofs.Common.{ℕ, List, map, subst, sym, arith}
use Rattle.mw_term.specs.Signatures.{sorted_of}
use Rattle.mw_sorts.specs.Diagrams.{Level}
use Rattle.mw_sorts.specs.States.{ways, IsLevelOf}
use Rattle.mw_sorts.proofs.Growing.{level-more, level-done}
use Rattle.mw_sorts.proofs.diagram.level.Goals as goal

pub loop-number-preserved : goal.loop-number-preserved
loop-number-preserved c =
    level-more c.args.sorting.now.signature (ways c.args.operator.now) c.args.place (map sorted_of c.args.entries.now) c.loop-number.number c.args.states.now c.loop-number.next c.row.new.next c.loop-number.rows.items
    c.push.new.self.items c.get-alive.result.now c.in_ok-row.field-0 c.loop-number.invariant c.get-alive.ensures c.in_ok-row.ensures.kept c.in_ok-row.ensures.states c.in_ok-row.ensures.come c.in_ok-row.ensures.row c.in_ok-push.ensures.items

pub returns-clause-level : goal.returns-clause-level
returns-clause-level c =
    let high = c.loop-number-test.false in
    let low = c.loop-number.auto.number-end in
    let e = c.len-number-end.ensures in
    subst (λ (ss : List (List ℕ)). IsLevelOf c.args.sorting.now.signature (ways c.args.operator.now) c.args.place (map sorted_of c.args.entries.now) c.args.states.now ss c.of.result) (sym c.in_ok-next.ensures.ok)
    (subst (λ (l : Level). IsLevelOf c.args.sorting.now.signature (ways c.args.operator.now) c.args.place (map sorted_of c.args.entries.now) c.args.states.now c.loop-number.next l) (sym c.of.ensures)
    (level-done c.args.sorting.now.signature (ways c.args.operator.now) c.args.place (map sorted_of c.args.entries.now) c.loop-number.number c.args.states.now c.loop-number.next c.loop-number.rows.items (omega arith)
    c.loop-number.invariant))
