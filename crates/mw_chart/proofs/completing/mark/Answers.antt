use Rattle.std.proofs.Common.{◌≡◌, ◌-◌, ◌<◌, length, ℕ, List, refl, sym, arith, subst}
use Rattle.mw_chart.specs.Listed.{inner}
use Rattle.mw_chart.specs.Chart.{HasTwo, Holds}
use Rattle.mw_chart.specs.declared.item.ChartItem.{ChartItem}
use Rattle.mw_chart.proofs.Adding.{inner_is}
use Rattle.mw_chart.proofs.Fulls.{full_grown, full_mark, either_set}
use Rattle.mw_chart.proofs.completing.mark.Goals as goal

pub returns-in_ok-insert-clause-full : goal.returns-in_ok-insert-clause-full
returns-in_ok-insert-clause-full c =
    let long = c.in_ok-grow.ensures.long in
    let grown = c.grow.new.lists.items in
    let end = c.requires.end in
    let within = c.requires.within in
    let low : c.args.over.next < length c.grow.new.lists.items = omega (arith, long) in
    full_mark c.args.over.n c.args.end c.args.over.next grown c.insert.new.set c.args.agenda.now.cells.items low
    (either_set grown c.args.over.next c.args.end c.index_mut.result.now c.insert.new.set low c.index_mut.ensures.value c.in_ok-insert.ensures)
    (λ j at.
    let same : j ≡ c.args.over.n - c.args.end = omega (arith, at, end) in
    subst (λ (m : ℕ). HasTwo (Holds (inner c.args.agenda.now.cells.items m) c.args.over.next)) (sym same)
    (subst (λ (l : List ChartItem). HasTwo (Holds l c.args.over.next)) (sym (inner_is c.args.agenda.now.cells.items (c.args.over.n - c.args.end) c.index.result.now (omega (arith, end, within)) c.index.ensures)) (c.if-is_full.ensures refl)))
    (full_grown c.args.over.n c.args.agenda.now.full.items grown c.args.agenda.now.cells.items c.in_ok-grow.ensures.same c.requires.full)
