use Rattle.std.proofs.Common.{◌≡◌, ◌∙◌, ℕ, ◌-◌, ◌≤◌, length, take, set, get_or, ap, refl, arith, sym, subst}
use Rattle.std.specs.Vec.{with_item}
use Rattle.mw_matching.specs.Multisets.{behind_first}
use Rattle.mw_search.specs.Clashes.{IsPassed}
use Rattle.mw_search.specs.Goals.{shares_left}
use Rattle.mw_search.specs.declared.machine.Choice.{Choice}
use Rattle.mw_search.specs.declared.machine.Machine.{Machine}
use Rattle.mw_search.proofs.Meeting.{got_any}
use Rattle.mw_search.specs.Machines.{Rise}
use Rattle.mw_search.proofs.BagLists.{is_last_of}
use Rattle.mw_search.proofs.Steps.{passed, rise_pop}
use Rattle.mw_search.proofs.machine.Machine.pass_over.Goals as goal

pub returns-clause-passed : goal.returns-clause-passed
returns-clause-passed c = λ _ ready.
    let ps = c.args.positions.now in
    let old : Machine = c.args.self.now in
    let sig = c.args.facts.now in
    let n : ℕ = length old.stack.items - 1 in
    let top : Choice = c.index-top.result.now in
    let later : Choice = c.index_mut.result.now in
    let next : Choice = record { pattern = later.pattern; shares = c.pass.new.self; goals = later.goals; below = later.below } in
    let new : Machine = record { given = old.given; running = old.running; goals = old.goals; values = old.values; stack = with_item old.stack (c.len-last.result - 1) next } in
    let here : c.len-last.result - 1 ≡ n = omega arith in
    let at : top ≡ get_or old.stack.items n top = c.index-top.ensures ∙ ap (λ m. get_or old.stack.items m top) here in
    let still : later ≡ top = c.index_mut.ensures.value ∙ ap (λ m. get_or old.stack.items m later) here ∙ got_any old.stack.items n later top (omega arith) ∙ sym at in
    let low : top.below ≤ length old.values.items = (rise_pop old.given (length old.values.items) (take n old.stack.items) top (subst (λ ds. Rise old.given ds (length old.values.items)) (is_last_of old.stack.items top c.requires.some at) ready.marked)).1 in
    let count : c.min-below.result ≡ top.below = omega (arith, low) in
    let same : take c.min-below.result c.as_slice.result.now ≡ take top.below old.values.items = ap (take c.min-below.result) c.as_slice.ensures.value ∙ ap (λ m. take m old.values.items) count in
    let barren : IsPassed sig ps.single.items (take top.below old.values.items) top.pattern (shares_left top.shares) =
    subst (λ us. IsPassed sig ps.single.items us top.pattern (shares_left top.shares)) same (c.is_barren.ensures c.if-not-is_barren.false) in
    let s = barren.0 in
    let left : shares_left c.pass.new.self ≡ barren.1 = c.pass.ensures ∙ ap (λ (x : Choice). behind_first (shares_left x.shares)) still ∙ ap behind_first barren.2 in
    passed sig ps old new top next s.0 s.1 barren.1 ready refl c.requires.resting c.requires.some at barren.2 barren.3
    (ap (λ (x : Choice). x.pattern) still) (ap (λ (x : Choice). x.goals.items) still) (ap (λ (x : Choice). x.below) still) left
    refl refl (ap (λ m. set old.stack.items m next) here)
