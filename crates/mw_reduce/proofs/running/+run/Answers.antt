use Rattle.std.proofs.Common.{rules, arith, ◌≡◌, ◌+◌, ◌-◌, ◌<◌, ◌≤◌, ◌∙◌, ℕ, List, [], ◌∷◌, length, max, suc, subst, sym, ap, inl, inr, refl, reverse, drop, drop_of_length-le}
use Rattle.mw_logic.specs.Term.{Variable, RawTerm}
use Rattle.mw_logic.specs.Module.{Module, Fragment, matches}
use Rattle.mw_logic.specs.NormalForm.{normal_form}
use Rattle.mw_logic.specs.Substitution.{Substitution, instance}
use Rattle.mw_logic.specs.Ends.{IsSide}
use Rattle.mw_canon.specs.Canonical.{IsAdmittedTerm}
use Rattle.mw_least.specs.Workable.{IsWorkable}
use Rattle.mw_position.specs.Variables.{met}
use Rattle.mw_proof.specs.declared.reason.Reason.{Reason}
use Rattle.mw_proof.specs.declared.reason.Reason.TheVariants as reason
use Rattle.mw_index.specs.Choices.{tried_of}
use Rattle.mw_index.specs.Conditions.{IsSideOf, IsMatchOf}
use Rattle.mw_index.specs.declared.choices.Choice.{Choice}
use Rattle.mw_index.specs.declared.conditions.Matched.{Matched}
use Rattle.mw_index.specs.declared.conditions.Test.{Test}
use Rattle.mw_frames.specs.Machines.{data_of}
use Rattle.mw_frames.specs.State.{Holds}
use Rattle.mw_frames.specs.Steps.{asked_term}
use Rattle.mw_frames.specs.declared.job.Job.TheVariants.{Walk}
use Rattle.mw_frames.specs.declared.job.Hand.TheVariants.{One}
use Rattle.mw_reduce.specs.Turns.{IsFailed, IsFound}
use Rattle.mw_reduce.specs.Attempts.{IsTriable, IsMade, IsHaltingAt, IsAttempt}
use Rattle.mw_reduce.specs.Evaluations.{bound_to, run_of, nothing, IsStoppedFor, IsTested}
use Rattle.mw_reduce.specs.declared.sides.Running.{Running}
use Rattle.mw_reduce.specs.declared.evaluation.Tested.{Tested}
use Rattle.mw_reduce.proofs.Applying.{left_bound, found_triable, made_at_once, made_so, failed_so, too_many, stopped_so}
use Rattle.mw_reduce.proofs.Evaluating.{here_at, tested_at}
use Rattle.mw_reduce.proofs.Going.{begin, hold}
use Rattle.mw_reduce.proofs.Reduced.{is_run, begins_run, from_none}
use Rattle.mw_reduce.proofs.SideRuns.{side_raw}
use Rattle.mw_reduce.proofs.Tests.{none_there, one_there, some_test_at, at_equal, at_match, at_sort, at_truth}
use Rattle.mw_reduce.proofs.running.+run.Goals as goal

made_less : (limit left made n m : ℕ) → left ≤ limit → made ≤ left → 0 < made → m ≡ max made 1 → n ≡ left - m → limit - left + made ≡ limit - n
made_less limit left made n m a b c d e = omega (arith, a, b, c, d, e)

pub run_on-loop-left-preserved : goal.run_on-loop-left-preserved
run_on-loop-left-preserved m c = (
  let a = c.loop-left.invariant.0 in let e = c.saturating_sub-left.ensures in omega (arith, a, e),
  λ K k run here rank h.
      let n : ℕ = k + (c.args.limit - c.loop-left.left) in
      let p = c.in_ok-event.ensures.is K n run here rank (c.loop-left.invariant.1 K k run here rank h) in
      let (some, few, z) = rw c.in-Goes.is at (c.in_ok-next.ensures K n c.args.side run here (search rules) p) in
      let more = made_less c.args.limit c.loop-left.left c.in-Goes.count c.saturating_sub-left.result c.max.result c.loop-left.invariant.0 few some c.max.ensures c.saturating_sub-left.ensures in
      subst (λ i. Holds K i (data_of K.over c.go_on.new.machine) c.in-Goes.next) (omega (arith, more)) z,
)

pub run_on-returns-in-Ends-clause-left : goal.run_on-returns-in-Ends-clause-left
run_on-returns-in-Ends-clause-left m c = (c.loop-left.invariant.0, λ e. (search rules))

pub run_on-returns-in-Ends-clause-is : goal.run_on-returns-in-Ends-clause-is
run_on-returns-in-Ends-clause-is m c = λ K k run here rank h.
    let n : ℕ = k + (c.args.limit - c.loop-left.left) in
    let p = c.in_ok-event.ensures.is K n run here rank (c.loop-left.invariant.1 K k run here rank h) in
    let z = rw c.in-Ends.is at (c.in_ok-next.ensures K n c.args.side run here (search rules) p) in
    let low : c.args.limit - c.loop-left.left < c.args.limit = (search rules) in
    let a = c.loop-left.invariant.0 in (n, omega (arith, a), inl (omega (arith, low), z))

pub run_on-returns-clause-left : goal.run_on-returns-clause-left
run_on-returns-clause-left m c = (omega arith, λ e. cc)

pub run_on-returns-clause-is : goal.run_on-returns-clause-is
run_on-returns-clause-is m c = λ K k run here rank h.
    let n : ℕ = k + (c.args.limit - c.loop-left.left) in
    let all : c.args.limit - c.loop-left.left ≡ c.args.limit = (search rules) in
    (n, omega (arith, all), inr (omega (arith, all), refl, c.in_ok-term.ensures K n (rw c.facts.ensures run) (c.loop-left.invariant.1 K k run here rank h)))

pub find-loop-rounds-preserved : goal.find-loop-rounds-preserved
find-loop-rounds-preserved m c = (
  c.in_ok-event-in-Found.ensures.of,
  λ K k run here rank h.
      let d = data_of K.over c.advance.new.machine in
      let q : Choice = c.in-Found.choice in
      let f : IsFound K k c.args.index.now d c.advance.new.choices c.in-Found.asked q = rw c.in-Found.is at (c.in_ok-other.ensures.means K k c.args.side run here (c.loop-rounds.invariant.1 K k run here rank h)) in
      let t : RawTerm = asked_term d c.in-Found.asked in
      let may : IsTriable K.over t q = found_triable K c.args.context.now.signature run k c.args.index.now d c.advance.new.choices c.in-Found.asked q f in
      let told : IsAttempt K.over K.rank c.args.side t q c.try_choice.new.choice c.in_ok-attempt-in-Found.attempt =
      subst (λ r. IsAttempt K.over r c.args.side t q c.try_choice.new.choice c.in_ok-attempt-in-Found.attempt) (sym rank)
      (subst (λ (M : Module). IsAttempt M c.args.nest c.args.side t q c.try_choice.new.choice c.in_ok-attempt-in-Found.attempt) (sym here) (c.in_ok-attempt-in-Found.ensures.means t (subst (λ (M : Module). IsTriable M t q) here may))) in
      c.in_ok-event-in-Found.ensures.means K k c.args.side q run here f c.in_ok-attempt-in-Found.ensures.same told,
)

pub find-returns-in_default : goal.find-returns-in_default
find-returns-in_default m c = record {
  rests = (c.in_ok-other.ensures.stands, c.in_default.not-Found);
  is = λ K k run here rank h. c.in_ok-other.ensures.means K k c.args.side run here (c.loop-rounds.invariant.1 K k run here rank h);
}

pub evaluate-loop-rounds-init : goal.evaluate-loop-rounds-init
evaluate-loop-rounds-init m c = λ n number e nest there condition bound.
    rw (c.new-sides.ensures.items, c.new-others.ensures.items) (begin c.args.context.now c.shows.ensures n number e there c.args.condition.now.tests condition.tests c.args.values.now.items bound)

pub evaluate-try_test-requires : goal.evaluate-try_test-requires
evaluate-try_test-requires m c =
    let (xs, C, h) = c.requires.tests in
    let here = here_at c.args.condition.now.tests c.as_slice-tests.result.now c.loop-rounds.at c.index-tests-at.result c.as_slice-tests.ensures c.if-at-tests.false c.index-tests-at.is in
    (omega arith, (c.requires.index, (some_test_at c.args.context.now.signature xs C c.args.condition.now.tests h c.loop-rounds.at c.index-tests-at.result here, c.requires.above)))

pub evaluate-loop-rounds-preserved : goal.evaluate-loop-rounds-preserved
evaluate-loop-rounds-preserved m c = λ n number e nest there condition bound.
    let M : Module = c.args.context.now in
    let tests : List Test = c.args.condition.now.tests in
    let s : Substitution = bound_to M.signature (met [] e.left) c.args.values.now.items in
    let h = c.loop-rounds.invariant n number e nest there condition bound in
    let here = here_at tests c.as_slice-tests.result.now c.loop-rounds.at c.index-tests-at.result c.as_slice-tests.ensures c.if-at-tests.false c.index-tests-at.is in
    let (f, C, xs, at) = tested_at M n c.args.limit e tests s c.loop-rounds.at c.index-tests-at.result c.loop-rounds.values.items c.as_slice.result.now c.loop-rounds.sides.items (reverse c.loop-rounds.others.items) c.in_ok-tested.tested here h c.as_slice.ensures.value
    (λ f C xs test ready b. c.in_ok-tested.ensures n e.variables xs f C nest test ready b) in
    rw c.in-At.is at (c.in_ok-next.ensures M n c.args.limit e tests s f C xs c.shows.ensures at.0 at.1)

pub evaluate-returns-in-Failed : goal.evaluate-returns-in-Failed
evaluate-returns-in-Failed m c = λ n number e nest there condition bound.
    let M : Module = c.args.context.now in
    let tests : List Test = c.args.condition.now.tests in
    let s : Substitution = bound_to M.signature (met [] e.left) c.args.values.now.items in
    let h = c.loop-rounds.invariant n number e nest there condition bound in
    let here = here_at tests c.as_slice-tests.result.now c.loop-rounds.at c.index-tests-at.result c.as_slice-tests.ensures c.if-at-tests.false c.index-tests-at.is in
    let (f, C, xs, at) = tested_at M n c.args.limit e tests s c.loop-rounds.at c.index-tests-at.result c.loop-rounds.values.items c.as_slice.result.now c.loop-rounds.sides.items (reverse c.loop-rounds.others.items) c.in_ok-tested.tested here h c.as_slice.ensures.value
    (λ f C xs test ready b. c.in_ok-tested.ensures n e.variables xs f C nest test ready b) in
    rw c.in-Failed.is at (c.in_ok-next.ensures M n c.args.limit e tests s f C xs c.shows.ensures at.0 at.1)

pub evaluate-returns-in-Stopped : goal.evaluate-returns-in-Stopped
evaluate-returns-in-Stopped m c = λ n number e nest there condition bound.
    let M : Module = c.args.context.now in
    let tests : List Test = c.args.condition.now.tests in
    let s : Substitution = bound_to M.signature (met [] e.left) c.args.values.now.items in
    let h = c.loop-rounds.invariant n number e nest there condition bound in
    let here = here_at tests c.as_slice-tests.result.now c.loop-rounds.at c.index-tests-at.result c.as_slice-tests.ensures c.if-at-tests.false c.index-tests-at.is in
    let (f, C, xs, at) = tested_at M n c.args.limit e tests s c.loop-rounds.at c.index-tests-at.result c.loop-rounds.values.items c.as_slice.result.now c.loop-rounds.sides.items (reverse c.loop-rounds.others.items) c.in_ok-tested.tested here h c.as_slice.ensures.value
    (λ f C xs test ready b. c.in_ok-tested.ensures n e.variables xs f C nest test ready b) in
    rw c.in-Stopped.is at (c.in_ok-next.ensures M n c.args.limit e tests s f C xs c.shows.ensures at.0 at.1)

pub evaluate-returns-then-at-tests : goal.evaluate-returns-then-at-tests
evaluate-returns-then-at-tests m c = λ n number e nest there condition bound.
    let M : Module = c.args.context.now in
    let tests : List Test = c.args.condition.now.tests in
    let s : Substitution = bound_to M.signature (met [] e.left) c.args.values.now.items in
    let h = c.loop-rounds.invariant n number e nest there condition bound in
    let long = subst (λ (ts : List Test). Rattle.std.proofs.Common.length ts ≤ c.loop-rounds.at) c.as_slice-tests.ensures c.if-at-tests.true in
    hold M n e tests s c.loop-rounds.at c.loop-rounds.values.items c.loop-rounds.sides.items (reverse c.loop-rounds.others.items) h (drop_of_length-le tests long)

pub run_side-returns-in_ok-driven-in-Runs : goal.run_side-returns-in_ok-driven-in-Runs
run_side-returns-in_ok-driven-in-Runs m c = λ n xs t nest asked is bound.
    let M : Module = c.args.context.now in
    let work : IsWorkable M = c.shows.ensures in
    let v : RawTerm = instance (bound_to M.signature xs c.args.values.now) t in
    let r : Running = c.into_inner-from.result in
    let begun = rw c.in-Runs.is at (c.in_ok-reason.ensures M xs t work c.facts.ensures asked is bound) in
    let (low, from, empty) = subst (λ (r : Running). IsAdmittedTerm M.signature r.from × (r.from ≡ normal_form M.signature v) × ((N : Module) → data_of N r.machine ≡ nothing)) (sym c.into_inner-from.ensures) begun in
    let hand : Holds (run_of M n r.from) 0 (data_of M r.machine) (One (Walk c.in_ok-copy-in-Runs.field-0)) =
    subst (λ u. Holds (run_of M n r.from) 0 (data_of M r.machine) (One (Walk u))) (sym c.in_ok-copy-in-Runs.ensures) (begins_run M work n r.from low r.machine empty) in
    c.end_side.ensures M n c.args.limit v work (side_raw M work xs c.args.values.now bound t asked) low from
    (from_none (run_of M n r.from) c.args.limit c.args.limit _ c.in_ok-driven-in-Runs.driven (c.in_ok-driven-in-Runs.ensures.is (run_of M n r.from) 0 (is_run M work n r.from low) refl (let e = nest in omega (arith, e)) hand))

pub try_choice-returns-then-is_empty-clause-means : goal.try_choice-returns-then-is_empty-clause-means
try_choice-returns-then-is_empty-clause-means m c = λ t may.
    let q : Choice = c.args.choice.now in
    let none = none_there q.by.now.condition.tests c.as_slice.result.now c.is_empty.result c.as_slice.ensures c.is_empty.ensures c.if-is_empty.true in
    subst (IsMade c.args.context.now c.args.nest t q) (sym c.new.ensures.items) (made_at_once c.args.context.now c.shows.ensures t q may c.args.nest none)

pub try_choice-returns-then-nest-eq0-clause-means : goal.try_choice-returns-then-nest-eq0-clause-means
try_choice-returns-then-nest-eq0-clause-means m c = λ t may.
    let q : Choice = c.args.choice.now in
    let (x, some) = one_there q.by.now.condition.tests c.as_slice.result.now c.is_empty.result c.as_slice.ensures c.is_empty.ensures c.if-is_empty.false in
    subst (λ n. IsHaltingAt c.args.context.now q.by.now.rule n c.args.side t q.take reason.Nest) (sym c.if-nest-eq0.true) (too_many c.args.context.now c.shows.ensures t q may c.args.side x some)

pub try_choice-returns-in_ok-trails-in-Held-clause-means : goal.try_choice-returns-in_ok-trails-in-Held-clause-means
try_choice-returns-in_ok-trails-in-Held-clause-means m c = λ t may.
    let M : Module = c.args.context.now in
    let q : Choice = c.args.choice.now in
    let new : Choice = record { by = q.by; values = c.put_in_order.new.values; take = q.take } in
    let n : ℕ = c.args.nest - 1 in
    let nest : c.args.nest ≡ suc n = let z = c.if-nest-eq0.false in omega (arith, z) in
    let (x, some) = one_there q.by.now.condition.tests c.as_slice.result.now c.is_empty.result c.as_slice.ensures c.is_empty.ensures c.if-is_empty.false in
    let held = rw c.in-Held.is at (c.in_ok-sides.ensures n q.by.now.number may.choice.statement nest may.choice.is_there may.choice.is.condition (left_bound M c.shows.ensures t q may)) in
    subst (λ k. IsMade M k t new c.in_ok-trails-in-Held.trails.items) (sym nest)
    (made_so M c.shows.ensures t q may n x some new refl c.evaluate.new.values.items c.in-Held.sides.items c.in_ok-trails-in-Held.trails.items held (c.in_ok-trails-in-Held.ensures M) c.in_ok-put_in_order-in-Held.ensures)

pub try_choice-returns-in-Failed-clause-means : goal.try_choice-returns-in-Failed-clause-means
try_choice-returns-in-Failed-clause-means m c = λ t may e is.
    let M : Module = c.args.context.now in
    let q : Choice = c.args.choice.now in
    let n : ℕ = c.args.nest - 1 in
    let nest : c.args.nest ≡ suc n = let z = c.if-nest-eq0.false in omega (arith, z) in
    let failed = rw c.in-Failed.is at (c.in_ok-sides.ensures n q.by.now.number may.choice.statement nest may.choice.is_there may.choice.is.condition (left_bound M c.shows.ensures t q may)) in
    subst (λ k. IsFailed M k (tried_of q) e) (sym nest) (failed_so M c.shows.ensures t q may n failed e is)

pub try_choice-returns-in-Stopped-clause-means : goal.try_choice-returns-in-Stopped-clause-means
try_choice-returns-in-Stopped-clause-means m c = λ t may.
    let M : Module = c.args.context.now in
    let q : Choice = c.args.choice.now in
    let n : ℕ = c.args.nest - 1 in
    let nest : c.args.nest ≡ suc n = let z = c.if-nest-eq0.false in omega (arith, z) in
    let stopped = rw c.in-Stopped.is at (c.in_ok-sides.ensures n q.by.now.number may.choice.statement nest may.choice.is_there may.choice.is.condition (left_bound M c.shows.ensures t q may)) in
    subst (λ k. IsHaltingAt M q.by.now.rule k c.args.side t q.take reason.Condition) (sym nest) (stopped_so M c.shows.ensures t q may n c.args.side c.in-Stopped.field-0 stopped)

-- a side of the fragment stops
abbrev StopsIn : (M : Module) → ℕ → ℕ → List Variable → List RawTerm → Reason → Fragment → List Variable → Type 0
StopsIn M n limit xs vs why f ys = (u : RawTerm) × IsSide f u × IsStoppedFor M n limit (instance (bound_to M.signature xs vs) u) why

-- the test of it is told
abbrev Told : (M : Module) → ℕ → ℕ → List Variable → List RawTerm → Tested → Fragment → List Variable → Type 0
Told M n limit xs vs x f ys = IsTested M n limit f xs vs ys x

pub try_test-returns-in-Stops : goal.try_test-returns-in-Stops
try_test-returns-in-Stops m c = λ n all xs f C nest is ready bound.
    let M : Module = c.args.context.now in
    at_equal M.signature c.shows.ensures.signature.accepted all xs f C c.args.test.now is ready (StopsIn M n c.args.limit xs c.args.values.now c.in-Stops.reason) c.in-Equal.left c.in-Equal.right c.in-Equal.is
    (λ u v a b i j. (u, inl refl, rw c.in-Stops.is at (c.in_ok-reason-in-Equal.ensures n xs u nest a i bound)))

pub try_test-returns-in-Stops-2 : goal.try_test-returns-in-Stops-2
try_test-returns-in-Stops-2 m c = λ n all xs f C nest is ready bound.
    let M : Module = c.args.context.now in
    at_equal M.signature c.shows.ensures.signature.accepted all xs f C c.args.test.now is ready (StopsIn M n c.args.limit xs c.args.values.now c.in-Stops-2.reason) c.in-Equal.left c.in-Equal.right c.in-Equal.is
    (λ u v a b i j. (v, inr refl, rw c.in-Stops-2.is at (c.in_ok-reason-in-To.ensures n xs v nest b j bound)))

pub try_test-returns-in_ok-tested-in-To-2 : goal.try_test-returns-in_ok-tested-in-To-2
try_test-returns-in_ok-tested-in-To-2 m c = λ n all xs f C nest is ready bound.
    let M : Module = c.args.context.now in
    at_equal M.signature c.shows.ensures.signature.accepted all xs f C c.args.test.now is ready (Told M n c.args.limit xs c.args.values.now c.in_ok-tested-in-To-2.tested) c.in-Equal.left c.in-Equal.right c.in-Equal.is
    (λ u v a b i j. c.in_ok-tested-in-To-2.ensures M n c.args.limit xs c.args.values.now u v c.shows.ensures (rw c.in-To.is at (c.in_ok-reason-in-Equal.ensures n xs u nest a i bound)) (rw c.in-To-2.is at (c.in_ok-reason-in-To.ensures n xs v nest b j bound)))

pub try_test-returns-in-Stops-3 : goal.try_test-returns-in-Stops-3
try_test-returns-in-Stops-3 m c = λ n all xs f C nest is ready bound.
    let M : Module = c.args.context.now in
    at_match M.signature c.shows.ensures.signature.accepted all xs f C c.args.test.now is ready (StopsIn M n c.args.limit xs c.args.values.now c.in-Stops-3.reason) c.in-Match.matched c.in-Match.is
    (λ l t r a i. (t, refl, rw c.in-Stops-3.is at (c.in_ok-reason-in-Match.ensures n xs t nest a (subst (λ (q : Matched). IsSideOf M.signature xs t q.side) (sym c.deref.ensures) i.side) bound)))

pub try_test-returns-in_ok-tested-in-To-3 : goal.try_test-returns-in_ok-tested-in-To-3
try_test-returns-in_ok-tested-in-To-3 m c = λ n all xs f C nest is ready bound.
    let M : Module = c.args.context.now in
    at_match M.signature c.shows.ensures.signature.accepted all xs f C c.args.test.now is ready (Told M n c.args.limit xs c.args.values.now c.in_ok-tested-in-To-3.tested) c.in-Match.matched c.in-Match.is
    (λ l t r a i.
    let shown = rw c.in-To-3.is at (c.in_ok-reason-in-Match.ensures n xs t nest a (subst (λ (q : Matched). IsSideOf M.signature xs t q.side) (sym c.deref.ensures) i.side) bound) in
    subst (λ (q : Matched). IsTested M n c.args.limit (matches l t) xs c.args.values.now q.compiled.variables c.in_ok-tested-in-To-3.tested) c.deref-in-To-3.ensures
    (c.in_ok-tested-in-To-3.ensures n c.args.limit all xs l t C r (subst (IsMatchOf M.signature xs l t) (sym c.deref-in-To-3.ensures) i) bound shown))

pub try_test-returns-in-Stops-4 : goal.try_test-returns-in-Stops-4
try_test-returns-in-Stops-4 m c = λ n all xs f C nest is ready bound.
    let M : Module = c.args.context.now in
    at_sort M.signature c.shows.ensures.signature.accepted all xs f C c.args.test.now is ready (StopsIn M n c.args.limit xs c.args.values.now c.in-Stops-4.reason) c.in-HasSort.side c.in-HasSort.sort c.in-HasSort.is
    (λ t a i. (t, refl, rw c.in-Stops-4.is at (c.in_ok-reason-in-HasSort.ensures n xs t nest a i bound)))

pub try_test-returns-in_ok-tested-in-To-4 : goal.try_test-returns-in_ok-tested-in-To-4
try_test-returns-in_ok-tested-in-To-4 m c = λ n all xs f C nest is ready bound.
    let M : Module = c.args.context.now in
    at_sort M.signature c.shows.ensures.signature.accepted all xs f C c.args.test.now is ready (Told M n c.args.limit xs c.args.values.now c.in_ok-tested-in-To-4.tested) c.in-HasSort.side c.in-HasSort.sort c.in-HasSort.is
    (λ t a i. c.in_ok-tested-in-To-4.ensures n c.args.limit xs c.args.values.now t (rw c.in-To-4.is at (c.in_ok-reason-in-HasSort.ensures n xs t nest a i bound)))

pub try_test-returns-in-Stops-5 : goal.try_test-returns-in-Stops-5
try_test-returns-in-Stops-5 m c = λ n all xs f C nest is ready bound.
    let M : Module = c.args.context.now in
    at_truth M.signature c.shows.ensures.signature.accepted all xs f C c.args.test.now is ready (StopsIn M n c.args.limit xs c.args.values.now c.in-Stops-5.reason) c.in-Holds.side c.in-Holds.is
    (λ t a i. (t, refl, rw c.in-Stops-5.is at (c.in_ok-reason-in-Holds.ensures n xs t nest a i bound)))

pub try_test-returns-in_ok-tested-in-To-5 : goal.try_test-returns-in_ok-tested-in-To-5
try_test-returns-in_ok-tested-in-To-5 m c = λ n all xs f C nest is ready bound.
    let M : Module = c.args.context.now in
    at_truth M.signature c.shows.ensures.signature.accepted all xs f C c.args.test.now is ready (Told M n c.args.limit xs c.args.values.now c.in_ok-tested-in-To-5.tested) c.in-Holds.side c.in-Holds.is
    (λ t a i. c.in_ok-tested-in-To-5.ensures n c.args.limit xs c.args.values.now t (rw c.in-To-5.is at (c.in_ok-reason-in-Holds.ensures n xs t nest a i bound)))
