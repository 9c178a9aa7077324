use Rattle.std.proofs.Common.{subst}
use Rattle.mw_pattern.specs.Clean.{clean}
use Rattle.mw_frames.specs.Machines.{data_of, all_moves}
use Rattle.mw_frames.specs.Redex.{MayFire, walked}
use Rattle.mw_frames.specs.Fires.{IsApplied, IsRefusedAs}
use Rattle.mw_frames.proofs.Refusing.{statement_deep, statement_large}
use Rattle.mw_frames.proofs.applying.fire_whole.Goals as goal

pub returns-in-Fits-clause-means : goal.returns-in-Fits-clause-means
returns-in-Fits-clause-means c = λ K k run a is free.
    let there : IsApplied K.over K.rank c.args.by (all_moves K.over c.args.sides.now.items) c.as_slice.result.now c.args.term = rw c.as_slice.ensures.value is in
    let z = rw (c.in-Fits.is, c.as_slice.ensures.value) at (c.in_ok-fit_here.ensures K k (all_moves K.over c.args.sides.now.items) c.args.term run (walked K k (data_of K.over c.args.machine.now) c.args.term a.holds) there) in
    let may : MayFire K c.args.by.rule k (data_of K.over c.args.machine.now) c.args.by.number (all_moves K.over c.args.sides.now.items) c.args.values.now.items (clean c.args.by.right.now) c.args.term =
    record { redex = is.redex; rule = is.rule; known = a.holds.job; stands = record { in_hand = walked K k (data_of K.over c.args.machine.now) c.args.term a.holds; seen = a.seen; low = z.0; small = z.1 }; free = λ q. (free q).around a.holds.stand a.holds.leads } in
    c.in_ok-hand-in-Fits.ensures K k c.args.term run may is c.top_of.ensures.top c.top_of.ensures.leaf

pub returns-in-TooDeep-clause-means : goal.returns-in-TooDeep-clause-means
returns-in-TooDeep-clause-means c = λ K k run a is free.
    let there : IsApplied K.over K.rank c.args.by (all_moves K.over c.args.sides.now.items) c.as_slice.result.now c.args.term = rw c.as_slice.ensures.value is in
    let z = rw (c.in-TooDeep.is, c.as_slice.ensures.value) at (c.in_ok-fit_here.ensures K k (all_moves K.over c.args.sides.now.items) c.args.term run (walked K k (data_of K.over c.args.machine.now) c.args.term a.holds) there) in
    c.in_ok-fired-in-TooDeep.ensures.means K c.args.by.rule k run (walked K k (data_of K.over c.args.machine.now) c.args.term a.holds)
    (λ t e. statement_deep K c.args.facts.now run k (data_of K.over c.args.machine.now) c.args.term (walked K k (data_of K.over c.args.machine.now) c.args.term a.holds) a.seen c.args.by.number (all_moves K.over c.args.sides.now.items) c.args.values.now.items (clean c.args.by.right.now) is.redex c.args.by.rule is.rule (λ q. (free q).around a.holds.stand a.holds.leads) t e z)

pub returns-clause-means : goal.returns-clause-means
returns-clause-means c = λ K k run a is free.
    let there : IsApplied K.over K.rank c.args.by (all_moves K.over c.args.sides.now.items) c.as_slice.result.now c.args.term = rw c.as_slice.ensures.value is in
    let z = rw (c.in-TooLarge.is, c.as_slice.ensures.value) at (c.in_ok-fit_here.ensures K k (all_moves K.over c.args.sides.now.items) c.args.term run (walked K k (data_of K.over c.args.machine.now) c.args.term a.holds) there) in
    c.in_ok-fired-in-TooLarge.ensures.means K c.args.by.rule k run (walked K k (data_of K.over c.args.machine.now) c.args.term a.holds)
    (λ t e. statement_large K c.args.facts.now run k (data_of K.over c.args.machine.now) c.args.term (walked K k (data_of K.over c.args.machine.now) c.args.term a.holds) a.seen c.args.by.number (all_moves K.over c.args.sides.now.items) c.args.values.now.items (clean c.args.by.right.now) is.redex c.args.by.rule is.rule (λ q. (free q).around a.holds.stand a.holds.leads) t e z.0 z.1)

pub returns-in-TooDeep-clause-same : goal.returns-in-TooDeep-clause-same
returns-in-TooDeep-clause-same c = λ K k t run a all.
    let h = walked K k (data_of K.over c.args.machine.now) c.args.term a.holds in
    subst (λ u. IsRefusedAs u c.in_ok-fired-in-TooDeep.fired) (all h.stand h.leads) (c.in_ok-fired-in-TooDeep.ensures.same K k run h)

pub returns-clause-same : goal.returns-clause-same
returns-clause-same c = λ K k t run a all.
    let h = walked K k (data_of K.over c.args.machine.now) c.args.term a.holds in
    subst (λ u. IsRefusedAs u c.in_ok-fired-in-TooLarge.fired) (all h.stand h.leads) (c.in_ok-fired-in-TooLarge.ensures.same K k run h)
