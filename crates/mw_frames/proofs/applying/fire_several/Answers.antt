use Rattle.std.specs.Prelude.{IsTrue}
use Rattle.std.proofs.Common.{◌∙◌, sym, subst, reverse}
use Rattle.mw_logic.specs.Parts.{IsFrozen}
use Rattle.mw_deduction.specs.Standing.{round}
use Rattle.mw_pattern.specs.Clean.{clean}
use Rattle.mw_frames.specs.Machines.{data_of, all_moves}
use Rattle.mw_frames.specs.Arrivals.{IsNewFrame}
use Rattle.mw_frames.specs.Redex.{MayFire, HasOnTop, walked}
use Rattle.mw_frames.specs.Fires.{IsApplied, IsRefusedAs}
use Rattle.mw_frames.specs.Taking.{IsPartAsked}
use Rattle.mw_frames.proofs.Applications.{same_frame}
use Rattle.mw_frames.proofs.Refusing.{statement_deep, statement_large}
use Rattle.mw_frames.proofs.OpenHoles.{open_part}
use Rattle.mw_frames.proofs.applying.fire_several.Goals as goal

pub returns-in_ok-go_several-in-Fits-clause-means : goal.returns-in_ok-go_several-in-Fits-clause-means
returns-in_ok-go_several-in-Fits-clause-means c = λ K k w run a part is free.
    let m = c.args.machine.now in
    let n = c.take_out.new.machine in
    let f = c.in_ok-frame.frame in
    let new : IsNewFrame c.args.facts.now (reverse m.frames.items) m.done.items m.jobs.items f.op f = same_frame c.args.facts.now (reverse m.frames.items) m.done.items m.jobs.items c.top_of.result f c.in_ok-frame.ensures in
    let on : HasOnTop f.op c.args.term = λ g ts e. c.top_of.ensures.top g ts e ∙ sym c.in_ok-frame.ensures.operator in
    let inside : IsPartAsked K k (data_of K.over n) f w a.holds.stand = c.in_ok-taken.ensures.asked K k w run a.holds new on part in
    let unfrozen : IsTrue c.args.by.rule → ¬ IsFrozen K.over.signature (round K.over.signature inside.asked.holds.stand.opens) =
    λ q. open_part K c.args.facts.now run k (data_of K.over m) (data_of K.over n) c.args.term w c.args.numbers.now f a.holds inside (free q) (rw run.signature part) on in
    let there : IsApplied K.over K.rank c.args.by (all_moves K.over c.args.sides.now.items) c.as_slice.result.now w = rw c.as_slice.ensures.value is in
    let z = rw (c.in-Fits.is, c.as_slice.ensures.value) at (c.in_ok-fit_here.ensures K k (all_moves K.over c.args.sides.now.items) w run (walked K k (data_of K.over n) w inside.asked.holds) there) in
    let may : MayFire K c.args.by.rule k (data_of K.over n) c.args.by.number (all_moves K.over c.args.sides.now.items) c.args.values.now.items (clean c.args.by.right.now) w =
    record { redex = is.redex; rule = is.rule; known = inside.asked.holds.job; stands = record { in_hand = walked K k (data_of K.over n) w inside.asked.holds; seen = inside.asked.seen; low = z.0; small = z.1 }; free = unfrozen } in
    c.in_ok-go_several-in-Fits.ensures K k w a.holds.stand run inside may is

pub returns-in_ok-fired-in-TooDeep-clause-means : goal.returns-in_ok-fired-in-TooDeep-clause-means
returns-in_ok-fired-in-TooDeep-clause-means c = λ K k w run a part is free.
    let m = c.args.machine.now in
    let n = c.take_out.new.machine in
    let f = c.in_ok-frame.frame in
    let new : IsNewFrame c.args.facts.now (reverse m.frames.items) m.done.items m.jobs.items f.op f = same_frame c.args.facts.now (reverse m.frames.items) m.done.items m.jobs.items c.top_of.result f c.in_ok-frame.ensures in
    let on : HasOnTop f.op c.args.term = λ g ts e. c.top_of.ensures.top g ts e ∙ sym c.in_ok-frame.ensures.operator in
    let inside : IsPartAsked K k (data_of K.over n) f w a.holds.stand = c.in_ok-taken.ensures.asked K k w run a.holds new on part in
    let unfrozen : IsTrue c.args.by.rule → ¬ IsFrozen K.over.signature (round K.over.signature inside.asked.holds.stand.opens) =
    λ q. open_part K c.args.facts.now run k (data_of K.over m) (data_of K.over n) c.args.term w c.args.numbers.now f a.holds inside (free q) (rw run.signature part) on in
    let there : IsApplied K.over K.rank c.args.by (all_moves K.over c.args.sides.now.items) c.as_slice.result.now w = rw c.as_slice.ensures.value is in
    let z = rw (c.in-TooDeep.is, c.as_slice.ensures.value) at (c.in_ok-fit_here.ensures K k (all_moves K.over c.args.sides.now.items) w run (walked K k (data_of K.over n) w inside.asked.holds) there) in
    c.in_ok-fired-in-TooDeep.ensures.means K c.args.by.rule k w run (c.in_ok-taken.ensures.taken c.args.facts.now w on part) (walked K k (data_of K.over n) w inside.asked.holds)
    (λ t e. statement_deep K c.args.facts.now run k (data_of K.over n) w (walked K k (data_of K.over n) w inside.asked.holds) inside.asked.seen c.args.by.number (all_moves K.over c.args.sides.now.items) c.args.values.now.items (clean c.args.by.right.now) is.redex c.args.by.rule is.rule unfrozen t e z)

pub returns-in_ok-fired-in-TooLarge-clause-means : goal.returns-in_ok-fired-in-TooLarge-clause-means
returns-in_ok-fired-in-TooLarge-clause-means c = λ K k w run a part is free.
    let m = c.args.machine.now in
    let n = c.take_out.new.machine in
    let f = c.in_ok-frame.frame in
    let new : IsNewFrame c.args.facts.now (reverse m.frames.items) m.done.items m.jobs.items f.op f = same_frame c.args.facts.now (reverse m.frames.items) m.done.items m.jobs.items c.top_of.result f c.in_ok-frame.ensures in
    let on : HasOnTop f.op c.args.term = λ g ts e. c.top_of.ensures.top g ts e ∙ sym c.in_ok-frame.ensures.operator in
    let inside : IsPartAsked K k (data_of K.over n) f w a.holds.stand = c.in_ok-taken.ensures.asked K k w run a.holds new on part in
    let unfrozen : IsTrue c.args.by.rule → ¬ IsFrozen K.over.signature (round K.over.signature inside.asked.holds.stand.opens) =
    λ q. open_part K c.args.facts.now run k (data_of K.over m) (data_of K.over n) c.args.term w c.args.numbers.now f a.holds inside (free q) (rw run.signature part) on in
    let there : IsApplied K.over K.rank c.args.by (all_moves K.over c.args.sides.now.items) c.as_slice.result.now w = rw c.as_slice.ensures.value is in
    let z = rw (c.in-TooLarge.is, c.as_slice.ensures.value) at (c.in_ok-fit_here.ensures K k (all_moves K.over c.args.sides.now.items) w run (walked K k (data_of K.over n) w inside.asked.holds) there) in
    c.in_ok-fired-in-TooLarge.ensures.means K c.args.by.rule k w run (c.in_ok-taken.ensures.taken c.args.facts.now w on part) (walked K k (data_of K.over n) w inside.asked.holds)
    (λ t e. statement_large K c.args.facts.now run k (data_of K.over n) w (walked K k (data_of K.over n) w inside.asked.holds) inside.asked.seen c.args.by.number (all_moves K.over c.args.sides.now.items) c.args.values.now.items (clean c.args.by.right.now) is.redex c.args.by.rule is.rule unfrozen t e z.0 z.1)

pub returns-in_ok-fired-in-TooDeep-clause-same : goal.returns-in_ok-fired-in-TooDeep-clause-same
returns-in_ok-fired-in-TooDeep-clause-same c = λ K k w t run a part all.
    let m = c.args.machine.now in
    let n = c.take_out.new.machine in
    let f = c.in_ok-frame.frame in
    let new : IsNewFrame c.args.facts.now (reverse m.frames.items) m.done.items m.jobs.items f.op f = same_frame c.args.facts.now (reverse m.frames.items) m.done.items m.jobs.items c.top_of.result f c.in_ok-frame.ensures in
    let on : HasOnTop f.op c.args.term = λ g ts e. c.top_of.ensures.top g ts e ∙ sym c.in_ok-frame.ensures.operator in
    let inside : IsPartAsked K k (data_of K.over n) f w a.holds.stand = c.in_ok-taken.ensures.asked K k w run a.holds new on part in
    subst (λ u. IsRefusedAs u c.in_ok-fired-in-TooDeep.fired) (inside.same ∙ all a.holds.stand a.holds.leads) (c.in_ok-fired-in-TooDeep.ensures.same K k w run (c.in_ok-taken.ensures.taken c.args.facts.now w on part) (walked K k (data_of K.over n) w inside.asked.holds))

pub returns-in_ok-fired-in-TooLarge-clause-same : goal.returns-in_ok-fired-in-TooLarge-clause-same
returns-in_ok-fired-in-TooLarge-clause-same c = λ K k w t run a part all.
    let m = c.args.machine.now in
    let n = c.take_out.new.machine in
    let f = c.in_ok-frame.frame in
    let new : IsNewFrame c.args.facts.now (reverse m.frames.items) m.done.items m.jobs.items f.op f = same_frame c.args.facts.now (reverse m.frames.items) m.done.items m.jobs.items c.top_of.result f c.in_ok-frame.ensures in
    let on : HasOnTop f.op c.args.term = λ g ts e. c.top_of.ensures.top g ts e ∙ sym c.in_ok-frame.ensures.operator in
    let inside : IsPartAsked K k (data_of K.over n) f w a.holds.stand = c.in_ok-taken.ensures.asked K k w run a.holds new on part in
    subst (λ u. IsRefusedAs u c.in_ok-fired-in-TooLarge.fired) (inside.same ∙ all a.holds.stand a.holds.leads) (c.in_ok-fired-in-TooLarge.ensures.same K k w run (c.in_ok-taken.ensures.taken c.args.facts.now w on part) (walked K k (data_of K.over n) w inside.asked.holds))
