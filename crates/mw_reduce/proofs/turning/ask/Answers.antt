use Rattle.std.specs.Prelude.{[]}
use Rattle.mw_frames.specs.Machines.{data_of}
use Rattle.mw_frames.specs.Steps.{asked_term}
use Rattle.mw_reduce.proofs.Asks.{none_failed}
use Rattle.mw_reduce.proofs.turning.ask.Goals as goal

pub returns-in-Gives-clause-means : goal.returns-in-Gives-clause-means
returns-in-Gives-clause-means c = λ K k side run here a. record { asked = a; given = rw c.in-Gives.is at (c.in_ok-take.ensures K k run here a) }

pub returns-in-TooBig-clause-means : goal.returns-in-TooBig-clause-means
returns-in-TooBig-clause-means c = λ K k side run here a. record { asked = a; big = rw c.in-TooBig.is at (c.in_ok-take.ensures K k run here a) }

pub returns-in_ok-event-in-Nothing-clause-means : goal.returns-in_ok-event-in-Nothing-clause-means
returns-in_ok-event-in-Nothing-clause-means c = λ K k side run here a.
    c.in_ok-event-in-Nothing.ensures.means K k side [] run here a (rw c.in-Nothing.is at (c.in_ok-take.ensures K k run here a)) (none_failed K.over K.rank)
    (c.again.ensures.covers K.over c.args.index.now (asked_term (data_of K.over c.args.machine.now) c.args.asked))

pub returns-in_ok-event-in-Nothing-clause-falls : goal.returns-in_ok-event-in-Nothing-clause-falls
returns-in_ok-event-in-Nothing-clause-falls c = λ M w h. c.in_ok-event-in-Nothing.ensures.falls M w h
