use Rattle.std.proofs.Common.{◌≡◌}
use Rattle.mw_frames.specs.Machines.{data_of}
use Rattle.mw_frames.specs.Redex.{walked}
use Rattle.mw_deduction.specs.Standing.{round}
use Rattle.mw_frames.proofs.Refusing.{is_part_there}
use Rattle.mw_frames.proofs.meeting.halt_term.Goals as goal

pub returns-in_ok-whole-in-None : goal.returns-in_ok-whole-in-None
returns-in_ok-whole-in-None c = λ K k w form run a part raw clean is.
    let e : w ≡ c.args.term = rw c.in-None.is at part in
    let h = a.holds in
    let (z, q) = c.in_ok-whole-in-None.ensures K k run (record { stand = h.stand; leads = h.leads; opened = h.opened; hand = h.hand }) in
    (z, (round K.over.signature h.stand.opens, is_part_there K c.args.facts.now run k (data_of K.over c.args.machine.now) c.args.term (walked K k (data_of K.over c.args.machine.now) c.args.term a.holds) a.seen form c.in_ok-whole-in-None.whole raw clean (rw e at is) q))

pub returns-in_ok-whole-in-Some : goal.returns-in_ok-whole-in-Some
returns-in_ok-whole-in-Some c = λ K k w form run a part raw clean is.
    let t = rw c.in-Some.is at part in
    c.in_ok-whole-in-Some.ensures K k w form run a (rw c.as_slice.ensures t) raw clean is
