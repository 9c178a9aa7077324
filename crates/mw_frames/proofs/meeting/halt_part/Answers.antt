use Rattle.std.proofs.Common.{◌≡◌, ◌∙◌, sym, reverse}
use Rattle.mw_frames.specs.Machines.{data_of}
use Rattle.mw_frames.specs.Arrivals.{IsNewFrame}
use Rattle.mw_frames.specs.Redex.{HasOnTop, Stands, walked}
use Rattle.mw_frames.specs.Taking.{IsPartAsked}
use Rattle.mw_frames.proofs.Applications.{same_frame}
use Rattle.mw_deduction.specs.Standing.{round}
use Rattle.mw_frames.proofs.Refusing.{is_part_there}
use Rattle.mw_frames.proofs.meeting.halt_part.Goals as goal

pub returns : goal.returns
returns c = λ K k w form run a part raw clean is.
    let m = c.args.machine.now in
    let n = c.take_out.new.machine in
    let f = c.in_ok-frame.frame in
    let new : IsNewFrame c.args.facts.now (reverse m.frames.items) m.done.items m.jobs.items f.op f = same_frame c.args.facts.now (reverse m.frames.items) m.done.items m.jobs.items c.top_of.result f c.in_ok-frame.ensures in
    let on : HasOnTop f.op c.args.term = λ g ts e. c.top_of.ensures.top g ts e ∙ sym c.in_ok-frame.ensures.operator in
    let inside : IsPartAsked K k (data_of K.over n) f w a.holds.stand = c.in_ok-taken.ensures.asked K k w run a.holds new on part in
    let e : w ≡ c.in_ok-part.part = c.in_ok-taken.ensures.taken c.args.facts.now w on part ∙ sym c.in_ok-part.ensures in
    let h = inside.asked.holds in
    let s : Stands K k (data_of K.over n) w = record { stand = h.stand; leads = h.leads; opened = h.opened; hand = h.hand } in
    let s' : Stands K k (data_of K.over n) c.in_ok-part.part = record { stand = h.stand; leads = h.leads; opened = h.opened; hand = h.hand ∙ e } in
    let (z, q) = c.in_ok-whole.ensures K k run s' in
    (z, (round K.over.signature h.stand.opens, is_part_there K c.args.facts.now run k (data_of K.over n) w (walked K k (data_of K.over n) w inside.asked.holds) inside.asked.seen form c.in_ok-whole.whole raw clean is q))
