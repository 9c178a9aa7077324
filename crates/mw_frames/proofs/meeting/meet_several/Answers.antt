use Rattle.std.proofs.Common.{◌∙◌, sym, false, reverse}
use Rattle.mw_frames.specs.Machines.{data_of}
use Rattle.mw_frames.specs.Arrivals.{IsNewFrame}
use Rattle.mw_frames.specs.Redex.{MayMeetRow, HasOnTop, walked}
use Rattle.mw_frames.specs.Taking.{IsPartAsked}
use Rattle.mw_frames.proofs.Applications.{same_frame}
use Rattle.mw_frames.proofs.RowsMet.{row_deep, row_large}
use Rattle.mw_frames.proofs.meeting.meet_several.Goals as goal

pub returns-in-Fits : goal.returns-in-Fits
returns-in-Fits c = λ K k w run a part row.
    let m = c.args.machine.now in
    let n = c.take_out.new.machine in
    let f = c.in_ok-frame.frame in
    let new : IsNewFrame c.args.facts.now (reverse m.frames.items) m.done.items m.jobs.items f.op f = same_frame c.args.facts.now (reverse m.frames.items) m.done.items m.jobs.items c.top_of.result f c.in_ok-frame.ensures in
    let on : HasOnTop f.op c.args.term = λ g ts e. c.top_of.ensures.top g ts e ∙ sym c.in_ok-frame.ensures.operator in
    let inside : IsPartAsked K k (data_of K.over n) f w a.holds.stand = c.in_ok-taken.ensures.asked K k w run a.holds new on part in
    let z = rw c.in-Fits.is at (c.in_ok-fit_row.ensures K k w run (walked K k (data_of K.over n) w inside.asked.holds) row) in
    let may : MayMeetRow K k (data_of K.over n) w c.args.to = record { row = row; stands = record { in_hand = walked K k (data_of K.over n) w inside.asked.holds; seen = inside.asked.seen; low = z.0; small = z.1 } } in
    c.in_ok-meet_part-in-Fits.ensures K k w a.holds.stand run inside may

pub returns-in-TooDeep : goal.returns-in-TooDeep
returns-in-TooDeep c = λ K k w run a part row.
    let m = c.args.machine.now in
    let n = c.take_out.new.machine in
    let f = c.in_ok-frame.frame in
    let new : IsNewFrame c.args.facts.now (reverse m.frames.items) m.done.items m.jobs.items f.op f = same_frame c.args.facts.now (reverse m.frames.items) m.done.items m.jobs.items c.top_of.result f c.in_ok-frame.ensures in
    let on : HasOnTop f.op c.args.term = λ g ts e. c.top_of.ensures.top g ts e ∙ sym c.in_ok-frame.ensures.operator in
    let inside : IsPartAsked K k (data_of K.over n) f w a.holds.stand = c.in_ok-taken.ensures.asked K k w run a.holds new on part in
    let z = rw c.in-TooDeep.is at (c.in_ok-fit_row.ensures K k w run (walked K k (data_of K.over n) w inside.asked.holds) row) in
    c.in_ok-fired-in-TooDeep.ensures.means K false k w run (c.in_ok-taken.ensures.taken c.args.facts.now w on part) (walked K k (data_of K.over n) w inside.asked.holds) (λ t e. row_deep K c.args.facts.now run k (data_of K.over n) w c.args.to t (walked K k (data_of K.over n) w inside.asked.holds) inside.asked.seen row e z)

pub returns : goal.returns
returns c = λ K k w run a part row.
    let m = c.args.machine.now in
    let n = c.take_out.new.machine in
    let f = c.in_ok-frame.frame in
    let new : IsNewFrame c.args.facts.now (reverse m.frames.items) m.done.items m.jobs.items f.op f = same_frame c.args.facts.now (reverse m.frames.items) m.done.items m.jobs.items c.top_of.result f c.in_ok-frame.ensures in
    let on : HasOnTop f.op c.args.term = λ g ts e. c.top_of.ensures.top g ts e ∙ sym c.in_ok-frame.ensures.operator in
    let inside : IsPartAsked K k (data_of K.over n) f w a.holds.stand = c.in_ok-taken.ensures.asked K k w run a.holds new on part in
    let z = rw c.in-TooLarge.is at (c.in_ok-fit_row.ensures K k w run (walked K k (data_of K.over n) w inside.asked.holds) row) in
    c.in_ok-fired-in-TooLarge.ensures.means K false k w run (c.in_ok-taken.ensures.taken c.args.facts.now w on part) (walked K k (data_of K.over n) w inside.asked.holds) (λ t e. row_large K c.args.facts.now run k (data_of K.over n) w c.args.to t (walked K k (data_of K.over n) w inside.asked.holds) inside.asked.seen row e z.0 z.1)
