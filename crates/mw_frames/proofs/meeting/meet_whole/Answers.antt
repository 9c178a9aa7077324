use Rattle.std.specs.Prelude.{false}
use Rattle.mw_frames.specs.Machines.{data_of}
use Rattle.mw_frames.specs.Redex.{MayMeetRow, walked}
use Rattle.mw_frames.proofs.RowsMet.{row_deep, row_large}
use Rattle.mw_frames.proofs.meeting.meet_whole.Goals as goal

pub returns-in-Fits : goal.returns-in-Fits
returns-in-Fits c = λ K k run a row.
    let z = rw c.in-Fits.is at (c.in_ok-fit_row.ensures K k c.args.term run (walked K k (data_of K.over c.args.machine.now) c.args.term a.holds) row) in
    let may : MayMeetRow K k (data_of K.over c.args.machine.now) c.args.term c.args.to = record { row = row; stands = record { in_hand = walked K k (data_of K.over c.args.machine.now) c.args.term a.holds; seen = a.seen; low = z.0; small = z.1 } } in
    let h = c.in_ok-meet_here-in-Fits.ensures.means K k c.args.facts.now c.args.term run may in
    h c.met_job.result (c.met_job.ensures.term K.over.signature _) (c.met_job.ensures.known K.over K.rank _ c.args.term row run.well a.holds.job)

pub returns-in-TooDeep : goal.returns-in-TooDeep
returns-in-TooDeep c = λ K k run a row.
    let z = rw c.in-TooDeep.is at (c.in_ok-fit_row.ensures K k c.args.term run (walked K k (data_of K.over c.args.machine.now) c.args.term a.holds) row) in
    c.in_ok-fired-in-TooDeep.ensures.means K false k run (walked K k (data_of K.over c.args.machine.now) c.args.term a.holds) (λ t e. row_deep K c.args.facts.now run k (data_of K.over c.args.machine.now) c.args.term c.args.to t (walked K k (data_of K.over c.args.machine.now) c.args.term a.holds) a.seen row e z)

pub returns : goal.returns
returns c = λ K k run a row.
    let z = rw c.in-TooLarge.is at (c.in_ok-fit_row.ensures K k c.args.term run (walked K k (data_of K.over c.args.machine.now) c.args.term a.holds) row) in
    c.in_ok-fired-in-TooLarge.ensures.means K false k run (walked K k (data_of K.over c.args.machine.now) c.args.term a.holds) (λ t e. row_large K c.args.facts.now run k (data_of K.over c.args.machine.now) c.args.term c.args.to t (walked K k (data_of K.over c.args.machine.now) c.args.term a.holds) a.seen row e z.0 z.1)
