use Rattle.mw_check.proofs.MeetingEnds.{truth_told, no_truth}
use Rattle.mw_check.proofs.meeting.is_true.Goals as goal

pub returns-in-Some : goal.returns-in-Some
returns-in-Some c =
    let sig = c.args.context.now.signature in
    truth_told sig c.shows.ensures.signature.accepted c.args.term.now c.requires c.in-Some.truth (c.in-Some.ensures sig c.schemata.ensures)

pub returns-in-None : goal.returns-in-None
returns-in-None c =
    let sig = c.args.context.now.signature in
    no_truth sig c.shows.ensures.signature.accepted c.args.term.now c.requires (c.in-None.ensures sig c.schemata.ensures)
