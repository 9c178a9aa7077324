use Rattle.std.proofs.Common.{ap}
use Rattle.mw_canon.specs.Canonical.{meant}
use Rattle.mw_term.specs.Raws.{raw_term}
use Rattle.mw_term.specs.Statements.{fragment_of}
use Rattle.mw_check.proofs.MeetingEnds.{two_met}
use Rattle.mw_check.proofs.meeting.meets.Goals as goal

pub returns-in-len2 : goal.returns-in-len2
returns-in-len2 c =
    let sig = c.args.context.now.signature in
    two_met sig c.shows.ensures.signature.accepted (meant sig c.args.values.now) (fragment_of c.args.fragment.now) (raw_term c.in-Equal.field-0) (raw_term c.in-Equal.field-1) (ap fragment_of c.in-Equal.is) c.args.ends.now
    c.in-len2.len_at_least c.in-len2.len_below c.first-item.result c.second-item.result c.first-item.is c.second-item.is c.requires.ends c.same.result c.same.ensures
