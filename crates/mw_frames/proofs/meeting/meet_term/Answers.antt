use Rattle.mw_frames.proofs.meeting.meet_term.Goals as goal

pub returns-in_ok-fired-in-Some : goal.returns-in_ok-fired-in-Some
returns-in_ok-fired-in-Some c = λ K k w run a part row.
    let t = rw c.in-Some.is at part in
    c.in_ok-fired-in-Some.ensures K k w run a (rw c.as_slice.ensures t) row
