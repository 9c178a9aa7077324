use Rattle.mw_reduce.proofs.drive.join_some.Goals as goal

pub returns-in_ok-joined-in-Term : goal.returns-in_ok-joined-in-Term
returns-in_ok-joined-in-Term c = λ K k run here asked. c.in_ok-joined-in-Term.ensures K k run here (rw c.in-Term.is at asked)
