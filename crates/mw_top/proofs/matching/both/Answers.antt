use Rattle.mw_top.proofs.Giving.{match_ok, match_err}
use Rattle.mw_top.proofs.Told.{first_alone, second_alone}
use Rattle.mw_top.proofs.matching.both.Goals as goal

pub returns-in-Ok : goal.returns-in-Ok
returns-in-Ok c = λ a p t h k. second_alone a p t c.in-Err-subject.kind (match_ok _ _ c.args.pattern h c.in-Ok.pattern c.in-Ok.is).0 (match_err _ _ c.args.subject k c.in-Err-subject.kind c.in-Err-subject.is)

pub returns-in-Ok-subject-2 : goal.returns-in-Ok-subject-2
returns-in-Ok-subject-2 c = λ a p t h k. first_alone a p t c.in-Err.kind (match_err _ _ c.args.pattern h c.in-Err.kind c.in-Err.is) (match_ok _ _ c.args.subject k c.in-Ok-subject-2.field-0 c.in-Ok-subject-2.is).0
