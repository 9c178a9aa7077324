use Rattle.mw_frames.proofs.RowsMet.{branch_normal}
use Rattle.mw_frames.proofs.meeting.met_job.Goals as goal

pub returns-then-is_branch-clause-known : goal.returns-then-is_branch-clause-known
returns-then-is_branch-clause-known c = λ M n vs w row well args. branch_normal M well n w c.args.to row args (c.is_branch.ensures.yes c.if-is_branch.true)
