use Rattle.std.proofs.Common.{rules}
use Rattle.mw_frames.proofs.coming.part_job.Goals as goal

pub returns-then-is_constant-clause-stands : goal.returns-then-is_constant-clause-stands
returns-then-is_constant-clause-stands c = c.in_ok-job-in-Op.ensures.stands c.args.top (search rules)

pub returns-in_ok-job-in-Nat-clause-stands : goal.returns-in_ok-job-in-Nat-clause-stands
returns-in_ok-job-in-Nat-clause-stands c = c.in_ok-job-in-Nat.ensures.stands c.args.top (search rules)
