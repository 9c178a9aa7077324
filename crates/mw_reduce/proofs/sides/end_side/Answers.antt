use Rattle.std.proofs.Common.{refl}
use Rattle.mw_frames.specs.Machines.{data_of}
use Rattle.mw_reduce.proofs.SideRuns.{side_done, side_stopped}
use Rattle.mw_reduce.proofs.sides.end_side.Goals as goal

pub returns-in-Done : goal.returns-in-Done
returns-in-Done c = λ M n limit t work raw begins is ran.
    side_done M work n t raw c.args.from begins is limit c.args.machine.kept (data_of M c.args.machine) refl c.args.driven c.in-Done.is ran

pub returns-in-Stopped : goal.returns-in-Stopped
returns-in-Stopped c = λ M n limit t work raw begins is ran.
    side_stopped M work n t raw c.args.from begins is limit c.args.machine.kept (data_of M c.args.machine) refl c.args.driven c.in-Stopped.reason c.in-Stopped.is ran
