use Rattle.std.proofs.Common.{rules}
use Rattle.mw_frames.proofs.Fitting.{surely_low}
use Rattle.mw_frames.proofs.limits.is_surely_low.Goals as goal

pub returns-then-above-le-LEVELS : goal.returns-then-above-le-LEVELS
returns-then-above-le-LEVELS c = λ p e x. surely_low c.args.values.now p c.args.above c.args.levels c.deepest.result e c.deepest.ensures (search rules)
