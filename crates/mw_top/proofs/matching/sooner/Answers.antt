use Rattle.std.proofs.Common.{inl}
use Rattle.std.proofs.lemmas.Bool.{both_ways}
use Rattle.mw_top.specs.Matches.{deep}
use Rattle.mw_top.proofs.Told.{too_deep, second_told}
use Rattle.mw_top.proofs.matching.sooner.Goals as goal

pub returns-then-is_depth : goal.returns-then-is_depth
returns-then-is_depth c = λ a p t h k. deep (inl (too_deep a.module.signature p c.args.pattern.now (c.is_depth.ensures.0 c.if-is_depth.true) h))

pub returns : goal.returns
returns c = λ a p t h k. second_told a p t c.args.pattern.now c.args.subject (λ e. both_ways _ c.if-is_depth.false (c.is_depth.ensures.1 e)) h k
