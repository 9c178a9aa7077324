use Rattle.std.proofs.Common.{◌∙◌, subst, sym}
use Rattle.mw_term.specs.Raws.{raw_term}
use Rattle.mw_least.specs.Workable.{IsWorkable}
use Rattle.mw_top.specs.Matches.{opened}
use Rattle.mw_top.proofs.Told.{sides_so}
use Rattle.mw_top.proofs.matching.ground_sides.Goals as goal

pub returns-then-not-is_ground : goal.returns-then-not-is_ground
returns-then-not-is_ground c = λ left right read. opened _ _ read (sym c.is_ground.ensures ∙ c.if-not-is_ground.true)

pub returns : goal.returns
returns c = λ left right read.
    sides_so c.args.accepted.now (subst IsWorkable c.context.ensures c.shows.ensures) left right (raw_term c.args.pattern.now) (raw_term c.args.subject.now) read c.requires.pattern c.requires.subject
    (sym c.is_ground.ensures ∙ c.if-not-is_ground.false) c.in_ok-sides.sides c.in_ok-sides.ensures
