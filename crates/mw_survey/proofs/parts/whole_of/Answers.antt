use Rattle.std.proofs.Common.{arith}
use Rattle.mw_survey.proofs.Again.{fewer_than_two, two_or_more}
use Rattle.mw_survey.proofs.parts.whole_of.Goals as goal

pub returns-then-elements-lt2-clause-some : goal.returns-then-elements-lt2-clause-some
returns-then-elements-lt2-clause-some c = λ s. absurd (fewer_than_two c.args.elements.now c.if-elements-lt2.true s)

pub returns-clause-none : goal.returns-clause-none
returns-clause-none c = λ n. let l = c.if-elements-lt2.false in absurd (n (two_or_more c.args.elements.now (omega (arith, l))))
