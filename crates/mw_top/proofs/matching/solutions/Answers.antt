use Rattle.mw_top.proofs.matching.solutions.Goals as goal

pub returns-clause-values : goal.returns-clause-values
returns-clause-values c = λ p raw pattern. c.in_ok-found.ensures.values _ _ (c.in_ok-solutions.ensures.named p raw (rw c.nothing.ensures at (rw pattern at c.in_ok-compiled.ensures)))
