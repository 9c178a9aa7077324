use Rattle.mw_top.proofs.matching.search.Goals as goal

pub returns-then-inside-clause-named : goal.returns-then-inside-clause-named
returns-then-inside-clause-named c = λ p raw is. (rw c.nothing-none.ensures at (c.in_ok-solutions.ensures.named p raw)) is c.requires.subject tt (λ i u e. cc)

pub returns-clause-named : goal.returns-clause-named
returns-clause-named c = λ p raw is. (rw c.nothing-none.ensures at (c.in_ok-solutions-2.ensures.named p raw)) is c.requires.subject tt (λ i u e. cc)
