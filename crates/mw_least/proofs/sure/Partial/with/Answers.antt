use Rattle.std.proofs.Common.{subst}
use Rattle.mw_term.specs.OperatorSets.{Lacks}
use Rattle.mw_term.proofs.OperatorSets.{lacks_before, has_last}
use Rattle.mw_least.proofs.sure.Partial.with.Goals as goal

pub returns-then-built-clause-more : goal.returns-then-built-clause-more
returns-then-built-clause-more c = λ f h. (h.0, lacks_before c.args.self.built f c.args.operator (subst (λ s. Lacks s f) c.with.ensures h.1))

pub returns-then-built-clause-last : goal.returns-then-built-clause-last
returns-then-built-clause-last c = λ h. has_last c.args.self.built c.args.operator (subst (λ s. Lacks s c.args.operator) c.with.ensures h.1)

pub returns-else-built-clause-more : goal.returns-else-built-clause-more
returns-else-built-clause-more c = λ f h. (lacks_before c.args.self.declared f c.args.operator (subst (λ s. Lacks s f) c.with-else-built.ensures h.0), h.1)

pub returns-else-built-clause-last : goal.returns-else-built-clause-last
returns-else-built-clause-last c = λ h. has_last c.args.self.declared c.args.operator (subst (λ s. Lacks s c.args.operator) c.with-else-built.ensures h.0)
