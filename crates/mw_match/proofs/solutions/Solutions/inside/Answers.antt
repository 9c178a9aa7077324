use Rattle.std.proofs.Common.{◌∙◌, subst, sym}
use Rattle.mw_solving.specs.Values.{AreValues}
use Rattle.mw_match.proofs.solutions.Solutions.inside.Goals as goal

pub returns-clause-all : goal.returns-clause-all
returns-clause-all c p raw h subject substitution values =
    let e = sym (c.as_slice.ensures.value ∙ c.in_ok-values.ensures) in
    c.in_ok-solutions.ensures.all p c.args.given.now e raw h subject substitution (subst (AreValues c.args.context.now.signature) e values)

pub returns-clause-named : goal.returns-clause-named
returns-clause-named c p raw h subject substitution values =
    let e = sym (c.as_slice.ensures.value ∙ c.in_ok-values.ensures) in
    c.in_ok-solutions.ensures.named p c.args.given.now e raw h subject substitution (subst (AreValues c.args.context.now.signature) e values)
