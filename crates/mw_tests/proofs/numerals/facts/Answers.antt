use Rattle.std.proofs.Common.{◌∙◌, subst, sym}
use Rattle.mw_logic.specs.Accepted.{IsAccepted}
use Rattle.mw_logic.specs.Preregular.{HasItsSorts}
use Rattle.mw_tests.proofs.Numbers.{accepted, sorts_held}
use Rattle.mw_tests.proofs.numerals.facts.Goals as goal

pub of-requires-clause-accepted : goal.of-requires-clause-accepted
of-requires-clause-accepted c = subst IsAccepted (sym (c.into_inner.ensures ∙ c.in_ok-signature.ensures)) accepted

pub of-requires-clause-sorts : goal.of-requires-clause-sorts
of-requires-clause-sorts c = subst HasItsSorts (sym (c.into_inner.ensures ∙ c.in_ok-signature.ensures)) sorts_held
