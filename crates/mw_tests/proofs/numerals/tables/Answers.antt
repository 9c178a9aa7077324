use Rattle.std.proofs.Common.{◌∙◌, subst, sym}
use Rattle.mw_logic.specs.Accepted.{IsAccepted, IsWellSorted}
use Rattle.mw_logic.specs.Preregular.{HasItsSorts}
use Rattle.mw_sorting.specs.PreregularModulo.{HasNaturals}
use Rattle.mw_tests.proofs.Numbers.{accepted, well_sorted, sorts_held, naturals}
use Rattle.mw_tests.proofs.numerals.tables.Goals as goal

pub build-requires-clause-accepted : goal.build-requires-clause-accepted
build-requires-clause-accepted c = subst IsAccepted (sym (c.deref-2.ensures ∙ c.in_ok-signature.ensures)) accepted

pub build-requires-clause-well_sorted : goal.build-requires-clause-well_sorted
build-requires-clause-well_sorted c = subst IsWellSorted (sym (c.deref-2.ensures ∙ c.in_ok-signature.ensures)) well_sorted

pub build-requires-clause-sorts : goal.build-requires-clause-sorts
build-requires-clause-sorts c = subst HasItsSorts (sym (c.deref-2.ensures ∙ c.in_ok-signature.ensures)) sorts_held

pub build-requires-clause-numbers : goal.build-requires-clause-numbers
build-requires-clause-numbers c = λ _. subst HasNaturals (sym (c.deref-2.ensures ∙ c.in_ok-signature.ensures)) naturals
