use Rattle.std.specs.Prelude.{slice_get}
use Rattle.std.proofs.Common.{◌≡◌, ◌<◌, ℕ, Some}
use Rattle.mw_term.specs.declared.subst.Binding.{Binding}
use Rattle.mw_rule.specs.Finding.{Keeps}
use Rattle.mw_rule.proofs.finding.keeps_all.Given as goal

abbrev pub invariant-loop-pair : goal.invariant-loop-pair
invariant-loop-pair l = (i : ℕ) (b : Binding) → i < l.pair-index → slice_get l.pairs i ≡ Some b → Keeps l.values l.others b.variable
