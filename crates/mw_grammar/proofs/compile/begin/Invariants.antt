use Rattle.std.proofs.Common.{ℕ, ◌≡◌, ◌<◌, Some, length}
use Rattle.std.specs.List.{slice_get}
use Rattle.mw_chart.specs.declared.table.Next.TheVariants.{Whole}
use Rattle.mw_grammar.proofs.compile.begin.Given as goal

-- the kinds so far have their states
pub record HasKinds (l : goal.Live-loop-kind) : Type 0 where
  pub count : length l.steps.items ≡ l.kind
  pub kinds : (K : ℕ) → K < l.kind → slice_get l.steps.items K ≡ Some (Whole K 0)

abbrev pub invariant-loop-kind : goal.invariant-loop-kind
invariant-loop-kind l = HasKinds l
