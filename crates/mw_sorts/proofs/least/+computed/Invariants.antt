use Rattle.std.proofs.Common.{◌+◌, ◌*◌, ◌<◌, ℕ, length}
use Rattle.std.specs.Prelude.{IsTrue}
use Rattle.mw_logic.specs.NormalForm.{height, highest}
use Rattle.mw_logic.specs.Terms.{terms_of}
use Rattle.mw_logic.specs.Signature.{Signature, Operator, IsOperator, IsRawTerm, AreRawTerms}
use Rattle.mw_logic.specs.Parts.{nested, all_nested}
use Rattle.mw_logic.specs.Term.{apply}
use Rattle.mw_term.specs.Signatures.{sorted_of}
use Rattle.mw_sorting.specs.PreregularModulo.{IsPreregularModulo}
use Rattle.mw_sorts.specs.Diagrams.{IsDiagram, AreTablesOf}
use Rattle.mw_sorts.proofs.Computing.{IsWalked, IsFolded}
use Rattle.mw_sorts.proofs.least.+computed.Given as goal

abbrev pub decreases-computed_sort : goal.decreases-computed_sort
decreases-computed_sort l = 3 * height l.term.now

abbrev pub decreases-applied_sort : goal.decreases-applied_sort
decreases-applied_sort l = 3 * highest (terms_of l.args.now) + 2

abbrev pub decreases-result_sort : goal.decreases-result_sort
decreases-result_sort l = 3 * highest (terms_of l.args.now) + 1

abbrev pub decreases-folded_sort : goal.decreases-folded_sort
decreases-folded_sort l = 3 * highest (terms_of l.args.now) + 1

abbrev pub invariant-result_sort-loop-i : goal.invariant-result_sort-loop-i
invariant-result_sort-loop-i l = (sig : Signature) (o : Operator) (tables : AreTablesOf sig l.tables) (ok : IsPreregularModulo sig) → IsDiagram sig l.tables.places o l.diagram → AreRawTerms sig (all_nested sig (terms_of l.args)) o.args
    → IsWalked sig ok l.places l.levels l.diagram.ends o l.args l.i l.row

abbrev pub invariant-folded_sort-loop-i : goal.invariant-folded_sort-loop-i
invariant-folded_sort-loop-i l = (l.i < length l.args) × ((sig : Signature) (f : ℕ) (o : Operator) → AreTablesOf sig l.tables → IsPreregularModulo sig → IsOperator sig f o → IsTrue o.assoc → IsDiagram sig l.tables.places o l.diagram
    → IsRawTerm sig (nested sig (apply f (terms_of l.args))) → IsFolded sig o l.args l.i (sorted_of l.sort))

abbrev pub decreases-folded_sort-loop-i : goal.decreases-folded_sort-loop-i
decreases-folded_sort-loop-i l = l.i
