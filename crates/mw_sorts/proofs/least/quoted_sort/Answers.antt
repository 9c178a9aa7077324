use Rattle.std.proofs.Common.{◌∙◌, ℕ, sym, subst}
use Rattle.std.specs.Prelude.{codes}
use Rattle.mw_logic.specs.Signature.{IsSortNamed}
use Rattle.mw_sorting.specs.ComputedSorts.{quoted_sort}
use Rattle.mw_sorts.proofs.Getting.{some_same}
use Rattle.mw_sorts.proofs.least.quoted_sort.Goals as goal

pub returns-in-Some : goal.returns-in-Some
returns-in-Some c = λ sig q t qid.
    let (S, e, n) = t.quoted qid in
    let same = some_same (sym e ∙ c.in-Some.is) in
    quoted_sort (subst (λ (T : ℕ). IsSortNamed sig T (codes "Qid")) same n)
