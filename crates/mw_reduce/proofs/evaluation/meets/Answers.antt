use Rattle.std.proofs.Common.{◌≡◌, IsTrue, sym, subst, ◌∙◌}
use Rattle.mw_logic.specs.Signature.{IsRawTerm}
use Rattle.mw_logic.specs.Parts.{nested}
use Rattle.mw_logic.specs.NormalForm.{normal_form}
use Rattle.mw_logic.specs.Judgements.{MeetsSort}
use Rattle.mw_solving.proofs.Grounds.{nested_ground}
use Rattle.mw_term.specs.Signatures.{sorted_of}
use Rattle.mw_reduce.proofs.evaluation.meets.Goals as goal

pub returns-in-Sort : goal.returns-in-Sort
returns-in-Sort c = λ M n same h.
    let sig = c.args.context.now.signature in
    let t = c.args.term.now in
    let met = c.has_sort.ensures (subst (λ s. normal_form s (nested s t) ≡ t) same h.canonical) (subst (λ s. IsRawTerm s (nested s t)) same h.raw) (sym (nested_ground M.signature t) ∙ h.normal.admitted.ground) in
    subst (λ S. (IsTrue c.has_sort.result → MeetsSort sig (nested sig t) (sorted_of S)) × (MeetsSort sig (nested sig t) (sorted_of S) → IsTrue c.has_sort.result)) (sym c.in-Sort.is) met
