use Rattle.std.proofs.Common.{◌≡◌, ap, subst}
use Rattle.mw_logic.specs.Parts.{nested}
use Rattle.mw_logic.specs.NormalForm.{normal_form}
use Rattle.mw_logic.specs.Signature.{Signature, IsRawTerm}
use Rattle.mw_logic.specs.Sorts.{IsLeastSort}
use Rattle.mw_logic.specs.Module.{Module}
use Rattle.mw_term.specs.Signatures.{sorted_of}
use Rattle.mw_least.proofs.context.Ctx.least_sort.Goals as goal

pub returns : goal.returns
returns c =
    let t = c.args.term.now in
    let P : Signature → Type 0 = λ g. normal_form g (nested g t) ≡ t → IsRawTerm g (nested g t) → IsLeastSort g (nested g t) (sorted_of c.least_sort.result) in
    let here : P c.self.inside.facts = c.least_sort.ensures c.self.inside.facts c.self.invariant.tables c.self.invariant.workable.signature in
    subst P (ap (λ (M : Module). M.signature) c.self.view_is) here
