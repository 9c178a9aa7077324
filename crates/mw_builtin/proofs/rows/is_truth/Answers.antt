use Rattle.std.proofs.Common.{◌≡◌, ◌∙◌, [], ◌∷◌, ap, sym, subst}
use Rattle.std.specs.Prelude.{codes}
use Rattle.mw_logic.specs.Signature.{Operator}
use Rattle.mw_logic.specs.Module.{AreKindsOf}
use Rattle.mw_builtin.proofs.Naming.{is_named, named_args, named_result, some_kinds, no_kinds}
use Rattle.mw_builtin.proofs.rows.is_truth.Goals as goal

pub returns-then-not-is_empty : goal.returns-then-not-is_empty
returns-then-not-is_empty c sig f spelling ok e k is s =
    let args : c.as_slice.result.now ≡ c.args.operator.now.args = c.as_slice.ensures ∙ ap (λ (p : Operator). p.args) c.operator.view_is in
    (λ t. cc, λ h. absurd (some_kinds sig c.as_slice.result.now c.args.operator.now.args c.is_empty.result args c.is_empty.ensures c.if-not-is_empty.true (named_args sig f c.args.operator.now is h)))

pub returns : goal.returns
returns c sig f spelling ok e k is s =
    let o : Operator = c.args.operator.now in
    let args : c.as_slice.result.now ≡ o.args = c.as_slice.ensures ∙ ap (λ (p : Operator). p.args) c.operator.view_is in
    let result : c.operator.inside.result ≡ o.result = ap (λ (p : Operator). p.result) c.operator.view_is in
    let one = c.is_of.ensures sig (codes "Bool") ok e k.truths in (
      λ t. is_named sig f o is spelling [] (codes "Bool") s (no_kinds sig c.as_slice.result.now o.args c.is_empty.result args c.is_empty.ensures c.if-not-is_empty.false) (subst (λ r. AreKindsOf sig (r ∷ []) (codes "Bool" ∷ [])) result (one.0 t)),
      λ h. one.1 (subst (λ r. AreKindsOf sig (r ∷ []) (codes "Bool" ∷ [])) (sym result) (named_result sig f o is h)),
    )
