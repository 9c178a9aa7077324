use Rattle.std.proofs.Common.{◌∙◌, ℕ, List, ap, subst}
use Rattle.mw_logic.specs.Signature.{Operator, Member}
use Rattle.mw_carry.proofs.carrier.Carrier.profile.Goals as goal

pub kinds-requires : goal.kinds-requires
kinds-requires c K m =
    c.requires.args K (subst (λ (Ks : List ℕ). Member K Ks) (c.as_slice-2.ensures ∙ ap (λ (o : Operator). o.args) c.operator.view_is) m)
