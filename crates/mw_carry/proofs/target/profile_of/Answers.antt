use Rattle.std.proofs.Common.{subst, ℕ, List, ap, ◌∙◌}
use Rattle.mw_logic.specs.Signature.{Operator, Member}
use Rattle.mw_carry.proofs.target.profile_of.Goals as goal

pub kinds_of-requires : goal.kinds_of-requires
kinds_of-requires c S m =
    c.requires.args S (subst (λ (Ss : List ℕ). Member S Ss) (c.as_slice-2.ensures ∙ ap (λ (o : Operator). o.args) c.operator.view_is) m)
