use Rattle.std.proofs.Common.{◌≡◌, ◌∙◌, length, sym, subst}
use Rattle.mw_logic.specs.Signature.{Signature}
use Rattle.mw_carry.specs.Profiles.{IsProfiled}
use Rattle.mw_carry.specs.Tables.{FindOperators, IsFound, operator_in, seen_profile}
use Rattle.mw_carry.proofs.target.Target.operator.Goals as goal

pub returns : goal.returns
returns c =
    let sig = c.args.self.now in
    let p = seen_profile c.args.profile.now in
    let es = c.self.inside.operators.entries in
    let found : c.copied.result ≡ operator_in es p = c.copied.ensures ∙ c.get.ensures.value in
    let all : FindOperators sig (length sig.operators) es = subst (λ (s : Signature). FindOperators s (length s.operators) es) c.self.view_is c.self.invariant.operators in
    subst (IsFound (length sig.operators) (IsProfiled sig p)) (sym found) (all p)
