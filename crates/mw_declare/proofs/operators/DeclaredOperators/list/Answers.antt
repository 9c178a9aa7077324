use Rattle.std.proofs.Common.{◌≡◌, ◌∙◌, ◌++◌, ◌∷◌, [], List, map, ap, sym, append_assoc}
use Rattle.mw_logic.specs.Signature.{Operator}
use Rattle.mw_declare.specs.Operators.{Declared, identity_in, operator_of, operator_with}
use Rattle.mw_declare.specs.Seen.{seen_operator}
use Rattle.mw_declare.proofs.Tables.{operators_held}
use Rattle.mw_declare.proofs.operators.DeclaredOperators.list.Goals as goal

pub loop-profile-preserved : goal.loop-profile-preserved
loop-profile-preserved c =
    let all = c.args.self in
    let o = seen_operator (c.in-Some.profile, c.in-Some.said) in
    let rest = operators_held c.next.new.self in
    let held : operators_held c.loop-profile.profile-iterator ≡ o ∷ rest = ap operators_held c.in-Some.ensures.steps in
    let split = c.first_of-identity.ensures (identity_in c.args.built all o) (map (identity_in c.args.built all) rest) (c.loop-profile.invariant.left ∙ ap (map (identity_in c.args.built all)) held) in
    let made : c.in_ok-operator_of.field-0 ≡ operator_of c.args.built all o = c.in_ok-operator_of.ensures ∙ ap (λ i. operator_with c.args.built.truth i o) split.0 in
    record {
      same = ap (λ (os : List Operator). os ++ map (operator_of c.args.built all) rest) c.in_ok-push.ensures.items
          ∙ append_assoc c.loop-profile.operators.items (c.in_ok-operator_of.field-0 ∷ []) (map (operator_of c.args.built all) rest)
          ∙ ap (λ (p : Operator). c.loop-profile.operators.items ++ p ∷ map (operator_of c.args.built all) rest) made
          ∙ ap (λ (os : List Declared). c.loop-profile.operators.items ++ map (operator_of c.args.built all) os) (sym held) ∙ c.loop-profile.invariant.same;
      left = split.1;
    }
