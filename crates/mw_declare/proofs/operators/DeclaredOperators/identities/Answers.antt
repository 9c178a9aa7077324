use Rattle.std.proofs.Common.{◌∙◌, ◌∷◌, [], ap, sym, map, option_map}
use Rattle.std.proofs.lemmas.List.{map-append}
use Rattle.mw_term.specs.Signatures.{identity_of}
use Rattle.mw_declare.specs.Seen.{seen_operator}
use Rattle.mw_declare.proofs.Tables.{operators_held}
use Rattle.mw_declare.proofs.Wrong.{all_left, one_passed, one_wrong}
use Rattle.mw_declare.proofs.operators.DeclaredOperators.identities.Goals as goal

pub loop-profile-init : goal.loop-profile-init
loop-profile-init c =
    all_left c.args.built c.args.self.now (operators_held c.into_iter-profile-iterator.result) (map (option_map identity_of) c.new-identities.result.items)
    (ap operators_held (c.into_iter-profile-iterator.ensures.into_iter_gives ∙ c.iter-profile-items.ensures.rest) ∙ ap (λ t. operators_held t.entries) c.deref.ensures ∙ c.self.view_is)
    (ap (map (option_map identity_of)) c.new-identities.ensures.items)

pub returns-in-Some-2-clause-fault : goal.returns-in-Some-2-clause-fault
returns-in-Some-2-clause-fault c h numbered least =
    let all = c.args.self.now in
    let o = seen_operator (c.in-Some.profile.now, c.in-Some.said.now) in
    one_wrong c.args.built all (operators_held c.loop-profile.profile-iterator) (operators_held c.next.new.self) o (ap operators_held c.in-Some.ensures.steps)
    (map (option_map identity_of) c.loop-profile.identities.items) c.loop-profile.invariant c.in-Some-2.kind
    (λ h n k. sym c.in-Some-2.is ∙ c.in_ok-kind.ensures h all n k c.in_ok-identity.ensures) c.args.line h numbered least

pub loop-profile-preserved : goal.loop-profile-preserved
loop-profile-preserved c =
    let all = c.args.self.now in
    let o = seen_operator (c.in-Some.profile.now, c.in-Some.said.now) in
    one_passed c.args.built all (operators_held c.loop-profile.profile-iterator) (operators_held c.next.new.self) o (ap operators_held c.in-Some.ensures.steps)
    (map (option_map identity_of) c.loop-profile.identities.items) c.loop-profile.invariant (option_map identity_of c.in_ok-identity.identity) c.in_ok-identity.ensures
    (λ h n k. sym c.in_default.is ∙ c.in_ok-kind.ensures h all n k c.in_ok-identity.ensures) (map (option_map identity_of) c.push.new.self.items)
    (ap (map (option_map identity_of)) c.in_ok-push.ensures.items ∙ map-append (option_map identity_of) c.loop-profile.identities.items (c.in_ok-identity.identity ∷ []))
