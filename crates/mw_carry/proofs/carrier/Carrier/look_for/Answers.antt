use Rattle.std.proofs.Common.{◌≡◌, ◌∙◌, List, length, sym, ap, subst}
use Rattle.mw_logic.specs.Signature.{Signature, Operator, IsOperator, at_number}
use Rattle.mw_logic.specs.Preregular.{HasItsSorts}
use Rattle.mw_carry.specs.Carried.{IsPart}
use Rattle.mw_carry.specs.Carriage.{Carriage}
use Rattle.mw_carry.specs.Profiles.{IsProfiled}
use Rattle.mw_carry.specs.Tables.{IsFound, seen_profile}
use Rattle.mw_carry.proofs.Profiles.{found_stands}
use Rattle.mw_carry.proofs.carrier.Carrier.look_for.Goals as goal

pub profile-requires-clause-args : goal.profile-requires-clause-args
profile-requires-clause-args c K m =
    let all = c.as_slice.ensures ∙ ap (λ (s : Signature). s.operators) c.from.view_is ∙ ap (λ (b : Carriage). b.from.operators) c.self.view_is in
    let is : IsOperator c.args.self.now.from c.args.operator c.in-Some.known.now = ap (λ (os : List Operator). at_number os c.args.operator) (sym all) ∙ sym c.in-Some.ensures in
    let numbers : HasItsSorts c.args.self.now.from = subst (λ (b : Carriage). HasItsSorts b.from) c.self.view_is c.self.invariant.numbers in
    numbers.args c.args.operator c.in-Some.known.now is K m

pub returns : goal.returns
returns c =
    let both = c.args.self.now in
    let all = c.as_slice.ensures ∙ ap (λ (s : Signature). s.operators) c.from.view_is ∙ ap (λ (b : Carriage). b.from.operators) c.self.view_is in
    let is : IsOperator both.from c.args.operator c.in-Some.known.now = ap (λ (os : List Operator). at_number os c.args.operator) (sym all) ∙ sym c.in-Some.ensures in
    let to : c.self.inside.to.now ≡ both.to = ap (λ (b : Carriage). b.to) c.self.view_is in
    let part : IsPart both.from both.to = subst (λ (b : Carriage). IsPart b.from b.to) c.self.view_is c.self.invariant.part in
    let p = seen_profile c.in_ok-profile.profile in
    found_stands both.from both.to part c.args.operator c.in-Some.known.now p is c.in_ok-profile.ensures c.operator.result
    (subst (λ (s : Signature). IsFound (length s.operators) (IsProfiled s p) c.operator.result) to c.operator.ensures)
