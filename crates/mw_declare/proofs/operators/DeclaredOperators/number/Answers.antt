use Rattle.std.proofs.Common.{◌≡◌, ◌∙◌, ◌+◌, suc, position, option_map, unwrap_or, ap, arith}
use Rattle.mw_declare.specs.Operators.{Declared, same_profile}
use Rattle.mw_declare.specs.Seen.{seen_profile}
use Rattle.mw_declare.proofs.Tables.{operators_held, held_position}
use Rattle.mw_declare.proofs.operators.DeclaredOperators.number.Goals as goal

pub returns-in-None : goal.returns-in-None
returns-in-None c =
    let p = seen_profile c.args.profile.now in
    let held : operators_held c.deref.result.now.entries ≡ c.args.self.now = ap (λ t. operators_held t.entries) c.deref.ensures ∙ c.self.view_is in
    let place = c.in-None.ensures.index ∙ held_position p c.deref.result.now.entries ∙ ap (position (λ (o : Declared). same_profile p o.profile)) held in
    ap (λ o. unwrap_or (option_map suc o) 0) place

pub returns-in-Some : goal.returns-in-Some
returns-in-Some c =
    let p = seen_profile c.args.profile.now in
    let held : operators_held c.deref.result.now.entries ≡ c.args.self.now = ap (λ t. operators_held t.entries) c.deref.ensures ∙ c.self.view_is in
    let place = c.in-Some.ensures.index ∙ held_position p c.deref.result.now.entries ∙ ap (position (λ (o : Declared). same_profile p o.profile)) held in
    let next : c.in-Some.place + 1 ≡ suc c.in-Some.place = omega arith in
    next ∙ ap (λ o. unwrap_or (option_map suc o) 0) place
