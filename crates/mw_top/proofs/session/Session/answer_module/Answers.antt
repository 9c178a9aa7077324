use Rattle.std.proofs.Common.{◌≡◌, ◌∙◌, sym, ap, subst, Ok, Some, false}
use Rattle.std.proofs.lemmas.Bool.{both_ways}
use Rattle.mw_module.specs.declared.faults.FaultKind.TheVariants.{AlreadyDefined}
use Rattle.mw_module.specs.Units.{seen_unit}
use Rattle.mw_omod.specs.Declaring.{declared_unit}
use Rattle.mw_build.specs.Modules.{IsAccepted, IsRefused}
use Rattle.mw_top.specs.Sources.{IsNameTaken, Gives, taken, refused, accepted, with_module}
use Rattle.mw_top.proofs.Answering.{if_ok}
use Rattle.mw_top.proofs.Giving.{refused_gives, match_ok, match_err}
use Rattle.mw_top.proofs.Sessions.{is_untaken}
use Rattle.mw_top.proofs.session.Session.answer_module.Goals as goal

pub returns-then-is_taken : goal.returns-then-is_taken
returns-then-is_taken c =
    let u = seen_unit c.args.unit in
    let text : c.as_slice-text.result.now ≡ c.of-name.result = sym (c.of-name.ensures ∙ c.in_ok-to_vec.ensures.items_if_clones_equal (λ x y e. e)) in
    let named = c.requires.named ∙ ap Some (sym c.as_slice-text.ensures ∙ text) in
    let is = subst (IsNameTaken c.args.self.now.modules) text (c.is_taken.ensures.0 c.if-is_taken.true) in
    if_ok c.refused.result c.refused.ensures
    (λ a h. refused_gives c.args.purpose c.args.self.now (Ok u) (record { line = u.line; kind = AlreadyDefined c.of-name.result }) a.text.items a.refused
    (taken u c.of-name.result named is) h)

pub accept-requires-clause-new : goal.accept-requires-clause-new
accept-requires-clause-new c =
    is_untaken c.args.self.now.modules c.as_slice-text.result.now (λ k. both_ways _ c.if-is_taken.false (c.is_taken.ensures.1 k))

pub returns-in_ok-accept-in-Ok : goal.returns-in_ok-accept-in-Ok
returns-in_ok-accept-in-Ok c =
    let u = seen_unit c.args.unit in
    let before = c.args.self.now in
    let text : c.as_slice-text.result.now ≡ c.of-name.result = sym (c.of-name.ensures ∙ c.in_ok-to_vec.ensures.items_if_clones_equal (λ x y e. e)) in
    let named = c.requires.named ∙ ap Some (sym c.as_slice-text.ensures ∙ text) in
    let free : IsNameTaken before.modules c.of-name.result → ⊥ = λ k. both_ways _ c.if-is_taken.false (c.is_taken.ensures.1 (subst (IsNameTaken before.modules) (sym text) k)) in
    let flat = c.in-Ok.built.flat in
    let made = c.in-Ok.built.module in
    let same = c.in_ok-declared.ensures.declared in
    let is : IsAccepted before.units before.modules (declared_unit u) c.of-name.result flat made =
    subst (λ w. IsAccepted before.units before.modules w c.of-name.result flat made) same (match_ok _ _ c.in_ok-built.field-0 c.in_ok-built.ensures c.in-Ok.built c.in-Ok.is) in
    subst (Gives c.args.purpose before (Ok u) c.new.result.items false)
    (sym (c.in_ok-accept-in-Ok.ensures ∙ ap (λ n. with_module before n (seen_unit c.in_ok-declared.declared) flat made) text ∙ ap (λ w. with_module before c.of-name.result w flat made) same))
    (subst (λ t. Gives c.args.purpose before (Ok u) t false (with_module before c.of-name.result (declared_unit u) flat made)) (sym c.new.ensures.items)
    (accepted u c.of-name.result flat made named free is))

pub returns-in-Err : goal.returns-in-Err
returns-in-Err c =
    let u = seen_unit c.args.unit in
    let before = c.args.self.now in
    let text : c.as_slice-text.result.now ≡ c.of-name.result = sym (c.of-name.ensures ∙ c.in_ok-to_vec.ensures.items_if_clones_equal (λ x y e. e)) in
    let named = c.requires.named ∙ ap Some (sym c.as_slice-text.ensures ∙ text) in
    let free : IsNameTaken before.modules c.of-name.result → ⊥ = λ k. both_ways _ c.if-is_taken.false (c.is_taken.ensures.1 (subst (IsNameTaken before.modules) (sym text) k)) in
    let is : IsRefused before.units before.modules (declared_unit u) c.of-name.result c.in-Err.fault =
    subst (λ w. IsRefused before.units before.modules w c.of-name.result c.in-Err.fault) c.in_ok-declared.ensures.declared
    (match_err _ _ c.in_ok-built.field-0 c.in_ok-built.ensures c.in-Err.fault c.in-Err.is) in
    if_ok c.refused_by.result c.refused_by.ensures
    (λ a h. refused_gives c.args.purpose before (Ok u) c.in-Err.fault a.text.items a.refused (refused u c.of-name.result c.in-Err.fault named free is) h)
