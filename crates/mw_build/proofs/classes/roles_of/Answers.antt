use Rattle.std.proofs.Common.{◌≡◌, ◌∙◌, length, replicate, sym, ap, subst}
use Rattle.mw_logic.specs.Signature.{Signature}
use Rattle.mw_module.specs.Units.{seen_all}
use Rattle.mw_omod.specs.declared.classes.Role.TheVariants as role
use Rattle.mw_build.specs.Classes.{declared_in, AreRolesOf}
use Rattle.mw_build.proofs.Roles.{no_roles, all_back}
use Rattle.mw_build.proofs.classes.roles_of.Goals as goal

pub returns : goal.returns
returns c =
    let sig = c.args.signature.now in
    let to = c.args.target.now in
    let ds = declared_in (seen_all c.args.statements.now) in
    let old = c.in_ok-roles.roles.items in
    let new = c.note_all.new.roles in
    let count : length c.as_slice.result.now ≡ length to.operators =
    ap length (c.as_slice.ensures ∙ ap (λ (s : Signature). s.operators) c.signature.view_is ∙ ap (λ (s : Signature). s.operators) (sym c.requires.target)) in
    let begun = no_roles to c.deref_mut.result.now (c.deref_mut.ensures.value ∙ c.in_ok-roles.ensures ∙ ap (λ n. replicate n role.Other) count) in
    let back = all_back c.in_ok-roles.roles.len new old c.in_ok-roles.roles.ok.0 (c.note_all.auto.roles ∙ ap length c.deref_mut.ensures.value) in
    subst (AreRolesOf sig ds) (sym back) (subst (λ (s : Signature). AreRolesOf s ds new) c.requires.target (c.in_ok-note_all.ensures begun))
