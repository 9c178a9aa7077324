use Rattle.std.proofs.Common.{◌∙◌, List, ap, refl, sym}
use Rattle.indexmap.specs.IndexMap.{insert_entry}
use Rattle.mw_logic.specs.Signature.{Declaration}
use Rattle.mw_module.specs.Attributes.{seen_attributes, Attributes}
use Rattle.mw_declare.specs.declared.operators.Profile.{Profile}
use Rattle.mw_declare.specs.declared.operators.Said.{Said}
use Rattle.mw_declare.specs.Operators.{Declared, same_profile, with_operator}
use Rattle.mw_declare.specs.Seen.{seen_profile}
use Rattle.mw_declare.proofs.Tables.{operators_held, held_again, held_new}
use Rattle.mw_declare.proofs.operators.DeclaredOperators.add.Goals as goal

pub returns-in-Some : goal.returns-in-Some
returns-in-Some c =
    let said = seen_attributes c.args.attributes.now in
    let w : Said = c.declare_again.new.known in
    ap operators_held (c.get_mut.follows.holds w).0
    ∙ held_again _ (λ p q. refl) c.args.profile c.args.declaration said w c.in-Some.known.now
    (λ q. ap (λ (s : List Declaration × Attributes). let o : Declared = record { profile = seen_profile q; declarations = s.0; attributes = s.1 } in o) c.in_ok-declare_again.ensures)
    c.deref_mut-table.result.now.entries (sym c.in-Some.ensures.value)
    ∙ ap (λ t. with_operator (operators_held t.entries) (seen_profile c.args.profile) c.args.declaration said) c.deref_mut-table.ensures.value
    ∙ ap (λ os. with_operator os (seen_profile c.args.profile) c.args.declaration said) c.self.view_is

pub returns : goal.returns
returns c =
    let said = seen_attributes c.args.attributes.now in
    let w : Said = c.in_ok-said.said in
    ap operators_held c.in_ok-insert.ensures.entries
    ∙ ap (λ es. operators_held (insert_entry (λ (p q : Profile). same_profile (seen_profile p) (seen_profile q)) es c.args.profile w)) (rw c.get_mut.follows.holds-at-none refl)
    ∙ held_new _ (λ p q. refl) c.args.profile c.args.declaration said w
    (ap (λ (s : List Declaration × Attributes). let o : Declared = record { profile = seen_profile c.args.profile; declarations = s.0; attributes = s.1 } in o) c.in_ok-said.ensures)
    c.deref_mut-table.result.now.entries (sym c.in_default.ensures.value)
    ∙ ap (λ t. with_operator (operators_held t.entries) (seen_profile c.args.profile) c.args.declaration said) c.deref_mut-table.ensures.value
    ∙ ap (λ os. with_operator os (seen_profile c.args.profile) c.args.declaration said) c.self.view_is
