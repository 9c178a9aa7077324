use Rattle.std.proofs.Common.{[], ◌∷◌, ◌++◌, map, append_assoc, sym, subst}
use Rattle.mw_module.specs.declared.forms.Form.{Form}
use Rattle.mw_module.specs.Forms.{shape_of}
use Rattle.mw_build.specs.Classes.{a_constant, an_attribute, declared_by, AreRolesOf}
use Rattle.mw_build.proofs.classes.note_form.Goals as goal

pub returns-in_ok-note_attributes-in-Class : goal.returns-in_ok-note_attributes-in-Class
returns-in_ok-note_attributes-in-Class c = λ ds are.
    let sig = c.args.target.now in
    let new = c.note_attributes.new.roles in
    let name = a_constant c.in-Class.name in
    let class = c.in_ok-note_class-in-Class.ensures ds are in
    let all = subst (λ as_. AreRolesOf sig ((ds ++ name ∷ []) ++ map an_attribute as_) new) c.as_slice.ensures
    (c.in_ok-note_attributes-in-Class.ensures (ds ++ name ∷ []) class) in
    subst (λ (form : Form). AreRolesOf sig (ds ++ declared_by (shape_of form)) new) (sym c.in-Class.is)
    (subst (λ es. AreRolesOf sig es new) (append_assoc ds (name ∷ []) (map an_attribute c.in-Class.attributes)) all)
