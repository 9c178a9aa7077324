use Rattle.std.proofs.Common.{◌++◌, map, take, subst}
use Rattle.std.proofs.lemmas.List.{take_all}
use Rattle.mw_build.specs.Classes.{an_attribute, AreRolesOf}
use Rattle.mw_build.proofs.Roles.{attributes_more}
use Rattle.mw_build.proofs.classes.note_attributes.Goals as goal

pub loop-attribute-preserved : goal.loop-attribute-preserved
loop-attribute-preserved c = λ ds are.
    let sig = c.args.target.now in
    let all = c.args.attributes.now in
    let i = c.loop-attribute.attribute-index in
    subst (λ es. AreRolesOf sig es c.note_attribute.new.roles) (attributes_more ds all i c.attribute-item.result c.loop-attribute-test.true c.attribute-item.is)
    (c.in_ok-note_attribute.ensures (ds ++ map an_attribute (take i all)) (c.loop-attribute.invariant ds are))

pub returns : goal.returns
returns c = λ ds are.
    subst (λ as_. AreRolesOf c.args.target.now (ds ++ map an_attribute as_) c.loop-attribute.roles)
    (take_all c.loop-attribute.attribute-index c.args.attributes.now c.loop-attribute-test.false) (c.loop-attribute.invariant ds are)
