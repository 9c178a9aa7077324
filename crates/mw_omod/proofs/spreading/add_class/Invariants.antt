use Rattle.std.proofs.Common.{◌≡◌, ◌++◌, drop, map}
use Rattle.mw_module.specs.declared.classes.ClassAttribute.{ClassAttribute}
use Rattle.mw_module.specs.Units.{seen_statements}
use Rattle.mw_omod.specs.Declaring.{at_line, attribute_shape, class_forms}
use Rattle.mw_omod.proofs.spreading.add_class.Given as goal

abbrev pub invariant-loop-attribute : goal.invariant-loop-attribute
invariant-loop-attribute l =
    seen_statements l.all.items ++ map (λ (a : ClassAttribute). at_line l.line (attribute_shape a)) (drop l.attribute-index l.attributes)
    ≡ seen_statements l.fn.all.items ++ class_forms l.line l.name l.attributes
