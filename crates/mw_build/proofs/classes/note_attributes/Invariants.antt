use Rattle.std.proofs.Common.{List, ◌++◌, map, take}
use Rattle.mw_build.specs.Classes.{Declared, an_attribute, AreRolesOf}
use Rattle.mw_build.proofs.classes.note_attributes.Given as goal

abbrev pub invariant-loop-attribute : goal.invariant-loop-attribute
invariant-loop-attribute l =
    (ds : List Declared) → AreRolesOf l.target ds l.fn.roles → AreRolesOf l.target (ds ++ map an_attribute (take l.attribute-index l.attributes)) l.roles
