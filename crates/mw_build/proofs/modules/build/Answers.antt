use Rattle.std.proofs.Common.{◌≡◌, List, ℕ, map, Ok, Option, subst, sym}
use Rattle.std.specs.Prelude.{option_map, IfSome}
use denote.Ref.{Bor}
use Rattle.mw_omod.specs.declared.classes.Classes.{Classes}
use Rattle.mw_omod.specs.Workable.{AreClasses}
use Rattle.mw_module.specs.Known.{IsKnown}
use Rattle.mw_module.specs.Units.{seen_lined, seen_unit}
use Rattle.mw_module.specs.declared.units.Lined.{Lined}
use Rattle.mw_module.proofs.Causes.{passed_on}
use Rattle.mw_import.specs.Flat.{IsFlat, ImportFault}
use Rattle.mw_declare.specs.declared.declarations.Declarations.{Declarations}
use Rattle.mw_declare.specs.Faults.{typing_of}
use Rattle.mw_declare.specs.Declarations.{Declares, DeclarationFault}
use Rattle.mw_build.specs.Sides.{sides_of}
use Rattle.mw_build.specs.Imported.{ArePartsOf, origins_of}
use Rattle.mw_build.specs.Classes.{AreObjectsOf}
use Rattle.mw_build.proofs.Accepting.{objects_there}
use Rattle.mw_build.proofs.Owned.{some_copied}
use Rattle.mw_build.specs.Modules.{IsDeclaredModule, IsFlattened, IsRefused, StatementsFault, by_imports, by_declarations, by_statements, flattened, reached_of}
use Rattle.mw_build.proofs.Loading.{loaded_parts, flattened_all, own_within}
use Rattle.mw_build.proofs.modules.build.Goals as goal

pub returns-in_err-flat-clause-fault : goal.returns-in_err-flat-clause-fault
returns-in_err-flat-clause-fault c =
    let us = c.args.units.now in
    let u = seen_unit c.args.unit.now in
    let typed = subst (λ (ts : List Lined). typing_of (map seen_lined ts) ≡ Ok c.in_ok-typing.typing) c.as_slice.ensures.value c.in_ok-typing.ensures.typed in
    passed_on (ImportFault us c.as_slice-2.result.now (map seen_lined c.as_slice-3.result.now)) (IsRefused us c.args.modules.now u c.args.name)
    (λ f h. by_imports c.in_ok-typing.typing typed
    (subst (λ (n : List ℕ). ImportFault us n u.statements f) c.as_slice-2.ensures (subst (λ (ts : List Lined). ImportFault us c.as_slice-2.result.now (map seen_lined ts) f) c.as_slice-3.ensures.value h)))
    c.from_residual-in_err-flat.result c.in_err-flat.field-0.0 c.from_residual-in_err-flat.ensures.1 c.in_err-flat.ensures.fault

pub returns-in_err-declarations-clause-fault : goal.returns-in_err-declarations-clause-fault
returns-in_err-declarations-clause-fault c =
    let us = c.args.units.now in
    let u = seen_unit c.args.unit.now in
    let flat : IsFlattened us u c.in_ok-typing.typing c.in_ok-flat.flat = record {
      typed = subst (λ (ts : List Lined). typing_of (map seen_lined ts) ≡ Ok c.in_ok-typing.typing) c.as_slice.ensures.value c.in_ok-typing.ensures.typed;
      flat = subst (λ (ts : List Lined). IsFlat us (map seen_lined ts) c.in_ok-flat.flat) c.as_slice-3.ensures.value c.in_ok-flat.ensures.flat;
    } in
    passed_on (DeclarationFault (reached_of us c.as_slice-4.result.now c.in_ok-flat.flat) u.line (flattened us u c.in_ok-flat.flat)) (IsRefused us c.args.modules.now u c.args.name)
    (λ f h. by_declarations c.in_ok-typing.typing c.in_ok-flat.flat flat
    (subst (λ (n : List ℕ). DeclarationFault (reached_of us n c.in_ok-flat.flat) u.line (flattened us u c.in_ok-flat.flat) f) c.as_slice-4.ensures h))
    c.from_residual-in_err-declarations.result c.in_err-declarations.field-0.0 c.from_residual-in_err-declarations.ensures.1 c.in_err-declarations.ensures.fault

pub classes-requires-clause-flat : goal.classes-requires-clause-flat
classes-requires-clause-flat c = subst (λ (ts : List Lined). IsFlat c.args.units.now (map seen_lined ts) c.in_ok-flat.flat) c.as_slice-3.ensures.value c.in_ok-flat.ensures.flat

pub declared_module-requires-clause-classes : goal.declared_module-requires-clause-classes
declared_module-requires-clause-classes c =
    let d = c.in_ok-declarations.declarations.value in
    let u = seen_unit c.args.unit.now in
    some_copied (AreClasses d.signature) c.as_ref-objects.result
    (subst (λ (o : Option Classes). IfSome o (AreClasses d.signature)) (sym c.as_ref-objects.ensures.value)
    (objects_there d.signature c.in_ok-declarations.ensures.accepted u.word (flattened c.args.units.now u c.in_ok-flat.flat) c.in_ok-classes.classes
    (subst (λ (x : Declarations). AreObjectsOf u.word x.signature (flattened c.args.units.now u c.in_ok-flat.flat) c.in_ok-classes.classes) c.deref.ensures c.in_ok-classes.ensures)))

pub declared_module-requires-clause-declared : goal.declared_module-requires-clause-declared
declared_module-requires-clause-declared c =
    let us = c.args.units.now in
    let u = seen_unit c.args.unit.now in
    let reached = c.in_ok-flat.flat in
    record {
      reached = reached_of us c.as_slice-4.result.now reached;
      own = u.statements;
      statements = flattened us u reached;
      typing = c.in_ok-typing.typing;
      typed = subst (λ (ts : List Lined). typing_of (map seen_lined ts) ≡ Ok c.in_ok-typing.typing) c.as_slice.ensures.value c.in_ok-typing.ensures.typed;
      within = own_within us u.line reached u.statements;
      known = flattened_all IsKnown us c.requires.loaded.known u.line reached u.statements c.requires.known;
      declared = c.in_ok-declarations.ensures.declared;
    }

pub declared_module-requires-clause-parts : goal.declared_module-requires-clause-parts
declared_module-requires-clause-parts c =
    let us = c.args.units.now in
    let u = seen_unit c.args.unit.now in
    let flat = subst (λ (ts : List Lined). IsFlat us (map seen_lined ts) c.in_ok-flat.flat) c.as_slice-3.ensures.value c.in_ok-flat.ensures.flat in
    let d = c.in_ok-declarations.declarations.value in
    subst (λ (ks : List ℕ). ArePartsOf c.args.modules.now ks d.signature) (sym c.as_slice-5.ensures)
    (loaded_parts us c.args.modules.now c.shows.ensures c.requires.loaded u.statements c.in_ok-flat.flat c.as_slice-4.result.now u.line c.in_ok-typing.typing d flat c.in_ok-declarations.ensures.declared)

pub returns-in_err-module-clause-fault : goal.returns-in_err-module-clause-fault
returns-in_err-module-clause-fault c =
    let us = c.args.units.now in
    let ms = c.args.modules.now in
    let u = seen_unit c.args.unit.now in
    let d = c.in_ok-declarations.declarations.value in
    let flat : IsFlattened us u c.in_ok-typing.typing c.in_ok-flat.flat = record {
      typed = subst (λ (ts : List Lined). typing_of (map seen_lined ts) ≡ Ok c.in_ok-typing.typing) c.as_slice.ensures.value c.in_ok-typing.ensures.typed;
      flat = subst (λ (ts : List Lined). IsFlat us (map seen_lined ts) c.in_ok-flat.flat) c.as_slice-3.ensures.value c.in_ok-flat.ensures.flat;
    } in
    let objects = option_map (λ (K : Bor Classes). K.now) c.as_ref-objects.result in
    let are = subst (AreObjectsOf u.word d.signature (flattened us u c.in_ok-flat.flat)) (sym c.as_ref-objects.ensures.value)
    (subst (λ (x : Declarations). AreObjectsOf u.word x.signature (flattened c.args.units.now u c.in_ok-flat.flat) c.in_ok-classes.classes) c.deref.ensures c.in_ok-classes.ensures) in
    passed_on (StatementsFault u.line d objects (origins_of ms c.as_slice-5.result.now) (sides_of u.statements)) (IsRefused us ms u c.args.name)
    (λ f h. by_statements c.in_ok-typing.typing c.in_ok-flat.flat d objects flat
    (subst (λ (n : List ℕ). Declares (reached_of us n c.in_ok-flat.flat) c.in_ok-typing.typing (flattened us u c.in_ok-flat.flat) d) c.as_slice-4.ensures c.in_ok-declarations.ensures.declared) are
    (subst (λ (ks : List ℕ). StatementsFault u.line d objects (origins_of ms ks) (sides_of u.statements) f) c.as_slice-5.ensures h))
    c.from_residual-in_err-module.result c.in_err-module.field-0.0 c.from_residual-in_err-module.ensures.1 c.in_err-module.ensures.fault

pub returns-clause-accepted : goal.returns-clause-accepted
returns-clause-accepted c =
    let us = c.args.units.now in
    let ms = c.args.modules.now in
    let u = seen_unit c.args.unit.now in
    let d = c.in_ok-declarations.declarations.value in
    let objects = option_map (λ (K : Bor Classes). K.now) c.as_ref-objects.result in
    record {
      typing = c.in_ok-typing.typing;
      flat = record {
        typed = subst (λ (ts : List Lined). typing_of (map seen_lined ts) ≡ Ok c.in_ok-typing.typing) c.as_slice.ensures.value c.in_ok-typing.ensures.typed;
        flat = subst (λ (ts : List Lined). IsFlat us (map seen_lined ts) c.in_ok-flat.flat) c.as_slice-3.ensures.value c.in_ok-flat.ensures.flat;
      };
      declarations = d;
      declared = subst (λ (n : List ℕ). Declares (reached_of us n c.in_ok-flat.flat) c.in_ok-typing.typing (flattened us u c.in_ok-flat.flat) d) c.as_slice-4.ensures c.in_ok-declarations.ensures.declared;
      objects = objects;
      classes = subst (AreObjectsOf u.word d.signature (flattened us u c.in_ok-flat.flat)) (sym c.as_ref-objects.ensures.value)
          (subst (λ (x : Declarations). AreObjectsOf u.word x.signature (flattened c.args.units.now u c.in_ok-flat.flat) c.in_ok-classes.classes) c.deref.ensures c.in_ok-classes.ensures);
      holds = subst (λ (ks : List ℕ). IsDeclaredModule c.args.name d objects (origins_of ms ks) (sides_of u.statements) c.in_ok-module.module) c.as_slice-5.ensures c.in_ok-module.ensures.holds;
    }
