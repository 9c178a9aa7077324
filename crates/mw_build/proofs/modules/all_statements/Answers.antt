use Rattle.std.proofs.Common.{List, map, subst}
use Rattle.std.specs.Prelude.{option_map}
use denote.Ref.{Bor}
use Rattle.mw_module.specs.Units.{seen_lined, seen_unit}
use Rattle.mw_module.specs.declared.units.Lined.{Lined}
use Rattle.mw_module.proofs.Causes.{passed_on}
use Rattle.mw_omod.specs.declared.classes.Classes.{Classes}
use Rattle.mw_build.specs.Sides.{sides_of}
use Rattle.mw_build.specs.Statements.{AreReadAs, FirstFault}
use Rattle.mw_build.specs.Imported.{origins_of, FirstImportedFault}
use Rattle.mw_build.specs.Modules.{NotAll, imported_fault, own_fault}
use Rattle.mw_build.proofs.Accepting.{all_joined}
use Rattle.mw_build.proofs.modules.all_statements.Goals as goal

pub returns-in_err-imported-clause-fault : goal.returns-in_err-imported-clause-fault
returns-in_err-imported-clause-fault c = λ variables grammar.
    let facts = c.args.signed.now.facts in
    let objects = option_map (λ (K : Bor Classes). K.now) c.args.source.classes in
    let line = (seen_unit c.args.source.unit.now).line in
    let origins = origins_of c.args.modules.now c.args.reached.now in
    let written = sides_of (seen_unit c.args.source.unit.now).statements in
    passed_on (FirstImportedFault facts line origins) (NotAll facts variables objects line origins written) (λ f h. imported_fault h)
    c.from_residual.result c.in_err-imported.field-0.0 c.from_residual.ensures.1 c.in_err-imported.ensures.fault

pub returns-in_err-own-clause-fault : goal.returns-in_err-own-clause-fault
returns-in_err-own-clause-fault c = λ variables grammar.
    let facts = c.args.signed.now.facts in
    let objects = option_map (λ (K : Bor Classes). K.now) c.args.source.classes in
    let line = (seen_unit c.args.source.unit.now).line in
    let origins = origins_of c.args.modules.now c.args.reached.now in
    let written = sides_of (seen_unit c.args.source.unit.now).statements in
    passed_on (FirstFault facts variables objects (sides_of (map seen_lined c.as_slice.result.now))) (NotAll facts variables objects line origins written)
    (λ f h. own_fault c.in_ok-imported.imported.items c.in_ok-imported.ensures.imported
    (subst (λ (ts : List Lined). FirstFault facts variables objects (sides_of (map seen_lined ts)) f) c.as_slice.ensures.value h))
    c.from_residual-in_err-own.result c.in_err-own.field-0.0 c.from_residual-in_err-own.ensures.1 (c.in_err-own.ensures.fault variables grammar)

pub returns-clause-all : goal.returns-clause-all
returns-clause-all c = λ variables grammar.
    let facts = c.args.signed.now.facts in
    let objects = option_map (λ (K : Bor Classes). K.now) c.args.source.classes in
    let own = subst (λ (ts : List Lined). AreReadAs facts variables objects (sides_of (map seen_lined ts)) c.in_ok-own.own.items) c.as_slice.ensures.value (c.in_ok-own.ensures.statements variables grammar) in
    all_joined facts variables objects (origins_of c.args.modules.now c.args.reached.now) (sides_of (seen_unit c.args.source.unit.now).statements) c.in_ok-imported.imported.items c.in_ok-own.own.items _ _
    c.in_ok-joined.ensures.imported c.in_ok-joined.ensures.list c.in_ok-imported.ensures.imported own
