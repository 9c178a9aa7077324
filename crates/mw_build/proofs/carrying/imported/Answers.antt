use Rattle.std.proofs.Common.{rules, ◌∙◌, ◌++◌, ◌<◌, suc, length, get_or, take, drop, Some, ap, sym, subst}
use Rattle.std.proofs.lemmas.Option.{slice_get_within}
use Rattle.mw_carry.specs.Carried.{IsPart}
use Rattle.mw_module.proofs.Causes.{passed_on}
use Rattle.mw_build.specs.Imported.{Accepted, origins_in, origins_of, AreImported, FirstImportedFault}
use Rattle.mw_build.proofs.Origins.{number_part, module_at, origins_more, origins_cut}
use Rattle.mw_build.proofs.carrying.imported.Goals as goal

pub bounds-modules-number : goal.bounds-modules-number
bounds-modules-number c =
    let (m, at, part) = number_part c.args.modules.now c.args.reached.now c.args.facts.now c.requires.parts c.loop-number.number-index c.loop-number-test.true in
    slice_get_within c.args.modules.now (get_or c.args.reached.now c.loop-number.number-index 0) m at

pub offset_bounds-modules-number : goal.offset_bounds-modules-number
offset_bounds-modules-number c =
    let (m, at, part) = number_part c.args.modules.now c.args.reached.now c.args.facts.now c.requires.parts c.loop-number.number-index c.loop-number-test.true in
    let low : get_or c.args.reached.now c.loop-number.number-index 0 < length c.args.modules.now = slice_get_within c.args.modules.now (get_or c.args.reached.now c.loop-number.number-index 0) m at in
    search rules

pub add_module-requires-clause-part : goal.add_module-requires-clause-part
add_module-requires-clause-part c =
    let (m, at, part) = number_part c.args.modules.now c.args.reached.now c.args.facts.now c.requires.parts c.loop-number.number-index c.loop-number-test.true in
    subst (λ (a : Accepted). IsPart a.module.signature c.args.facts.now)
    (sym (module_at c.args.modules.now (get_or c.args.reached.now c.loop-number.number-index 0) m c.index-modules-number.result at c.index-modules-number.is)) part

pub returns-in_err-add_module-clause-fault : goal.returns-in_err-add_module-clause-fault
returns-in_err-add_module-clause-fault c =
    let ms = c.args.modules.now in
    let ks = c.args.reached.now in
    let i = c.loop-number.number-index in
    let facts = c.args.facts.now in
    let found = c.index-modules-number.result in
    let (m, at, part) = number_part ms ks facts c.requires.parts i c.loop-number-test.true in
    let is = at ∙ ap (λ (a : Accepted). Some a) (sym (module_at ms (get_or ks i 0) m found at c.index-modules-number.is)) in
    let es = origins_of ms (take i ks) in
    let more = origins_of ms (drop (suc i) ks) in
    passed_on (FirstImportedFault facts c.args.line ((es ++ origins_in (Some found)) ++ more)) (FirstImportedFault facts c.args.line (origins_of ms ks))
    (λ f h. subst (λ os. FirstImportedFault facts c.args.line os f) (sym (origins_cut ms ks i c.loop-number-test.true found is)) h)
    c.from_residual-in_err-add_module.result c.in_err-add_module.field-0.0 c.from_residual-in_err-add_module.ensures.1 (c.in_err-add_module.ensures.fault es more c.loop-number.invariant)

pub loop-number-preserved : goal.loop-number-preserved
loop-number-preserved c =
    let ms = c.args.modules.now in
    let ks = c.args.reached.now in
    let i = c.loop-number.number-index in
    let facts = c.args.facts.now in
    let found = c.index-modules-number.result in
    let (m, at, part) = number_part ms ks facts c.requires.parts i c.loop-number-test.true in
    let is = at ∙ ap (λ (a : Accepted). Some a) (sym (module_at ms (get_or ks i 0) m found at c.index-modules-number.is)) in
    let es = origins_of ms (take i ks) in
    subst (λ os. AreImported facts os c.add_module.new.found.items) (sym (origins_more ms ks i c.loop-number-test.true found is)) (c.in_ok-add_module.ensures.added es c.loop-number.invariant)
