use Rattle.std.proofs.Common.{◌≡◌, ◌∙◌, ℕ, IsTrue, List, Option, ap, codes, refl, subst, sym}
use Rattle.std.specs.Prelude.{option_map, IfSome}
use denote.Ref.{Bor}
use Rattle.mw_logic.specs.Signature.{Signature, IsSortNamed}
use Rattle.mw_logic.specs.Term.{Variable}
use Rattle.mw_logic.specs.Module.{Statement}
use Rattle.mw_sorting.specs.PreregularModulo.{HasNaturals, IsPreregularModulo}
use Rattle.mw_module.specs.Units.{seen_unit}
use Rattle.mw_module.proofs.Causes.{passed_on}
use Rattle.mw_grammar.specs.Readable.{IsReadable, AreVariables}
use Rattle.mw_declare.specs.declared.declarations.Declarations.{Declarations}
use Rattle.mw_least.specs.Workable.{IsWorkable}
use Rattle.mw_omod.specs.declared.classes.Classes.{Classes}
use Rattle.mw_omod.specs.Workable.{AreClasses}
use Rattle.mw_build.specs.declared.modules.Signed.{Signed}
use Rattle.mw_build.specs.Sides.{Sides, sides_of}
use Rattle.mw_build.specs.Imported.{Origin, ArePartsOf, origins_of}
use Rattle.mw_build.specs.SignatureFaults.{SignatureFault}
use Rattle.mw_build.specs.Modules.{StatementsFault, by_signature, AreAll, NotAll}
use Rattle.mw_build.proofs.Accepting.{grammar_held, declared_by, not_all, own_ordinary, all_stand}
use Rattle.mw_build.proofs.Readable.{readable_declared, sorted_variables, variables_declared}
use Rattle.mw_build.proofs.Sides.{workable_module}
use Rattle.mw_build.proofs.Owned.{some_mapped}
use Rattle.mw_build.proofs.modules.declared_module.Goals as goal

pub tables-requires-clause-numbers : goal.tables-requires-clause-numbers
tables-requires-clause-numbers c = subst (λ (d : Declarations). IsTrue d.signature.nat → HasNaturals d.signature) (sym c.deref.ensures) c.requires.naturals

pub tables-requires-clause-quotes : goal.tables-requires-clause-quotes
tables-requires-clause-quotes c = subst (λ (d : Declarations). IsTrue d.signature.qid → (S : ℕ) × IsSortNamed d.signature S (codes "Qid")) (sym c.deref.ensures) c.requires.quoted

pub returns-in_err-tables-clause-fault : goal.returns-in_err-tables-clause-fault
returns-in_err-tables-clause-fault c =
    let u = seen_unit c.args.source.unit.now in
    let d = c.args.declarations.value in
    passed_on (SignatureFault u.line c.deref.result.now.signature) (StatementsFault u.line d (option_map (λ (K : Bor Classes). K.now) c.args.source.classes) (origins_of c.args.modules.now c.args.reached.now) (sides_of u.statements))
    (λ f h. by_signature (subst (λ (x : Declarations). SignatureFault u.line x.signature f) c.deref.ensures h))
    c.from_residual.result c.in_err-tables.field-0.0 c.from_residual.ensures.1 c.in_err-tables.ensures.fault

module _ (c : goal.After-as_slice) where
  signature_is : c.signature.result.now ≡ c.args.declarations.value.signature
  signature_is = c.signature.ensures ∙ ap (λ (s : Signed). s.facts) c.deref-3.ensures ∙ c.in_ok-signed.ensures.facts

  variables_are : c.as_slice.result.now ≡ c.args.declarations.value.variables
  variables_are = c.as_slice.ensures ∙ ap (λ (s : Signed). s.variables) c.deref-5.ensures ∙ c.in_ok-signed.ensures.variables

pub of-requires-clause-readable : goal.of-requires-clause-readable
of-requires-clause-readable c = subst IsReadable (sym (signature_is c)) (readable_declared c.args.declarations.value c.requires.declared)

pub of-requires-clause-variables : goal.of-requires-clause-variables
of-requires-clause-variables c =
    subst (λ (S : Signature). AreVariables S c.as_slice.result.now) (sym (signature_is c))
    (subst (λ (xs : List Variable). AreVariables c.args.declarations.value.signature xs) (sym (variables_are c)) (variables_declared c.args.declarations.value c.requires.declared))

pub all_statements-requires-clause-parts : goal.all_statements-requires-clause-parts
all_statements-requires-clause-parts c =
    subst (ArePartsOf c.args.modules.now c.args.reached.now) (sym (ap (λ (s : Signed). s.facts) c.deref-6.ensures ∙ c.in_ok-signed.ensures.facts)) c.requires.parts

pub all_statements-requires-clause-classes : goal.all_statements-requires-clause-classes
all_statements-requires-clause-classes c =
    subst (λ (S : Signature). IfSome c.args.source.classes (λ (K : Bor Classes). AreClasses S K.now)) (sym (ap (λ (s : Signed). s.facts) c.deref-6.ensures ∙ c.in_ok-signed.ensures.facts)) c.requires.classes

pub returns-in_err-statements-clause-fault : goal.returns-in_err-statements-clause-fault
returns-in_err-statements-clause-fault c =
    let u = seen_unit c.args.source.unit.now in
    let d = c.args.declarations.value in
    let objects = option_map (λ (K : Bor Classes). K.now) c.args.source.classes in
    let origins = origins_of c.args.modules.now c.args.reached.now in
    let preregular = subst (λ (x : Declarations). IsPreregularModulo x.signature) c.deref.ensures c.in_ok-tables.ensures.preregular in
    let facts = ap (λ (s : Signed). s.facts) c.deref-6.ensures ∙ c.in_ok-signed.ensures.facts in
    let grammar = grammar_held _ _ _ _ _ _
    (c.signature.ensures ∙ ap (λ (s : Signed). s.facts) (c.deref-3.ensures ∙ sym c.deref-6.ensures))
    (c.as_slice.ensures ∙ ap (λ (s : Signed). s.variables) c.deref-5.ensures ∙ c.in_ok-signed.ensures.variables)
    (sym c.deref-7.ensures) c.in_ok-grammar.ensures.grammar in
    passed_on (NotAll c.deref-6.result.now.facts d.variables objects u.line origins (sides_of u.statements)) (StatementsFault u.line d objects origins (sides_of u.statements))
    (λ f h. not_all u.line d objects origins (sides_of u.statements) f preregular (subst (λ (S : Signature). NotAll S d.variables objects u.line origins (sides_of u.statements) f) facts h))
    c.from_residual-in_err-statements.result c.in_err-statements.field-0.0 c.from_residual-in_err-statements.ensures.1 (c.in_err-statements.ensures.fault d.variables grammar)

module _ (c : goal.In_ok-statements) where
  abbrev sts : List Statement
  sts = c.in_ok-statements.statements.list.items

  abbrev objects : Option Classes
  objects = option_map (λ (K : Bor Classes). K.now) c.args.source.classes

  abbrev origins : List Origin
  origins = origins_of c.args.modules.now c.args.reached.now

  abbrev written : List Sides
  written = sides_of (seen_unit c.args.source.unit.now).statements

  preregular : IsPreregularModulo c.args.declarations.value.signature
  preregular = subst (λ (x : Declarations). IsPreregularModulo x.signature) c.deref.ensures c.in_ok-tables.ensures.preregular

  all : AreAll c.args.declarations.value.signature c.args.declarations.value.variables objects origins written c.in_ok-statements.statements.imported sts
  all =
      let d = c.args.declarations.value in
      let facts = ap (λ (s : Signed). s.facts) c.deref-6.ensures ∙ c.in_ok-signed.ensures.facts in
      let grammar = grammar_held _ _ _ _ _ _
      (c.signature.ensures ∙ ap (λ (s : Signed). s.facts) (c.deref-3.ensures ∙ sym c.deref-6.ensures))
      (c.as_slice.ensures ∙ ap (λ (s : Signed). s.variables) c.deref-5.ensures ∙ c.in_ok-signed.ensures.variables)
      (sym c.deref-7.ensures) c.in_ok-grammar.ensures.grammar in
      subst (λ (S : Signature). AreAll S d.variables objects origins written c.in_ok-statements.statements.imported sts) facts (c.in_ok-statements.ensures.all d.variables grammar)

  classes : IfSome objects (AreClasses c.args.declarations.value.signature)
  classes = some_mapped (λ (K : Bor Classes). K.now) (AreClasses c.args.declarations.value.signature) c.args.source.classes c.requires.classes

pub module_of-requires-clause-workable : goal.module_of-requires-clause-workable
module_of-requires-clause-workable c =
    let d = c.args.declarations.value in
    let k = c.requires.declared in
    subst (λ (S : Signature). IsWorkable (record { signature = S; statements = sts c })) (sym c.in_ok-signed.ensures.facts)
    (workable_module d.signature (preregular c) c.requires.sorts c.requires.built (sts c)
    (all_stand d.signature (preregular c) d.variables (sorted_variables d k) (objects c) (classes c) (origins c) (written c) c.in_ok-statements.statements.imported (sts c) (all c)))

pub module_of-requires-clause-grammar : goal.module_of-requires-clause-grammar
module_of-requires-clause-grammar c = grammar_held _ _ _ _ _ _
    (c.signature.ensures ∙ ap (λ (s : Signed). s.facts) c.deref-3.ensures) (c.as_slice.ensures ∙ ap (λ (s : Signed). s.variables) c.deref-5.ensures) refl c.in_ok-grammar.ensures.grammar

pub module_of-requires-clause-within : goal.module_of-requires-clause-within
module_of-requires-clause-within c = (all c).within

pub module_of-requires-clause-ordinary : goal.module_of-requires-clause-ordinary
module_of-requires-clause-ordinary c =
    let d = c.args.declarations.value in
    own_ordinary d.signature (preregular c) d.variables (sorted_variables d c.requires.declared) (objects c) (classes c) (origins c) (written c) c.in_ok-statements.statements.imported (sts c) (all c)

pub returns-clause-holds : goal.returns-clause-holds
returns-clause-holds c =
    let d = c.args.declarations.value in
    let sts = c.in_ok-statements.statements in
    let objects = option_map (λ (K : Bor Classes). K.now) c.args.source.classes in
    let origins = origins_of c.args.modules.now c.args.reached.now in
    let written = sides_of (seen_unit c.args.source.unit.now).statements in
    let facts = ap (λ (s : Signed). s.facts) c.deref-6.ensures ∙ c.in_ok-signed.ensures.facts in
    let grammar = grammar_held _ _ _ _ _ _
    (c.signature.ensures ∙ ap (λ (s : Signed). s.facts) (c.deref-3.ensures ∙ sym c.deref-6.ensures))
    (c.as_slice.ensures ∙ ap (λ (s : Signed). s.variables) c.deref-5.ensures ∙ c.in_ok-signed.ensures.variables)
    (sym c.deref-7.ensures) c.in_ok-grammar.ensures.grammar in
    declared_by c.args.name d objects (subst (λ (x : Declarations). IsPreregularModulo x.signature) c.deref.ensures c.in_ok-tables.ensures.preregular) origins written sts.imported sts.list.items
    (subst (λ (S : Signature). AreAll S d.variables objects origins written sts.imported sts.list.items) facts (c.in_ok-statements.ensures.all d.variables grammar))
    _ _ c.in_ok-signed.ensures.facts c.in_ok-signed.ensures.variables c.in_ok-module_of.field-0 c.in_ok-module_of.ensures
