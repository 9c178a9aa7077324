-- A module that was built, from what its unit declares.
use Rattle.std.proofs.Common.{◌≡◌, ◌++◌, ℕ, zero, suc, List, [], ◌∷◌, length, length-append, take, drop, All, slice_get, Some, None, Ok, Err, Result, IfOk, MatchOption, codes, inl, inr, arith, refl, sym, subst}
use Rattle.std.proofs.Math.Seq.{take-append_seam, drop-append_seam}
use Rattle.std.proofs.lemmas.List.{take-append-drop}
use Rattle.std.proofs.lemmas.List.Elements.{All-nil, All-cons}
use Rattle.std.proofs.lemmas.Option.{slice_get_within}
use Rattle.mw_logic.specs.Term.{Variable}
use Rattle.mw_logic.specs.Signature.{Signature, Member}
use Rattle.mw_logic.specs.Preregular.{IsSortOf}
use Rattle.mw_logic.specs.Module.{Statement}
use Rattle.mw_sorting.specs.PreregularModulo.{IsPreregularModulo}
use Rattle.mw_grammar.specs.declared.grammar.Grammar.{Grammar}
use Rattle.mw_grammar.specs.Grammars.{IsGrammarOf}
use Rattle.mw_module.specs.declared.faults.Fault.{Fault}
use Rattle.mw_declare.specs.declared.declarations.Declarations.{Declarations}
use Rattle.mw_build.specs.Sides.{Sides}
use Rattle.std.specs.Prelude.{Option, IfSome}
use Rattle.mw_omod.specs.declared.classes.Classes.{Classes}
use Rattle.mw_omod.specs.Workable.{AreClasses}
use Rattle.mw_logic.specs.Accepted.{IsAccepted as IsAcceptedSignature}
use Rattle.mw_module.specs.Units.{SeenLined}
use Rattle.mw_build.specs.Classes.{AreOfConfiguration, AreClassesOf, AreObjectsOf, of_objects, of_no_configuration, of_others}
use Rattle.mw_build.proofs.ClassesThere.{classes_there}
use Rattle.mw_build.specs.Statements.{AreReadAs, statement_of}
use Rattle.mw_build.specs.Imported.{Accepted, Origin, IsNotOwise, AreImported}
use Rattle.mw_build.specs.Modules.{IsDeclaredModule, StatementsFault, by_imported, by_own, AreAll, NotAll, imported_fault, own_fault}
use Rattle.mw_build.proofs.Pairwise.{there, either}
use Rattle.mw_build.proofs.Owned.{CanStand, own_not_owise}
use Rattle.mw_build.proofs.Sides.{read_stands}
use Rattle.mw_build.proofs.Imported.{imported_stands}

-- the grammar of one signature is that of the other
pub grammar_held : (S T : Signature) (xs ys : List Variable) (g h : Grammar) → S ≡ T → xs ≡ ys → g ≡ h → IsGrammarOf S xs g → IsGrammarOf T ys h
grammar_held S T xs ys g h s v e k = subst (IsGrammarOf T ys) e (subst (λ zs. IsGrammarOf T zs g) v (subst (λ Z. IsGrammarOf Z xs g) s k))

-- a module that was built of what is declared
pub declared_by : (name : List ℕ) (d : Declarations) (objects : Option Classes) → IsPreregularModulo d.signature → (origins : List Origin) (written : List Sides) (count : ℕ) (sts : List Statement)
    → AreAll d.signature d.variables objects origins written count sts → (S : Signature) (vs : List Variable) → S ≡ d.signature → vs ≡ d.variables → (a : Accepted)
    → a ≡ record { name = name; «module» = record { signature = S; statements = sts }; variables = vs; own = drop count sts } → IsDeclaredModule name d objects origins written a
declared_by name d objects preregular origins written count sts all S vs s v a is = subst (IsDeclaredModule name d objects origins written) (sym is) (record {
  preregular = preregular;
  named = refl;
  signature = s;
  variables = v;
  imported = take count sts;
  imported_are = all.imported_are;
  own_are = all.own_are;
  statements = sym (take-append-drop count sts);
})

-- statements that stand for those of others, and then own ones
pub all_joined : (sig : Signature) (vs : List Variable) (objects : Option Classes) (origins : List Origin) (written : List Sides) (first others list : List Statement) (count : ℕ) → count ≡ length first → list ≡ first ++ others
    → AreImported sig origins first → AreReadAs sig vs objects written others → AreAll sig vs objects origins written count list
all_joined sig vs objects origins written first others list count n is imported own =
    subst (λ k. AreAll sig vs objects origins written k list) (sym n) (subst (AreAll sig vs objects origins written (length first)) (sym is) (record {
      within = let h = length-append first others in omega (arith, h);
      imported_are = subst (AreImported sig origins) (sym (take-append_seam first others)) imported;
      own_are = subst (AreReadAs sig vs objects written) (sym (drop-append_seam first others)) own;
    }))

-- a fault of statements
pub not_all : (line : ℕ) (d : Declarations) (objects : Option Classes) (origins : List Origin) (written : List Sides) (r : Fault) → IsPreregularModulo d.signature
    → NotAll d.signature d.variables objects line origins written r → StatementsFault line d objects origins written r
not_all line d objects origins written r preregular (imported_fault f) = by_imported preregular f
not_all line d objects origins written r preregular (own_fault imported all f) = by_own imported preregular all f

module _ (sig : Signature) (ok : IsPreregularModulo sig) (variables : List Variable) (sorted : (x : Variable) → Member x variables → IsSortOf sig x.sort)
    (objects : Option Classes) (classes : IfSome objects (AreClasses sig)) (origins : List Origin) (written : List Sides) (count : ℕ) (sts : List Statement)
    (all : AreAll sig variables objects origins written count sts) where
  -- no own statement is `owise`
  pub own_ordinary : All IsNotOwise (drop count sts)
  own_ordinary = at_places IsNotOwise (drop count sts) (λ i st is.
      let low = slice_get_within (drop count sts) i st is in
      let (e, at) = there written i (omega (arith, low, all.own_are.count)) in
      let of = all.own_are.each i e st at is in
      own_not_owise sig objects (statement_of of.left of.right of.condition e.rule e.executable) st of.holds refl)
    where
      at_places : (P : Statement → Type 0) (xs : List Statement) → ((i : ℕ) (x : Statement) → slice_get xs i ≡ Some x → P x) → All P xs
      at_places P [] h = All-nil P
      at_places P (x ∷ xs) h = All-cons P x xs (h zero x refl) (at_places P xs (λ i y e. h (suc i) y e))

  -- and all can stand in a context
  front_stands : (i : ℕ) (st : Statement) → slice_get (take count sts) i ≡ Some st → CanStand sig st
  front_stands i st is =
      let low = slice_get_within (take count sts) i st is in
      let (e, at) = there origins i (omega (arith, low, all.imported_are.count)) in
      imported_stands sig e st (all.imported_are.each i e st at is)

  own_stands : (i : ℕ) (st : Statement) → slice_get (drop count sts) i ≡ Some st → CanStand sig st
  own_stands i st is =
      let low = slice_get_within (drop count sts) i st is in
      let (e, at) = there written i (omega (arith, low, all.own_are.count)) in
      read_stands sig ok variables sorted objects classes e st (all.own_are.each i e st at is)

  pub all_stand : (i : ℕ) (st : Statement) → slice_get sts i ≡ Some st → CanStand sig st
  all_stand i st is = elim (either (take count sts) (drop count sts) i st (subst (λ xs. slice_get xs i ≡ Some st) (sym (take-append-drop count sts)) is)) [
    | inl h ↦ front_stands i st h
    | inr h ↦ own_stands h.0 st h.1
  ]

-- the classes of an object module's statements, as others tell these
pub objects_so : {E : Type 0} (sig : Signature) (word : List ℕ) (ss ts : List SeenLined) → word ≡ codes "omod" → ss ≡ ts → (r : Result (Option Classes) E)
    → IfOk r (λ o. MatchOption o ((K : Classes) → AreOfConfiguration sig K → ⊥) (AreClassesOf sig ss)) → IfOk r (AreObjectsOf word sig ts)
objects_so sig word ss ts w e (Err x) h = h
objects_so sig word ss ts w e (Ok None) h = of_no_configuration w h
objects_so sig word ss ts w e (Ok (Some K)) h = of_objects K w (subst (λ us. AreClassesOf sig us K) e h)

-- which are classes of its signature
pub objects_there : (sig : Signature) → IsAcceptedSignature sig → (word : List ℕ) (ss : List SeenLined) (o : Option Classes) → AreObjectsOf word sig ss o → IfSome o (AreClasses sig)
objects_there sig ok word ss o (of_objects K w is) = classes_there sig ok ss K is
objects_there sig ok word ss o (of_no_configuration w not) = tt
objects_there sig ok word ss o (of_others not) = tt
