-- What statements of proper parts declare is proper.
use Rattle.std.proofs.Common.{◌≡◌, ℕ, zero, suc, List, [], ◌∷◌, ◌++◌, Bool, true, false, Option, Some, None, Result, Ok, Err, All, bytes_eq, if◌then◌else◌, refl, sym, subst, inr}
use Rattle.std.specs.Prelude.{⊤, codes}
use Rattle.std.proofs.lemmas.Option.{same_Some}
use Rattle.std.proofs.lemmas.List.Elements.{All-nil, All-cons, All-head, All-tail, All-append, All-map, All-weaker}
use Rattle.mw_lex.specs.Texts.{IsRun, IsProper}
use Rattle.mw_logic.specs.Term.{Variable}
use Rattle.mw_logic.specs.Signature.{Signature, Operator, Declaration, at_number}
use Rattle.mw_logic.specs.Preregular.{IsSortOf}
use Rattle.mw_text.specs.Names.{name_of_tokens}
use Rattle.mw_text.specs.Proper.{IsProperName}
use Rattle.mw_module.specs.Attributes.{Attributes}
use Rattle.mw_module.specs.Sortings.{WrittenSort}
use Rattle.mw_module.specs.Forms.{Shape, Sorts, Subsorts, Operators, Variables, Statement, Import, Class}
use Rattle.mw_module.specs.declared.faults.Fault.{Fault}
use Rattle.mw_module.specs.declared.faults.FaultKind.TheVariants.{AlreadyDefined}
use Rattle.mw_module.specs.Tokens.{HasProperParts}
use Rattle.mw_module.specs.Units.{SeenLined, IsWithin}
use Rattle.mw_declare.specs.Meaning.{Name, is_among, with_name, with_names, with_sorts, sorts_from, sorts_of, number_of}
use Rattle.mw_declare.specs.Operators.{rank_of, Profile, same_profile, Declared, declared_again, operators_of, operator_of, signature_of}
use Rattle.mw_declare.specs.declared.built.Reached.{Reached}
use Rattle.mw_declare.specs.Built.{built_in}
use Rattle.mw_declare.specs.Hierarchy.{Hierarchy, hierarchy_of}
use Rattle.mw_declare.specs.Faults.{Typing, sort_in, joined, typed, typed_by, typing_from, typing_of, variables_with, unknown_from}
use Rattle.mw_declare.specs.declared.declarations.Declarations.{Declarations}
use Rattle.mw_declare.specs.Declarations.{Declares}
use Rattle.mw_declare.specs.Proper.{IsProperVariable, AreProper, DeclarationsAreProper}
use Rattle.mw_declare.proofs.Folding.{declared_once, HasNamed, HasEach, HasEachLined, all_operators}
use Rattle.mw_declare.proofs.Unknown.{known_front, number_there}
use Rattle.mw_declare.proofs.Within.{IsKnownIn, all_known, shaped_within}

-- what all have, the one of a number has
pub all_at : {X : Type 0} (P : X → Type 0) (xs : List X) → All P xs → (f : ℕ) (x : X) → at_number xs f ≡ Some x → P x
all_at P xs all zero x e = cc
all_at P [] all (suc i) x e = cc
all_at P (y ∷ ys) all (suc zero) x e = subst P (same_Some y x e) (All-head P y ys all)
all_at P (y ∷ ys) all (suc (suc i)) x e = all_at P ys (All-tail P y ys all) (suc i) x e

abbrev IsProperLined : SeenLined → Type 0
IsProperLined s = HasProperParts s.shape

-- names of sorts
module _ (P : Name → Type 0) where
  all_with : (ns : List Name) (n : Name) → All P ns → P n → All P (with_name ns n)
  all_with ns n all p = of (is_among ns n)
    where
      of : (b : Bool) → All P (if b then ns else ns ++ n ∷ [])
      of true = all
      of false = All-append P ns (n ∷ []) all (All-cons P n [] p (All-nil P))

  pub all_names : (ns ms : List Name) → All P ns → All P ms → All P (with_names ns ms)
  all_names ns [] all more = all
  all_names ns (m ∷ ms) all more = all_names (with_name ns m) ms (all_with ns m all (All-head P m ms more)) (All-tail P m ms more)

sorts_with : (ns : List Name) (s : Shape) → All IsRun ns → HasProperParts s → All IsRun (with_sorts ns s)
sorts_with ns (Sorts names) all p = all_names IsRun ns names all p
sorts_with ns (Subsorts groups) all p = all
sorts_with ns (Operators names args result said) all p = all
sorts_with ns (Variables names S) all p = all
sorts_with ns (Statement rule left right fragments executable) all p = all
sorts_with ns (Import m) all p = all
sorts_with ns (Class c as_) all p = all

sorts_proper : (ns : List Name) (ss : List SeenLined) → All IsRun ns → All IsProperLined ss → All IsRun (sorts_from ns ss)
sorts_proper ns [] all p = all
sorts_proper ns (s ∷ ss) all p = sorts_proper (with_sorts ns s.shape) ss (sorts_with ns s.shape all (All-head IsProperLined s ss p)) (All-tail IsProperLined s ss p)

-- What names have, the spellings of operators have.
module _ (P : List ℕ → Type 0) where
  abbrev HasSpelling : Declared → Type 0
  HasSpelling o = P o.profile.spelling

  abbrev IsNamedSo : List Name → Type 0
  IsNamedSo name = P (name_of_tokens name)

  spelled_again : (o : Declared) (p : Profile) (d : Declaration) (said : Attributes) → same_profile p o.profile ≡ true → HasSpelling o → HasSpelling (declared_once p d said)
      → HasSpelling (declared_again o d said)
  spelled_again o p d said e this one = this

  -- where the names of a statement do
  abbrev AreNamesSo : Shape → Type 0
  AreNamesSo (Sorts names) = ⊤
  AreNamesSo (Subsorts groups) = ⊤
  AreNamesSo (Operators names args result said) = All IsNamedSo names
  AreNamesSo (Variables names S) = ⊤
  AreNamesSo (Statement rule left right fragments executable) = ⊤
  AreNamesSo (Import m) = ⊤
  AreNamesSo (Class c as_) = ⊤

  abbrev AreNamesOf : SeenLined → Type 0
  AreNamesOf s = AreNamesSo s.shape

  module _ (h : Hierarchy) where
    names_spelled : (names : List (List Name)) (args : List WrittenSort) (result : WrittenSort) (said : Attributes) → All IsNamedSo names → HasEach HasSpelling spelled_again h (Operators names args result said)
    names_spelled [] args result said all = All-nil (HasNamed HasSpelling spelled_again (rank_of h args result) said)
    names_spelled (name ∷ names) args result said all =
        All-cons (HasNamed HasSpelling spelled_again (rank_of h args result) said) name names (All-head IsNamedSo name names all) (names_spelled names args result said (All-tail IsNamedSo name names all))

    shape_spelled : (s : Shape) → AreNamesSo s → HasEach HasSpelling spelled_again h s
    shape_spelled (Sorts names) p = tt
    shape_spelled (Subsorts groups) p = tt
    shape_spelled (Operators names args result said) p = names_spelled names args result said p
    shape_spelled (Variables names S) p = tt
    shape_spelled (Statement rule left right fragments executable) p = tt
    shape_spelled (Import m) p = tt
    shape_spelled (Class c as_) p = tt

    lined_spelled : (ss : List SeenLined) → All AreNamesOf ss → All (HasEachLined HasSpelling spelled_again h) ss
    lined_spelled [] p = All-nil (HasEachLined HasSpelling spelled_again h)
    lined_spelled (s ∷ ss) p = All-cons (HasEachLined HasSpelling spelled_again h) s ss (shape_spelled s.shape (All-head AreNamesOf s ss p)) (lined_spelled ss (All-tail AreNamesOf s ss p))

  operators_spelled : (ss : List SeenLined) → All AreNamesOf ss → P (codes "if_then_else_fi") → P (codes "_==_") → P (codes "_=/=_") → All HasSpelling (operators_of ss)
  operators_spelled ss all choice equal different = all_operators HasSpelling spelled_again ss (lined_spelled (hierarchy_of ss) ss all) (λ t e K n. (choice, equal, different))

-- names of operators are proper
shape_proper : (s : Shape) → HasProperParts s → AreNamesSo IsProperName s
shape_proper (Sorts names) p = tt
shape_proper (Subsorts groups) p = tt
shape_proper (Operators names args result said) p = p
shape_proper (Variables names S) p = tt
shape_proper (Statement rule left right fragments executable) p = tt
shape_proper (Import m) p = tt
shape_proper (Class c as_) p = tt

-- and what tokens spell
abbrev IsSpelledByTokens : List ℕ → Type 0
IsSpelledByTokens name = (ts : List (List ℕ)) × (name ≡ name_of_tokens ts)

all_spelled : (names : List (List Name)) → All (IsNamedSo IsSpelledByTokens) names
all_spelled [] = All-nil (IsNamedSo IsSpelledByTokens)
all_spelled (name ∷ names) = All-cons (IsNamedSo IsSpelledByTokens) name names (name, refl) (all_spelled names)

shape_names : (s : Shape) → AreNamesSo IsSpelledByTokens s
shape_names (Sorts names) = tt
shape_names (Subsorts groups) = tt
shape_names (Operators names args result said) = all_spelled names
shape_names (Variables names S) = tt
shape_names (Statement rule left right fragments executable) = tt
shape_names (Import m) = tt
shape_names (Class c as_) = tt

lined_names : (ss : List SeenLined) → All (AreNamesOf IsSpelledByTokens) ss
lined_names [] = All-nil (AreNamesOf IsSpelledByTokens)
lined_names (s ∷ ss) = All-cons (AreNamesOf IsSpelledByTokens) s ss (shape_names s.shape) (lined_names ss)

-- those that each kind has
proper_choice : IsProperName (codes "if_then_else_fi")
proper_choice = (
  All-cons IsProper (codes "if") (codes "then" ∷ codes "else" ∷ codes "fi" ∷ []) (inr (refl, λ e. cc, refl))
      (All-cons IsProper (codes "then") (codes "else" ∷ codes "fi" ∷ []) (inr (refl, λ e. cc, refl))
      (All-cons IsProper (codes "else") (codes "fi" ∷ []) (inr (refl, λ e. cc, refl)) (All-cons IsProper (codes "fi") [] (inr (refl, λ e. cc, refl)) (All-nil IsProper)))),
  λ e. inr (refl, λ e. cc, refl),
)

proper_equal : IsProperName (codes "_==_")
proper_equal = (All-cons IsProper (codes "==") [] (inr (refl, λ e. cc, refl)) (All-nil IsProper), λ e. inr (refl, λ e. cc, refl))

proper_different : IsProperName (codes "_=/=_")
proper_different = (All-cons IsProper (codes "=/=") [] (inr (refl, λ e. cc, refl)) (All-nil IsProper), λ e. inr (refl, λ e. cc, refl))

abbrev IsProperDeclared : Declared → Type 0
IsProperDeclared o = IsProperName o.profile.spelling

operators_proper : (ss : List SeenLined) → All IsProperLined ss → All IsProperDeclared (operators_of ss)
operators_proper ss p =
    operators_spelled IsProperName ss (All-weaker IsProperLined (AreNamesOf IsProperName) (λ s. shape_proper s.shape) ss p) proper_choice proper_equal proper_different

operators_by_tokens : (ss : List SeenLined) → All (HasSpelling IsSpelledByTokens) (operators_of ss)
operators_by_tokens ss = operators_spelled IsSpelledByTokens ss (lined_names ss) (codes "if_then_else_fi" ∷ [], refl) (codes "_==_" ∷ [], refl) (codes "_=/=_" ∷ [], refl)

-- Variables: what each variable has that a statement declares, all have.
module _ (Q : Name × Name → Type 0) where
  abbrev HasVariables : Shape → Type 0
  HasVariables (Sorts names) = ⊤
  HasVariables (Subsorts groups) = ⊤
  HasVariables (Operators names args result said) = ⊤
  HasVariables (Variables names S) = All (λ (n : Name). Q (n, S)) names
  HasVariables (Statement rule left right fragments executable) = ⊤
  HasVariables (Import m) = ⊤
  HasVariables (Class c as_) = ⊤

  abbrev HaveVariables : List SeenLined → Type 0
  HaveVariables ss = All (λ (s : SeenLined). HasVariables s.shape) ss

  -- where a typing comes out, all in it has the property
  abbrev AllTyped : Result Typing Fault → Type 0
  AllTyped (Ok es) = All Q es
  AllTyped (Err f) = ⊤

  joined_typed : (line : ℕ) (o : Option Name) (es : Typing) (n S : Name) → All Q es → Q (n, S) → AllTyped (joined line o es n S)
  joined_typed line None es n S all q = All-append Q es ((n, S) ∷ []) all (All-cons Q (n, S) [] q (All-nil Q))
  joined_typed line (Some T) es n S all q = of (bytes_eq T S)
    where
      of : (b : Bool) → AllTyped (if b then Ok es else Err (record { line = line; kind = AlreadyDefined n }))
      of true = all
      of false = tt

  all_typed : (line : ℕ) (r : Result Typing Fault) (ts : List Name) (S : Name) → AllTyped r → All (λ (n : Name). Q (n, S)) ts → AllTyped (typed line r ts S)
  all_typed line (Err f) ts S all q = tt
  all_typed line (Ok es) [] S all q = all
  all_typed line (Ok es) (t ∷ ts) S all q =
      all_typed line (joined line (sort_in es t) es t S) ts S (joined_typed line (sort_in es t) es t S all (All-head (λ (n : Name). Q (n, S)) t ts q))
      (All-tail (λ (n : Name). Q (n, S)) t ts q)

  shape_typed : (es : Typing) (line : ℕ) (s : Shape) → All Q es → HasVariables s → AllTyped (typed_by es line s)
  shape_typed es line (Sorts names) all q = all
  shape_typed es line (Subsorts groups) all q = all
  shape_typed es line (Operators names args result said) all q = all
  shape_typed es line (Variables names S) all q = all_typed line (Ok es) names S all q
  shape_typed es line (Statement rule left right fragments executable) all q = all
  shape_typed es line (Import m) all q = all
  shape_typed es line (Class c as_) all q = all

  from_typed : (r : Result Typing Fault) (ss : List SeenLined) → AllTyped r → HaveVariables ss → AllTyped (typing_from r ss)
  from_typed (Err f) ss all q = tt
  from_typed (Ok es) [] all q = all
  from_typed (Ok es) (s ∷ ss) all q =
      from_typed (typed_by es s.line s.shape) ss (shape_typed es s.line s.shape all (All-head (λ (s : SeenLined). HasVariables s.shape) s ss q)) (All-tail (λ (s : SeenLined). HasVariables s.shape) s ss q)

  typing_has : (ss : List SeenLined) (typing : Typing) → typing_of ss ≡ Ok typing → HaveVariables ss → All Q typing
  typing_has ss typing e q = subst AllTyped e (from_typed (Ok []) ss (All-nil Q) q)

-- their names are runs
run_names : (names : List Name) (S : Name) → All IsRun names → All IsRun names
run_names [] S all = All-nil IsRun
run_names (t ∷ names) S all = All-cons IsRun t names (All-head IsRun t names all) (run_names names S (All-tail IsRun t names all))

abbrev RunNamed : Name × Name → Type 0
RunNamed e = IsRun e.0

variables_in : (s : Shape) → HasProperParts s → HasVariables RunNamed s
variables_in (Sorts names) p = tt
variables_in (Subsorts groups) p = tt
variables_in (Operators names args result said) p = tt
variables_in (Variables names S) p = run_names names S p
variables_in (Statement rule left right fragments executable) p = tt
variables_in (Import m) p = tt
variables_in (Class c as_) p = tt

variables_run : (ss : List SeenLined) → All IsProperLined ss → HaveVariables RunNamed ss
variables_run [] p = All-nil (λ (s : SeenLined). HasVariables RunNamed s.shape)
variables_run (s ∷ ss) p =
    All-cons (λ (s : SeenLined). HasVariables RunNamed s.shape) s ss (variables_in s.shape (All-head IsProperLined s ss p)) (variables_run ss (All-tail IsProperLined s ss p))

-- their sorts are there
module _ (sorts : List Name) where
  abbrev SortThere : Name × Name → Type 0
  SortThere e = is_among sorts e.1 ≡ true

  all_there : (names : List Name) (S : Name) → is_among sorts S ≡ true → All (λ (n : Name). SortThere (n, S)) names
  all_there [] S e = All-nil (λ (n : Name). SortThere (n, S))
  all_there (t ∷ names) S e = All-cons (λ (n : Name). SortThere (n, S)) t names e (all_there names S e)

  there_in : (s : Shape) → IsKnownIn sorts s → HasVariables SortThere s
  there_in (Sorts names) k = tt
  there_in (Subsorts groups) k = tt
  there_in (Operators names args result said) k = tt
  there_in (Variables names S) k = all_there names S (known_front sorts S [] k).0
  there_in (Statement rule left right fragments executable) k = tt
  there_in (Import m) k = tt
  there_in (Class c as_) k = tt

  -- the variables of statements that are among others, of which all sorts are known
  variables_there : (own ss : List SeenLined) → IsWithin own ss → unknown_from sorts ss ≡ None → HaveVariables SortThere own
  variables_there own ss within e =
      All-weaker (λ (s : SeenLined). IsKnownIn sorts s.shape) (λ (s : SeenLined). HasVariables SortThere s.shape) (λ s. there_in s.shape) own
      (shaped_within (IsKnownIn sorts) own ss within (all_known sorts ss e))

-- variables with their sorts
module _ (sig : Signature) where
  abbrev HasSortThere : Variable → Type 0
  HasSortThere x = IsSortOf sig x.sort

  sorted_variables : (es : Typing) → All (SortThere sig.sorts) es → All HasSortThere (variables_with sig.sorts es)
  sorted_variables [] all = All-nil HasSortThere
  sorted_variables (e ∷ es) all =
      All-cons HasSortThere (record { name = e.0; sort = number_of sig.sorts e.1 }) (variables_with sig.sorts es)
      (number_there sig.sorts e.1 (All-head (SortThere sig.sorts) e es all)) (sorted_variables es (All-tail (SortThere sig.sorts) e es all))

  proper_variables : (es : Typing) → All RunNamed es → All (SortThere sig.sorts) es → All (IsProperVariable sig) (variables_with sig.sorts es)
  proper_variables [] run all = All-nil (IsProperVariable sig)
  proper_variables (e ∷ es) run all =
      All-cons (IsProperVariable sig) (record { name = e.0; sort = number_of sig.sorts e.1 }) (variables_with sig.sorts es)
      (All-head RunNamed e es run, number_there sig.sorts e.1 (All-head (SortThere sig.sorts) e es all))
      (proper_variables es (All-tail RunNamed e es run) (All-tail (SortThere sig.sorts) e es all))

-- the sorts of variables are there
module _ (own ss : List SeenLined) (within : IsWithin own ss) (typing : Typing) (typed : typing_of own ≡ Ok typing) (r : Reached) (d : Declarations) (h : Declares r typing ss d) where
  sorts_there : All (SortThere (sorts_of ss)) typing
  sorts_there = typing_has (SortThere (sorts_of ss)) own typing typed (variables_there (sorts_of ss) own ss within h.known)

  pub declared_sorted : All (λ (x : Variable). IsSortOf d.signature x.sort) d.variables
  declared_sorted =
      subst (λ (d : Declarations). All (λ (x : Variable). IsSortOf d.signature x.sort) d.variables) (sym h.declared) (sorted_variables (signature_of r ss) typing sorts_there)

pub declarations_are_proper : DeclarationsAreProper
declarations_are_proper r own ss typing d within runs typed proper h =
    let sig = signature_of r ss in
    let os = operators_of ss in
    let names = All-map (λ (o : Operator). IsProperName o.spelling) (operator_of (built_in r (hierarchy_of ss) ss) os) os (operators_proper ss proper) in
    let spelled = All-map (λ (o : Operator). IsSpelledByTokens o.spelling) (operator_of (built_in r (hierarchy_of ss) ss) os) os (operators_by_tokens ss) in
    subst AreProper (sym h.declared) (record {
      operators = all_at (λ (o : Operator). IsProperName o.spelling) sig.operators names;
      spelled = all_at (λ (o : Operator). IsSpelledByTokens o.spelling) sig.operators spelled;
      sorts = sorts_proper [] ss (All-nil IsRun) proper;
      variables = proper_variables sig typing (typing_has RunNamed own typing typed (variables_run own runs)) (sorts_there own ss within typing typed r d h);
    })
