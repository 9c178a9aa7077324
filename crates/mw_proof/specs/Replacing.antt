-- When a statement or a row may replace a term, and what comes of it.
use Rattle.std.specs.Prelude.{◌≡◌, ◌<◌, ◌++◌, ℕ, List, [], ◌∷◌, map, Some, unwrap_or, IsTrue, ⊤}
use Rattle.std.specs.List.{zip}
use Rattle.mw_logic.specs.Term.{Variable, RawTerm, variable}
use Rattle.mw_logic.specs.Signature.{Signature, IsRawTerm, at_number}
use Rattle.mw_logic.specs.Substitution.{Substitution, value, instance, IsSubstitution}
use Rattle.mw_logic.specs.Parts.{nested, IsClean}
use Rattle.mw_logic.specs.NormalForm.{normal_form}
use Rattle.mw_logic.specs.Module.{Module, Statement, IsStatement, binds_statement, Row}
use Rattle.mw_logic.specs.Proof.{equality, transitivity, Proofs, nil, cons}
use Rattle.mw_logic.specs.Judgements.{IsNormalBy, IsPlainBy, admitted_judgements}
use Rattle.mw_canon.specs.Canonical.{IsAdmittedTerm, HasAdmittedValues, meant}
use Rattle.mw_deduction.specs.Runs.{by_statement, by_row, one, Runs, end, another, run}
use Rattle.mw_deduction.specs.Replay.{Move, begins, ends, all_sides, begun_sides}
use Rattle.mw_trail.specs.Tracks.{Track, moves}
use Rattle.mw_proof.specs.Deductions.{Deduction, deduced, IsKept}
use Rattle.mw_proof.specs.declared.replacing.By.{By}
use Rattle.mw_proof.specs.declared.replacing.By.TheVariants as by

-- The evidence that deductions are: each leads on from what is equal, modulo the axioms, to the term that it begins with. And what they carry out.
abbrev pub evidence : List Deduction → Proofs
evidence [] = nil
evidence (d ∷ ds) = cons (transitivity equality d.proof) (evidence ds)

abbrev pub carried_out : Signature → List Deduction → Runs
carried_out sig [] = end
carried_out sig (d ∷ ds) = another (run (nested sig d.from) (nested sig d.to) d.run) (carried_out sig ds)

-- they are of the module, in ranks below n
abbrev pub AreBelow : Module → ℕ → List Deduction → Type 0
AreBelow M n [] = ⊤
AreBelow M n (d ∷ ds) = (d.over ≡ M) × (d.rank < n) × AreBelow M n ds

-- the moves show these deductions, one side after another
abbrev pub AreSides : Module → List Deduction → List Move → Type 0
AreSides M [] ms = ms ≡ []
AreSides M (d ∷ ds) ms =
    (k : Track) × (rest : List Move) × IsKept d.over d.rank d.from d.to k × (d ≡ deduced d.over d.rank d.from d.to k) × (ms ≡ begins d.from ∷ moves M k ++ ends ∷ rest) × AreSides M ds rest

-- the moves ns are ms, and then show this deduction
abbrev pub AreMore : Module → Deduction → List Move → List Move → Type 0
AreMore M d ms ns = (k : Track) × IsKept d.over d.rank d.from d.to k × (d ≡ deduced d.over d.rank d.from d.to k) × (ns ≡ ms ++ (begins d.from ∷ moves M k ++ ends ∷ []))

-- the values of these variables, in their order; a variable without one stands for itself
abbrev pub value_of : Substitution → Variable → RawTerm
value_of s x = unwrap_or (value s x) (variable x)

abbrev pub values_of : Substitution → List Variable → List RawTerm
values_of s xs = map (value_of s) xs

abbrev pub bindings : Substitution → List Variable → Substitution
bindings s xs = zip xs (values_of s xs)

-- the instance of a term as it is written, as a canonical term
abbrev pub instance_in : Signature → Substitution → RawTerm → RawTerm
instance_in sig s t = normal_form sig (instance (meant sig s) t)

-- Statement k is there and executable. The values of its variables, in their order, are canonical terms that are admitted, and a substitution that binds them.
-- The evidence is of ranks below n, begins at the canonical instances of the condition's sides, in order, and shows the condition in rank n, an `owise`
-- equation has a plain term there, and both instances are admitted.
pub record MayApply (M : Module) (n k : ℕ) (s : Substitution) (ds : List Deduction) : Type 0 where
  pub statement : Statement
  pub is_there : IsStatement M k statement
  pub values : HasAdmittedValues M.signature (bindings s statement.variables)
  pub substitution : IsSubstitution M.signature (meant M.signature (bindings s statement.variables))
  pub bound : IsTrue (binds_statement (meant M.signature (bindings s statement.variables)) statement)
  pub below : AreBelow M n ds
  pub starts : map (λ (d : Deduction). nested M.signature d.from) ds ≡ begun_sides M.signature (meant M.signature (bindings s statement.variables)) (all_sides statement.fragments)
  pub condition : (admitted_judgements M n).Held statement.fragments (meant M.signature (bindings s statement.variables)) (evidence ds) (meant M.signature (bindings s statement.variables))
  pub plain : IsTrue statement.owise → IsPlainBy M (admitted_judgements M n).Fails (instance (meant M.signature (bindings s statement.variables)) statement.left)
  pub begins : IsAdmittedTerm M.signature (instance_in M.signature (bindings s statement.variables) statement.left)
  pub ends : IsAdmittedTerm M.signature (instance_in M.signature (bindings s statement.variables) statement.right)

-- what its instances need
pub record HasInstances (M : Module) (k : ℕ) (s : Substitution) : Type 0 where
  pub statement : Statement
  pub is_there : at_number M.statements k ≡ Some statement
  pub values : HasAdmittedValues M.signature (bindings s statement.variables)
  pub substitution : IsSubstitution M.signature (meant M.signature (bindings s statement.variables))
  pub begins : IsAdmittedTerm M.signature (instance_in M.signature (bindings s statement.variables) statement.left)
  pub ends : IsAdmittedTerm M.signature (instance_in M.signature (bindings s statement.variables) statement.right)

-- the one replacement of the whole by this statement
pub record Applies (M : Module) (k : ℕ) (s : Substitution) (ds : List Deduction) (st : Statement) (d : Deduction) : Type 0 where
  pub from : d.from ≡ instance_in M.signature (bindings s st.variables) st.left
  pub to : d.to ≡ instance_in M.signature (bindings s st.variables) st.right
  pub run : d.run ≡ one (by_statement k (meant M.signature (bindings s st.variables)) (carried_out M.signature ds) (nested M.signature d.from) (nested M.signature d.to))

-- A row leads from t to u in rank n: it is met by a clean raw term that t is in order, and u is what comes of it. Both are admitted.
pub record MeetsRow (M : Module) (n : ℕ) (t u : RawTerm) : Type 0 where
  pub form : RawTerm
  pub result : RawTerm
  pub meets : Row M.signature (IsNormalBy M (admitted_judgements M n).Fails) form result
  pub clean : IsClean M.signature form
  pub raw : IsRawTerm M.signature form
  pub raw_result : IsRawTerm M.signature result
  pub begins_in_order : normal_form M.signature form ≡ t
  pub ends_in_order : normal_form M.signature result ≡ u
  pub begins : IsAdmittedTerm M.signature t
  pub ends : IsAdmittedTerm M.signature u

-- the one replacement of the whole by a row
pub record AppliesRow (M : Module) (t u : RawTerm) (d : Deduction) : Type 0 where
  pub from : d.from ≡ t
  pub to : d.to ≡ u
  pub run : d.run ≡ one (by_row (nested M.signature t) (nested M.signature u))

abbrev pub MayReplace : Module → ℕ → By → Type 0
MayReplace M n (by.Statement k s ds) = MayApply M n k s ds
MayReplace M n (by.Row t u) = MeetsRow M n t u

abbrev pub Replaces : Module → By → Deduction → Type 0
Replaces M (by.Statement k s ds) d = (st : Statement) → at_number M.statements k ≡ Some st → Applies M k s ds st d
Replaces M (by.Row t u) d = AppliesRow M t u d
