-- Where no row is met and no equation has a solution, nothing applies; and what is asked for, as rows see it.
use Rattle.std.specs.Prelude.{◌≡◌, ℕ, List, [], ◌∷◌, ◌++◌, refl}
use Rattle.std.proofs.Common.{Bor, sym, subst, ◌∙◌, ⊎_elim}
use Rattle.mw_logic.specs.Term.{RawTerm, RawTerms, numeral, quoted, variable, apply}
use Rattle.mw_logic.specs.Terms.{terms_of}
use Rattle.mw_logic.specs.Signature.{Signature}
use Rattle.mw_logic.specs.Accepted.{IsAccepted, IsWellSorted}
use Rattle.mw_logic.specs.Built.{HasBuiltIns}
use Rattle.mw_logic.specs.Substitution.{Substitution, IsSubstitution, SameSolution}
use Rattle.mw_logic.specs.Module.{Module, Fragment, Statement, IsStatement}
use Rattle.mw_logic.specs.Judgements.{AdmittedStep, IsNormalBy, admitted_judgements}
use Rattle.mw_logic.proofs.Canonical.{Each}
use Rattle.mw_logic.proofs.CanonicalTerms.{fixed}
use Rattle.mw_logic.proofs.SameConditions.{Fails-same}
use Rattle.mw_logic.proofs.SameSolutions.{same_solution-sym}
use Rattle.mw_poset.proofs.Members.{member-push}
use Rattle.mw_term.specs.Shapes.{viewed}
use Rattle.mw_term.specs.declared.term.View.{View}
use Rattle.mw_solving.specs.Values.{IsValue}
use Rattle.mw_solving.proofs.Grounds.{nested_ground}
use Rattle.mw_deduction.specs.Tops.{NothingAtTops, IsNormalTerm}
use Rattle.mw_least.specs.Workable.{IsWorkable}
use Rattle.mw_builtin.specs.Schemata.{AreSchemataOf}
use Rattle.mw_builtin.specs.Steps.{IsGroundTerm, HasNoRow, IsStepOf}
use Rattle.mw_builtin.specs.declared.table.Schemata.{Schemata}
use Rattle.mw_builtin.specs.declared.step.Met.{Met}
use Rattle.mw_index.specs.Choices.{Tried, AreAllTried, solution_of}
use Rattle.mw_reduce.specs.Turns.{IsFailed, AreFailed}
use Rattle.mw_frames.specs.State.{Run, Data, IsRun}
use Rattle.mw_frames.specs.Steps.{IsAskedFor, asked_term}
use Rattle.mw_frames.specs.declared.looking.Asked.{Asked}
use Rattle.mw_frames.specs.declared.looking.Asked.TheVariants.{Term, Own}
use Rattle.mw_frames.proofs.Asking.{complete_asked, asked_for_value}

-- What fails for a substitution fails for a same one.
fails_same : (M : Module) (n : ℕ) (C : List Fragment) (q r : Substitution) → SameSolution M.signature q r → IsSubstitution M.signature q → (admitted_judgements M n).Fails C q → (admitted_judgements M n).Fails C r
fails_same M n C q r e i f = Fails-same M (AdmittedStep M) n C q r e i f

pub nothing_applies : (M : Module) (n : ℕ) (t : RawTerm) (tried : List Tried) → HasNoRow M.signature t → AreFailed M n tried → AreAllTried M t tried → NothingAtTops M (admitted_judgements M n).Fails t
nothing_applies M n t tried rows failed h = record {
  no_equation = λ w top k e there by s solution.
      let (c, m, number, same) = h k e there by w top s solution in
      let f = failed c m e (subst (λ i. IsStatement M i e) (sym number) there) in
      fails_same M n e.fragments (solution_of M.signature e c.values) s (same_solution-sym M.signature s (solution_of M.signature e c.values) same) f.substitution f.fails;
  no_row = rows.no_row;
  no_pair = rows.no_pair;
}

-- none was tried yet
pub none_failed : (M : Module) (n : ℕ) → AreFailed M n []
none_failed M n c m = absurd m

-- one more that fails
pub failed_more : (M : Module) (n : ℕ) (tried : List Tried) (c : Tried) → AreFailed M n tried → ((e : Statement) → IsStatement M c.number e → IsFailed M n c e) → AreFailed M n (tried ++ c ∷ [])
failed_more M n tried c h f d m e is = ⊎_elim (λ k. h d k e is) (λ k. subst (λ (d : Tried). IsFailed M n d e) k (f e (subst (λ (d : Tried). IsStatement M d.number e) (sym k) is))) (member-push d c tried m)

pub ground_value : (sig : Signature) → IsAccepted sig → (t : RawTerm) → IsValue sig t → IsGroundTerm sig t
ground_value sig ok t v = record { raw = v.raw; canonical = fixed sig ok t v.canonical; ground = sym (nested_ground sig t) ∙ v.ground }

-- the arguments of what is asked for are normal
pub asked_normal : (K : Run) (sig : Signature) → IsRun K sig → (count : ℕ) (d : Data) (a : Asked) → IsAskedFor K count d a → (f : ℕ) (ts : RawTerms) → asked_term d a ≡ apply f ts → Each (IsNormalTerm K.over (admitted_judgements K.over K.rank).Fails) ts
asked_normal K sig run count d (Term t) h f ts e = h.holds.job f ts e
asked_normal K sig run count d (Own g) h f ts e = (complete_asked K sig run count d g h).holds.job f ts e

-- what rows do at what is asked for
pub step_asked : (K : Run) (sig : Signature) → IsRun K sig → (M : Module) → K.over ≡ M → IsWorkable M → (count : ℕ) (d : Data) (a : Asked) → IsAskedFor K count d a → (s : Schemata) → AreSchemataOf M.signature s → (facts : Signature) → facts ≡ M.signature
    → (f : ℕ) (args : List RawTerm) (met : Met) → asked_term d a ≡ apply f (terms_of args)
    → ((M : Module) (n : ℕ) → AreSchemataOf M.signature s → facts ≡ M.signature → IsAccepted M.signature → IsWellSorted M.signature → HasBuiltIns M.signature → IsGroundTerm M.signature (apply f (terms_of args))
    → Each (IsNormalTerm M (admitted_judgements M n).Fails) (terms_of args) → IsStepOf M.signature (IsNormalBy M (admitted_judgements M n).Fails) (apply f (terms_of args)) met)
    → IsStepOf K.over.signature (IsNormalBy K.over (admitted_judgements K.over K.rank).Fails) (asked_term d a) met
step_asked K sig run M here work count d a h s schemata facts e f args met is step =
    let w : IsWorkable K.over = subst IsWorkable (sym here) work in
    let v : IsValue K.over.signature (asked_term d a) = asked_for_value K sig run count d a h in
    subst (λ t. IsStepOf K.over.signature (IsNormalBy K.over (admitted_judgements K.over K.rank).Fails) t met) (sym is)
    (step K.over K.rank (subst (λ m. AreSchemataOf m.signature s) (sym here) schemata) (subst (λ m. facts ≡ m.signature) (sym here) e) run.accepted run.sorted w.built
    (subst (IsGroundTerm K.over.signature) is (ground_value K.over.signature run.accepted (asked_term d a) v)) (asked_normal K sig run count d a h f (terms_of args) is))

-- what isn't an operator on arguments
pub no_operator : (t : RawTerm) (v : View) → t ≡ viewed v → ((f : ℕ) (xs : Bor (List RawTerm)) → v ≡ View.Op f xs → ⊥) → (f : ℕ) (ts : RawTerms) → t ≡ apply f ts → ⊥
no_operator t (View.Nat n) e h f ts q = let z : apply f ts ≡ numeral n = sym q ∙ e in cc
no_operator t (View.Qid n) e h f ts q = let z : apply f ts ≡ quoted n.now = sym q ∙ e in cc
no_operator t (View.Var x) e h f ts q = let z : apply f ts ≡ variable x.now = sym q ∙ e in cc
no_operator t (View.Op g xs) e h f ts q = h g xs refl
