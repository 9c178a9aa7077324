-- What is past stays so where elements go and tries come; a subject is done where each answer at it is past and all was asked.
use Rattle.std.specs.Prelude.{◌≡◌, ◌⊎◌, ◌<◌, ◌≤◌, ℕ, zero, suc, List, [], ◌++◌, ◌∷◌, IsPermutation}
use Rattle.std.proofs.Common.{sym, subst, ap, ◌∙◌, inl, inr, ⊎_elim, arith}
use Rattle.std.proofs.lemmas.Option.{same_Some}
use Rattle.std.proofs.lemmas.List.{append_assoc}
use Rattle.std.proofs.lemmas.List.Sorted.{IsPermutation-trans, IsPermutation-append_left, IsPermutation-append_comm}
use Rattle.mw_logic.specs.Term.{RawTerm}
use Rattle.mw_logic.specs.Signature.{Signature, Member, at_number}
use Rattle.mw_logic.specs.Accepted.{IsAccepted}
use Rattle.mw_logic.specs.Parts.{nested}
use Rattle.mw_logic.specs.NormalForm.{normal_form}
use Rattle.mw_logic.specs.Substitution.{Substitution, instance, IsSolution}
use Rattle.mw_logic.specs.Module.{Module, Statement, IsStatement}
use Rattle.mw_logic.proofs.AxiomLaws.{trans}
use Rattle.mw_logic.proofs.CanonicalTerms.{canonical_unique}
use Rattle.mw_logic.proofs.InstanceLaws.{instance_same}
use Rattle.mw_logic.proofs.SameSolutions.{same_solution-trans}
use Rattle.mw_canon.specs.Canonical.{IsAdmittedTerm, meant}
use Rattle.mw_poset.proofs.Members.{member-push}
use Rattle.mw_least.specs.Workable.{IsWorkable}
use Rattle.mw_solving.specs.Values.{IsValue}
use Rattle.mw_index.specs.Index.{AreRulesOf}
use Rattle.mw_index.specs.Choices.{Tried, solution_of, IsTried}
use Rattle.mw_index.specs.declared.index.Rule.{Rule}
use Rattle.mw_index.proofs.Staying.{top_value}
use Rattle.mw_multiset.specs.Together.{together, AreMembers}
use Rattle.mw_world.specs.World.{Try}
use Rattle.mw_redexes.specs.Spots.{IsOpenTop}
use Rattle.mw_redexes.specs.Redexes.{AreTriedOpen}
use Rattle.mw_redexes.proofs.Reaching.{open_top}
use Rattle.mw_survey.specs.Surveys.{AreFree, IsPast, IsTaking, IsPartOfSubject, IsDone, IsPassed, ArePassed, Covers}
use Rattle.mw_survey.proofs.Fewer.{free_before}

-- at the beginning
pub covers_begun : (M : Module) (f : ℕ) (tries : List Try) (free : List RawTerm) → AreMembers M.signature f free → ((free ≡ [] → ⊥) → IsAdmittedTerm M.signature (together M.signature f free)) → Covers M f tries free free 0 []
covers_begun M f tries free members admitted = record {
  members = members;
  gone = [];
  fewer = IsPermutation-append_comm [] free;
  admitted = admitted;
  done = λ j l. absurd (omega (arith, l));
  passed = λ c m. absurd m;
}

-- Elements go, and tries come.
module _ (M : Module) (f : ℕ) (tries more_tries : List Try) (free taken less : List RawTerm) (kept : (t : Try) → Member t tries → Member t more_tries) (goes : IsPermutation free (taken ++ less)) where
  past_kept : (t : RawTerm) (k : ℕ) (s : Substitution) → IsPast M.signature f tries free t k s → IsPast M.signature f more_tries less t k s
  past_kept t k s h = ⊎_elim (λ x. inl (x.0, kept x.0 x.1, x.2, x.3)) (λ n. inr (λ g. n (free_before M.signature f free taken less goes t g))) h

  passed_kept : (all : List RawTerm) (j : ℕ) (c : Tried) → IsPassed M f tries free all j c → IsPassed M f more_tries less all j c
  passed_kept all j c h = record {
    statement = h.statement;
    is_there = h.is_there;
    part = h.part;
    value = h.value;
    solution = h.solution;
    taken = h.taken;
    takes = h.takes;
    past = past_kept h.taken c.number (solution_of M.signature h.statement c.values) h.past;
  }

  pub covers_kept : (all : List RawTerm) (at : ℕ) (here : List Tried) → Covers M f tries free all at here → Covers M f more_tries less all at here
  covers_kept all at here h = record {
    members = h.members;
    gone = taken ++ h.gone;
    fewer =
        IsPermutation-trans all (free ++ h.gone) (less ++ (taken ++ h.gone)) h.fewer
        (IsPermutation-trans (free ++ h.gone) ((taken ++ less) ++ h.gone) (less ++ (taken ++ h.gone)) (IsPermutation-append_left h.gone free (taken ++ less) goes)
        (subst (λ z. IsPermutation ((taken ++ less) ++ h.gone) z) (append_assoc less taken h.gone) (IsPermutation-append_left h.gone (taken ++ less) (less ++ taken) (IsPermutation-append_comm taken less))));
    admitted = h.admitted;
    done = λ j l w t p x k r is rule s sol. past_kept t k s (h.done j l w t p x k r is rule s sol);
    passed = λ c m. passed_kept all at c (h.passed c m);
  }

-- One more answer is past.
pub covers_passed : (M : Module) (f : ℕ) (tries : List Try) (free all : List RawTerm) (at : ℕ) (here : List Tried) (c : Tried) → Covers M f tries free all at here → IsPassed M f tries free all at c → Covers M f tries free all at (here ++ c ∷ [])
covers_passed M f tries free all at here c h p = record {
  members = h.members;
  gone = h.gone;
  fewer = h.fewer;
  admitted = h.admitted;
  done = h.done;
  passed = λ d m. ⊎_elim (λ k. h.passed d k) (λ e. subst (IsPassed M f tries free all at) e p) (member-push d c here m);
}

-- A subject ends.
pub covers_ended : (M : Module) (f : ℕ) (tries : List Try) (free all : List RawTerm) (at : ℕ) (here : List Tried) → Covers M f tries free all at here → IsDone M f tries free all at → Covers M f tries free all (suc at) []
covers_ended M f tries free all at here h p = record {
  members = h.members;
  gone = h.gone;
  fewer = h.fewer;
  admitted = h.admitted;
  done = λ j l. by_number j l (Rattle.std.proofs.lemmas.Bool.cases_lt j at);
  passed = λ c m. absurd m;
}
  where
    by_number : (j : ℕ) → j < suc at → (j < at) ⊎ (at ≤ j) → IsDone M f tries free all j
    by_number j l (inl b) = h.done j b
    by_number j l (inr b) = let e : at ≡ j = omega (arith, l, b) in subst (IsDone M f tries free all) e p

-- the same subject takes the same
same_taking : (all : List RawTerm) (j : ℕ) (w t u : RawTerm) → IsTaking all j w t → IsTaking all j w u → t ≡ u
same_taking all zero w t u a b = a ∙ sym b
same_taking all (suc i) w t u a b = same_Some t u (sym a ∙ b)

module _ (M : Module) (work : IsWorkable M) (f : ℕ) (tries : List Try) (free all : List RawTerm) (j : ℕ) (tried : List Tried) (passed : ArePassed M f tries free all j tried) where
  abbrev sig : Signature
  sig = M.signature

  abbrev ok : IsAccepted sig
  ok = work.signature.accepted

  -- what was tried is past
  pub past_of : (w taken : RawTerm) → IsValue sig w → IsTaking all j w taken → (k : ℕ) (r : Statement) → IsStatement M k r → (s : Substitution) → IsSolution sig r.left (nested sig w) [] s → IsTried sig tried k r s → IsPast sig f tries free taken k s
  past_of w taken v takes k r is s sol (c, member, number, same) =
      let h = passed c member in
      let z : Substitution = solution_of sig r c.values in
      let st : h.statement ≡ r = same_Some h.statement r (sym h.is_there.is_there ∙ ap (at_number M.statements) number ∙ is.is_there) in
      let other : IsSolution sig r.left (nested sig h.part) [] z = subst (λ (d : Statement). IsSolution sig d.left (nested sig h.part) [] (solution_of sig d c.values)) st h.solution in
      let a : w ≡ normal_form sig (instance s r.left) = canonical_unique sig ok w v.canonical sol.matches in
      let b : h.part ≡ normal_form sig (instance s r.left) = canonical_unique sig ok h.part h.value.canonical (trans (instance_same sig s z same r.left) other.matches) in
      let there : IsTaking all j w h.taken = subst (λ y. IsTaking all j y h.taken) (b ∙ sym a) h.takes in
      let e : h.taken ≡ taken = same_taking all j w h.taken taken there takes in
      let p : IsPast sig f tries free h.taken c.number z = subst (λ (d : Statement). IsPast sig f tries free h.taken c.number (solution_of sig d c.values)) st h.past in
      ⊎_elim (λ (t, m, n, q). inl (t, m, n ∙ number, same_solution-trans sig s z (meant sig t.subst) same q)) (λ n. inr (λ g. n (subst (AreFree sig f free) (sym e) g))) p

  -- the whole is done where all rules were asked of it
  pub whole_done : j ≡ 0 → IsValue sig (together sig f all) → (rules : List Rule) → AreRulesOf M rules → ((r : Rule) → Member r rules → AreTriedOpen M (together sig f all) tried r) → IsDone M f tries free all j
  whole_done first v rules are asked w taken p takes k r is rule s sol =
      let t : RawTerm = together sig f all in
      let place : IsOpenTop sig t w = (subst (λ i. IsPartOfSubject M f all i w) first p).1 in
      let here : IsValue sig w = top_value sig ok t w (open_top sig t w place) v in
      let (x, member, number, asks) = are.complete k r is rule in
      let there : IsStatement M x.by.number r = subst (λ i. IsStatement M i r) (sym number) is in
      let (c, m, of, alike) = asked x member (asks t w v (open_top sig t w place) s sol) r there w place s sol in
      past_of w taken here takes k r is s sol (c, m, subst (λ i. c.number ≡ i) number of, alike)
