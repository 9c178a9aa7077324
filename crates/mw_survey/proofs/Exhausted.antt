-- A survey that has done all its subjects while no element came leaves nothing to claim.
use Rattle.std.specs.Prelude.{◌≡◌, ◌<◌, ℕ, suc, List, [], ◌++◌, ◌∷◌, length, true, IsPermutation, refl}
use Rattle.std.proofs.Common.{sym, subst, ◌∙◌, inl, inr, ⊎_elim, arith}
use Rattle.mw_logic.specs.Term.{RawTerm, RawTerms}
use Rattle.mw_logic.specs.Terms.{terms_of, list_of}
use Rattle.mw_logic.specs.Signature.{Signature, Member, IsRawTerm}
use Rattle.mw_logic.specs.Accepted.{IsAccepted}
use Rattle.mw_logic.specs.Axioms.{done}
use Rattle.mw_logic.specs.Parts.{nested, is_assoc}
use Rattle.mw_logic.specs.TermOrder.{sorted_terms}
use Rattle.mw_logic.specs.NormalForm.{is_comm, normal_form}
use Rattle.mw_logic.specs.CanonicalPart.{IsPartOf}
use Rattle.mw_logic.specs.CanonicalPart as part
use Rattle.mw_logic.specs.Substitution.{IsSolution}
use Rattle.mw_logic.specs.Module.{Module}
use Rattle.mw_logic.proofs.CanonicalTerms.{fixed}
use Rattle.mw_logic.proofs.Inside.{raw_inside}
use Rattle.mw_logic.proofs.PartsOfNormalForm.{part_kept, part_found}
use Rattle.mw_logic.proofs.RawKept.{raw_kept}
use Rattle.mw_logic.proofs.SolutionLaws.{solution_kept}
use Rattle.mw_logic.proofs.Soundness.{normal_form-sound}
use Rattle.mw_canon.specs.Canonical.{IsAdmittedTerm}
use Rattle.mw_deduction.proofs.NormalParts.{part_admitted}
use Rattle.mw_least.specs.Workable.{IsWorkable}
use Rattle.mw_solving.specs.Values.{IsValue}
use Rattle.mw_solving.proofs.Admitted.{admitted_value}
use Rattle.mw_index.proofs.Staying.{top_value}
use Rattle.mw_multiset.specs.Together.{together, AreMembers}
use Rattle.mw_multiset.specs.Together.{IsOpenOperator}
use Rattle.mw_multiset.proofs.Together.{list_terms}
use Rattle.mw_world.specs.World.{Try}
use Rattle.mw_redexes.specs.Spots.{IsReached, itself, argument}
use Rattle.mw_redexes.proofs.Everywhere.{value_reached}
use Rattle.mw_redexes.proofs.Passed.{member_place}
use Rattle.mw_redexes.proofs.Reaching.{part_reached, reached_part, open_part_of, open_top}
use Rattle.mw_survey.specs.Surveys.{AreAllTried, IsExhausted, Covers}
use Rattle.mw_survey.proofs.Permuted.{sorted_shuffles, member_shuffled, cons_not_nil, none_left}
use Rattle.mw_survey.proofs.Fewer.{part_of_fewer, together_several, together_one, IsPartOfOne, IsPartOfSeveral}

module _ (M : Module) (work : IsWorkable M) (f : ℕ) (assoc : is_assoc M.signature f ≡ true) (comm : is_comm M.signature f ≡ true) (open_operator : IsOpenOperator M.signature f) where
  abbrev sig : Signature
  sig = M.signature

  abbrev ok : IsAccepted sig
  ok = work.signature.accepted

  is_part_admitted : (t w : RawTerm) → IsAdmittedTerm sig t → IsPartOf sig true t w → IsValue sig w → IsAdmittedTerm sig w
  is_part_admitted t w a p v =
      let (C, free, part) = part_found sig ok {by_rule = true} {t = nested sig t} w a.raw (subst (λ y. IsPartOf sig true y w) (sym a.canonical) p) in
      record { raw = v.raw; canonical = fixed sig ok w v.canonical; admitted = part_admitted sig ok C (nested sig w) a.raw a.admitted part }

  -- the parts of an admitted term that rules may change are admitted
  pub admitted_part : (t w : RawTerm) → IsAdmittedTerm sig t → IsPartOf sig true t w → IsAdmittedTerm sig w
  admitted_part t w a p =
      let (u, reached, place) = part_reached sig t t w itself p in
      is_part_admitted t w a p (top_value sig ok u w (open_top sig u w place) (value_reached sig ok t u (admitted_value sig ok t a) reached))

  -- the elements are arguments of the whole, or it is the only one
  pub element_reached : (all : List RawTerm) → AreMembers sig f all → (x : RawTerm) → Member x all → IsReached sig (together sig f all) x
  element_reached [] h x m = absurd m
  element_reached (y ∷ []) h x m =
      ⊎_elim (λ e. subst (λ t. IsReached sig t x) (sym (together_one sig ok f assoc comm open_operator y h)) (subst (IsReached sig y) e itself)) (λ k. absurd k) m
  element_reached (y ∷ z ∷ zs) h x m =
      let ts : RawTerms = sorted_terms (terms_of (y ∷ z ∷ zs)) in
      let p : IsPermutation (y ∷ z ∷ zs) (list_of ts) = subst (λ xs. IsPermutation xs (list_of ts)) (list_terms (y ∷ z ∷ zs)) (sorted_shuffles (terms_of (y ∷ z ∷ zs))) in
      let (i, l, at) = member_place (list_of ts) x (member_shuffled (y ∷ z ∷ zs) (list_of ts) p x m) in
      subst (λ t. IsReached sig t x) (sym (together_several sig ok f assoc comm open_operator (y ∷ z ∷ zs) h tt)) (argument f ts (suc i) x itself at (λ b. open_operator _))

  -- so they are admitted where the whole is
  pub element_part : (all : List RawTerm) → AreMembers sig f all → (x : RawTerm) → Member x all → IsPartOf sig true (together sig f all) x
  element_part all h x m = reached_part sig (together sig f all) x x (element_reached all h x m) part.whole

  pub element_value : (all : List RawTerm) → AreMembers sig f all → IsValue sig (together sig f all) → (x : RawTerm) → Member x all → IsValue sig x
  element_value all h v x m = value_reached sig ok (together sig f all) x v (element_reached all h x m)

  -- fewer elements are a part of all
  pub fewer_part : (all free gone : List RawTerm) → AreMembers sig f all → IsPermutation all (free ++ gone) → (free ≡ [] → ⊥) → IsPartOf sig true (together sig f all) (together sig f free)
  fewer_part all free gone h p some =
      let t : RawTerm = together sig f free in
      ⊎_elim
      (λ (q : IsPartOfSeveral sig f all free t). open_part_of sig (together sig f all) t q.1)
      (λ (q : IsPartOfOne sig f all free t). reached_part sig (together sig f all) q.0 t (element_reached all h q.0 q.1) q.3)
      (part_of_fewer sig ok f assoc comm open_operator all free gone h p some t part.whole)

  pub fewer_admitted : (all free gone : List RawTerm) → AreMembers sig f all → IsPermutation all (free ++ gone) → IsAdmittedTerm sig (together sig f all) → (free ≡ [] → ⊥) → IsAdmittedTerm sig (together sig f free)
  fewer_admitted all free gone h p a some = admitted_part (together sig f all) (together sig f free) a (fewer_part all free gone h p some)

  -- Nothing is left to claim.
  pub exhausted : (tries : List Try) (free all : List RawTerm) (at : ℕ) (here : List Rattle.mw_index.specs.Choices.Tried) → Covers M f tries free all at here → length all < at → IsExhausted M f tries free
  exhausted tries free all at here h low = by_list free refl
    where
      tried : (free ≡ [] → ⊥) → AreAllTried M tries (together sig f free)
      tried some C w p k r is rule s sol =
          let t : RawTerm = together sig f free in
          let all_some : all ≡ [] → ⊥ = λ e. some (none_left free h.gone (subst (λ xs. IsPermutation xs (free ++ h.gone)) e h.fewer)) in
          let v : IsValue sig t = admitted_value sig ok t (fewer_admitted all free h.gone h.members h.fewer (h.admitted all_some) some) in
          let q : IsPartOf sig true (normal_form sig (nested sig t)) (normal_form sig w) = part_kept sig ok C w (λ z. p.not_frozen) v.raw p.part in
          let raw : IsRawTerm sig w = raw_inside sig ok C w ((raw_kept sig ok p.part.equal).0 v.raw) in
          let n : RawTerm = normal_form sig w in
          let inside : IsPartOf sig true t n = subst (λ x. IsPartOf sig true x n) (fixed sig ok t v.canonical) q in
          let sol_n : IsSolution sig r.left (nested sig n) [] s = solution_kept sig ok work.signature.well_sorted done (normal_form-sound sig ok raw) sol in
          ⊎_elim
          (λ (y : IsPartOfSeveral sig f all free n).
          let j0 : 0 < at = omega (arith, low) in
          ⊎_elim (λ e. e) (λ no. absurd (no y.2)) (h.done 0 j0 n n (y.0, y.1) refl k r is rule s sol_n))
          (λ (y : IsPartOfOne sig f all free n).
          let x : RawTerm = y.0 in
          let (i, l, at_i) = member_place all x y.1 in
          let below : suc i < at = omega (arith, l, low) in
          ⊎_elim (λ e. e) (λ no. absurd (no y.2)) (h.done (suc i) below n x (x, at_i, y.3) at_i k r is rule s sol_n))
          (part_of_fewer sig ok f assoc comm open_operator all free h.gone h.members h.fewer some n inside)

      by_list : (xs : List RawTerm) → free ≡ xs → IsExhausted M f tries free
      by_list [] e = inl e
      by_list (x ∷ xs) e = inr (tried (λ z. cons_not_nil x xs (sym e ∙ z)))
