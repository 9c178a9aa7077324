-- What is found, but for failures: a rule with a solution that isn't one of them; or all are.
use Rattle.std.specs.Prelude.{◌≡◌, ℕ, List, [], ◌∷◌, ◌++◌, length, true, Option, Some, None, slice_get, refl}
use Rattle.std.specs.List.{zip}
use Rattle.std.proofs.Common.{sym, subst, ap, ◌∙◌, ⊎_elim}
use Rattle.std.proofs.lemmas.Option.{same_Some}
use Rattle.mw_logic.specs.Term.{Variable, RawTerm, RawTerms, apply}
use Rattle.mw_logic.specs.Signature.{Signature, Member, IsRawTerm, at_number}
use Rattle.mw_logic.specs.Accepted.{IsAccepted}
use Rattle.mw_logic.specs.Axioms.{done}
use Rattle.mw_logic.specs.Parts.{nested}
use Rattle.mw_logic.specs.NormalForm.{normal_form}
use Rattle.mw_logic.specs.CanonicalPart.{IsPartOf}
use Rattle.mw_logic.specs.Substitution.{Substitution, value, IsSolution, SameSolution}
use Rattle.mw_logic.specs.Module.{Module, Statement, IsStatement}
use Rattle.mw_logic.specs.Judgements.{Fails, IsNormal}
use Rattle.mw_logic.specs.Ends.{IsFinal}
use Rattle.mw_logic.specs.Parts.{ReplacesPart}
use Rattle.mw_logic.proofs.Inside.{raw_inside}
use Rattle.mw_logic.proofs.PartsOfNormalForm.{part_kept}
use Rattle.mw_logic.proofs.RawKept.{raw_kept}
use Rattle.mw_logic.proofs.SameConditions.{Fails-same}
use Rattle.mw_logic.proofs.SameSolutions.{same_solution-sym, same_solution-trans}
use Rattle.mw_logic.proofs.SolutionLaws.{solution_kept}
use Rattle.mw_logic.proofs.Soundness.{normal_form-sound}
use Rattle.mw_canon.specs.Canonical.{IsAdmittedTerm, meant}
use Rattle.mw_position.specs.Variables.{met, bound_variables, bound_values}
use Rattle.mw_poset.proofs.Members.{member-push}
use Rattle.mw_redex.specs.Replaced.{IsTaken, IsOpenArgument, IsOpenWay, way_of_place}
use Rattle.mw_redex.specs.Paths.{at_path}
use Rattle.mw_proof.specs.Failures.{Failure, IsFailure}
use Rattle.mw_least.specs.Workable.{IsWorkable}
use Rattle.mw_solving.specs.Values.{AreValues}
use Rattle.mw_solving.proofs.Admitted.{admitted_value}
use Rattle.mw_solving.proofs.Candidates.{variables_zipped, values_zipped}
use Rattle.mw_index.specs.Choices as choices
use Rattle.mw_index.specs.Choices.{Tried, tried_of, solution_of, IsTried}
use Rattle.mw_index.specs.Index.{operator_of, AreRulesOf}
use Rattle.mw_index.specs.Oriented.{IsOriented}
use Rattle.mw_index.specs.declared.choices.Choice.{Choice}
use Rattle.mw_index.specs.declared.oriented.Oriented.{Oriented}
use Rattle.mw_index.specs.declared.index.Rule.{Rule}
use Rattle.mw_index.proofs.Sides.{left_zipped}
use Rattle.mw_reduce.specs.Attempts.{IsTriable}
use Rattle.mw_reduce.specs.Evaluations.{AreBoundTo}
use Rattle.mw_reduce.proofs.Applying.{left_bound}
use Rattle.mw_redexes.specs.Spots.{AreWanted, AreAllSpots, AreWays}
use Rattle.mw_redexes.specs.Redexes.{AreAllAsked, IsFoundIn}
use Rattle.mw_rule.specs.Finding.{IsFailureOf, IsAmong, IsRedexOf, IsKnown, AreAllKnown, IsTriedAmong, AreTriedAmong}
use Rattle.mw_redexes.specs.declared.spots.Wanted.{Wanted}
use Rattle.mw_redexes.specs.declared.spots.Spot.{Spot}
use Rattle.mw_redexes.specs.declared.redexes.Found.{Found}
use Rattle.mw_rule.proofs.Alike.{same_values, same_meant, same_agrees, fails_alike}
use Rattle.mw_redexes.proofs.Everywhere.{tried_everywhere}
use Rattle.mw_redexes.proofs.Standing.{part_there, admitted_there}
use Rattle.mw_redexes.proofs.Ways.{way_more}

-- one more that was tried
one_more_among : (M : Module) (fs : List Failure) (tried : List Tried) (c : Tried) → AreTriedAmong M fs tried → ((e : Statement) → IsStatement M c.number e → IsTriedAmong M fs c e) → AreTriedAmong M fs (tried ++ c ∷ [])
one_more_among M fs tried c h f d m e is =
    ⊎_elim (λ k. h d k e is) (λ k. subst (λ (d : Tried). IsTriedAmong M fs d e) k (f e (subst (λ (d : Tried). IsStatement M d.number e) (sym k) is))) (member-push d c tried m)

module _ (M : Module) (work : IsWorkable M) (fs : List Failure) (over : (f : Failure) → Member f fs → f.over ≡ M) (tried : List Tried) (among : AreTriedAmong M fs tried) where
  abbrev sig : Signature
  sig = M.signature

  abbrev ok : IsAccepted sig
  ok = work.signature.accepted

  -- what was tried is known
  known : (k : ℕ) (e : Statement) → IsStatement M k e → (s : Substitution) → IsTried sig tried k e s → IsKnown M fs k e s
  known k e is s (c, member, number, alike) =
      let h = among c member e (subst (λ i. IsStatement M i e) (sym number) is) in
      let f : Failure = h.failure in
      let z : Substitution = zip (met [] e.left) c.values in
      let equal : (x : Variable) → value (meant sig f.subst) x ≡ value (meant sig z) x = λ x. sym (same_meant sig z f.subst (same_values z f.subst h.is.1 h.is.2) x) in
      let together : SameSolution sig (meant sig z) (meant sig f.subst) = (same_agrees sig (meant sig z) (meant sig f.subst) (λ x. sym (equal x)), same_agrees sig (meant sig f.subst) (meant sig z) equal) in
      let here : f.over ≡ M = over f h.listed in
      let at_e : at_number M.statements f.statement ≡ Some e = ap (at_number M.statements) (h.is.0 ∙ number) ∙ is.is_there in
      let at_it : at_number M.statements f.statement ≡ Some h.fails.statement = ap (λ (N : Module). at_number N.statements f.statement) (sym here) ∙ h.fails.is_there in
      let same : h.fails.statement ≡ e = same_Some h.fails.statement e (sym at_it ∙ at_e) in
      let fails : Fails M 63 h.fails.statement.fragments (meant sig f.subst) = subst (λ (N : Module). Fails N 63 h.fails.statement.fragments (meant N.signature f.subst)) here h.fails.fails in
      let fails_e : Fails M 63 e.fragments (meant sig f.subst) = subst (λ (d : Statement). Fails M 63 d.fragments (meant sig f.subst)) same fails in
      record {
        failure = f;
        listed = h.listed;
        number = h.is.0 ∙ number;
        same = same_solution-trans sig s (meant sig z) (meant sig f.subst) alike together;
        fails = Fails-same M (ReplacesPart sig) 63 e.fragments (meant sig z) s (same_solution-sym sig s (meant sig z) alike) h.substitution (fails_alike M 63 e.fragments (meant sig f.subst) (meant sig z) equal fails_e);
      }

  -- where all were tried, all are known
  pub all_known : (t : RawTerm) → IsAdmittedTerm sig t → (wanted : Wanted) (rules : List Rule) → AreRulesOf M rules → AreWanted rules wanted
      → (spots : List Spot) → AreAllSpots sig wanted t spots → AreAllAsked M rules spots tried → AreAllKnown M fs t
  all_known t a wanted rules are asks spots listed all C w p k r is rule s sol =
      let q : IsPartOf sig true (normal_form sig (nested sig t)) (normal_form sig w) = part_kept sig ok C w (λ z. p.not_frozen) a.raw p.part in
      let raw : IsRawTerm sig w = raw_inside sig ok C w ((raw_kept sig ok p.part.equal).0 a.raw) in
      let inside : IsPartOf sig true t (normal_form sig w) = subst (λ x. IsPartOf sig true x (normal_form sig w)) a.canonical q in
      let here : IsSolution sig r.left (nested sig (normal_form sig w)) [] s = solution_kept sig ok work.signature.well_sorted done (normal_form-sound sig ok raw) sol in
      known k r is s (tried_everywhere M work t (admitted_value sig ok t a) wanted rules are asks spots listed tried all (normal_form sig w) inside k r is rule s here)

-- a normal term where all are known is final
pub known_final : (M : Module) (fs : List Failure) (t : RawTerm) → IsNormal M 63 (nested M.signature t) → AreAllKnown M fs t → IsFinal M (nested M.signature t)
known_final M fs t normal all = record { normal = normal; no_rule = λ C w p k r is rule s sol. (all C w p k r is rule s sol).fails }

-- what stands at the end of a place
taken_there : (g : Signature) (take : Option (List ℕ)) (u w : RawTerm) → choices.IsTaken g take u w → IsTaken g take u w
taken_there g None u w h = sym h
taken_there g (Some ks) u w h = h.takes

-- no argument on the way there is frozen
open_there : (g : Signature) (take : Option (List ℕ)) (path : List ℕ) (t u w : RawTerm) → at_path t path ≡ Some u → IsOpenWay g true path t → choices.IsTaken g take u w
    → ((ks : List ℕ) (f : ℕ) (ts : RawTerms) → take ≡ Some ks → u ≡ apply f ts → Rattle.mw_logic.specs.CanonicalPart.IsOpen g true f 1) → IsOpenWay g true (way_of_place path take) t
open_there g None path t u w there way taken free = way
open_there g (Some ks) path t u w there way taken free =
    let m = taken.takes in
    way_more g path 1 t u there way (subst (λ v. IsOpenArgument g true v 1) (sym m.term) (free ks m.operator m.args refl m.term))

-- a choice at a part of an admitted term
module _ (M : Module) (work : IsWorkable M) (t : RawTerm) (a : IsAdmittedTerm M.signature t) (wanted : Wanted) (spots : List Spot) (listed : AreAllSpots M.signature wanted t spots) (x : Found) (h : IsFoundIn M spots x) where
  abbrev e : Statement
  e = h.found.choice.statement

  abbrev lefts : List Variable
  lefts = met [] e.left

  abbrev us : List RawTerm
  us = x.choice.values.items

  abbrev triable : IsTriable M h.spot.term.now x.choice
  triable = record { choice = h.found.choice; sized = h.found.sized; admitted = admitted_there M work t a wanted spots listed x h }

  bound : AreBoundTo M lefts us
  bound = left_bound M work h.spot.term.now x.choice triable

  -- its values by the names of the left side's variables
  named_there : zip e.variables us ≡ zip lefts us
  named_there = left_zipped M work x.choice.by.now.number e h.found.choice.is_there us bound.size

  -- it is among the failures
  tried_there : (fs : List Failure) → (f : Failure) × Member f fs × IsFailureOf f x.choice.by.now.number (zip e.variables us) × IsFailure f
      → (d : Statement) → IsStatement M x.choice.by.now.number d → IsTriedAmong M fs (tried_of x.choice) d
  tried_there fs (f, member, is, fails) d there =
      let same : e ≡ d = same_Some e d (sym h.found.choice.is_there.is_there ∙ there.is_there) in
      subst (IsTriedAmong M fs (tried_of x.choice)) same (record {
        substitution = h.found.choice.solution.substitution;
        failure = f;
        listed = member;
        is = subst (IsFailureOf f x.choice.by.now.number) named_there is;
        fails = fails;
      })

  -- the same choice again
  tried_as : (c : Choice) → c.by.now ≡ x.choice.by.now → c.values.items ≡ us → c.take ≡ x.choice.take → IsTriable M h.spot.term.now c
  tried_as c by values take =
      let q = h.found.choice in
      let u : RawTerm = h.spot.term.now in
      record {
        choice = record {
          statement = e;
          is_there = subst (λ (o : Oriented). IsStatement M o.number e) (sym by) q.is_there;
          is = subst (IsOriented M.signature (operator_of u) e) (sym by) q.is;
          part = q.part;
          taken = subst (λ o. choices.IsTaken M.signature o u q.part) (sym take) q.taken;
          values = subst (AreValues M.signature) (sym values) q.values;
          solution = subst (λ vs. IsSolution M.signature e.left (nested M.signature q.part) [] (solution_of M.signature e vs)) (sym values) q.solution;
        };
        sized = ap length values ∙ triable.sized ∙ ap (λ (o : Oriented). length o.sorts) (sym by);
        admitted = triable.admitted;
      }

  -- or it isn't
  redex_there : (fs : List Failure) (s : Substitution) (path : List ℕ) → s ≡ zip e.variables us → (IsAmong fs x.choice.by.now.number s → ⊥)
      → at_path t path ≡ Some h.spot.term.now → IsOpenWay M.signature true path t
      → IsRedexOf M fs t (record { by = x.choice.by; subst = s; place = record { path = path; take = x.choice.take } })
  redex_there fs s path is other there way =
      let (C, free, part) = part_there M work t a wanted spots listed x h in
      let named : s ≡ zip lefts us = is ∙ named_there in
      let q = h.found.choice in
      record {
        statement = e;
        is_there = q.is_there;
        rule = sym q.is.rule ∙ h.found.rule;
        context = C;
        part = q.part;
        for_rules = record { part = part; not_frozen = free refl };
        solves = subst (λ z. IsSolution M.signature e.left (nested M.signature q.part) [] (meant M.signature z)) (sym named) q.solution;
        place = record { end = h.spot.term.now; there = there; taken = taken_there M.signature x.choice.take h.spot.term.now q.part q.taken };
        open_way = open_there M.signature x.choice.take path t h.spot.term.now q.part there way q.taken h.found.free;
        other = other;
        triable = λ c k. let as_values : c.values.items ≡ us = k.values ∙ ap bound_values named ∙ values_zipped lefts us bound.size in (tried_as c k.by as_values k.take, ap (λ (o : Oriented). o.rule) k.by ∙ h.found.rule);
        asked = record {
          is_there = q.is_there;
          condition = q.is.condition;
          variables = ap bound_variables named ∙ variables_zipped lefts us bound.size;
          bound = subst (AreBoundTo M lefts) (sym (ap bound_values named ∙ values_zipped lefts us bound.size)) bound;
        };
      }

  -- the same by what its values are named
  module _ (s : Substitution) (vs : List RawTerm) (same : vs ≡ us) (is : (d : Statement) → IsStatement M x.choice.by.now.number d → s ≡ zip d.variables vs) where
    name : s ≡ zip e.variables us
    name = subst (λ ws. s ≡ zip e.variables ws) same (is e h.found.choice.is_there)

    pub more_among : (fs : List Failure) (tried : List Tried) → AreTriedAmong M fs tried → (f : Failure) × Member f fs × IsFailureOf f x.choice.by.now.number s × IsFailure f → AreTriedAmong M fs (tried ++ tried_of x.choice ∷ [])
    more_among fs tried among (f, member, of, fails) =
        one_more_among M fs tried (tried_of x.choice) among (tried_there fs (f, member, subst (IsFailureOf f x.choice.by.now.number) name of, fails))

    pub redex_found : (fs : List Failure) → (IsAmong fs x.choice.by.now.number s → ⊥) → (path : List ℕ) (parts : List Spot) → parts ≡ spots
        → ((g : Signature) (root : RawTerm) (p : Spot) → AreWays g root parts → slice_get parts x.at ≡ Some p → (at_path root path ≡ Some p.term.now) × IsOpenWay g true path root)
        → IsRedexOf M fs t (record { by = x.choice.by; subst = s; place = record { path = path; take = x.choice.take } })
    redex_found fs other path parts listed_so way_to =
        let (there, way) = way_to M.signature t h.spot (subst (AreWays M.signature t) (sym listed_so) listed.sound) (subst (λ ps. slice_get ps x.at ≡ Some h.spot) (sym listed_so) h.there) in
        redex_there fs s path name other there way
