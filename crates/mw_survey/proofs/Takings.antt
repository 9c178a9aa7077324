-- What a claim of the choice that waits takes is a part with a redex, and where it is past the choice may be passed over.
use Rattle.std.specs.Prelude.{◌≡◌, ◌≢◌, ◌⊎◌, ◌≤◌, ◌<◌, ℕ, suc, List, [], ◌∷◌, true, Option, Some, None, MatchOption, slice_get, length, refl, ⊤}
use Rattle.std.specs.List.{AllByRecursion}
use Rattle.std.proofs.Common.{sym, subst, ap, ◌∙◌, inl, inr, ⊎_elim, arith}
use Rattle.std.proofs.lemmas.List.Elements.{recursion_from_All}
use Rattle.std.proofs.lemmas.Option.{same_Some}
use Rattle.mw_logic.specs.Term.{RawTerm}
use Rattle.mw_logic.specs.Terms.{terms_of, list_of}
use Rattle.mw_logic.specs.Signature.{Signature, Member}
use Rattle.mw_logic.specs.Accepted.{IsAccepted}
use Rattle.mw_logic.specs.NormalForm.{height}
use Rattle.mw_logic.specs.CanonicalPart.{AreSeveral, IsPartOf}
use Rattle.mw_logic.specs.Module.{Module}
use Rattle.mw_logic.proofs.Canonical.{Each}
use Rattle.mw_canon.specs.Canonical.{IsAdmittedTerm, meant}
use Rattle.mw_redex.specs.Paths.{at_path}
use Rattle.mw_redex.specs.Replaced as replaced
use Rattle.mw_redex.specs.Replaced.{IsOpenWay, way_of_place}
use Rattle.mw_least.specs.Workable.{IsWorkable}
use Rattle.mw_solving.specs.Values.{IsValue}
use Rattle.mw_index.specs.Choices as choices
use Rattle.mw_index.specs.Choices.{Tried, tried_of, IsChoice}
use Rattle.mw_index.specs.Index.{AreRulesOf, IsOf}
use Rattle.mw_index.specs.declared.choices.Choice.{Choice}
use Rattle.mw_index.specs.declared.oriented.Oriented.{Oriented}
use Rattle.mw_index.specs.declared.index.Rule.{Rule}
use Rattle.mw_index.proofs.Staying.{top_value}
use Rattle.mw_index.proofs.TopParts.{taken_top}
use Rattle.mw_multiset.specs.Together.{IsOfMultisets, parts, together, IsMember, AreMembers, IsShallow}
use Rattle.mw_world.specs.World.{Try}
use Rattle.mw_redexes.specs.Redexes.{IsRedexAt}
use Rattle.mw_redexes.specs.declared.redexes.Found.{Found}
use Rattle.mw_redexes.proofs.Reaching.{open_part_of}
use Rattle.mw_redexes.proofs.Standing.{open_taken}
use Rattle.mw_survey.specs.Surveys.{IsPast, IsPassed, IsTaking}
use Rattle.mw_survey.specs.Asked.{AreWaysOn, HaveWays, term_of, parts_in, IsFoundAmong, IsWaiting, IsSubject, IsSurveyWith}
use Rattle.mw_survey.specs.Takings.{named_values, IsAgain, IsAtWhole, IsAtElement, IsTakenBy}
use Rattle.mw_survey.specs.declared.parts.Part.{Part}
use Rattle.mw_survey.specs.declared.survey.Survey.{Survey}
use Rattle.mw_survey.specs.declared.taking.Taken.{Taken}
use Rattle.mw_survey.proofs.Permuted.{cons_not_nil}
use Rattle.mw_survey.proofs.Asking.{map_there, told, some_several, some_there, map_back, member_of_place, subject_values}
use Rattle.mw_survey.proofs.Exhausted.{admitted_part, element_part}
use Rattle.mw_survey.proofs.Again.{taken_there, open_there, same_again, part_again, named_there, enough_names, same_names, standing_part}

-- a member
is_member : (M : Module) (f : ℕ) (all : List RawTerm) → AreMembers M.signature f all → (y : RawTerm) → Member y all → IsMember M.signature f y
is_member M f all h y m = by_list all (recursion_from_All (IsMember M.signature f) all h) m
  where
    by_list : (xs : List RawTerm) → AllByRecursion (IsMember M.signature f) xs → Member y xs → IsMember M.signature f y
    by_list [] k m = absurd m
    by_list (x ∷ xs) k m = ⊎_elim (λ e. subst (IsMember M.signature f) e k.0) (λ n. by_list xs k.1 n) m

-- the choice that waits
pub waiting : (M : Module) (f : ℕ) (rules : List Rule) (tries : List Try) (free : List RawTerm) (passed : List Tried) (s : Survey) (x : Found) → s.found ≡ Some x → IsSurveyWith M f rules tries free passed s → IsWaiting M s.all.items s.at (parts_in s) x
waiting M f rules tries free passed s x e h = subst (λ o. MatchOption o ⊤ (IsWaiting M s.all.items s.at (parts_in s))) e h.last

-- is at one of the parts
pub part_there : (M : Module) (s : Survey) (x : Found) (is : IsFoundAmong M (parts_in s) x) → (p : Part) × (slice_get s.parts.items x.at ≡ Some p) × (p.term ≡ is.term)
part_there M s x is = map_back term_of s.parts.items x.at is.term is.there

module _ (M : Module) (f : ℕ) (rules : List Rule) (tries : List Try) (free : List RawTerm) (passed : List Tried) (s : Survey) (h : IsSurveyWith M f rules tries free passed s) where
  pub waiting_place : (x : Found) (e : s.found ≡ Some x) → (p : Part) × (slice_get s.parts.items x.at ≡ Some p) × (p.term ≡ (waiting M f rules tries free passed s x e h).found.term)
  waiting_place x e = part_there M s x (waiting M f rules tries free passed s x e h).found

  -- what the choice takes of its part
  pub whole_taken : (x : Found) (e : s.found ≡ Some x) (p : Part) → slice_get s.parts.items x.at ≡ Some p → replaced.IsTaken M.signature x.choice.take p.term (waiting M f rules tries free passed s x e h).found.found.choice.part
  whole_taken x e p at =
      let z = (waiting M f rules tries free passed s x e h).found in
      let same : z.term ≡ p.term = same_Some z.term p.term (sym z.there ∙ map_there term_of s.parts.items x.at p at) in
      subst (λ u. replaced.IsTaken M.signature x.choice.take u z.found.choice.part) same (taken_there M.signature x.choice.take z.term z.found.choice.part z.found.choice.taken)

  pub element_below : (x : Found) → s.found ≡ Some x → (i : ℕ) → s.at ≡ suc i → i < length s.all.items
  element_below x e i next = let l = (waiting M f rules tries free passed s x e h).within in omega (arith, l, next)

  pub element_ways : (i : ℕ) → s.at ≡ suc i → (y : RawTerm) → slice_get s.all.items i ≡ Some y → AreWaysOn M.signature y s.parts.items
  element_ways i next y at = subst (λ n. HaveWays M.signature s.all.items n s.parts.items) next h.ways y at

module _ (M : Module) (work : IsWorkable M) (f : ℕ) (op : IsOfMultisets M f) (rules : List Rule) (are : AreRulesOf M rules) (tries : List Try) (free : List RawTerm) (passed : List Tried) (s : Survey)
    (h : IsSurveyWith M f rules tries free passed s) (x : Found) (waits : s.found ≡ Some x) where
  abbrev sig : Signature
  sig = M.signature

  abbrev ok : IsAccepted sig
  ok = work.signature.accepted

  abbrev all : List RawTerm
  all = s.all.items

  abbrev w : IsWaiting M all s.at (parts_in s) x
  w = waiting M f rules tries free passed s x waits h

  abbrev v : RawTerm
  v = w.found.term

  abbrev q : IsChoice M v x.choice
  q = w.found.found.choice

  member_there : Member v (parts_in s)
  member_there = member_of_place (parts_in s) x.at v w.found.there

  value_there : IsValue sig v
  value_there = subject_values M work f rules are op tries free all s.at passed h.covers (parts_in s) w.within h.subject v member_there

  value_taken : IsValue sig q.part
  value_taken = top_value sig ok v q.part (taken_top sig ok x.choice.take v q.part value_there q.taken) value_there

  -- where the choice is past, it may be passed over
  may_pass : (ts : List Try) (fs : List RawTerm) (taken : RawTerm) → IsTaking all s.at q.part taken → IsPast sig f ts fs taken x.choice.by.now.number (meant sig (named_values M x.choice)) → IsPassed M f ts fs all s.at (tried_of x.choice)
  may_pass ts fs taken takes past = record {
    statement = q.statement;
    is_there = q.is_there;
    part = q.part;
    value = value_taken;
    solution = q.solution;
    taken = taken;
    takes = takes;
    past = subst (λ z. IsPast sig f ts fs taken x.choice.by.now.number (meant sig z)) (named_there M work v x.choice w.found.found) past;
  }

  -- what a claim takes
  made : (t : Taken) (take : Option (List ℕ)) → IsAgain take x.choice t.choice → IsAdmittedTerm sig t.part → IsShallow sig f t.part → parts sig f t.part ≢ [] → IsRedexAt M t.part t.path t.choice
      → ((t.path ≡ []) × (t.choice.take ≡ None)) ⊎ (parts sig f t.part ≡ t.part ∷ []) → IsTaking all s.at q.part t.part → IsTakenBy M f s t
  made t take a admitted shallow filled redex alone takes = record {
    found = x;
    waits = waits;
    by = a.by;
    values = a.values;
    admitted = admitted;
    shallow = shallow;
    filled = filled;
    redex = redex;
    named = enough_names M work redex.part t.choice redex.found;
    alone = alone;
    passed = λ ts fs past. may_pass ts fs t.part takes
        (subst (λ z. IsPast sig f ts fs t.part x.choice.by.now.number (meant sig z)) (same_names M take x.choice t.choice a)
        (subst (λ (o : Oriented). IsPast sig f ts fs t.part o.number (meant sig (named_values M t.choice))) a.by past));
  }

  of_again : (take : Option (List ℕ)) (d : Choice) → IsAgain take x.choice d → IsOf M w.of.0 d.by.now
  of_again take d a = subst (IsOf M w.of.0) (sym a.by) w.of.1

  -- at the whole
  pub is_whole : s.at ≡ 0 → AreSeveral (terms_of all) × (v ≡ together sig f all)
  is_whole first =
      let (one, none) = subst (λ n. IsSubject M f rules all n (parts_in s)) first h.subject in
      ⊎_elim
      (λ k. (k, ⊎_elim (λ e. sym e) (λ z. absurd z) (subst (Member v) (one k) member_there)))
      (λ n. absurd (subst (Member v) (none n) member_there)) (told all)

  pub taken_whole : s.at ≡ 0 → (t : Taken) → IsAtWhole q.part x.choice t → IsTakenBy M f s t
  taken_whole first t a =
      let (several, is) = is_whole first in
      let p : RawTerm = q.part in
      let members : AreMembers sig f all = h.covers.members in
      let whole : IsAdmittedTerm sig (together sig f all) = h.covers.admitted (some_several all several) in
      let taken : choices.IsTaken sig x.choice.take (together sig f all) p = subst (λ u. choices.IsTaken sig x.choice.take u p) is q.taken in
      let place : IsPartOf sig true v p = open_part_of sig v p (open_taken sig ok x.choice.take v p value_there q.taken w.found.found.free) in
      let admitted : IsAdmittedTerm sig p = admitted_part M work f op.assoc op.comm op.free (together sig f all) p whole (subst (λ u. IsPartOf sig true u p) is place) in
      let standing = standing_part M work f op all members several x.choice.take p taken in
      let redex : IsRedexAt M p [] t.choice = record {
        part = p;
        there = refl;
        open_way = subst (λ o. IsOpenWay sig true (way_of_place [] o) p) (sym a.again.takes) tt;
        found = part_again M v x.choice t.choice w.found.found a.again;
        top = w.of.0;
        of = of_again None t.choice a.again;
      } in
      made t None a.again (subst (IsAdmittedTerm sig) (sym a.part) admitted) (subst (IsShallow sig f) (sym a.part) standing.shallow) (λ e. standing.filled (ap (parts sig f) (sym a.part) ∙ e))
      (subst (λ u. IsRedexAt M u t.path t.choice) (sym a.part) (subst (λ y. IsRedexAt M p y t.choice) (sym a.path) redex)) (inl (a.path, a.again.takes))
      (subst (λ n. IsTaking all n p t.part) (sym first) a.part)

  -- at an element
  pub taken_element : (i : ℕ) → s.at ≡ suc i → (y : RawTerm) → slice_get all i ≡ Some y → (u : RawTerm) → u ≡ v → (t : Taken) → IsAtElement sig y u x.choice t → IsTakenBy M f s t
  taken_element i next y at u same t a =
      let members : AreMembers sig f all = h.covers.members in
      let member : Member y all = member_of_place all i y at in
      let m : IsMember sig f y = is_member M f all members y member in
      let whole : IsAdmittedTerm sig (together sig f all) = h.covers.admitted (some_there all i y at) in
      let admitted : IsAdmittedTerm sig y = admitted_part M work f op.assoc op.comm op.free (together sig f all) y whole (element_part M work f op.assoc op.comm op.free all members y member) in
      let there : at_path y t.path ≡ Some v = a.there ∙ ap Some same in
      let redex : IsRedexAt M y t.path t.choice = record {
        part = v;
        there = there;
        open_way = subst (λ o. IsOpenWay sig true (way_of_place t.path o) y) (sym a.again.takes) (open_there sig x.choice.take t.path y v q.part there a.open_way q.taken w.found.found.free);
        found = same_again M v x.choice t.choice w.found.found a.again;
        top = w.of.0;
        of = of_again x.choice.take t.choice a.again;
      } in
      let one : parts sig f y ≡ y ∷ [] = ap list_of m.element in
      made t x.choice.take a.again (subst (IsAdmittedTerm sig) (sym a.part) admitted) (subst (IsShallow sig f) (sym a.part) (subst (Each (λ z. height z ≤ 999)) (sym m.element) (m.low, tt)))
      (λ e. cons_not_nil y [] (sym one ∙ ap (parts sig f) (sym a.part) ∙ e)) (subst (λ z. IsRedexAt M z t.path t.choice) (sym a.part) redex)
      (inr (subst (λ z. parts sig f z ≡ z ∷ []) (sym a.part) one)) (subst (λ n. IsTaking all n q.part t.part) (sym next) (at ∙ ap Some (sym a.part)))
