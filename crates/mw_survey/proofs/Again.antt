-- A choice again, at its term or at what it takes; what is taken of a whole.
use Rattle.std.specs.Prelude.{◌<◌, ◌≡◌, ◌≢◌, ◌≤◌, ◌+◌, ℕ, suc, List, [], ◌∷◌, length, Bool, true, false, cond, nat_eq, Option, Some, None, option_map, unwrap_or, IsPermutation, refl}
use Rattle.std.specs.List.{zip}
use Rattle.std.proofs.Common.{sym, subst, ap, ◌∙◌, arith}
use Rattle.std.proofs.lemmas.List.{length-append}
use Rattle.std.proofs.lemmas.List.Sorted.{All-permutation}
use Rattle.std.proofs.lemmas.Option.{none-some}
use Rattle.mw_logic.specs.Term.{Variable, RawTerm, RawTerms, apply, nil, cons}
use Rattle.mw_logic.specs.Terms.{terms_of, list_of}
use Rattle.mw_logic.specs.Signature.{Signature, IsAssociative}
use Rattle.mw_logic.specs.Accepted.{IsAccepted}
use Rattle.mw_logic.specs.TermOrder.{sorted_terms}
use Rattle.mw_logic.specs.Parts.{nested, number_of_terms}
use Rattle.mw_logic.specs.NormalForm.{identity_of, elements, rebuilt, height}
use Rattle.mw_logic.specs.CanonicalPart.{AreSeveral, IsOpen}
use Rattle.mw_logic.specs.Substitution.{IsSolution}
use Rattle.mw_logic.specs.Module.{Module, Statement, IsStatement}
use Rattle.mw_logic.proofs.Canonical.{Each, assoc_operator, is_identity-arguments, nat_eq-refl}
use Rattle.mw_logic.proofs.Soundness.{several-arranged, rebuilt-several}
use Rattle.mw_arguments.specs.Places.{chosen, Rise, Takes}
use Rattle.mw_position.specs.Variables.{met, sorts_of}
use Rattle.mw_redex.specs.Paths.{at_path}
use Rattle.mw_redex.specs.Replaced as replaced
use Rattle.mw_redex.specs.Replaced.{IsOpenArgument, IsOpenWay, way_of_place}
use Rattle.mw_trail.specs.Tracks.{variables_of}
use Rattle.mw_least.specs.Workable.{IsWorkable}
use Rattle.mw_solving.specs.Values.{AreValues}
use Rattle.mw_index.specs.Choices as choices
use Rattle.mw_index.specs.Choices.{solution_of}
use Rattle.mw_index.specs.Index.{operator_of}
use Rattle.mw_index.specs.Oriented.{IsOriented}
use Rattle.mw_index.specs.declared.choices.Choice.{Choice}
use Rattle.mw_index.specs.declared.oriented.Oriented.{Oriented}
use Rattle.mw_index.proofs.Sides.{left_zipped, variables_front}
use Rattle.mw_multiset.specs.Together.{IsOfMultisets, parts, together, IsMember, AreMembers, IsShallow}
use Rattle.mw_multiset.proofs.Together.{each_of, terms_list, list_terms, each_weaker}
use Rattle.mw_redexes.specs.Redexes.{IsFoundAt}
use Rattle.mw_redexes.proofs.Ways.{way_more}
use Rattle.mw_survey.specs.Asked.{IsWholeOf}
use Rattle.mw_survey.specs.Takings.{named_values, IsAgain}
use Rattle.mw_survey.proofs.Permuted.{sorted_shuffles}
use Rattle.mw_survey.proofs.Fewer.{same_top, together_several, parts_several}

-- the whole of two or more elements in order
pub whole_is : (M : Module) (work : IsWorkable M) (f : ℕ) (op : IsOfMultisets M f) (all : List RawTerm) → AreMembers M.signature f all → sorted_terms (terms_of all) ≡ terms_of all → AreSeveral (terms_of all)
    → rebuilt (identity_of M.signature f) f (terms_of all) ≡ together M.signature f all
whole_is M work f op all h order s =
    rebuilt-several (identity_of M.signature f) f (terms_of all) s ∙ ap (apply f) (sym order) ∙ sym (together_several M.signature work.signature.accepted f op.assoc op.comm op.free all h s)

-- an operator of multisets is associative
pub is_associative : (M : Module) (f : ℕ) → IsOfMultisets M f → IsAssociative M.signature f
is_associative M f op = let (o, is, a) = assoc_operator M.signature f op.assoc in record { operator = o; is_there = is; assoc = a }

pub begun_with : (M : Module) (work : IsWorkable M) (f : ℕ) (op : IsOfMultisets M f) (all : List RawTerm) (whole : Option RawTerm) → AreMembers M.signature f all → sorted_terms (terms_of all) ≡ terms_of all
    → (AreSeveral (terms_of all) → whole ≡ Some (rebuilt (identity_of M.signature f) f (terms_of all))) → ((AreSeveral (terms_of all) → ⊥) → whole ≡ None) → IsWholeOf M.signature f all whole
begun_with M work f op all whole h order some none = (λ s. some s ∙ ap Some (whole_is M work f op all h order s), none)

-- numbers that are taken rise
pub rise_there : (sig : Signature) (ks : List ℕ) (t w : RawTerm) (f : ℕ) (args : List RawTerm) → t ≡ apply f (terms_of args) → Takes sig ks t w → Rise 1 (suc (length args)) ks
rise_there sig ks t w f args is m =
    let (g, ts) = same_top (sym is ∙ m.term) in
    subst (λ n. Rise 1 (suc n) ks) (ap number_of_terms (sym ts) ∙ counted args) m.rise
  where
    counted : (xs : List RawTerm) → number_of_terms (terms_of xs) ≡ length xs
    counted [] = refl
    counted (x ∷ xs) = ap suc (counted xs)

pub fewer_than_two : (xs : List RawTerm) → length xs < 2 → AreSeveral (terms_of xs) → ⊥
fewer_than_two [] l s = s
fewer_than_two (x ∷ []) l s = s
fewer_than_two (x ∷ y ∷ xs) l s = absurd (omega (arith, l))

pub two_or_more : (xs : List RawTerm) → 2 ≤ length xs → AreSeveral (terms_of xs)
two_or_more [] l = absurd (omega (arith, l))
two_or_more (x ∷ []) l = absurd (omega (arith, l))
two_or_more (x ∷ y ∷ xs) l = tt

-- arguments by their numbers, as a term
pub taken_is : (sig : Signature) (ks : List ℕ) (t w : RawTerm) (f : ℕ) (args us : List RawTerm) → t ≡ apply f (terms_of args) → Takes sig ks t w → terms_of us ≡ chosen 1 ks (terms_of args) → rebuilt (identity_of sig f) f (terms_of us) ≡ w
taken_is sig ks t w f args us is m e =
    let (g, ts) = same_top (sym is ∙ m.term) in
    let us_are : terms_of us ≡ chosen 1 ks m.args = e ∙ ap (chosen 1 ks) ts in
    rebuilt-several (identity_of sig f) f (terms_of us) (subst AreSeveral (sym us_are) m.several) ∙ ap (apply f) us_are ∙ ap (λ h. apply h (chosen 1 ks m.args)) g ∙ sym m.part

length_sorts : (xs : List Variable) → length (sorts_of xs) ≡ length xs
length_sorts [] = refl
length_sorts (x ∷ xs) = ap suc (length_sorts xs)

each_chosen : (P : RawTerm → Type 0) (i : ℕ) (ks : List ℕ) (ts : RawTerms) → Each P ts → Each P (chosen i ks ts)
each_chosen P i [] ts h = tt
each_chosen P i (n ∷ ns) nil h = tt
each_chosen P i (n ∷ ns) (cons t ts) h = by_test (nat_eq i n) (each_chosen P (suc i) ns ts h.1) (each_chosen P (suc i) (n ∷ ns) ts h.1)
  where
    by_test : (b : Bool) → Each P (chosen (suc i) ns ts) → Each P (chosen (suc i) (n ∷ ns) ts) → Each P (cond b (cons t (chosen (suc i) ns ts)) (chosen (suc i) (n ∷ ns) ts))
    by_test true x y = (h.0, x)
    by_test false x y = y

-- what stands at the end of a place
pub taken_there : (g : Signature) (take : Option (List ℕ)) (u w : RawTerm) → choices.IsTaken g take u w → replaced.IsTaken g take u w
taken_there g None u w h = sym h
taken_there g (Some ks) u w h = h.takes

-- no argument on the way there is frozen
pub open_there : (g : Signature) (take : Option (List ℕ)) (path : List ℕ) (t u w : RawTerm) → at_path t path ≡ Some u → IsOpenWay g true path t → choices.IsTaken g take u w
    → ((ks : List ℕ) (f : ℕ) (ts : RawTerms) → take ≡ Some ks → u ≡ apply f ts → IsOpen g true f 1) → IsOpenWay g true (way_of_place path take) t
open_there g None path t u w there way taken free = way
open_there g (Some ks) path t u w there way taken free =
    let m = taken.takes in
    way_more g path 1 t u there way (subst (λ v. IsOpenArgument g true v 1) (sym m.term) (free ks m.operator m.args refl m.term))

-- the operator on top is that of what is taken
same_operator : (g : Signature) (take : Option (List ℕ)) (u w : RawTerm) → choices.IsTaken g take u w → operator_of u ≡ operator_of w
same_operator g None u w h = ap operator_of (sym h)
same_operator g (Some ks) u w h = ap operator_of h.takes.term ∙ sym (ap operator_of h.takes.part)

module _ (M : Module) (v : RawTerm) (c d : Choice) (h : IsFoundAt M v c) where
  -- the same choice again, at v or at what it takes
  again_at : (take : Option (List ℕ)) → IsAgain take c d → (u : RawTerm) → operator_of v ≡ operator_of u → choices.IsTaken M.signature take u h.choice.part
      → ((ks : List ℕ) (f : ℕ) (ts : RawTerms) → take ≡ Some ks → u ≡ apply f ts → IsOpen M.signature true f 1) → IsFoundAt M u d
  again_at take a u same taken free = record {
    choice = record {
      statement = h.choice.statement;
      is_there = subst (λ (o : Oriented). IsStatement M o.number h.choice.statement) (sym a.by) h.choice.is_there;
      is = subst (λ o. IsOriented M.signature o h.choice.statement d.by.now) same (subst (IsOriented M.signature (operator_of v) h.choice.statement) (sym a.by) h.choice.is);
      part = h.choice.part;
      taken = subst (λ o. choices.IsTaken M.signature o u h.choice.part) (sym a.takes) taken;
      values = subst (AreValues M.signature) (sym a.values) h.choice.values;
      solution = subst (λ vs. IsSolution M.signature h.choice.statement.left (nested M.signature h.choice.part) [] (solution_of M.signature h.choice.statement vs)) (sym a.values) h.choice.solution;
    };
    sized = ap length a.values ∙ h.sized ∙ ap (λ (o : Oriented). length o.sorts) (sym a.by);
    rule = ap (λ (o : Oriented). o.rule) a.by ∙ h.rule;
    free = λ ks f ts e. free ks f ts (sym a.takes ∙ e);
  }

  pub same_again : IsAgain c.take c d → IsFoundAt M v d
  same_again a = again_at c.take a v refl h.choice.taken h.free

  pub part_again : IsAgain None c d → IsFoundAt M h.choice.part d
  part_again a = again_at None a h.choice.part (same_operator M.signature c.take v h.choice.part h.choice.taken) refl (λ ks f ts e is. absurd (none-some ks e))

-- its values by the names of its statement's variables
module _ (M : Module) (work : IsWorkable M) (v : RawTerm) (c : Choice) (h : IsFoundAt M v c) where
  abbrev e : Statement
  e = h.choice.statement

  size : length c.values.items ≡ length (met [] e.left)
  size = h.sized ∙ ap length h.choice.is.sorts ∙ length_sorts (met [] e.left)

  variables_there : variables_of M c.by.now.number ≡ e.variables
  variables_there = ap (λ o. unwrap_or (option_map (λ (d : Statement). d.variables) o) []) h.choice.is_there.is_there

  pub named_there : named_values M c ≡ zip (met [] e.left) c.values.items
  named_there = ap (λ xs. zip xs c.values.items) variables_there ∙ left_zipped M work c.by.now.number e h.choice.is_there c.values.items size

  pub enough_names : length c.values.items ≤ length (variables_of M c.by.now.number)
  enough_names =
      let (zs, is) = variables_front M work c.by.now.number e h.choice.is_there in
      let a : length (variables_of M c.by.now.number) ≡ length (met [] e.left) + length zs = ap length (variables_there ∙ is) ∙ length-append (met [] e.left) zs in
      let b = size in
      omega (arith, a, b)

module _ (M : Module) (work : IsWorkable M) (f : ℕ) (op : IsOfMultisets M f) where
  abbrev sig : Signature
  sig = M.signature

  abbrev ok : IsAccepted sig
  ok = work.signature.accepted

  abbrev Low : RawTerm → Type 0
  Low x = height x ≤ 999

  elements_several : (us : RawTerms) → AreSeveral us → elements (identity_of sig f) f (apply f us) ≡ us
  elements_several nil s = elim s [ ]
  elements_several (cons u nil) s = elim s [ ]
  elements_several (cons u (cons v us)) s = rw (is_identity-arguments (identity_of sig f) f u (cons v us)) (rw (nat_eq-refl f) refl)

  shallow_several : (us : RawTerms) → AreSeveral us → Each Low us → IsShallow sig f (apply f us)
  shallow_several us s h = subst (Each Low) (sym (elements_several us s)) h

  filled_several : (us : RawTerms) → AreSeveral us → parts sig f (apply f us) ≡ [] → ⊥
  filled_several us s e = some us s (sym (parts_several sig f us s) ∙ e)
    where
      some : (us : RawTerms) → AreSeveral us → list_of us ≡ [] → ⊥
      some nil s e = s
      some (cons u us) s e = cc e

  low_sorted : (all : List RawTerm) → AreMembers sig f all → Each Low (sorted_terms (terms_of all))
  low_sorted all h =
      let ts : RawTerms = sorted_terms (terms_of all) in
      let p : IsPermutation all (list_of ts) = subst (λ xs. IsPermutation xs (list_of ts)) (list_terms all) (sorted_shuffles (terms_of all)) in
      let k : Each (IsMember sig f) (terms_of (list_of ts)) = each_of (IsMember sig f) (list_of ts) (All-permutation (IsMember sig f) all (list_of ts) p h) in
      subst (Each Low) (terms_list ts) (each_weaker (IsMember sig f) Low (λ x m. m.low) (terms_of (list_of ts)) k)

  -- several of the elements are neither too deep nor none
  pub record IsStandingPart (w : RawTerm) : Type 0 where
    pub shallow : IsShallow sig f w
    pub filled : parts sig f w ≢ []

  pub standing_part : (all : List RawTerm) → AreMembers sig f all → AreSeveral (terms_of all) → (take : Option (List ℕ)) (w : RawTerm) → choices.IsTaken sig take (together sig f all) w → IsStandingPart w
  standing_part all h s None w e =
      let ts : RawTerms = sorted_terms (terms_of all) in
      let m : AreSeveral ts = several-arranged true (terms_of all) s in
      subst IsStandingPart (sym (e ∙ together_several sig ok f op.assoc op.comm op.free all h s)) (record { shallow = shallow_several ts m (low_sorted all h); filled = filled_several ts m })
  standing_part all h s (Some ks) w x =
      let ts : RawTerms = sorted_terms (terms_of all) in
      let m = x.takes in
      let (g, is) = same_top (sym (together_several sig ok f op.assoc op.comm op.free all h s) ∙ m.term) in
      let us : RawTerms = chosen 1 ks m.args in
      let low : Each Low us = subst (λ zs. Each Low (chosen 1 ks zs)) is (each_chosen Low 1 ks ts (low_sorted all h)) in
      subst IsStandingPart (ap (λ i. apply i us) g ∙ sym m.part) (record { shallow = shallow_several us m.several low; filled = filled_several us m.several })

-- the same names
pub same_names : (M : Module) (take : Option (List ℕ)) (c d : Choice) → IsAgain take c d → named_values M d ≡ named_values M c
same_names M take c d a = ap (λ (o : Oriented). zip (variables_of M o.number) d.values.items) a.by ∙ ap (zip (variables_of M c.by.now.number)) a.values
