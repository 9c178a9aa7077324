-- Fragments that are read, or that stand for others: their terms are raw terms, whose variables have sorts that are there.
use Rattle.std.proofs.Common.{◌≡◌, ◌∙◌, ◌||◌, ◌≤◌, ◌<◌, ◌-◌, ◌++◌, ℕ, List, [], ◌∷◌, Bool, true, false, All, IsTrue, length, map, get_or, take, drop, append_assoc, arith, refl, sym, ap, subst, ⊎_elim}
use Rattle.std.proofs.lemmas.Bool.{both_ways, or_left, or_right, or_cases}
use Rattle.std.proofs.lemmas.List.{take_all, map-append, append-nil}
use Rattle.std.proofs.lemmas.List.Elements.{All-head, All-tail}
use Rattle.std.proofs.Math.Bool.{or-false}
use Rattle.mw_logic.specs.Term.{Variable, RawTerm}
use Rattle.mw_logic.specs.Signature.{Signature, Sorted}
use Rattle.mw_logic.specs.Accepted.{IsAccepted, number_of_sort}
use Rattle.mw_logic.specs.Preregular.{HasItsSorts, IsSortOf}
use Rattle.mw_logic.specs.Substitution.{occurs}
use Rattle.mw_logic.specs.Module.{Fragment, equal, matches, has_sort, is_true}
use Rattle.mw_least.specs.Conditions.{occurs_among, AreRawFragments}
use Rattle.mw_carry.specs.Carried.{IsPart, IsCarriedFragment, an_equation, a_match, a_test, a_truth, AreCarriedFragments, none, more, IsSameSorted, a_sort, a_kind}
use Rattle.mw_carry.specs.Laws.{HasSortsOf}
use Rattle.mw_carry.proofs.Numbers.{within_at}
use Rattle.mw_carry.proofs.Kept.{IsRawTerm-carried, sorts-carried}
use Rattle.mw_module.specs.Conditions.{WrittenFragment}
use Rattle.mw_module.specs.declared.faults.FaultKind.{FaultKind}
use Rattle.mw_term.specs.declared.statement.Fragment.{Fragment as Held}
use Rattle.mw_term.specs.Statements.{fragment_of}
use Rattle.mw_text.proofs.RawTerms.{spelled_raw}
use Rattle.mw_build.specs.Fragments as read
use Rattle.mw_build.specs.Fragments.{asked_for, IsTest, IsFragment, AreFragments}
use Rattle.mw_build.specs.Statements.{FitsIn, FirstOversized, terms_of}
use Rattle.mw_build.specs.Imported.{HaveSortsAmong}
use Rattle.mw_build.proofs.Pairwise.{all_read}
use Rattle.mw_build.proofs.Terms.{fit_more, first_here, first_later}

-- what is so of each fragment is so of all
module _ (sig : Signature) where
  pub raw_more : (f : Fragment) (C : List Fragment) → AreRawFragments sig (f ∷ []) → AreRawFragments sig C → AreRawFragments sig (f ∷ C)
  raw_more (equal u v) C r rs = (r.0, r.1, rs)
  raw_more (matches p t) C r rs = (r.0, r.1, rs)
  raw_more (has_sort t S) C r rs = (r.0, r.1, rs)
  raw_more (is_true b) C r rs = (r.0, rs)

  -- and the other way round
  pub raw_first : (f : Fragment) (C : List Fragment) → AreRawFragments sig (f ∷ C) → AreRawFragments sig (f ∷ []) × AreRawFragments sig C
  raw_first (equal u v) C r = ((r.0, r.1, tt), r.2)
  raw_first (matches p t) C r = ((r.0, r.1, tt), r.2)
  raw_first (has_sort t S) C r = ((r.0, r.1, tt), r.2)
  raw_first (is_true b) C r = ((r.0, tt), r.1)

  raw_all : (C : List Fragment) → All (λ f. AreRawFragments sig (f ∷ [])) C → AreRawFragments sig C
  raw_all [] h = tt
  raw_all (f ∷ C) h = raw_more f C (All-head (λ g. AreRawFragments sig (g ∷ [])) f C h) (raw_all C (All-tail (λ g. AreRawFragments sig (g ∷ [])) f C h))

-- a variable of fragments stands in the first one or behind
pub among_first : (x : Variable) (f : Fragment) (C : List Fragment) → occurs_among x (f ∷ C) ≡ (occurs_among x (f ∷ []) || occurs_among x C)
among_first x (equal u v) C = ap (λ b. b || occurs_among x C) (sym (or-false (occurs x u || occurs x v)))
among_first x (matches p t) C = ap (λ b. b || occurs_among x C) (sym (or-false (occurs x p || occurs x t)))
among_first x (has_sort t S) C = ap (λ b. b || occurs_among x C) (sym (or-false (occurs x t)))
among_first x (is_true b) C = ap (λ c. c || occurs_among x C) (sym (or-false (occurs x b)))

module _ (sig : Signature) where
  pub sorts_first : (f : Fragment) (C : List Fragment) → HaveSortsAmong sig (f ∷ C) → HaveSortsAmong sig (f ∷ []) × HaveSortsAmong sig C
  sorts_first f C h = (
    λ x o. h x (among_first x f C ∙ or_left (occurs_among x (f ∷ [])) (occurs_among x C) o),
    λ x o. h x (among_first x f C ∙ or_right (occurs_among x (f ∷ [])) (occurs_among x C) o),
  )

  sorts_more : (f : Fragment) (C : List Fragment) → HaveSortsAmong sig (f ∷ []) → HaveSortsAmong sig C → HaveSortsAmong sig (f ∷ C)
  sorts_more f C h k x o = ⊎_elim (λ i. h x i) (λ i. k x i) (or_cases (occurs_among x (f ∷ [])) (occurs_among x C) (sym (among_first x f C) ∙ o))

  pub sorts_all : (C : List Fragment) → All (λ f. HaveSortsAmong sig (f ∷ [])) C → HaveSortsAmong sig C
  sorts_all [] h = λ x o. absurd (both_ways _ refl o)
  sorts_all (f ∷ C) h = sorts_more f C (All-head (λ g. HaveSortsAmong sig (g ∷ [])) f C h) (sorts_all C (All-tail (λ g. HaveSortsAmong sig (g ∷ [])) f C h))

  -- of one term, and of two
  pub one_sorted : (t : RawTerm) → HasSortsOf sig t → (x : Variable) → IsTrue (occurs x t || false) → IsSortOf sig x.sort
  one_sorted t h x o = h x (sym (or-false (occurs x t)) ∙ o)

  pub two_sorted : (u v : RawTerm) → HasSortsOf sig u → HasSortsOf sig v → (x : Variable) → IsTrue ((occurs x u || occurs x v) || false) → IsSortOf sig x.sort
  two_sorted u v h k x o = ⊎_elim (λ i. h x i) (λ i. k x i) (or_cases (occurs x u) (occurs x v) (sym (or-false (occurs x u || occurs x v)) ∙ o))

-- and back
module _ (sig : Signature) where
  pub left_of_two : (u v : RawTerm) → ((x : Variable) → IsTrue ((occurs x u || occurs x v) || false) → IsSortOf sig x.sort) → HasSortsOf sig u
  left_of_two u v h x o = h x (or-false (occurs x u || occurs x v) ∙ or_left (occurs x u) (occurs x v) o)

  pub right_of_two : (u v : RawTerm) → ((x : Variable) → IsTrue ((occurs x u || occurs x v) || false) → IsSortOf sig x.sort) → HasSortsOf sig v
  right_of_two u v h x o = h x (or-false (occurs x u || occurs x v) ∙ or_right (occurs x u) (occurs x v) o)

  pub of_one : (t : RawTerm) → ((x : Variable) → IsTrue (occurs x t || false) → IsSortOf sig x.sort) → HasSortsOf sig t
  of_one t h x o = h x (or-false (occurs x t) ∙ o)

-- the sort that is tested is there
tested_there : (sig : Signature) (text term : List (List ℕ)) (S : Sorted) → IsTest sig text term S → IsSortOf sig (number_of_sort S)
tested_there sig text term S p = subst (λ T. IsSortOf sig (number_of_sort T)) (sym p.is) (of p.bracketed)
  where
    of : (b : Bool) → IsSortOf sig (number_of_sort (asked_for b p.number))
    of false = within_at sig.sorts p.number p.name p.named
    of true = within_at sig.sorts p.number p.name p.named

-- fragments that are read
module _ (sig : Signature) (ok : IsAccepted sig) (variables : List Variable) where
  fragment_raw : (w : WrittenFragment) (f : Fragment) → IsFragment sig variables w f → AreRawFragments sig (f ∷ [])
  fragment_raw w f (read.an_equation left right u v r) = (spelled_raw sig ok variables r.only.0.first.spells, spelled_raw sig ok variables r.only.0.second.spells, tt)
  fragment_raw w f (read.a_match pattern term p t r) = (spelled_raw sig ok variables r.only.0.first.spells, spelled_raw sig ok variables r.only.0.second.spells, tt)
  fragment_raw w f (read.a_test ts term S t is r) = (spelled_raw sig ok variables r.spelled.spells, tested_there sig _ term S is, tt)
  fragment_raw w f (read.a_truth ts B b not is r) = (spelled_raw sig ok variables r.spelled.spells, tt)

  pub fragments_raw : (ws : List WrittenFragment) (C : List Fragment) → AreFragments sig variables ws C → AreRawFragments sig C
  fragments_raw ws C are = raw_all sig C (all_read (IsFragment sig variables) (λ f. AreRawFragments sig (f ∷ [])) fragment_raw ws C are)

-- fragments that stand for others
module _ (from sig : Signature) where
  sorted_there : (S T : Sorted) → IsSameSorted from sig S T → IsSortOf sig (number_of_sort T)
  sorted_there S T (a_sort A B s) = within_at sig.sorts B s.name s.there
  sorted_there S T (a_kind A B s) = within_at sig.sorts B s.name s.there

  fragment_sorts : (f g : Fragment) → IsCarriedFragment from sig f g → HaveSortsAmong sig (g ∷ [])
  fragment_sorts f g (an_equation u v w z a b) = two_sorted sig w z (sorts-carried from sig a) (sorts-carried from sig b)
  fragment_sorts f g (a_match p t q u a b) = two_sorted sig q u (sorts-carried from sig a) (sorts-carried from sig b)
  fragment_sorts f g (a_test t u S T a s) = one_sorted sig u (sorts-carried from sig a)
  fragment_sorts f g (a_truth b c a) = one_sorted sig c (sorts-carried from sig a)

  pub sorts_carried : (C D : List Fragment) → AreCarriedFragments from sig C D → HaveSortsAmong sig D
  sorts_carried C D none = λ x o. absurd (both_ways _ refl o)
  sorts_carried C D (more f g cs ds c rest) = sorts_more sig g ds (fragment_sorts f g c) (sorts_carried cs ds rest)

  module _ (part : IsPart from sig) (numbers : HasItsSorts from) (ok : IsAccepted sig) where
    carried_raw : (f g : Fragment) → IsCarriedFragment from sig f g → AreRawFragments from (f ∷ []) → AreRawFragments sig (g ∷ [])
    carried_raw f g (an_equation u v w z a b) r = (IsRawTerm-carried from sig part numbers ok a r.0, IsRawTerm-carried from sig part numbers ok b r.1, tt)
    carried_raw f g (a_match p t q u a b) r = (IsRawTerm-carried from sig part numbers ok a r.0, IsRawTerm-carried from sig part numbers ok b r.1, tt)
    carried_raw f g (a_test t u S T a s) r = (IsRawTerm-carried from sig part numbers ok a r.0, sorted_there S T s, tt)
    carried_raw f g (a_truth b c a) r = (IsRawTerm-carried from sig part numbers ok a r.0, tt)

    pub raws_carried : (C D : List Fragment) → AreCarriedFragments from sig C D → AreRawFragments from C → AreRawFragments sig D
    raws_carried C D none r = tt
    raws_carried C D (more f g cs ds c rest) r =
        let parts = raw_first from f cs r in
        raw_more sig g ds (carried_raw f g c parts.0) (raws_carried cs ds rest parts.1)

-- a slice by its first item
pub parted : {X : Type 0} (xs : List X) (x : X) → 1 ≤ length xs → x ≡ get_or xs 0 x → xs ≡ x ∷ take (length xs - 1) (drop 1 xs)
parted [] x some at = absurd (omega (arith, some))
parted (y ∷ xs) x some at = ap (λ z. z ∷ xs) (sym at) ∙ ap (λ zs. x ∷ zs) (sym (take_all (length (y ∷ xs) - 1) xs (omega arith)))

-- fragments one after the other
module _ (rest : List Held) (first : Held) (some : 1 ≤ length rest) (at : first ≡ get_or rest 0 first) where
  abbrev after : List Held
  after = take (length rest - 1) (drop 1 rest)

  by_first : map fragment_of rest ≡ fragment_of first ∷ map fragment_of after
  by_first = ap (map fragment_of) (parted rest first some at)

  pub raw_next : (sig : Signature) → AreRawFragments sig (map fragment_of rest) → AreRawFragments sig (fragment_of first ∷ []) × AreRawFragments sig (map fragment_of after)
  raw_next sig raw = raw_first sig (fragment_of first) (map fragment_of after) (subst (AreRawFragments sig) by_first raw)

  pub sorts_next : (sig : Signature) → HaveSortsAmong sig (map fragment_of rest) → HaveSortsAmong sig (fragment_of first ∷ []) × HaveSortsAmong sig (map fragment_of after)
  sorts_next sig sorts = sorts_first sig (fragment_of first) (map fragment_of after) (subst (HaveSortsAmong sig) by_first sorts)

  pub fit_next : (sig : Signature) → All (FitsIn sig) (terms_of (fragment_of first ∷ [])) → All (FitsIn sig) (terms_of (map fragment_of after)) → All (FitsIn sig) (terms_of (map fragment_of rest))
  fit_next sig a b = subst (λ C. All (FitsIn sig) (terms_of C)) (sym by_first) (fit_more sig (fragment_of first) (map fragment_of after) a b)

  pub first_now : (sig : Signature) (cause : FaultKind) → FirstOversized sig cause (terms_of (fragment_of first ∷ [])) → FirstOversized sig cause (terms_of (map fragment_of rest))
  first_now sig cause h = subst (λ C. FirstOversized sig cause (terms_of C)) (sym by_first) (first_here sig cause (fragment_of first) (map fragment_of after) h)

  pub first_next : (sig : Signature) (cause : FaultKind) → All (FitsIn sig) (terms_of (fragment_of first ∷ [])) → FirstOversized sig cause (terms_of (map fragment_of after))
      → FirstOversized sig cause (terms_of (map fragment_of rest))
  first_next sig cause a h = subst (λ C. FirstOversized sig cause (terms_of C)) (sym by_first) (first_later sig cause (fragment_of first) (map fragment_of after) a h)

  pub carried_next : (from to : Signature) (C : List Fragment) (found new : List Held) (carried : Held) → new ≡ found ++ carried ∷ [] → IsCarriedFragment from to (fragment_of first) (fragment_of carried)
      → ((D : List Fragment) → AreCarriedFragments from to (map fragment_of rest) D → AreCarriedFragments from to C (map fragment_of found ++ D))
      → (D : List Fragment) → AreCarriedFragments from to (map fragment_of after) D → AreCarriedFragments from to C (map fragment_of new ++ D)
  carried_next from to C found new carried is one before D later =
      let whole : map fragment_of new ++ D ≡ map fragment_of found ++ fragment_of carried ∷ D =
      ap (λ xs. map fragment_of xs ++ D) is ∙ ap (λ xs. xs ++ D) (map-append fragment_of found (carried ∷ [])) ∙ append_assoc (map fragment_of found) (fragment_of carried ∷ []) D in
      subst (AreCarriedFragments from to C) (sym whole)
      (before (fragment_of carried ∷ D) (subst (λ X. AreCarriedFragments from to X (fragment_of carried ∷ D)) (sym by_first) (more (fragment_of first) (fragment_of carried) (map fragment_of after) D one later)))

-- all are carried where none is left
pub carried_end : (from to : Signature) (C : List Fragment) (rest found : List Held) → length rest < 1
    → ((D : List Fragment) → AreCarriedFragments from to (map fragment_of rest) D → AreCarriedFragments from to C (map fragment_of found ++ D)) → AreCarriedFragments from to C (map fragment_of found)
carried_end from to C [] found few h = subst (AreCarriedFragments from to C) (append-nil (map fragment_of found)) (h [] none)
carried_end from to C (f ∷ fs) found few h = absurd (omega (arith, few))
