-- Where elements went, each part of what is left is a part of what was there: several of all elements, or a part of one.
use Rattle.std.specs.Prelude.{◌≡◌, ◌⊎◌, ◌≤◌, ℕ, ◌+◌, List, [], ◌∷◌, ◌++◌, length, true, IsPermutation, refl}
use Rattle.std.proofs.Common.{sym, subst, ap, ◌∙◌, inl, inr, arith}
use Rattle.std.proofs.lemmas.List.{length-append}
use Rattle.std.proofs.lemmas.List.Elements.{recursion_from_All}
use Rattle.std.proofs.lemmas.List.Sorted.{IsPermutation-refl, IsPermutation-sym, IsPermutation-trans, IsPermutation-append_left, IsPermutation-append_right, IsPermutation-middle, length_permutation, All-permutation}
use Rattle.mw_logic.specs.Term.{RawTerm, apply, RawTerms, nil, cons, join}
use Rattle.mw_logic.specs.Terms.{terms_of, list_of}
use Rattle.mw_logic.specs.Signature.{Signature, IsAssociative, Member}
use Rattle.mw_logic.specs.Accepted.{IsAccepted}
use Rattle.mw_logic.specs.Parts.{is_assoc}
use Rattle.mw_logic.specs.TermOrder.{sorted_terms}
use Rattle.mw_logic.specs.NormalForm.{is_comm, identity_of, arranged}
use Rattle.mw_logic.specs.CanonicalPart.{IsOpen, AreSeveral, IsCut, IsPartOf}
use Rattle.mw_logic.specs.CanonicalPart as part
use Rattle.mw_logic.proofs.Canonical.{assoc_operator, is_identity-arguments, nat_eq-refl}
use Rattle.mw_logic.proofs.SortLaws.{join-nil, join_assoc, sorted_terms-left, sorted_terms-idempotent}
use Rattle.mw_logic.proofs.SortedLists.{sorted_terms-permutation}
use Rattle.mw_logic.proofs.Soundness.{several-arranged, rebuilt-several}
use Rattle.mw_multiset.specs.Together.{parts, together, IsMember, AreMembers}
use Rattle.mw_multiset.specs.Together.{IsOpenOperator}
use Rattle.mw_multiset.proofs.Together.{terms-append, list_terms, each_of, on_members}
use Rattle.mw_world.proofs.Slots.{front_over}
use Rattle.mw_redexes.specs.Spots.{IsOpenTop, several}
use Rattle.mw_survey.specs.Surveys.{AreFree}
use Rattle.mw_survey.proofs.Permuted.{list-join, sorted_shuffles, member_permuted, all_left}

pub same_top : {f g : ℕ} {ts us : RawTerms} → apply f ts ≡ apply g us → (f ≡ g) × (ts ≡ us)
same_top e = (let z : _ ≡ _ = cc in z, cc)

pub several_terms : (xs : List RawTerm) → 2 ≤ length xs → AreSeveral (terms_of xs)
several_terms [] l = absurd (omega (arith, l))
several_terms (x ∷ []) l = absurd (omega (arith, l))
several_terms (x ∷ y ∷ xs) l = tt

module _ (sig : Signature) (f : ℕ) where
  -- the elements of f on several of them
  pub parts_several : (us : RawTerms) → AreSeveral us → parts sig f (apply f us) ≡ list_of us
  parts_several nil s = elim s [ ]
  parts_several (cons u nil) s = elim s [ ]
  parts_several (cons u (cons v us)) s = rw (is_identity-arguments (identity_of sig f) f u (cons v us)) (rw (nat_eq-refl f) refl)

  -- an element that is among them is free
  pub element_free : (free : List RawTerm) → AreMembers sig f free → (x : RawTerm) (rest : List RawTerm) → IsPermutation free (x ∷ rest) → AreFree sig f free x
  element_free free h x rest p =
      let m : IsMember sig f x = (recursion_from_All (IsMember sig f) (x ∷ rest) (All-permutation (IsMember sig f) free (x ∷ rest) p h)).0 in
      (rest, subst (λ ys. IsPermutation free (ys ++ rest)) (sym (ap list_of m.element)) p)

  -- what is free of fewer is free of all
  pub free_before : (free taken less : List RawTerm) → IsPermutation free (taken ++ less) → (t : RawTerm) → AreFree sig f less t → AreFree sig f free t
  free_before free taken less p t (rest, q) =
      let ps : List RawTerm = parts sig f t in (
        taken ++ rest,
        IsPermutation-trans free (taken ++ less) (ps ++ (taken ++ rest)) p
            (IsPermutation-trans (taken ++ less) (taken ++ (ps ++ rest)) (ps ++ (taken ++ rest)) (IsPermutation-append_right taken less (ps ++ rest) q) (front_over taken ps rest)),
      )

-- a part of the elements that are left is one of all, and its elements are free; or it is a part of an element that is free
abbrev pub IsPartOfOne : Signature → ℕ → List RawTerm → List RawTerm → RawTerm → Type 0
IsPartOfOne sig f all free w = (x : RawTerm) × Member x all × AreFree sig f free x × IsPartOf sig true x w

abbrev pub IsPartOfSeveral : Signature → ℕ → List RawTerm → List RawTerm → RawTerm → Type 0
IsPartOfSeveral sig f all free w = AreSeveral (terms_of all) × IsOpenTop sig (together sig f all) w × AreFree sig f free w

module _ (sig : Signature) (ok : IsAccepted sig) (f : ℕ) (assoc : is_assoc sig f ≡ true) (comm : is_comm sig f ≡ true) (open_operator : IsOpenOperator sig f) where
  is_associative : IsAssociative sig f
  is_associative = let (o, is, a) = assoc_operator sig f assoc in record { operator = o; is_there = is; assoc = a }

  is_open : IsOpen sig true f 1
  is_open = λ b. open_operator _

  -- f on several members
  pub together_several : (xs : List RawTerm) → AreMembers sig f xs → AreSeveral (terms_of xs) → together sig f xs ≡ apply f (sorted_terms (terms_of xs))
  together_several xs h s =
      on_members sig ok f assoc comm (terms_of xs) (each_of (IsMember sig f) xs h) ∙ rebuilt-several (identity_of sig f) f (sorted_terms (terms_of xs)) (several-arranged true (terms_of xs) s)

  pub together_one : (x : RawTerm) → AreMembers sig f (x ∷ []) → together sig f (x ∷ []) ≡ x
  together_one x h = on_members sig ok f assoc comm (cons x nil) (each_of (IsMember sig f) (x ∷ []) h)

  module _ (all free gone : List RawTerm) (members : AreMembers sig f all) (fewer : IsPermutation all (free ++ gone)) where
    abbrev G : RawTerms
    G = terms_of gone

    abbrev F : RawTerms
    F = terms_of free

    abbrev A : RawTerms
    A = sorted_terms (terms_of all)

    sorted_all : sorted_terms (join F G) ≡ A
    sorted_all = ap sorted_terms (sym (terms-append free gone)) ∙ sym (sorted_terms-permutation all (free ++ gone) fewer)

    pub free_members : AreMembers sig f free
    free_members = all_left (IsMember sig f) free gone (All-permutation (IsMember sig f) all (free ++ gone) fewer members)

    -- several of the free ones are several of all
    cut_of_all : (us before after : RawTerms) → sorted_terms (join before (join us after)) ≡ sorted_terms F → arranged true us ≡ us → IsCut true A us
    cut_of_all us before after whole_is order = record {
      before = before;
      after = join after G;
      whole =
          ap sorted_terms (ap (join before) (sym (join_assoc us after G)) ∙ sym (join_assoc before (join us after) G)) ∙ sym (sorted_terms-left (join before (join us after)) G)
          ∙ ap (λ z. sorted_terms (join z G)) whole_is ∙ sorted_terms-left F G ∙ sorted_all;
      in_order = order;
    }

    several_of_all : AreSeveral (terms_of all) → (us : RawTerms) → AreSeveral us → IsCut true A us → IsOpenTop sig (together sig f all) (apply f us)
    several_of_all s us m cut = subst (λ v. IsOpenTop sig v (apply f us)) (sym (together_several all members s)) (several is_associative is_open m (subst (λ b. IsCut b A us) (sym comm) cut))

    -- their elements are free
    cut_free : (us before after : RawTerms) → AreSeveral us → sorted_terms (join before (join us after)) ≡ sorted_terms F → AreFree sig f free (apply f us)
    cut_free us before after m whole_is =
        let X : RawTerms = join before (join us after) in
        let b : List RawTerm = list_of before in
        let u : List RawTerm = list_of us in
        let a : List RawTerm = list_of after in
        let p : IsPermutation free (list_of (sorted_terms F)) = subst (λ xs. IsPermutation xs (list_of (sorted_terms F))) (list_terms free) (sorted_shuffles F) in
        let q : IsPermutation free (list_of X) = IsPermutation-trans free (list_of (sorted_terms X)) (list_of X) (subst (λ z. IsPermutation free (list_of z)) (sym whole_is) p) (IsPermutation-sym (list_of X) (list_of (sorted_terms X)) (sorted_shuffles X)) in
        let e : list_of X ≡ b ++ (u ++ a) = list-join before (join us after) ∙ ap (λ z. b ++ z) (list-join us after) in
        let r : IsPermutation free (u ++ (b ++ a)) = IsPermutation-trans free (b ++ (u ++ a)) (u ++ (b ++ a)) (subst (IsPermutation free) e q) (front_over b u a) in
        (b ++ a, subst (λ ys. IsPermutation free (ys ++ (b ++ a))) (sym (parts_several sig f us m)) r)

    -- two or more are free, so two or more were there
    all_several : 2 ≤ length free → AreSeveral (terms_of all)
    all_several l =
        let a : length (free ++ gone) ≡ length all = length_permutation all (free ++ gone) fewer in
        let b : length (free ++ gone) ≡ length free + length gone = length-append free gone in
        several_terms all (omega (arith, a, b, l))

    module _ (two : 2 ≤ length free) where
      abbrev S : RawTerms
      S = sorted_terms F

      in_whole : (v w : RawTerm) → IsPartOf sig true v w → v ≡ apply f S → IsPartOfSeveral sig f all free w ⊎ IsPartOfOne sig f all free w
      in_whole v w part.whole e =
          let whole_is : sorted_terms (join nil (join S nil)) ≡ S = ap sorted_terms (join-nil S) ∙ sorted_terms-idempotent F in
          let m : AreSeveral S = several-arranged true F (several_terms free two) in
          let s : AreSeveral (terms_of all) = all_several two in
          inl (subst (IsPartOfSeveral sig f all free) (sym e) (s, several_of_all s S m (cut_of_all S nil nil whole_is (sorted_terms-idempotent F)), cut_free S nil nil m whole_is))
      in_whole v w (part.argument g b t a o p) e =
          let c : join b (cons t a) ≡ S = (same_top e).1 in
          let P : IsPermutation free (list_of S) = subst (λ xs. IsPermutation xs (list_of S)) (list_terms free) (sorted_shuffles F) in
          let Q : IsPermutation free (list_of b ++ t ∷ list_of a) = subst (IsPermutation free) (ap list_of (sym c) ∙ list-join b (cons t a)) P in
          let R : IsPermutation free (t ∷ (list_of b ++ list_of a)) = IsPermutation-trans free (list_of b ++ t ∷ list_of a) (t ∷ (list_of b ++ list_of a)) Q (IsPermutation-middle (list_of b) t (list_of a)) in
          let rest : List RawTerm = list_of b ++ list_of a in
          let there : IsPermutation (free ++ gone) (t ∷ (rest ++ gone)) = IsPermutation-append_left gone free (t ∷ rest) R in
          inr (t, member_permuted all (free ++ gone) fewer t (rest ++ gone) there, element_free sig f free free_members t rest R, p)
      in_whole v w (part.several {f = g} {ts = ts} {us = us} a o m cut) e =
          let c : ts ≡ S = (same_top e).1 in
          let here : IsCut true ts us = subst (λ b. IsCut b ts us) (ap (is_comm sig) (same_top e).0 ∙ comm) cut in
          let whole_is : sorted_terms (join here.before (join us here.after)) ≡ S = here.whole ∙ c in
          let s : AreSeveral (terms_of all) = all_several two in
          inl (subst (λ h. IsPartOfSeveral sig f all free (apply h us)) (sym (same_top e).0) (s, several_of_all s us m (cut_of_all us here.before here.after whole_is here.in_order), cut_free us here.before here.after m whole_is))

    pub part_of_fewer : (free ≡ [] → ⊥) → (w : RawTerm) → IsPartOf sig true (together sig f free) w → IsPartOfSeveral sig f all free w ⊎ IsPartOfOne sig f all free w
    part_of_fewer some w p = by_list free refl
      where
        by_list : (xs : List RawTerm) → free ≡ xs → IsPartOfSeveral sig f all free w ⊎ IsPartOfOne sig f all free w
        by_list [] e = absurd (some e)
        by_list (x ∷ []) e =
            let same : together sig f free ≡ x = ap (together sig f) e ∙ together_one x (subst (AreMembers sig f) e free_members) in
            let R : IsPermutation free (x ∷ []) = subst (λ ys. IsPermutation ys (x ∷ [])) (sym e) (IsPermutation-refl (x ∷ [])) in
            let there : IsPermutation (free ++ gone) (x ∷ gone) = IsPermutation-append_left gone free (x ∷ []) R in
            inr (x, member_permuted all (free ++ gone) fewer x gone there, element_free sig f free free_members x [] R, subst (λ v. IsPartOf sig true v w) same p)
        by_list (x ∷ y ∷ zs) e =
            let two : 2 ≤ length free = subst (λ ys. 2 ≤ length ys) (sym e) (omega arith) in
            in_whole two (together sig f free) w p (together_several free free_members (several_terms free two))
