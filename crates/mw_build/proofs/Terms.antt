-- The terms of fragments, one fragment after the other.
use Rattle.std.proofs.Common.{◌≡◌, ◌⊎◌, ◌++◌, List, [], ◌∷◌, All, IfOk, MatchOption, Option, Some, None, Result, Ok, Err, refl, sym, subst, inl, inr}
use Rattle.std.proofs.lemmas.List.Elements.{All-nil, All-cons, All-head, All-tail, All-append}
use Rattle.mw_logic.specs.Term.{RawTerm}
use Rattle.mw_logic.specs.Signature.{Signature, Member}
use Rattle.mw_logic.specs.Module.{Fragment, equal, matches, has_sort, is_true}
use Rattle.mw_module.specs.declared.faults.FaultKind.{FaultKind}
use Rattle.mw_build.specs.Statements.{FitsIn, Oversized, FirstOversized, here, behind, terms_of}

pub terms_cut : (f : Fragment) (C : List Fragment) → terms_of (f ∷ C) ≡ terms_of (f ∷ []) ++ terms_of C
terms_cut (equal u v) C = refl
terms_cut (matches p t) C = refl
terms_cut (has_sort t S) C = refl
terms_cut (is_true b) C = refl

-- a term of fragments is one of the first or of those behind
terms_first : (t : RawTerm) (f : Fragment) (C : List Fragment) → Member t (terms_of (f ∷ C)) → Member t (terms_of (f ∷ [])) ⊎ Member t (terms_of C)
terms_first t (equal u v) C (inl e) = inl (inl e)
terms_first t (equal u v) C (inr (inl e)) = inl (inr (inl e))
terms_first t (equal u v) C (inr (inr m)) = inr m
terms_first t (matches p u) C (inl e) = inl (inl e)
terms_first t (matches p u) C (inr (inl e)) = inl (inr (inl e))
terms_first t (matches p u) C (inr (inr m)) = inr m
terms_first t (has_sort u S) C (inl e) = inl (inl e)
terms_first t (has_sort u S) C (inr m) = inr m
terms_first t (is_true b) C (inl e) = inl (inl e)
terms_first t (is_true b) C (inr m) = inr m

-- what is so of the terms of each fragment is so of all terms
pub each_term : (P : RawTerm → Type 0) (C : List Fragment) → All (λ f. (t : RawTerm) → Member t (terms_of (f ∷ [])) → P t) C → (t : RawTerm) → Member t (terms_of C) → P t
each_term P [] h t m = absurd m
each_term P (f ∷ C) h t m = elim (terms_first t f C m) [
  | inl k ↦ All-head (λ f. (t : RawTerm) → Member t (terms_of (f ∷ [])) → P t) f C h t k
  | inr k ↦ each_term P C (All-tail (λ f. (t : RawTerm) → Member t (terms_of (f ∷ [])) → P t) f C h) t k
]

-- of one term, and of two
pub one_term : (P : RawTerm → Type 0) (u : RawTerm) → P u → (t : RawTerm) → Member t (u ∷ []) → P t
one_term P u h t (inl e) = subst P e h
one_term P u h t (inr m) = absurd m

pub two_terms : (P : RawTerm → Type 0) (u v : RawTerm) → P u → P v → (t : RawTerm) → Member t (u ∷ v ∷ []) → P t
two_terms P u v h k t (inl e) = subst P e h
two_terms P u v h k t (inr (inl e)) = subst P e k
two_terms P u v h k t (inr (inr m)) = absurd m

module _ (sig : Signature) where
  first_in_front : (cause : FaultKind) (ts us : List RawTerm) → FirstOversized sig cause ts → FirstOversized sig cause (ts ++ us)
  first_in_front cause ts us (here t rest big) = here t (rest ++ us) big
  first_in_front cause ts us (behind t rest fits first) = behind t (rest ++ us) fits (first_in_front cause rest us first)

  first_behind : (cause : FaultKind) (ts us : List RawTerm) → All (FitsIn sig) ts → FirstOversized sig cause us → FirstOversized sig cause (ts ++ us)
  first_behind cause [] us fit first = first
  first_behind cause (t ∷ ts) us fit first = behind t (ts ++ us) (All-head (FitsIn sig) t ts fit) (first_behind cause ts us (All-tail (FitsIn sig) t ts fit) first)

  -- the terms of one fragment more
  pub fit_more : (f : Fragment) (C : List Fragment) → All (FitsIn sig) (terms_of (f ∷ [])) → All (FitsIn sig) (terms_of C) → All (FitsIn sig) (terms_of (f ∷ C))
  fit_more f C a b = subst (All (FitsIn sig)) (sym (terms_cut f C)) (All-append (FitsIn sig) (terms_of (f ∷ [])) (terms_of C) a b)

  pub first_here : (cause : FaultKind) (f : Fragment) (C : List Fragment) → FirstOversized sig cause (terms_of (f ∷ [])) → FirstOversized sig cause (terms_of (f ∷ C))
  first_here cause f C h = subst (FirstOversized sig cause) (sym (terms_cut f C)) (first_in_front cause (terms_of (f ∷ [])) (terms_of C) h)

  pub first_later : (cause : FaultKind) (f : Fragment) (C : List Fragment) → All (FitsIn sig) (terms_of (f ∷ [])) → FirstOversized sig cause (terms_of C) → FirstOversized sig cause (terms_of (f ∷ C))
  first_later cause f C a h = subst (FirstOversized sig cause) (sym (terms_cut f C)) (first_behind cause (terms_of (f ∷ [])) (terms_of C) a h)

  pub fits_so : (t : RawTerm) (o : Option FaultKind) → MatchOption o (FitsIn sig t) (λ kind. Oversized sig t kind) → ((x : FaultKind) → o ≡ Some x → ⊥) → FitsIn sig t
  fits_so t None h n = h
  fits_so t (Some x) h n = absurd (n x refl)

  pub all_fit_so : (ts : List RawTerm) (o : Option FaultKind) → MatchOption o (All (FitsIn sig) ts) (λ kind. FirstOversized sig kind ts) → ((x : FaultKind) → o ≡ Some x → ⊥) → All (FitsIn sig) ts
  all_fit_so ts None h n = h
  all_fit_so ts (Some x) h n = absurd (n x refl)

  -- what is told of one term, as of a list
  pub one_told : {E : Type 0} (t : RawTerm) (r : Result (Option FaultKind) E) → IfOk r (λ o. MatchOption o (FitsIn sig t) (λ kind. Oversized sig t kind))
      → IfOk r (λ o. MatchOption o (All (FitsIn sig) (t ∷ [])) (λ kind. FirstOversized sig kind (t ∷ [])))
  one_told t (Ok None) h = All-cons (FitsIn sig) t [] h (All-nil (FitsIn sig))
  one_told t (Ok (Some kind)) h = here t [] h
  one_told t (Err e) h = tt

  pub next_told : {E : Type 0} (t u : RawTerm) (r : Result (Option FaultKind) E) → FitsIn sig t → IfOk r (λ o. MatchOption o (FitsIn sig u) (λ kind. Oversized sig u kind))
      → IfOk r (λ o. MatchOption o (All (FitsIn sig) (t ∷ u ∷ [])) (λ kind. FirstOversized sig kind (t ∷ u ∷ [])))
  next_told t u (Ok None) fits h = All-cons (FitsIn sig) t (u ∷ []) fits (All-cons (FitsIn sig) u [] h (All-nil (FitsIn sig)))
  next_told t u (Ok (Some kind)) fits h = behind t (u ∷ []) fits (here u [] h)
  next_told t u (Err e) fits h = tt
