-- The variables of fragments, and those that fragments bind.
use Rattle.std.specs.Prelude.{◌≡◌, List, [], ◌∷◌, ◌++◌, length, Bool, true, false, ◌||◌, refl}
use Rattle.std.specs.List.{zip}
use Rattle.std.proofs.Common.{arith, sym, ap, ◌∙◌, append_assoc, append-nil, ⊎_elim}
use Rattle.std.proofs.lemmas.Bool.{or_cases, or_left, or_right}
use Rattle.mw_logic.specs.Term.{Variable, RawTerm}
use Rattle.mw_logic.specs.Module.{Fragment, equal, matches, has_sort, is_true}
use Rattle.mw_logic.specs.Substitution.{occurs}
use Rattle.mw_logic.specs.Confluence.{AreBound}
use Rattle.mw_least.specs.Conditions.{met_fragments, occurs_among, binds_among}
use Rattle.mw_position.specs.Variables.{is_in, met, AreDistinct}
use Rattle.mw_position.proofs.Meeting.{is_in-met, AreDistinct-met, met_grows, or_none}

-- ys begins with xs
abbrev pub HasFront : List Variable → List Variable → Type 0
HasFront xs ys = (zs : List Variable) × (ys ≡ xs ++ zs)

pub front_same : (xs : List Variable) → HasFront xs xs
front_same xs = ([], sym (append-nil xs))

pub front_behind : (xs ys ws : List Variable) → HasFront xs ys → HasFront ys ws → HasFront xs ws
front_behind xs ys ws (a, e) (b, f) = (a ++ b, f ∙ ap (λ zs. zs ++ b) e ∙ append_assoc xs a b)

zip_nothing : (xs : List Variable) (us : List RawTerm) → us ≡ [] → zip xs us ≡ []
zip_nothing [] us e = refl
zip_nothing (x ∷ xs) [] e = refl
zip_nothing (x ∷ xs) (u ∷ us) e = cc

zip_appended : (xs zs : List Variable) (us : List RawTerm) → length us ≡ length xs → zip (xs ++ zs) us ≡ zip xs us
zip_appended [] zs [] l = zip_nothing zs [] refl
zip_appended [] zs (u ∷ us) l = absurd (omega (arith, l))
zip_appended (x ∷ xs) zs [] l = absurd (omega (arith, l))
zip_appended (x ∷ xs) zs (u ∷ us) l = ap (λ s. (x, u) ∷ s) (zip_appended xs zs us (omega (arith, l)))

-- values for the front alone are bound to it
pub zip_front : (xs ys : List Variable) (us : List RawTerm) → HasFront xs ys → length us ≡ length xs → zip ys us ≡ zip xs us
zip_front xs ys us (zs, e) l = ap (λ ys. zip ys us) e ∙ zip_appended xs zs us l

pub front_met_fragments : (xs : List Variable) (C : List Fragment) → HasFront xs (met_fragments xs C)
front_met_fragments xs [] = front_same xs
front_met_fragments xs (equal u v ∷ C) =
    front_behind xs (met xs u) _ (met_grows xs u) (front_behind (met xs u) (met (met xs u) v) _ (met_grows (met xs u) v) (front_met_fragments (met (met xs u) v) C))
front_met_fragments xs (matches u v ∷ C) =
    front_behind xs (met xs u) _ (met_grows xs u) (front_behind (met xs u) (met (met xs u) v) _ (met_grows (met xs u) v) (front_met_fragments (met (met xs u) v) C))
front_met_fragments xs (has_sort u S ∷ C) = front_behind xs (met xs u) _ (met_grows xs u) (front_met_fragments (met xs u) C)
front_met_fragments xs (is_true u ∷ C) = front_behind xs (met xs u) _ (met_grows xs u) (front_met_fragments (met xs u) C)

pub distinct_met_fragments : (xs : List Variable) (C : List Fragment) → AreDistinct xs → AreDistinct (met_fragments xs C)
distinct_met_fragments xs [] d = d
distinct_met_fragments xs (equal u v ∷ C) d = distinct_met_fragments (met (met xs u) v) C (AreDistinct-met (met xs u) v (AreDistinct-met xs u d))
distinct_met_fragments xs (matches u v ∷ C) d = distinct_met_fragments (met (met xs u) v) C (AreDistinct-met (met xs u) v (AreDistinct-met xs u d))
distinct_met_fragments xs (has_sort u S ∷ C) d = distinct_met_fragments (met xs u) C (AreDistinct-met xs u d)
distinct_met_fragments xs (is_true u ∷ C) d = distinct_met_fragments (met xs u) C (AreDistinct-met xs u d)

or_one : (a b c : Bool) → ((a || b) || c) ≡ (a || (b || c))
or_one true b c = refl
or_one false b c = refl

or_two : (a b c d : Bool) → (((a || b) || c) || d) ≡ (a || ((b || c) || d))
or_two true b c d = refl
or_two false b c d = refl

pub in_met_fragments : (x : Variable) (xs : List Variable) (C : List Fragment) → is_in x (met_fragments xs C) ≡ (is_in x xs || occurs_among x C)
in_met_fragments x xs [] = sym (or_none (is_in x xs))
in_met_fragments x xs (equal u v ∷ C) =
    in_met_fragments x (met (met xs u) v) C ∙ ap (λ b. b || occurs_among x C) (is_in-met x (met xs u) v ∙ ap (λ b. b || occurs x v) (is_in-met x xs u)) ∙ or_two (is_in x xs) (occurs x u) (occurs x v) (occurs_among x C)
in_met_fragments x xs (matches u v ∷ C) =
    in_met_fragments x (met (met xs u) v) C ∙ ap (λ b. b || occurs_among x C) (is_in-met x (met xs u) v ∙ ap (λ b. b || occurs x v) (is_in-met x xs u)) ∙ or_two (is_in x xs) (occurs x u) (occurs x v) (occurs_among x C)
in_met_fragments x xs (has_sort u S ∷ C) = in_met_fragments x (met xs u) C ∙ ap (λ b. b || occurs_among x C) (is_in-met x xs u) ∙ or_one (is_in x xs) (occurs x u) (occurs_among x C)
in_met_fragments x xs (is_true u ∷ C) = in_met_fragments x (met xs u) C ∙ ap (λ b. b || occurs_among x C) (is_in-met x xs u) ∙ or_one (is_in x xs) (occurs x u) (occurs_among x C)

-- what is bound before stays so
pub bound_stays : (b : Variable → Bool) (C : List Fragment) (x : Variable) → b x ≡ true → binds_among b C x ≡ true
bound_stays b [] x h = h
bound_stays b (equal u v ∷ C) x h = bound_stays b C x h
bound_stays b (matches p t ∷ C) x h = bound_stays (λ y. b y || occurs y p) C x (or_left (b x) (occurs x p) h)
bound_stays b (has_sort t S ∷ C) x h = bound_stays b C x h
bound_stays b (is_true t ∷ C) x h = bound_stays b C x h

-- all variables of fragments whose sides have bound variables are bound in the end
pub among_bound : (b : Variable → Bool) (C : List Fragment) → AreBound b C → (x : Variable) → occurs_among x C ≡ true → binds_among b C x ≡ true
among_bound b [] h x o = absurd (false_true o)
  where
    false_true : false ≡ true → ⊥
    false_true e = cc
among_bound b (equal u v ∷ C) h x o = ⊎_elim
    (λ a. bound_stays b C x (⊎_elim (λ k. h.0 x k) (λ k. h.1 x k) (or_cases (occurs x u) (occurs x v) a)))
    (λ a. among_bound b C h.2 x a)
    (or_cases (occurs x u || occurs x v) (occurs_among x C) o)
among_bound b (matches p t ∷ C) h x o = ⊎_elim
    (λ a. bound_stays (λ y. b y || occurs y p) C x (⊎_elim (λ k. or_right (b x) (occurs x p) k) (λ k. or_left (b x) (occurs x p) (h.0 x k)) (or_cases (occurs x p) (occurs x t) a)))
    (λ a. among_bound (λ y. b y || occurs y p) C h.1 x a)
    (or_cases (occurs x p || occurs x t) (occurs_among x C) o)
among_bound b (has_sort t S ∷ C) h x o = ⊎_elim (λ a. bound_stays b C x (h.0 x a)) (λ a. among_bound b C h.1 x a) (or_cases (occurs x t) (occurs_among x C) o)
among_bound b (is_true t ∷ C) h x o = ⊎_elim (λ a. bound_stays b C x (h.0 x a)) (λ a. among_bound b C h.1 x a) (or_cases (occurs x t) (occurs_among x C) o)

add_second : (a b c : Bool) → (a || c) ≡ true → (a || (b || c)) ≡ true
add_second true b c h = refl
add_second false b c h = or_right b c h

add_third : (a p t c : Bool) → ((a || p) || c) ≡ true → (a || ((p || t) || c)) ≡ true
add_third true p t c h = refl
add_third false true t c h = refl
add_third false false t c h = or_right t c h

-- what is bound in the end was bound before, or stands in a fragment
pub bound_from : (b : Variable → Bool) (C : List Fragment) (x : Variable) → binds_among b C x ≡ true → (b x || occurs_among x C) ≡ true
bound_from b [] x h = or_left (b x) false h
bound_from b (equal u v ∷ C) x h = add_second (b x) (occurs x u || occurs x v) (occurs_among x C) (bound_from b C x h)
bound_from b (matches p t ∷ C) x h = add_third (b x) (occurs x p) (occurs x t) (occurs_among x C) (bound_from (λ y. b y || occurs y p) C x h)
bound_from b (has_sort t S ∷ C) x h = add_second (b x) (occurs x t) (occurs_among x C) (bound_from b C x h)
bound_from b (is_true t ∷ C) x h = add_second (b x) (occurs x t) (occurs_among x C) (bound_from b C x h)

pub binds_same : (C : List Fragment) (b c : Variable → Bool) → ((x : Variable) → b x ≡ c x) → (x : Variable) → binds_among b C x ≡ binds_among c C x
binds_same [] b c h x = h x
binds_same (equal u v ∷ C) b c h x = binds_same C b c h x
binds_same (matches p t ∷ C) b c h x = binds_same C (λ y. b y || occurs y p) (λ y. c y || occurs y p) (λ y. ap (λ d. d || occurs y p) (h y)) x
binds_same (has_sort t S ∷ C) b c h x = binds_same C b c h x
binds_same (is_true t ∷ C) b c h x = binds_same C b c h x
