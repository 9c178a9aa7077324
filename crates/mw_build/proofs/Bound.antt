-- Where no variable is missing, all are bound in turn.
use Rattle.std.proofs.Common.{◌≡◌, ◌∙◌, ◌||◌, List, [], ◌∷◌, Bool, true, false, if◌then◌else◌, Option, Some, None, IsTrue, refl, sym, subst, inl, inr}
use Rattle.std.proofs.lemmas.Bool.{both_ways, or_left, or_right, or_cases}
use Rattle.mw_logic.specs.Term.{Variable, RawTerm}
use Rattle.mw_logic.specs.Substitution.{same_variable, occurs}
use Rattle.mw_logic.specs.Module.{Fragment, equal, matches, has_sort, is_true}
use Rattle.mw_logic.specs.Confluence.{HasOnly, AreBound}
use Rattle.mw_logic.proofs.SameConditions.{same_variable-is}
use Rattle.mw_position.specs.Variables.{is_in, met}
use Rattle.mw_position.proofs.Meeting.{is_in-met}
use Rattle.mw_least.specs.Conditions.{binds_among}
use Rattle.mw_text.specs.Mentions.{is_met, missing_in}
use Rattle.mw_build.specs.Statements.{bound_by, or_else, loose, unbound}
use Rattle.mw_omod.proofs.Meeting.{is_met-is}

-- where none is missing, each is bound
none_missing : (bound xs : List Variable) → missing_in bound xs ≡ None → (x : Variable) → is_in x xs ≡ true → is_met bound x ≡ true
none_missing bound [] h x i = absurd (both_ways _ refl i)
none_missing bound (y ∷ xs) h x i = of (is_met bound y) refl h (λ n. none_missing bound xs n x)
  where
    here : (b : Bool) → same_variable y x ≡ b → is_met bound y ≡ true → (is_in x xs ≡ true → is_met bound x ≡ true) → (b || is_in x xs) ≡ true → is_met bound x ≡ true
    here true e k rest j = subst (λ z. is_met bound z ≡ true) (same_variable-is y x e) k
    here false e k rest j = rest j

    of : (b : Bool) → is_met bound y ≡ b → (if b then missing_in bound xs else Some y) ≡ None → (missing_in bound xs ≡ None → is_in x xs ≡ true → is_met bound x ≡ true) → is_met bound x ≡ true
    of true k n rest = here (same_variable y x) refl k (rest n) i
    of false k n rest = cc

neither : (a b : Option Variable) → or_else a b ≡ None → (a ≡ None) × (b ≡ None)
neither (Some x) b h = cc
neither None b h = (refl, h)

-- the variables of a list are among those that a test tells
abbrev Tells : List Variable → (Variable → Bool) → Type 0
Tells xs b = (x : Variable) → is_in x xs ≡ true → IsTrue (b x)

module _ (xs : List Variable) (b : Variable → Bool) (tells : Tells xs b) where
  -- so are those that aren't missing
  told : (used : List Variable) → missing_in xs used ≡ None → (x : Variable) → is_in x used ≡ true → IsTrue (b x)
  told used none x i = tells x (sym (is_met-is xs x) ∙ none_missing xs used none x i)

  one_told : (t : RawTerm) → missing_in xs (met [] t) ≡ None → HasOnly b t
  one_told t none x o = told (met [] t) none x (is_in-met x [] t ∙ o)

  both_told : (u v : RawTerm) → missing_in xs (met (met [] u) v) ≡ None → HasOnly b u × HasOnly b v
  both_told u v none = (
    λ x o. told (met (met [] u) v) none x (is_in-met x (met [] u) v ∙ or_left (is_in x (met [] u)) (occurs x v) (is_in-met x [] u ∙ o)),
    λ x o. told (met (met [] u) v) none x (is_in-met x (met [] u) v ∙ or_right (is_in x (met [] u)) (occurs x v) o),
  )

  -- with those of a pattern
  more_told : (p : RawTerm) → Tells (met xs p) (λ x. b x || occurs x p)
  more_told p x i = elim (or_cases (is_in x xs) (occurs x p) (sym (is_in-met x xs p) ∙ i)) [
    | inl h ↦ or_left (b x) (occurs x p) (tells x h)
    | inr h ↦ or_right (b x) (occurs x p) h
  ]

bound_in_turn : (xs : List Variable) (b : Variable → Bool) → Tells xs b → (C : List Fragment) → loose xs C ≡ None → AreBound b C
bound_in_turn xs b tells [] none = tt
bound_in_turn xs b tells (equal u v ∷ C) none =
    let (here, rest) = neither (missing_in xs (met (met [] u) v)) (loose xs C) none in
    let (left, right) = both_told xs b tells u v here in
    (left, right, bound_in_turn xs b tells C rest)
bound_in_turn xs b tells (matches p t ∷ C) none =
    let (here, rest) = neither (missing_in xs (met [] t)) (loose (met xs p) C) none in
    (one_told xs b tells t here, bound_in_turn (met xs p) (λ x. b x || occurs x p) (more_told xs b tells p) C rest)
bound_in_turn xs b tells (has_sort t S ∷ C) none =
    let (here, rest) = neither (missing_in xs (met [] t)) (loose xs C) none in
    (one_told xs b tells t here, bound_in_turn xs b tells C rest)
bound_in_turn xs b tells (is_true t ∷ C) none =
    let (here, rest) = neither (missing_in xs (met [] t)) (loose xs C) none in
    (one_told xs b tells t here, bound_in_turn xs b tells C rest)

-- what the list of all bound variables tells
all_tell : (xs : List Variable) (b : Variable → Bool) → Tells xs b → (C : List Fragment) → Tells (bound_by xs C) (binds_among b C)
all_tell xs b tells [] = tells
all_tell xs b tells (equal u v ∷ C) = all_tell xs b tells C
all_tell xs b tells (matches p t ∷ C) = all_tell (met xs p) (λ x. b x || occurs x p) (more_told xs b tells p) C
all_tell xs b tells (has_sort t S ∷ C) = all_tell xs b tells C
all_tell xs b tells (is_true t ∷ C) = all_tell xs b tells C

module _ (left right : RawTerm) (C : List Fragment) (none : unbound left right C ≡ None) where
  abbrev of_left : Variable → Bool
  of_left = λ x. occurs x left

  left_tells : Tells (met [] left) of_left
  left_tells x i = sym (is_in-met x [] left) ∙ i

  pub right_bound : HasOnly (binds_among of_left C) right
  right_bound =
      one_told (bound_by (met [] left) C) (binds_among of_left C) (all_tell (met [] left) of_left left_tells C) right
      (neither (missing_in (bound_by (met [] left) C) (met [] right)) (loose (met [] left) C) none).0

  pub fragments_bound : AreBound of_left C
  fragments_bound = bound_in_turn (met [] left) of_left left_tells C (neither (missing_in (bound_by (met [] left) C) (met [] right)) (loose (met [] left) C) none).1
