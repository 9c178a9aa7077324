-- The variables that the tests of a condition bind.
use Rattle.std.specs.Prelude.{◌≡◌, ◌+◌, ℕ, List, [], ◌∷◌, ◌++◌, length, Bool, true, false, ◌||◌, IsTrue, refl}
use Rattle.std.proofs.Common.{sym, ap, subst, ◌∙◌, arith, ⊎_elim, append-nil, length-append}
use Rattle.std.proofs.lemmas.Bool.{or_cases, or_left, or_right}
use Rattle.mw_logic.specs.Term.{Variable, RawTerm}
use Rattle.mw_logic.specs.Signature.{Signature, IsRawTerm}
use Rattle.mw_logic.specs.Accepted.{IsAccepted}
use Rattle.mw_logic.specs.Module.{Module, Statement, IsStatement, Fragment, equal, matches, has_sort, is_true}
use Rattle.mw_logic.specs.NormalForm.{normal_form}
use Rattle.mw_logic.specs.Substitution.{occurs}
use Rattle.mw_logic.specs.Confluence.{HasOnly, AreBound}
use Rattle.mw_logic.proofs.Restricted.{AreBound-same}
use Rattle.mw_least.specs.Workable.{IsWorkable}
use Rattle.mw_least.specs.Conditions.{occurs_among, binds_among, AreRawFragments}
use Rattle.mw_compile.specs.Compiled.{AreAmong}
use Rattle.mw_position.specs.Variables.{is_in, met, AreDistinct}
use Rattle.mw_position.proofs.Meeting.{AreDistinct-met, met_grows}
use Rattle.mw_index.specs.Conditions.{IsTestOf, AreTests, AreSidesAmong, AreReady, bound_by, all_bound}
use Rattle.mw_index.specs.Sections.{AreIn}
use Rattle.mw_index.specs.declared.conditions.Test.{Test}
use Rattle.mw_index.specs.declared.conditions.Test.TheVariants as test
use Rattle.mw_index.proofs.Fragments.{HasFront, front_same, front_behind, among_bound, bound_stays, bound_from, binds_same}
use Rattle.mw_index.proofs.SameMembers.{member_in, as_many}
use Rattle.mw_index.proofs.Sides.{form_occurs, compiled_occurs, in_lefts, in_variables, lefts_distinct, variables_distinct, variables_front}

-- the variables that are bound behind a fragment
abbrev pub behind : (Variable → Bool) → Fragment → Variable → Bool
behind b (equal u v) y = b y
behind b (matches p t) y = b y || occurs y p
behind b (has_sort t S) y = b y
behind b (is_true t) y = b y

pub binds_behind : (b : Variable → Bool) (f : Fragment) (C : List Fragment) (x : Variable) → binds_among b (f ∷ C) x ≡ binds_among (behind b f) C x
binds_behind b (equal u v) C x = refl
binds_behind b (matches p t) C x = refl
binds_behind b (has_sort t S) C x = refl
binds_behind b (is_true t) C x = refl

pub bound_behind : (b : Variable → Bool) (f : Fragment) (C : List Fragment) → AreBound b (f ∷ C) → AreBound (behind b f) C
bound_behind b (equal u v) C h = h.2
bound_behind b (matches p t) C h = h.1
bound_behind b (has_sort t S) C h = h.1
bound_behind b (is_true t) C h = h.1

pub raw_behind : (sig : Signature) (f : Fragment) (C : List Fragment) → AreRawFragments sig (f ∷ C) → AreRawFragments sig C
raw_behind sig (equal u v) C h = h.2
raw_behind sig (matches p t) C h = h.2
raw_behind sig (has_sort t S) C h = h.2
raw_behind sig (is_true t) C h = h.1

occurs_behind : (f : Fragment) (C : List Fragment) (x : Variable) → occurs_among x C ≡ true → occurs_among x (f ∷ C) ≡ true
occurs_behind (equal u v) C x o = or_right (occurs x u || occurs x v) (occurs_among x C) o
occurs_behind (matches p t) C x o = or_right (occurs x p || occurs x t) (occurs_among x C) o
occurs_behind (has_sort t S) C x o = or_right (occurs x t) (occurs_among x C) o
occurs_behind (is_true t) C x o = or_right (occurs x t) (occurs_among x C) o

occurs_in_pattern : (p t : RawTerm) (C : List Fragment) (x : Variable) → occurs x p ≡ true → occurs_among x (matches p t ∷ C) ≡ true
occurs_in_pattern p t C x o = or_left (occurs x p || occurs x t) (occurs_among x C) (or_left (occurs x p) (occurs x t) o)

-- What a test binds are the variables of a match's pattern, behind the others.
module _ (sig : Signature) (ok : IsAccepted sig) (xs : List Variable) (C : List Fragment) where
  pub in_bound_by : (f : Fragment) (t : Test) → AreRawFragments sig (f ∷ C) → IsTestOf sig xs f t → (x : Variable) → is_in x (bound_by xs t) ≡ behind (λ y. is_in y xs) f x
  in_bound_by (equal u v) (test.Equal p q) raw h x = refl
  in_bound_by (equal u v) (test.Match m) raw h x = absurd h
  in_bound_by (equal u v) (test.HasSort p S) raw h x = absurd h
  in_bound_by (equal u v) (test.Holds p) raw h x = absurd h
  in_bound_by (matches l t) (test.Match m) raw h x = compiled_occurs sig ok l raw.0 xs m.value.compiled h.compiled x
  in_bound_by (matches l t) (test.Equal p q) raw h x = absurd h
  in_bound_by (matches l t) (test.HasSort p S) raw h x = absurd h
  in_bound_by (matches l t) (test.Holds p) raw h x = absurd h
  in_bound_by (has_sort u S) (test.HasSort p T) raw h x = refl
  in_bound_by (has_sort u S) (test.Equal p q) raw h x = absurd h
  in_bound_by (has_sort u S) (test.Match m) raw h x = absurd h
  in_bound_by (has_sort u S) (test.Holds p) raw h x = absurd h
  in_bound_by (is_true u) (test.Holds p) raw h x = refl
  in_bound_by (is_true u) (test.Equal p q) raw h x = absurd h
  in_bound_by (is_true u) (test.Match m) raw h x = absurd h
  in_bound_by (is_true u) (test.HasSort p S) raw h x = absurd h

-- a match's variables are those that were bound before and others behind them, each once
module _ (sig : Signature) (xs : List Variable) where
  abbrev pub IsGrown : Fragment → Test → Type 0
  IsGrown f t = HasFront xs (bound_by xs t) × (AreDistinct xs → AreDistinct (bound_by xs t))

  same_grown : (f : Fragment) (t : Test) → bound_by xs t ≡ xs → IsGrown f t
  same_grown f t e = (subst (HasFront xs) (sym e) (front_same xs), λ d. subst AreDistinct (sym e) d)

  pub grown : (f : Fragment) (t : Test) → IsTestOf sig xs f t → IsGrown f t
  grown f (test.Equal p q) h = same_grown f (test.Equal p q) refl
  grown f (test.HasSort p S) h = same_grown f (test.HasSort p S) refl
  grown f (test.Holds p) h = same_grown f (test.Holds p) refl
  grown (matches l t) (test.Match m) h = (
    subst (HasFront xs) (sym h.compiled.variables) (met_grows xs h.compiled.q),
    λ d. subst AreDistinct (sym h.compiled.variables) (AreDistinct-met xs h.compiled.q d),
  )
  grown (equal u v) (test.Match m) h = absurd h
  grown (has_sort u S) (test.Match m) h = absurd h
  grown (is_true u) (test.Match m) h = absurd h

module _ (sig : Signature) where
  pub all_front : (xs : List Variable) (C : List Fragment) (ts : List Test) → AreTests sig xs C ts → HasFront xs (all_bound xs ts)
  all_front xs [] [] h = front_same xs
  all_front xs [] (t ∷ ts) h = absurd h
  all_front xs (f ∷ C) [] h = absurd h
  all_front xs (f ∷ C) (t ∷ ts) h = front_behind xs (bound_by xs t) (all_bound (bound_by xs t) ts) (grown sig xs f t h.0).0 (all_front (bound_by xs t) C ts h.1)

  pub all_distinct : (xs : List Variable) (C : List Fragment) (ts : List Test) → AreTests sig xs C ts → AreDistinct xs → AreDistinct (all_bound xs ts)
  all_distinct xs [] [] h d = d
  all_distinct xs [] (t ∷ ts) h d = absurd h
  all_distinct xs (f ∷ C) [] h d = absurd h
  all_distinct xs (f ∷ C) (t ∷ ts) h d = all_distinct (bound_by xs t) C ts h.1 ((grown sig xs f t h.0).1 d)

  pub in_all_bound : IsAccepted sig → (xs : List Variable) (C : List Fragment) (ts : List Test) → AreRawFragments sig C → AreTests sig xs C ts → (x : Variable) → is_in x (all_bound xs ts) ≡ binds_among (λ y. is_in y xs) C x
  in_all_bound ok xs [] [] raw h x = refl
  in_all_bound ok xs [] (t ∷ ts) raw h x = absurd h
  in_all_bound ok xs (f ∷ C) [] raw h x = absurd h
  in_all_bound ok xs (f ∷ C) (t ∷ ts) raw h x =
      in_all_bound ok (bound_by xs t) C ts (raw_behind sig f C raw) h.1 x
      ∙ binds_same C (λ y. is_in y (bound_by xs t)) (behind (λ y. is_in y xs) f) (λ y. in_bound_by sig ok xs C f t raw h.0 y) x
      ∙ sym (binds_behind (λ y. is_in y xs) f C x)

  -- the next fragment, and those behind it
  module _ (ok : IsAccepted sig) (all xs : List Variable) (f : Fragment) (C : List Fragment) (ready : AreReady sig all xs (f ∷ C)) where
    side_among : (t : RawTerm) → IsRawTerm sig t → HasOnly (λ x. is_in x xs) t → AreAmong xs (normal_form sig t)
    side_among t raw h x o = h x (sym (form_occurs sig ok t raw x) ∙ o)

    pub sides_among : AreSidesAmong sig xs f
    sides_among = of f ready.raw ready.in_turn
      where
        of : (f : Fragment) → AreRawFragments sig (f ∷ C) → AreBound (λ x. is_in x xs) (f ∷ C) → AreSidesAmong sig xs f
        of (equal u v) raw h = (side_among u raw.0 h.0, side_among v raw.1 h.1)
        of (matches l t) raw h = side_among t raw.1 h.0
        of (has_sort t S) raw h = side_among t raw.0 h.0
        of (is_true t) raw h = side_among t raw.0 h.0

    module _ (t : Test) (h : IsTestOf sig xs f t) where
      pub among_all : (x : Variable) → IsTrue (is_in x (bound_by xs t) || occurs_among x C) → IsTrue (is_in x all)
      among_all x o = ready.among x (⊎_elim
          (λ a. of f (sym (in_bound_by sig ok xs C f t ready.raw h x) ∙ a))
          (λ a. or_right (is_in x xs) (occurs_among x (f ∷ C)) (occurs_behind f C x a))
          (or_cases (is_in x (bound_by xs t)) (occurs_among x C) o))
        where
          of : (f : Fragment) → behind (λ y. is_in y xs) f x ≡ true → (is_in x xs || occurs_among x (f ∷ C)) ≡ true
          of (equal u v) a = or_left (is_in x xs) (occurs_among x (equal u v ∷ C)) a
          of (matches l u) a = ⊎_elim
              (λ i. or_left (is_in x xs) (occurs_among x (matches l u ∷ C)) i)
              (λ i. or_right (is_in x xs) (occurs_among x (matches l u ∷ C)) (occurs_in_pattern l u C x i))
              (or_cases (is_in x xs) (occurs x l) a)
          of (has_sort u S) a = or_left (is_in x xs) (occurs_among x (has_sort u S ∷ C)) a
          of (is_true u) a = or_left (is_in x xs) (occurs_among x (is_true u ∷ C)) a

      pub bound_among : AreIn (bound_by xs t) all
      bound_among x m = among_all x (or_left (is_in x (bound_by xs t)) (occurs_among x C) (member_in x (bound_by xs t) m))

      pub ready_more : AreReady sig all (bound_by xs t) C
      ready_more = record {
        raw = raw_behind sig f C ready.raw;
        in_turn = AreBound-same C (λ x. sym (in_bound_by sig ok xs C f t ready.raw h x)) (bound_behind (λ x. is_in x xs) f C ready.in_turn);
        distinct = (grown sig xs f t h).1 ready.distinct;
        among = among_all;
      }

alike : (a b : Bool) → (a ≡ true → b ≡ true) → (b ≡ true → a ≡ true) → a ≡ b
alike true b f g = sym (f refl)
alike false true f g = g refl
alike false false f g = refl

-- what the tests of a statement's condition bind
module _ (M : Module) (ok : IsWorkable M) (k : ℕ) (e : Statement) (is : IsStatement M k e) where
  abbrev sig : Signature
  sig = M.signature

  abbrev lefts : List Variable
  lefts = met [] e.left

  raw : AreRawFragments sig e.fragments
  raw = (ok.sides k e is.is_there).fragments

  -- at the beginning
  pub first_ready : AreReady sig e.variables lefts e.fragments
  first_ready = record {
    raw = raw;
    in_turn = AreBound-same e.fragments (λ x. sym (in_lefts e x)) (ok.statements k e is).bound_in_turn;
    distinct = lefts_distinct e;
    among = λ x o. in_variables M ok k e is x ∙ of x (subst (λ b. (b || occurs_among x e.fragments) ≡ true) (in_lefts e x) o);
  }
    where
      of : (x : Variable) → (occurs x e.left || occurs_among x e.fragments) ≡ true → ((occurs x e.left || occurs x e.right) || occurs_among x e.fragments) ≡ true
      of x o = ⊎_elim
          (λ a. or_left (occurs x e.left || occurs x e.right) (occurs_among x e.fragments) (or_left (occurs x e.left) (occurs x e.right) a))
          (λ a. or_right (occurs x e.left || occurs x e.right) (occurs_among x e.fragments) a)
          (or_cases (occurs x e.left) (occurs_among x e.fragments) o)

  abbrev b : Variable → Bool
  b y = occurs y e.left

  -- what is bound in the end are the statement's variables
  pub binds_variables : (x : Variable) → binds_among (λ y. occurs y e.left) e.fragments x ≡ is_in x e.variables
  binds_variables x = alike (binds_among b e.fragments x) (is_in x e.variables)
      (λ a. in_variables M ok k e is x ∙ ⊎_elim
      (λ i. or_left (b x || occurs x e.right) (occurs_among x e.fragments) (or_left (b x) (occurs x e.right) i))
      (λ i. or_right (b x || occurs x e.right) (occurs_among x e.fragments) i)
      (or_cases (b x) (occurs_among x e.fragments) (bound_from b e.fragments x a)))
      (λ a. ⊎_elim
      (λ i. ⊎_elim (λ o. bound_stays b e.fragments x o) (λ o. (ok.statements k e is).bound x o) (or_cases (b x) (occurs x e.right) i))
      (λ i. among_bound b e.fragments (ok.statements k e is).bound_in_turn x i)
      (or_cases (b x || occurs x e.right) (occurs_among x e.fragments) (sym (in_variables M ok k e is x) ∙ a)))

  module _ (ts : List Test) (tests : AreTests sig lefts e.fragments ts) where
    pub bound_distinct : AreDistinct (all_bound lefts ts)
    bound_distinct = all_distinct sig lefts e.fragments ts tests (lefts_distinct e)

    pub bound_binds : (x : Variable) → is_in x (all_bound lefts ts) ≡ binds_among (λ y. occurs y e.left) e.fragments x
    bound_binds x = in_all_bound sig ok.signature.accepted lefts e.fragments ts raw tests x ∙ binds_same e.fragments (λ y. is_in y lefts) (λ y. occurs y e.left) (λ y. in_lefts e y) x

    pub bound_variables_are : (x : Variable) → is_in x (all_bound lefts ts) ≡ is_in x e.variables
    bound_variables_are x = bound_binds x ∙ binds_variables x

    pub bound_size : length (all_bound lefts ts) ≡ length e.variables
    bound_size = as_many (all_bound lefts ts) e.variables bound_distinct (variables_distinct M ok k e is) bound_variables_are

    pub variables_bound : AreIn e.variables (all_bound lefts ts)
    variables_bound x m = bound_variables_are x ∙ member_in x e.variables m

  -- where nothing is bound but the left side's variables these are all
  pub unconditional_variables : e.fragments ≡ [] → e.variables ≡ lefts
  unconditional_variables none =
      let tests : AreTests sig lefts e.fragments [] = subst (λ C. AreTests sig lefts C []) (sym none) tt in
      let (zs, f) = variables_front M ok k e is in
      let size : length lefts ≡ length e.variables = bound_size [] tests in
      let more : length e.variables ≡ length lefts + length zs = ap (λ (xs : List Variable). length xs) f ∙ length-append lefts zs in
      f ∙ nothing_behind zs (omega (arith, size, more))
    where
      nothing_behind : (zs : List Variable) → length zs ≡ 0 → lefts ++ zs ≡ lefts
      nothing_behind [] l = append-nil lefts
      nothing_behind (z ∷ zs) l = absurd (omega (arith, l))
