-- What is asked of tests before they are made.
use Rattle.std.specs.Prelude.{◌≡◌, ◌==◌, Bool, true, false, ℕ, zero, suc, List, [], ◌∷◌, length, Some, slice_get}
use Rattle.std.proofs.Common.{Box, Global, sym, subst, ap, ◌∙◌, arith}
use Rattle.std.proofs.lemmas.Option.{same_Some}
use Rattle.mw_logic.specs.Term.{Variable, RawTerm}
use Rattle.mw_logic.specs.Signature.{Signature}
use Rattle.mw_logic.specs.Accepted.{IsAccepted}
use Rattle.mw_logic.specs.Module.{Fragment, equal, matches, has_sort, is_true, Module}
use Rattle.mw_position.specs.Variables.{met, sorts_of}
use Rattle.mw_index.specs.Conditions.{IsSideOf, IsMatchOf, IsTestOf, AreTests, AreReady, bound_by}
use Rattle.mw_term.specs.Signatures.{sorted_of}
use Rattle.mw_term.specs.declared.signature.Sorted.{Sorted as Written}
use Rattle.mw_index.specs.declared.conditions.Side.{Side}
use Rattle.mw_index.specs.declared.conditions.Matched.{Matched}
use Rattle.mw_index.specs.declared.conditions.Test.{Test}
use Rattle.mw_index.specs.declared.conditions.Test.TheVariants as test
use Rattle.mw_index.specs.declared.oriented.Oriented.{Oriented}
use Rattle.mw_reduce.specs.Turns.{HasOriented}
use Rattle.mw_reduce.specs.Evaluations.{AreAsked, IsSomeTest, AreSomeTests}

pub some_test_at : (sig : Signature) (xs : List Variable) (C : List Fragment) (ts : List Test) → AreTests sig xs C ts → (i : ℕ) (t : Test) → slice_get ts i ≡ Some t → IsSomeTest sig t
some_test_at sig xs C [] h i t e = cc
some_test_at sig xs [] (u ∷ ts) h i t e = absurd h
some_test_at sig xs (f ∷ C) (u ∷ ts) h zero t e = subst (IsSomeTest sig) (same_Some u t e) (xs, f, h.0)
some_test_at sig xs (f ∷ C) (u ∷ ts) h (suc i) t e = some_test_at sig (bound_by xs u) C ts h.1 i t e

-- a pattern that was compiled has a sort for each variable
pub match_sorts : (sig : Signature) (m : Box Matched Global) → IsSomeTest sig (test.Match m) → m.value.compiled.positions.sorts ≡ sorts_of m.value.compiled.variables
match_sorts sig m (xs, equal u v, h) = absurd h
match_sorts sig m (xs, matches l t, h) = h.compiled.sorts
match_sorts sig m (xs, has_sort t S, h) = absurd h
match_sorts sig m (xs, is_true t, h) = absurd h

pub equation_tests : (M : Module) (st : Oriented) → HasOriented M st → AreSomeTests M.signature st.condition
equation_tests M st (top, of) = (met [] of.statement.left, of.statement.fragments, of.is.condition.tests)

-- the sides of a fragment whose turn it is
module _ (sig : Signature) (ok : IsAccepted sig) (all xs : List Variable) (C : List Fragment) where
  pub equal_asked : (u v : RawTerm) → AreReady sig all xs (equal u v ∷ C) → AreAsked sig xs u × AreAsked sig xs v
  equal_asked u v h = (record { raw = h.raw.0; among = h.in_turn.0; distinct = h.distinct }, record { raw = h.raw.1; among = h.in_turn.1; distinct = h.distinct })

  pub match_asked : (l t : RawTerm) → AreReady sig all xs (matches l t ∷ C) → AreAsked sig xs t
  match_asked l t h = record { raw = h.raw.1; among = h.in_turn.0; distinct = h.distinct }

-- What holds for the fragment of a test of each kind, and what is bound behind it, holds for the test that it is.
module _ (sig : Signature) (ok : IsAccepted sig) (all xs : List Variable) (f : Fragment) (C : List Fragment) (z : Test) (is : IsTestOf sig xs f z) (ready : AreReady sig all xs (f ∷ C)) (P : Fragment → List Variable → Type 0) where
  pub at_equal : (p q : Side) → z ≡ test.Equal p q → ((u v : RawTerm) → AreAsked sig xs u → AreAsked sig xs v → IsSideOf sig xs u p → IsSideOf sig xs v q → P (equal u v) xs) → P f (bound_by xs z)
  at_equal p q e h = subst (λ z. P f (bound_by xs z)) (sym e) (of f (subst (IsTestOf sig xs f) e is) ready)
    where
      of : (f : Fragment) → IsTestOf sig xs f (test.Equal p q) → AreReady sig all xs (f ∷ C) → P f xs
      of (equal u v) i r = let a = equal_asked sig ok all xs C u v r in h u v a.0 a.1 i.0 i.1
      of (matches l t) i r = absurd i
      of (has_sort t S) i r = absurd i
      of (is_true t) i r = absurd i

  pub at_match : (m : Box Matched Global) → z ≡ test.Match m → ((l t : RawTerm) → AreReady sig all xs (matches l t ∷ C) → AreAsked sig xs t → IsMatchOf sig xs l t m.value → P (matches l t) m.value.compiled.variables) → P f (bound_by xs z)
  at_match m e h = subst (λ z. P f (bound_by xs z)) (sym e) (of f (subst (IsTestOf sig xs f) e is) ready)
    where
      of : (f : Fragment) → IsTestOf sig xs f (test.Match m) → AreReady sig all xs (f ∷ C) → P f m.value.compiled.variables
      of (equal u v) i r = absurd i
      of (matches l t) i r = h l t r (match_asked sig ok all xs C l t r) i
      of (has_sort t S) i r = absurd i
      of (is_true t) i r = absurd i

  pub at_sort : (p : Side) (T : Written) → z ≡ test.HasSort p T → ((t : RawTerm) → AreAsked sig xs t → IsSideOf sig xs t p → P (has_sort t (sorted_of T)) xs) → P f (bound_by xs z)
  at_sort p T e h = subst (λ z. P f (bound_by xs z)) (sym e) (of f (subst (IsTestOf sig xs f) e is) ready)
    where
      of : (f : Fragment) → IsTestOf sig xs f (test.HasSort p T) → AreReady sig all xs (f ∷ C) → P f xs
      of (equal u v) i r = absurd i
      of (matches l t) i r = absurd i
      of (has_sort t S) i r = subst (λ S. P (has_sort t S) xs) i.1 (h t (record { raw = r.raw.0; among = r.in_turn.0; distinct = r.distinct }) i.0)
      of (is_true t) i r = absurd i

  pub at_truth : (p : Side) → z ≡ test.Holds p → ((t : RawTerm) → AreAsked sig xs t → IsSideOf sig xs t p → P (is_true t) xs) → P f (bound_by xs z)
  at_truth p e h = subst (λ z. P f (bound_by xs z)) (sym e) (of f (subst (IsTestOf sig xs f) e is) ready)
    where
      of : (f : Fragment) → IsTestOf sig xs f (test.Holds p) → AreReady sig all xs (f ∷ C) → P f xs
      of (equal u v) i r = absurd i
      of (matches l t) i r = absurd i
      of (has_sort t S) i r = absurd i
      of (is_true t) i r = h t (record { raw = r.raw.0; among = r.in_turn.0; distinct = r.distinct }) i

-- the tests of a condition: none, or a first one
pub none_there : (ts us : List Test) (b : Bool) → us ≡ ts → b ≡ (length us == 0) → b ≡ true → ts ≡ []
none_there ts [] b e f t = sym e
none_there ts (u ∷ us) b e f t = absurd (apart (length us) (sym f ∙ t))
  where
    apart : (n : ℕ) → (suc n == 0) ≡ true → ⊥
    apart n h = grind arith

pub one_there : (ts us : List Test) (b : Bool) → us ≡ ts → b ≡ (length us == 0) → b ≡ false → (x : Test) × (slice_get ts 0 ≡ Some x)
one_there ts [] b e f t = cc
one_there ts (u ∷ us) b e f t = (u, ap (λ xs. slice_get xs 0) (sym e))
