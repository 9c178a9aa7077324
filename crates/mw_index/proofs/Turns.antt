-- Fragments that become tests, one after another.
use Rattle.std.specs.Prelude.{◌≡◌, ◌≤◌, ◌-◌, List, [], ◌∷◌, ◌++◌, length, map, take, drop, get_or, refl}
use Rattle.std.proofs.Common.{sym, ap, subst, ◌∙◌, arith, append_assoc, append-nil}
use Rattle.std.proofs.Math.Seq.{take-length}
use Rattle.mw_logic.specs.Term.{Variable}
use Rattle.mw_logic.specs.Signature.{Signature}
use Rattle.mw_logic.specs.Accepted.{IsAccepted}
use Rattle.mw_logic.specs.Module.{Fragment}
use Rattle.mw_position.specs.Variables.{AreDistinct}
use Rattle.mw_index.specs.Conditions.{IsTestOf, AreTests, AreSidesAmong, AreReady, bound_by, all_bound}
use Rattle.mw_index.specs.Sections.{AreIn}
use Rattle.mw_index.specs.declared.conditions.Test.{Test}
use Rattle.mw_term.specs.declared.statement.Fragment.{Fragment as Written}
use Rattle.mw_term.specs.Statements.{fragment_of}
use Rattle.mw_index.proofs.Bound.{grown, sides_among, bound_among, ready_more}
use Rattle.mw_index.proofs.Fragments.{HasFront}

first_and_behind : (cs : List Written) (c : Written) → 1 ≤ length cs → c ≡ get_or cs 0 c → map fragment_of cs ≡ fragment_of c ∷ map fragment_of (take (length cs - 1) (drop 1 cs))
first_and_behind [] c h e = absurd (omega (arith, h))
first_and_behind (d ∷ cs) c h e =
    let z : length cs ≡ length (d ∷ cs) - 1 = omega arith in
    ap (λ d. fragment_of d ∷ map fragment_of cs) (sym e) ∙ ap (λ cs. fragment_of c ∷ map fragment_of cs) (sym (take-length cs) ∙ ap (λ k. take k cs) z)

-- The tests that are made and any of the fragments that are left are tests of all.
pub record IsTurn (sig : Signature) (all start : List Variable) (whole left : List Fragment) (xs : List Variable) (made : List Test) : Type 0 where
  pub ready : AreReady sig all xs left
  pub tests : (ts : List Test) → AreTests sig xs left ts → AreTests sig start whole (made ++ ts)
  pub bound : (ts : List Test) → all_bound start (made ++ ts) ≡ all_bound xs ts

module _ (sig : Signature) (all start : List Variable) (whole : List Fragment) where
  pub first_turn : AreReady sig all start whole → IsTurn sig all start whole whole start []
  first_turn ready = record { ready = ready; tests = λ ts h. h; bound = λ ts. refl }

  pub last_tests : (left : List Fragment) (xs : List Variable) (made : List Test) → left ≡ [] → IsTurn sig all start whole left xs made → AreTests sig start whole made
  last_tests left xs made e h = subst (AreTests sig start whole) (append-nil made) (h.tests [] (subst (λ C. AreTests sig xs C []) (sym e) tt))

  pub last_bound : (left : List Fragment) (xs : List Variable) (made : List Test) → IsTurn sig all start whole left xs made → xs ≡ all_bound start made
  last_bound left xs made h = sym (h.bound []) ∙ ap (all_bound start) (append-nil made)

  -- the first of the fragments that are left
  module _ (ok : IsAccepted sig) (cs : List Written) (c : Written) (n : 1 ≤ length cs) (e : c ≡ get_or cs 0 c) (xs : List Variable) (made : List Test) (turn : IsTurn sig all start whole (map fragment_of cs) xs made) where
    abbrev behind : List Fragment
    behind = map fragment_of (take (length cs - 1) (drop 1 cs))

    left_is : map fragment_of cs ≡ fragment_of c ∷ behind
    left_is = first_and_behind cs c n e

    ready : AreReady sig all xs (fragment_of c ∷ behind)
    ready = subst (AreReady sig all xs) left_is turn.ready

    pub turn_sides : AreSidesAmong sig xs (fragment_of c)
    turn_sides = sides_among sig ok all xs (fragment_of c) behind ready

    module _ (t : Test) (h : IsTestOf sig xs (fragment_of c) t) where
      pub turn_among : AreIn (bound_by xs t) all
      turn_among = bound_among sig ok all xs (fragment_of c) behind ready t h

      pub turn_distinct : AreDistinct (bound_by xs t)
      turn_distinct = (grown sig xs (fragment_of c) t h).1 ready.distinct

      pub turn_front : HasFront xs (bound_by xs t)
      turn_front = (grown sig xs (fragment_of c) t h).0

      pub next_turn : IsTurn sig all start whole behind (bound_by xs t) (made ++ t ∷ [])
      next_turn = record {
        ready = ready_more sig ok all xs (fragment_of c) behind ready t h;
        tests = λ ts k. subst (AreTests sig start whole) (sym (append_assoc made (t ∷ []) ts)) (turn.tests (t ∷ ts) (subst (λ C. AreTests sig xs C (t ∷ ts)) (sym left_is) (h, k)));
        bound = λ ts. ap (all_bound start) (append_assoc made (t ∷ []) ts) ∙ turn.bound (t ∷ ts);
      }

pub no_turn : (cs : List Written) → length cs ≤ 0 → map fragment_of cs ≡ []
no_turn [] h = refl
no_turn (c ∷ cs) h = absurd (omega (arith, h))
