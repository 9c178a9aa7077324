-- Sorts by their names and numbers.
use Rattle.std.proofs.Common.{◌≡◌, ◌<◌, ◌||◌, ℕ, zero, suc, List, [], ◌∷◌, ◌++◌, length, Bool, true, false, Some, slice_get, All, bytes_eq, if◌then◌else◌, refl, arith}
use Rattle.std.specs.Prelude.{⊤}
use Rattle.std.proofs.lemmas.Bool.{and_from}
use Rattle.std.proofs.lemmas.List.Elements.{All-nil, All-cons, All-head, All-tail, All-weaker}
use Rattle.std.proofs.lemmas.Slice.Eq.{bytes_eq-Decides}
use Rattle.mw_logic.specs.Signature.{at_number}
use Rattle.mw_logic.specs.Accepted.{names_differ}
use Rattle.mw_logic.proofs.AcceptedTest.{is_accepted-sound}
use Rattle.mw_poset.specs.Order.{IsSort}
use Rattle.mw_module.specs.Forms.{Shape, Sorts, Subsorts, Operators, Variables, Statement, Import, Class}
use Rattle.mw_module.specs.Units.{SeenLined}
use Rattle.mw_declare.specs.Meaning.{Name, is_among, with_name, with_names, with_sorts, sorts_from}
use Rattle.mw_declare.proofs.Proper.{all_names}
use Rattle.mw_declare.proofs.Within.{AllShaped}

-- where names differ, a name stands at one number
pub one_number : (ns : List Name) → names_differ ns ≡ true → (S T : ℕ) (n : Name) → at_number ns S ≡ Some n → at_number ns T ≡ Some n → S ≡ T
one_number ns differ = (is_accepted-sound (record { sorts = ns; pairs = []; operators = []; nat = false; qid = false }) (and_from true (names_differ ns) refl differ)).sorts_differ

-- a sort has a name
pub has_name : (ns : List Name) (S : ℕ) → IsSort (length ns) S → (n : Name) × (at_number ns S ≡ Some n)
has_name ns zero there = absurd (omega (arith, there.0))
has_name ns (suc i) there = of ns i (omega (arith, there.1))
  where
    of : (ns : List Name) (i : ℕ) → i < length ns → (n : Name) × (slice_get ns i ≡ Some n)
    of [] i low = absurd (omega (arith, low))
    of (n ∷ ns) zero low = (n, refl)
    of (n ∷ ns) (suc i) low = of ns i (omega (arith, low))

-- a name is there with one more, and that one is
among_push : (ns : List Name) (n m : Name) → is_among ns n ≡ true → is_among (ns ++ m ∷ []) n ≡ true
among_push [] n m e = cc
among_push (k ∷ ns) n m e = of (bytes_eq n k) e (among_push ns n m)
  where
    of : (b : Bool) → (b || is_among ns n) ≡ true → (is_among ns n ≡ true → is_among (ns ++ m ∷ []) n ≡ true) → (b || is_among (ns ++ m ∷ []) n) ≡ true
    of true e more = refl
    of false e more = more e

among_last : (ns : List Name) (n : Name) → is_among (ns ++ n ∷ []) n ≡ true
among_last [] n = rw ((bytes_eq-Decides n n).1 refl) refl
among_last (k ∷ ns) n = of (bytes_eq n k) (among_last ns n)
  where
    of : (b : Bool) → is_among (ns ++ n ∷ []) n ≡ true → (b || is_among (ns ++ n ∷ []) n) ≡ true
    of true e = refl
    of false e = e

among_with : (ns : List Name) (m n : Name) → is_among ns n ≡ true → is_among (with_name ns m) n ≡ true
among_with ns m n e = of (is_among ns m)
  where
    of : (b : Bool) → is_among (if b then ns else ns ++ m ∷ []) n ≡ true
    of true = e
    of false = among_push ns n m e

among_new : (ns : List Name) (n : Name) → is_among (with_name ns n) n ≡ true
among_new ns n = of (is_among ns n) refl
  where
    of : (b : Bool) → is_among ns n ≡ b → is_among (if b then ns else ns ++ n ∷ []) n ≡ true
    of true e = e
    of false e = among_last ns n

among_names : (ns ms : List Name) (n : Name) → is_among ns n ≡ true → is_among (with_names ns ms) n ≡ true
among_names ns [] n e = e
among_names ns (m ∷ ms) n e = among_names (with_name ns m) ms n (among_with ns m n e)

abbrev IsIn : List Name → Name → Type 0
IsIn sorts n = is_among sorts n ≡ true

new_names : (ns ms : List Name) → All (IsIn (with_names ns ms)) ms
new_names ns [] = All-nil (IsIn ns)
new_names ns (m ∷ ms) =
    let all = with_names (with_name ns m) ms in All-cons (IsIn all) m ms (among_names (with_name ns m) ms m (among_new ns m)) (new_names (with_name ns m) ms)

-- each sort that a statement declares has the property
abbrev pub HasNames : (Name → Type 0) → Shape → Type 0
HasNames P (Sorts names) = All P names
HasNames P (Subsorts groups) = ⊤
HasNames P (Operators names args result said) = ⊤
HasNames P (Variables names S) = ⊤
HasNames P (Statement rule left right fragments executable) = ⊤
HasNames P (Import m) = ⊤
HasNames P (Class c as_) = ⊤

-- so each sort of the statements has it
module _ (P : Name → Type 0) where
  all_sorts : (ns : List Name) (s : Shape) → All P ns → HasNames P s → All P (with_sorts ns s)
  all_sorts ns (Sorts names) all each = all_names P ns names all each
  all_sorts ns (Subsorts groups) all each = all
  all_sorts ns (Operators names args result said) all each = all
  all_sorts ns (Variables names S) all each = all
  all_sorts ns (Statement rule left right fragments executable) all each = all
  all_sorts ns (Import m) all each = all
  all_sorts ns (Class c as_) all each = all

  pub all_sorts_from : (ns : List Name) (ss : List SeenLined) → All P ns → AllShaped (HasNames P) ss → All P (sorts_from ns ss)
  all_sorts_from ns [] all each = all
  all_sorts_from ns (s ∷ ss) all each =
      all_sorts_from (with_sorts ns s.shape) ss (all_sorts ns s.shape all (All-head (λ (s : SeenLined). HasNames P s.shape) s ss each)) (All-tail (λ (s : SeenLined). HasNames P s.shape) s ss each)

-- the sorts that statements declare are there
among_sorts : (ns : List Name) (s : Shape) (n : Name) → is_among ns n ≡ true → is_among (with_sorts ns s) n ≡ true
among_sorts ns (Sorts names) n e = among_names ns names n e
among_sorts ns (Subsorts groups) n e = e
among_sorts ns (Operators names args result said) n e = e
among_sorts ns (Variables names S) n e = e
among_sorts ns (Statement rule left right fragments executable) n e = e
among_sorts ns (Import m) n e = e
among_sorts ns (Class c as_) n e = e

among_from : (ns : List Name) (ss : List SeenLined) (n : Name) → is_among ns n ≡ true → is_among (sorts_from ns ss) n ≡ true
among_from ns [] n e = e
among_from ns (s ∷ ss) n e = among_from (with_sorts ns s.shape) ss n (among_sorts ns s.shape n e)

new_sorts : (ns more : List Name) (s : Shape) → ((n : Name) → is_among (with_sorts ns s) n ≡ true → is_among more n ≡ true) → HasNames (IsIn more) s
new_sorts ns more (Sorts names) kept = All-weaker (IsIn (with_names ns names)) (IsIn more) kept names (new_names ns names)
new_sorts ns more (Subsorts groups) kept = tt
new_sorts ns more (Operators names args result said) kept = tt
new_sorts ns more (Variables names S) kept = tt
new_sorts ns more (Statement rule left right fragments executable) kept = tt
new_sorts ns more (Import m) kept = tt
new_sorts ns more (Class c as_) kept = tt

pub sorts_are_there : (ns : List Name) (ss : List SeenLined) → AllShaped (HasNames (λ n. is_among (sorts_from ns ss) n ≡ true)) ss
sorts_are_there ns [] = All-nil (λ (s : SeenLined). HasNames (IsIn ns) s.shape)
sorts_are_there ns (s ∷ ss) =
    let more = with_sorts ns s.shape in
    let all = sorts_from more ss in
    All-cons (λ (s : SeenLined). HasNames (IsIn all) s.shape) s ss (new_sorts ns all s.shape (among_from more ss)) (sorts_are_there more ss)
