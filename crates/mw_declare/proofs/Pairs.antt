-- The pairs of statements whose sorts are all known are pairs of sorts.
use Rattle.std.proofs.Common.{◌≡◌, ℕ, List, [], ◌∷◌, length, map, Option, Some, None, All, refl}
use Rattle.std.proofs.lemmas.List.Elements.{All-nil, All-cons, All-head, All-tail, All-append}
use Rattle.mw_poset.specs.Order.{IsSort, ArePairsOf, IsOnCycle}
use Rattle.mw_poset.proofs.Members.{member-all}
use Rattle.mw_module.specs.Forms.{Shape, Sorts, Subsorts, Operators, Variables, Statement, Import, Class}
use Rattle.mw_module.specs.declared.faults.Fault.{Fault}
use Rattle.mw_module.specs.Units.{SeenLined}
use Rattle.mw_declare.specs.Meaning.{Name, number_of, numbers_of}
use Rattle.mw_declare.specs.Hierarchy.{pairs_between, pairs_behind, pairs_in, pairs_from}
use Rattle.mw_declare.specs.Faults.{unknown_among, mentioned_in, mentioned, unknown_in, unknown_from}
use Rattle.mw_declare.proofs.Unknown.{known_front, known_append, number_there}

abbrev IsPairOf : ℕ → ℕ × ℕ → Type 0
IsPairOf n p = IsSort n p.0 × IsSort n p.1

-- where no sort is unknown, none of the first statement is, and none of the others
pub known_statement : (sorts : List Name) (s : SeenLined) (ss : List SeenLined) → unknown_from sorts (s ∷ ss) ≡ None → (unknown_among sorts (mentioned s.shape) ≡ None) × (unknown_from sorts ss ≡ None)
known_statement sorts s ss e = of (unknown_among sorts (mentioned s.shape)) (unknown_from sorts ss) e
  where
    of : (o : Option Name) (p : Option Fault) → unknown_in o s.line p ≡ None → (o ≡ None) × (p ≡ None)
    of None p k = (refl, k)
    of (Some n) p k = cc

numbers_there : (sorts : List Name) (ts : List Name) → unknown_among sorts ts ≡ None → All (IsSort (length sorts)) (numbers_of sorts ts)
numbers_there sorts [] e = All-nil (IsSort (length sorts))
numbers_there sorts (t ∷ ts) e =
    let k = known_front sorts t ts e in
    All-cons (IsSort (length sorts)) (number_of sorts t) (numbers_of sorts ts) (number_there sorts t k.0) (numbers_there sorts ts k.1)

below_there : (n S : ℕ) (uppers : List ℕ) → IsSort n S → All (IsSort n) uppers → ArePairsOf n (map (λ (T : ℕ). (S, T)) uppers)
below_there n S [] low all = All-nil (IsPairOf n)
below_there n S (T ∷ uppers) low all =
    All-cons (IsPairOf n) (S, T) (map (λ (U : ℕ). (S, U)) uppers) (low, All-head (IsSort n) T uppers all) (below_there n S uppers low (All-tail (IsSort n) T uppers all))

between_there : (n : ℕ) (lowers uppers : List ℕ) → All (IsSort n) lowers → All (IsSort n) uppers → ArePairsOf n (pairs_between lowers uppers)
between_there n [] uppers low all = All-nil (IsPairOf n)
between_there n (S ∷ lowers) uppers low all =
    All-append (IsPairOf n) (map (λ (T : ℕ). (S, T)) uppers) (pairs_between lowers uppers) (below_there n S uppers (All-head (IsSort n) S lowers low) all)
    (between_there n lowers uppers (All-tail (IsSort n) S lowers low) all)

behind_there : (sorts : List Name) (lowers : List ℕ) (gs : List (List Name)) → All (IsSort (length sorts)) lowers → unknown_among sorts (mentioned_in gs) ≡ None
    → ArePairsOf (length sorts) (pairs_behind sorts lowers gs)
behind_there sorts lowers [] low e = All-nil (IsPairOf (length sorts))
behind_there sorts lowers (g ∷ gs) low e =
    let k = known_append sorts g (mentioned_in gs) e in
    let group = numbers_there sorts g k.0 in
    All-append (IsPairOf (length sorts)) (pairs_between lowers (numbers_of sorts g)) (pairs_behind sorts (numbers_of sorts g) gs) (between_there (length sorts) lowers (numbers_of sorts g) low group)
    (behind_there sorts (numbers_of sorts g) gs group k.1)

in_there : (sorts : List Name) (s : Shape) → unknown_among sorts (mentioned s) ≡ None → ArePairsOf (length sorts) (pairs_in sorts s)
in_there sorts (Sorts names) e = All-nil (IsPairOf (length sorts))
in_there sorts (Subsorts groups) e = behind_there sorts [] groups (All-nil (IsSort (length sorts))) e
in_there sorts (Operators names args result said) e = All-nil (IsPairOf (length sorts))
in_there sorts (Variables names S) e = All-nil (IsPairOf (length sorts))
in_there sorts (Statement rule left right fragments executable) e = All-nil (IsPairOf (length sorts))
in_there sorts (Import m) e = All-nil (IsPairOf (length sorts))
in_there sorts (Class c as_) e = All-nil (IsPairOf (length sorts))

pub pairs_there : (sorts : List Name) (ss : List SeenLined) → unknown_from sorts ss ≡ None → ArePairsOf (length sorts) (pairs_from sorts ss)
pairs_there sorts [] e = All-nil (IsPairOf (length sorts))
pairs_there sorts (s ∷ ss) e =
    let k = known_statement sorts s ss e in
    All-append (IsPairOf (length sorts)) (pairs_in sorts s.shape) (pairs_from sorts ss) (in_there sorts s.shape k.0) (pairs_there sorts ss k.1)

-- what is on a cycle of pairs of sorts is a sort
pub cycle_there : (n : ℕ) (pairs : List (ℕ × ℕ)) (S : ℕ) → ArePairsOf n pairs → IsOnCycle pairs S → IsSort n S
cycle_there n pairs S within k = (member-all (IsPairOf n) pairs within (S, k.next) k.pair).0
