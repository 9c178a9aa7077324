-- Which arguments of a pattern become one element, whatever their values are; and the splits that take these first.
use Rattle.std.specs.Prelude.{◌≡◌, ℕ, suc, List, Bool, true, false, not, ◌&&◌, ◌||◌, cond, nat_eq, nat_lt, is_some, ⊤}
use Rattle.mw_logic.specs.Term.{RawTerm, numeral, quoted, variable, apply, RawTerms, nil, cons}
use Rattle.mw_logic.specs.Signature.{Signature}
use Rattle.mw_logic.specs.Kinds.{is_successor}
use Rattle.mw_logic.specs.Parts.{is_assoc, number_of_terms}
use Rattle.mw_logic.specs.NormalForm.{is_comm, identity_of, is_identity, elements}
use Rattle.mw_logic.proofs.Canonical.{IsElement, IsCanonical}
use Rattle.mw_arguments.specs.Splits.{splits_of}
use Rattle.mw_matching.specs.Matches.{Theory}
use Rattle.mw_matching.specs.Rigid.{FirstAreElements, rigid_splits}

-- Operator g stays on top of n arguments, whatever these become: it isn't the successor and, where it is associative, has no identity and two arguments at least.
abbrev pub stays : Signature → ℕ → ℕ → Bool
stays sig g n = cond (is_assoc sig g) (not (is_some (identity_of sig g)) && nat_lt 1 n) (not (is_successor sig g))

-- q becomes one element under f, by what is on top of it; `single f i` says that what may stand at position i is one, by its sort
abbrev pub is_one : Signature → (ℕ → ℕ → Bool) → ℕ → RawTerm → Bool
is_one sig single f (numeral n) = not (is_identity (identity_of sig f) (numeral n))
is_one sig single f (quoted q) = true
is_one sig single f (variable x) = single f x.sort
is_one sig single f (apply g ts) = not (nat_eq f g) && (stays sig g (number_of_terms ts) && not (is_identity (identity_of sig f) (apply g ts)))

-- how many arguments become one element
abbrev pub number_ones : Signature → (ℕ → ℕ → Bool) → ℕ → RawTerms → ℕ
number_ones sig single f nil = 0
number_ones sig single f (cons q qs) = cond (is_one sig single f q) (suc (number_ones sig single f qs)) (number_ones sig single f qs)

-- an argument becomes one element under f, and under g too
abbrev pub has_one_under_both : Signature → (ℕ → ℕ → Bool) → ℕ → ℕ → RawTerms → Bool
has_one_under_both sig single f g nil = false
has_one_under_both sig single f g (cons q qs) = (is_one sig single f q && is_one sig single g q) || has_one_under_both sig single f g qs

-- An argument is rigid by what is on top of it, or by what an associative operator g on top stands on: two arguments that become one element each keep g on
-- top, and one is left, if the others vanish, as an element under f.
abbrev pub is_rigid : Signature → (ℕ → ℕ → Bool) → ℕ → RawTerm → Bool
is_rigid sig single f (numeral n) = is_one sig single f (numeral n)
is_rigid sig single f (quoted q) = true
is_rigid sig single f (variable x) = single f x.sort
is_rigid sig single f (apply g ts) = is_one sig single f (apply g ts)
    || (not (nat_eq f g) && (is_assoc sig g && (nat_lt 1 (number_ones sig single g ts) || has_one_under_both sig single f g ts)))

-- how many arguments at the front are rigid, and how many stand behind
abbrev pub leading : Signature → (ℕ → ℕ → Bool) → ℕ → RawTerms → ℕ
leading sig single f nil = 0
leading sig single f (cons q qs) = cond (is_rigid sig single f q) (suc (leading sig single f qs)) 0

abbrev pub behind : Signature → (ℕ → ℕ → Bool) → ℕ → RawTerms → ℕ
behind sig single f nil = 0
behind sig single f (cons q qs) = cond (is_rigid sig single f q) (behind sig single f qs) (suc (number_of_terms qs))

-- the splits that take the rigid arguments at the front first, under an associative and commutative operator
abbrev pub splits_for : Signature → (ℕ → ℕ → Bool) → ℕ → RawTerms → RawTerm → List RawTerms
splits_for sig single f qs t =
    cond (is_assoc sig f && is_comm sig f)
    (rigid_splits (identity_of sig f) f (leading sig single f qs) (behind sig single f qs) (elements (identity_of sig f) f t))
    (splits_of sig f (number_of_terms qs) t)

-- which terms a position may have, and these splits
abbrev pub theory : Signature → (ℕ → RawTerm → Bool) → (ℕ → ℕ → Bool) → Theory
theory sig has single = record { has = has; splits = splits_for sig single }

-- what may stand at a position that is single is one element
abbrev pub AreSingle : Signature → (ℕ → RawTerm → Bool) → (ℕ → ℕ → Bool) → Type 0
AreSingle sig has single = (f i : ℕ) (u : RawTerm) → single f i ≡ true → IsCanonical sig u → has i u ≡ true → IsElement (identity_of sig f) f u

-- what holds in a case only
abbrev pub InCase : Bool → Type 0 → Type 0
InCase true P = P
InCase false P = ⊤

-- what patterns show of the arguments that they become: the rigid ones at the front are elements
abbrev pub FrontsFit : Signature → (ℕ → ℕ → Bool) → ℕ → RawTerms → RawTerms → Type 0
FrontsFit sig single f qs ts = InCase (is_assoc sig f && is_comm sig f) (FirstAreElements (identity_of sig f) f (leading sig single f qs) ts)
