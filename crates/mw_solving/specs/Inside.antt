-- Solutions of a pattern for a term and for its proper parts on top: several arguments of an associative operator, and not all of them. And the lists of
-- candidates among which they are.
use Rattle.std.specs.Prelude.{ℕ, suc, ◌≡◌, ◌<◌, ◌+◌, ◌-◌, Bool, true, false, not, ◌&&◌, cond, nat_lt, List, [], ◌++◌, map, flat_map, length, take, slice_get, Option, Some, None, option_map, option_and_then, option_to_list}
use Rattle.std.specs.List.{zip}
use Rattle.mw_logic.specs.Term.{Variable, RawTerm, numeral, quoted, variable, apply, RawTerms, nil, cons, join}
use Rattle.mw_logic.specs.Terms.{list_of, skip}
use Rattle.mw_logic.specs.Signature.{Signature, Member, at_number}
use Rattle.mw_logic.specs.Parts.{is_assoc, nested, number_of_terms}
use Rattle.mw_logic.specs.NormalForm.{is_comm, identity_of, elements}
use Rattle.mw_logic.specs.Substitution.{Substitution, IsSolution, SameSolution}
use Rattle.mw_canon.specs.Canonical.{meant}
use Rattle.mw_position.specs.Positions.{position}
use Rattle.mw_position.specs.Variables.{sorts_of}
use Rattle.mw_arguments.specs.Places.{Takes, numbers_of}
use Rattle.mw_matching.specs.Found.{Values, are_none, is_single, found, numbers_from}
use Rattle.mw_matching.specs.Multisets.{left_behind}
use Rattle.mw_matching.specs.Patterns.{is_rigid}
use Rattle.mw_solving.specs.Values.{AreValues, AreOfSorts}
use Rattle.mw_solving.specs.Candidates.{AreOfSortsFrom}

-- Of equal arguments those with the least numbers are taken, numbers from 1.
abbrev pub AreLeast : List ℕ → RawTerms → Type 0
AreLeast ks ts = (i j : ℕ) (u : RawTerm) → i < j → at_number (list_of ts) i ≡ Some u → at_number (list_of ts) j ≡ Some u → Member j ks → Member i ks

-- w is what these numbers take of t: two or more arguments of the associative operator on top and not all of them, neighbours where it isn't commutative,
-- and the first among equal ones where it is
pub record IsProperPart (sig : Signature) (ks : List ℕ) (t w : RawTerm) : Type 0 where
  pub takes : Takes sig ks t w
  pub proper : length ks < number_of_terms takes.args
  pub least : is_comm sig takes.operator ≡ true → AreLeast ks takes.args

-- s is a solution of p that extends s0: for the whole of t, or (`inside`) for what these numbers take of it
abbrev pub IsSolutionOf : Signature → Bool → RawTerm → RawTerm → Substitution → Option (List ℕ) → Substitution → Type 0
IsSolutionOf sig inside p t s0 None s = IsSolution sig p (nested sig t) s0 s
IsSolutionOf sig false p t s0 (Some ks) s = ⊥
IsSolutionOf sig true p t s0 (Some ks) s = (w : RawTerm) × IsProperPart sig ks t w × IsSolution sig p (nested sig w) s0 s

-- what is taken of a term, if it isn't the whole, with values of variables
abbrev pub Entry : Type 0
Entry = Option (List ℕ) × Values

-- The first n values were given. Each entry is a solution for what it takes where the values behind these have their variables' sorts, and only there; each
-- solution is such an entry modulo the axioms, and no two entries of one part are the same one.
pub record AreEntries (sig : Signature) (inside : Bool) (p t : RawTerm) (s0 : Substitution) (n : ℕ) (xs : List Variable) (list : List Entry) : Type 0 where
  pub values : (e : Entry) → Member e list → AreValues sig e.1 × (length e.1 ≡ length xs)
  pub sound : (e : Entry) → Member e list → AreOfSortsFrom sig n e.1 (sorts_of xs) → IsSolutionOf sig inside p t s0 e.0 (meant sig (zip xs e.1))
  pub sorted : (e : Entry) → Member e list → IsSolutionOf sig inside p t s0 e.0 (meant sig (zip xs e.1)) → AreOfSorts sig e.1 (sorts_of xs)
  pub complete : (ks : Option (List ℕ)) (s : Substitution) → IsSolutionOf sig inside p t s0 ks s
      → (us : Values) × Member {X = Entry} (ks, us) list × AreOfSorts sig us (sorts_of xs) × SameSolution sig s (meant sig (zip xs us))
  pub once : (i j : ℕ) (ks : Option (List ℕ)) (us ws : Values) → slice_get list i ≡ Some (ks, us) → slice_get list j ≡ Some (ks, ws)
      → SameSolution sig (meant sig (zip xs us)) (meant sig (zip xs ws)) → i ≡ j

-- p may become several elements under f, by what it is
abbrev pub joins : Signature → List (List ℕ) → ℕ → RawTerm → Bool
joins sig single f p = not (is_rigid sig (is_single single) f p) && not (are_none (elements (identity_of sig f) f p))

-- p with more elements behind, for which position m stands
abbrev pub with_rest : Signature → ℕ → RawTerm → ℕ → RawTerm
with_rest sig f p m = apply f (join (elements (identity_of sig f) f p) (cons (variable (position m)) nil))

-- What is taken of the arguments from i on where these elements are left, the last ones among equal ones: nothing unless one is left and two are taken.
abbrev pub left_numbers : Bool → RawTerms → ℕ → RawTerms → Option (List ℕ)
left_numbers comm args i left =
    cond (nat_lt 0 (number_of_terms left) && nat_lt (number_of_terms left + i + 1) (number_of_terms args))
    (Some (cond comm (numbers_of 1 (left_behind left args) args) (numbers_from (suc i) (number_of_terms args - i - number_of_terms left))))
    None

module _ (sig : Signature) (f : ℕ) (args : RawTerms) (i : ℕ) where
  -- a match with elements left behind, which are the last value
  abbrev pub left_entry : Values → List Entry
  left_entry us =
      option_to_list (option_and_then (λ r. option_map (λ ks. (Some ks, take (length us - 1) us)) (left_numbers (is_comm sig f) args i (elements (identity_of sig f) f r)))
      (slice_get us (length us - 1)))

  -- a match with all arguments from i on
  abbrev pub end_entry : Values → Entry
  end_entry us = (Some (numbers_from (suc i) (number_of_terms args - i)), us)

abbrev pub whole_entry : Values → Entry
whole_entry us = (None, us)

-- The candidates for a term and its proper parts on top, of a pattern p with positions below m.
module _ (sig : Signature) (single : List (List ℕ)) (p : RawTerm) (m : ℕ) (vs : Values) where
  -- arguments from i on, with some left behind
  abbrev pub left_entries : ℕ → RawTerms → ℕ → List Entry
  left_entries f args i = flat_map (left_entry sig f args i) (found sig single (with_rest sig f p m) (apply f (skip i args)) vs)

  -- all arguments from i on
  abbrev pub end_entries : ℕ → RawTerms → ℕ → List Entry
  end_entries f args i = map (end_entry sig f args i) (found sig single p (apply f (skip i args)) vs)

  -- parts that begin at argument i or behind it, so many places on
  abbrev pub entries_from : ℕ → RawTerms → ℕ → ℕ → List Entry
  entries_from f args i count = flat_map (λ j. end_entries f args j ++ left_entries f args j) (numbers_from i count)

  abbrev pub proper_entries : RawTerm → List Entry
  proper_entries (numeral n) = []
  proper_entries (quoted q) = []
  proper_entries (variable x) = []
  proper_entries (apply f args) =
      cond (is_assoc sig f && joins sig single f p) (left_entries f args 0 ++ cond (is_comm sig f) [] (entries_from f args 1 (number_of_terms args - 2))) []

  abbrev pub whole_entries : RawTerm → List Entry
  whole_entries t = map whole_entry (found sig single p t vs)

  abbrev pub entries : Bool → RawTerm → List Entry
  entries inside t = whole_entries t ++ cond inside (proper_entries t) []
