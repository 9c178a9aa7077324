-- The searches from which the solutions of a pattern come: one for the whole of a term, and others for its proper parts, one behind another.
use Rattle.std.specs.Prelude.{◌≡◌, ◌<◌, ℕ, zero, suc, ◌-◌, ◌+◌, List, [], ◌∷◌, map, flat_map, length, Bool, true, cond, ◌&&◌, nat_eq, Option, Some, None, option_map, option_and_then, option_to_list, slice_get, take}
use Rattle.mw_logic.specs.Term.{RawTerm, numeral, quoted, variable, apply}
use Rattle.mw_logic.specs.Terms.{args_of, terms_of, skip}
use Rattle.mw_logic.specs.Signature.{Signature}
use Rattle.mw_logic.specs.Parts.{is_assoc, number_of_terms}
use Rattle.mw_logic.specs.NormalForm.{is_comm, identity_of, elements}
use Rattle.mw_matching.specs.Found.{Values, is_single, found, found_row}
use Rattle.mw_matching.specs.Patterns.{leading}
use Rattle.mw_search.specs.Goals.{top_of}
use Rattle.mw_search.specs.Searches.{Matches}
use Rattle.mw_solving.specs.Inside.{Entry, whole_entry, end_entry, left_numbers, joins, with_rest}
use Rattle.mw_match.specs.declared.parts.Place.{Place}
use Rattle.mw_match.specs.declared.parts.Place.TheVariants.{Whole, Left, End}
use Rattle.mw_match.specs.declared.parts.Rest.{Rest}
use Rattle.mw_match.specs.declared.parts.Front.{Front}
use Rattle.mw_match.specs.declared.parts.Parts.{Parts}

-- from argument i on, so many arguments on: to the end, and with some left behind
abbrev pub neighbours : ℕ → ℕ → List Place
neighbours i zero = []
neighbours i (suc count) = End i ∷ Left i ∷ neighbours (suc i) count

-- the places behind one, of so many arguments of an operator that is commutative or not
abbrev pub places_behind : Bool → ℕ → Place → List Place
places_behind comm n Whole = Left 0 ∷ cond comm [] (neighbours 1 (n - 2))
places_behind comm n (End i) = Left i ∷ cond comm [] (neighbours (suc i) (n - (i + 2)))
places_behind comm n (Left i) = cond comm [] (neighbours (suc i) (n - (i + 2)))

-- the operator on top, on its arguments from i on
abbrev pub arguments_from : ℕ → RawTerm → RawTerm
arguments_from i (numeral n) = numeral n
arguments_from i (quoted q) = quoted q
arguments_from i (variable x) = variable x
arguments_from i (apply f ts) = apply f (skip i ts)

-- what is taken of a term's arguments from i on where r is left
abbrev pub left_of : Signature → RawTerm → ℕ → RawTerm → Option (List ℕ)
left_of sig (numeral n) i r = None
left_of sig (quoted q) i r = None
left_of sig (variable x) i r = None
left_of sig (apply f ts) i r = cond (is_assoc sig f) (left_numbers (is_comm sig f) ts i (elements (identity_of sig f) f r)) None

-- the arguments of a pattern become one element each under the associative operator on top, and a term has another number of elements
pub record HasOtherNumber (sig : Signature) (single : List (List ℕ)) (p t : RawTerm) : Type 0 where
  pub is : p ≡ apply (top_of p) (args_of p)
  pub assoc : is_assoc sig (top_of p) ≡ true
  pub rigid : leading sig (is_single single) (top_of p) (args_of p) ≡ number_of_terms (args_of p)
  pub differs : number_of_terms (elements (identity_of sig (top_of p)) (top_of p) t) ≡ number_of_terms (args_of p) → ⊥

-- a match with a last value that is left
abbrev pub left_match : Signature → RawTerm → ℕ → Values → List Entry
left_match sig t i us = option_to_list (option_and_then (λ r. option_map (λ ks. (Some ks, take (length us - 1) us)) (left_of sig t i r)) (slice_get us (length us - 1)))

-- the pattern with a rest behind it, for which position m stands, where it has matches with proper parts of a term
abbrev pub rest_pattern : Signature → List (List ℕ) → RawTerm → ℕ → RawTerm → Option RawTerm
rest_pattern sig single p m (numeral n) = None
rest_pattern sig single p m (quoted q) = None
rest_pattern sig single p m (variable x) = None
rest_pattern sig single p m (apply f ts) = cond (is_assoc sig f && joins sig single f p) (Some (with_rest sig f p m)) None

-- with the values that were given
abbrev pub rest_of : Values → Option RawTerm → Option Rest
rest_of vs o = option_map (λ (w : RawTerm). record { pattern = w; given = vs }) o

-- the place behind, of the arguments of a term
abbrev pub places_of : Signature → RawTerm → Place → List Place
places_of sig (numeral n) q = []
places_of sig (quoted s) q = []
places_of sig (variable x) q = []
places_of sig (apply f ts) q = places_behind (is_comm sig f) (number_of_terms ts) q

-- where a place begins
abbrev pub from_of : Place → ℕ
from_of Whole = 0
from_of (End i) = i
from_of (Left i) = i

-- the matches of a search
abbrev pub Searched : Type 0
Searched = Place × List Values

module _ (p : Parts) where
  -- what a match at a place stands for
  abbrev pub entries_at : Place → Values → List Entry
  entries_at Whole us = whole_entry us ∷ []
  entries_at (End i) us = end_entry p.context.now.signature (top_of p.subject) (args_of p.subject) i us ∷ []
  entries_at (Left i) us = cond (nat_eq (length us) (suc (length p.compiled.now.variables))) (left_match p.context.now.signature p.subject i us) []

  abbrev pub pattern_at : Rest → Place → RawTerm
  pattern_at r Whole = p.compiled.now.pattern
  pattern_at r (End i) = p.compiled.now.pattern
  pattern_at r (Left i) = r.pattern

  -- all matches at a place
  abbrev pub matches_at : Rest → Place → List Values
  matches_at r q = found p.context.now.signature p.compiled.now.positions.single.items (pattern_at r q) (arguments_from (from_of q) p.subject) r.given

  abbrev pub searches_at : Option Rest → List Place → List Searched
  searches_at None places = []
  searches_at (Some r) places = map (λ q. (q, matches_at r q)) places

  -- the searches that come behind a place
  abbrev pub searches_behind : Place → List Searched
  searches_behind q = searches_at p.rest (places_of p.context.now.signature p.subject q)

  abbrev pub entries_of : List Searched → List Entry
  entries_of ss = flat_map (λ s. flat_map (entries_at s.0) s.1) ss

  -- the searches behind a place with this rest
  abbrev pub behind_with : Rest → Place → List Searched
  behind_with r q = searches_at (Some r) (places_of p.context.now.signature p.subject q)

  -- how many arguments of a pattern at the front are rigid under the operator on top
  abbrev pub rigid_in : RawTerm → ℕ
  rigid_in q = leading p.context.now.signature (is_single p.compiled.now.positions.single.items) (top_of q) (args_of q)

  -- a pattern meets the arguments from each index on as the elements of a row
  abbrev pub MeetsRows : RawTerm → Type 0
  MeetsRows q = (i : ℕ) → i < number_of_terms (args_of p.subject) → (vs : Values) → found p.context.now.signature p.compiled.now.positions.single.items q (arguments_from i p.subject) vs
      ≡ found_row p.context.now.signature p.compiled.now.positions.single.items (top_of q) (args_of q) (skip i (args_of p.subject)) vs

  -- its arguments, of which the first are rigid
  abbrev pub HasFront : RawTerm → Front → Type 0
  HasFront q c = (terms_of c.patterns.now ≡ args_of q) × (c.rigid ≡ rigid_in q) × MeetsRows q

  -- a search that begins with a pattern, for the arguments from i on, and one at a place
  abbrev pub from_index : RawTerm → ℕ → Values → Matches
  from_index q i vs = record {
    signature = p.context.now.signature;
    sorts = p.compiled.now.positions.sorts;
    given = length vs;
    coming = found p.context.now.signature p.compiled.now.positions.single.items q (arguments_from i p.subject) vs;
  }

  abbrev pub begins : Rest → Place → Matches
  begins r q = from_index (pattern_at r q) (from_of q) r.given
