-- What is to be met, what becomes of it, and the shares that a choice goes through.
use Rattle.std.specs.Prelude.{◌≡◌, ℕ, ◌+◌, ◌-◌, ◌<◌, min, List, [], ◌∷◌, ◌++◌, length, drop, map, cond, Option, Some, None, option_map}
use Rattle.mw_logic.specs.Term.{RawTerm, RawTerms, Variable, numeral, quoted, variable, apply}
use Rattle.mw_logic.specs.Terms.{args_of, front, skip}
use Rattle.mw_logic.specs.Signature.{Signature, Identity}
use Rattle.mw_logic.specs.Parts.{number_of_terms}
use Rattle.mw_logic.specs.NormalForm.{rebuilt}
use Rattle.mw_term.specs.Signatures.{identity_of as identity_named}
use Rattle.mw_arguments.specs.Bags.{runs, numbers}
use Rattle.mw_matching.specs.Multisets.{term_at, without, news, times, part_of, rest_of}
use Rattle.mw_matching.specs.Found.{Values, first_term, numbers_from, found, found_all, found_row, found_bag}
use Rattle.mw_search.specs.Bags.{are_divided, by_number}
use Rattle.mw_search.specs.Traces.{Trace, somes, ticked, trace, trace_all, trace_row, trace_bag}
use Rattle.mw_search.specs.declared.goals.Goal.{Goal}
use Rattle.mw_search.specs.declared.goals.Goal.TheVariants.{Meet, Args, Row, Bag, Left}
use Rattle.mw_search.specs.declared.goals.Outcome.{Outcome}
use Rattle.mw_search.specs.declared.goals.Outcome.TheVariants.{Fails, Holds, Binds, Becomes, First, Opens}
use Rattle.mw_search.specs.declared.shares.Fronts.{Fronts}
use Rattle.mw_search.specs.declared.shares.Singles.{Singles}
use Rattle.mw_search.specs.declared.shares.Pieces.{Pieces}
use Rattle.mw_search.specs.declared.shares.Orders.{Orders}
use Rattle.mw_search.specs.declared.shares.Shares.{Shares}
use Rattle.mw_search.specs.declared.shares.Shares.TheVariants.{OfRow, OfHeads, OfParts, OfOrders}

-- the operator on top
abbrev pub top_of : RawTerm → ℕ
top_of (numeral n) = 0
top_of (quoted q) = 0
top_of (variable x) = 0
top_of (apply f ts) = f

-- the first, or none
abbrev pub IsNext : {X : Type 0} → Option X → List X → Type 0
IsNext o [] = o ≡ None
IsNext o (x ∷ xs) = o ≡ Some x

-- what the next pattern meets, and the goal behind it
abbrev pub Share : Type 0
Share = RawTerm × Goal

-- the first n of the elements that are left, and the goal behind them
abbrev pub behind_goal : Fronts → ℕ → Goal
behind_goal r n = Row r.pattern r.then r.row (min (r.from + n) (number_of_terms (args_of r.row)))

abbrev pub front_share : Fronts → ℕ → Share
front_share r n = (rebuilt (option_map identity_named r.identity) (top_of r.pattern) (front n (skip r.from (args_of r.row))), behind_goal r n)

-- the element at an index, and the others
abbrev pub head_share : Singles → ℕ → Share
head_share r n = (term_at n (args_of r.bag), Left r.pattern r.then r.bag n)

-- the part of a cut
abbrev pub part_share : Pieces → List ℕ → Share
part_share r c = (
  rebuilt (option_map identity_named r.identity) (top_of r.pattern) (part_of r.parts.elements c),
  Bag r.pattern r.then (apply (top_of r.pattern) (rest_of r.parts.elements c)),
)

-- arguments in one order
abbrev pub order_share : Orders → RawTerm → Share
order_share r l = (first_term (args_of l), Args r.pattern l 1)

-- what is still to come of each
abbrev pub fronts_left : Fronts → List Share
fronts_left r = map (front_share r) (numbers_from r.next (r.end - r.next))

abbrev pub heads_left : Singles → List Share
heads_left r = map (head_share r) (news (args_of r.bag) r.next (number_of_terms (args_of r.bag) - r.next))

abbrev pub parts_left : Pieces → List Share
parts_left r = map (part_share r) r.parts.remaining

abbrev pub orders_left : Orders → List Share
orders_left r = map (order_share r) (drop r.next r.lists.items)

abbrev pub shares_left : Shares → List Share
shares_left (OfRow r) = fronts_left r
shares_left (OfHeads r) = heads_left r
shares_left (OfParts r) = parts_left r
shares_left (OfOrders r) = orders_left r

-- A variable that gets the value of position n is all that is left of a pattern.
pub record IsRepeated (q : RawTerm) (qs : RawTerms) (n : ℕ) : Type 0 where
  pub first : Variable
  pub is : q ≡ variable first
  pub comes : first.sort ≡ n
  pub all : times q qs ≡ number_of_terms qs

-- the variable takes the part of which zs are m equal ones, and the others what it leaves
abbrev pub divided_outcome : Option Identity → RawTerm → RawTerm → ℕ → ℕ → RawTerms → Outcome
divided_outcome e p q i m zs =
    cond (are_divided m (numbers (runs zs)))
    (First q (rebuilt e (top_of p) (part_of zs (by_number m zs))) (Bag p i (apply (top_of p) (rest_of zs (by_number m zs))))) Fails

-- a trace has the matches of another, and fewer steps
pub record IsShorter (new old : Trace) : Type 0 where
  pub matches : somes old ≡ somes new
  pub fewer : length new < length old

module _ (sig : Signature) (single : List (List ℕ)) where
  abbrev pub goal_trace : Goal → Values → (Values → Trace) → Trace
  goal_trace (Meet p t) vs k = trace sig single p t vs k
  goal_trace (Args p t i) vs k = trace_all sig single (skip i (args_of p)) (skip i (args_of t)) vs k
  goal_trace (Row p i r j) vs k = trace_row sig single (top_of p) (skip i (args_of p)) (skip j (args_of r)) vs k
  goal_trace (Bag p i r) vs k = trace_bag sig single (top_of p) (skip i (args_of p)) (args_of r) vs k
  goal_trace (Left p i r n) vs k = trace_bag sig single (top_of p) (skip i (args_of p)) (without n (args_of r)) vs k

  -- the values by which a goal holds
  abbrev pub goal_found : Goal → Values → List Values
  goal_found (Meet p t) vs = found sig single p t vs
  goal_found (Args p t i) vs = found_all sig single (skip i (args_of p)) (skip i (args_of t)) vs
  goal_found (Row p i r j) vs = found_row sig single (top_of p) (skip i (args_of p)) (skip j (args_of r)) vs
  goal_found (Bag p i r) vs = found_bag sig single (top_of p) (skip i (args_of p)) (args_of r) vs
  goal_found (Left p i r n) vs = found_bag sig single (top_of p) (skip i (args_of p)) (without n (args_of r)) vs

  -- the pattern by the share's term, and then the share's goal
  abbrev pub share_trace : RawTerm → Values → (Values → Trace) → Share → Trace
  share_trace q vs k s = trace sig single q s.0 vs (λ us. goal_trace s.1 us k)

  abbrev pub outcome_trace : Outcome → Values → (Values → Trace) → Trace
  outcome_trace Fails vs k = []
  outcome_trace Holds vs k = k vs
  outcome_trace (Binds t) vs k = k (vs ++ t ∷ [])
  outcome_trace (Becomes g) vs k = goal_trace g vs k
  outcome_trace (First q t g) vs k = trace sig single q t vs (λ us. goal_trace g us k)
  outcome_trace (Opens q s) vs k = ticked (share_trace q vs k) (shares_left s)

  -- goals in hand, the last one first
  abbrev pub hand_trace : List Goal → Values → (Values → Trace) → Trace
  hand_trace [] vs k = k vs
  hand_trace (g ∷ gs) vs k = hand_trace gs vs (λ us. goal_trace g us k)

  -- what an outcome is of a goal, step by step
  abbrev pub IsOutcome : Goal → Values → Outcome → Type 0
  IsOutcome g vs o = (k : Values → Trace) → goal_trace g vs k ≡ None ∷ outcome_trace o vs k

  -- or in fewer steps
  abbrev pub Serves : Goal → Values → Outcome → Type 0
  Serves g vs o = (k : Values → Trace) → IsShorter (outcome_trace o vs k) (goal_trace g vs k)

-- the outcome is what is to be done, in any signature
abbrev pub Gives : (Signature → List (List ℕ) → Values → (Values → Trace) → Trace) → Outcome → Type 0
Gives to_do o = (sig : Signature) (single : List (List ℕ)) (vs : Values) (k : Values → Trace) → to_do sig single vs k ≡ outcome_trace sig single o vs k
