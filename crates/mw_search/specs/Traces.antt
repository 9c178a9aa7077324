-- All that an enumeration does: each match, and nothing for each step that it takes besides.
use Rattle.std.specs.Prelude.{ℕ, List, [], ◌∷◌, ◌++◌, cond, Option, Some, None, is_some, unwrap_or, slice_get}
use Rattle.mw_logic.specs.Term.{RawTerm, numeral, quoted, variable, apply, RawTerms, nil, cons}
use Rattle.mw_logic.specs.Terms.{args_of, front, skip}
use Rattle.mw_logic.specs.Signature.{Signature, Identity}
use Rattle.mw_logic.specs.Kinds.{is_successor}
use Rattle.mw_logic.specs.Parts.{is_assoc, number_of_terms}
use Rattle.mw_logic.specs.NormalForm.{is_comm, identity_of, elements, rebuilt}
use Rattle.mw_arguments.specs.Pieces.{is_backed}
use Rattle.mw_arguments.specs.Bags.{same}
use Rattle.mw_arguments.specs.Splits.{orders}
use Rattle.mw_matching.specs.Patterns.{is_rigid}
use Rattle.mw_matching.specs.Multisets.{is_within, left_behind, term_at, without, news, times, part_of, rest_of, parts}
use Rattle.mw_matching.specs.Found.{Values, is_single, fits, has_top, has_before, before, value_of, first_term, are_none, fronts}

abbrev pub Trace : Type 0
Trace = List (Option Values)

-- the matches of a trace
abbrev pub somes : Trace → List Values
somes [] = []
somes (None ∷ os) = somes os
somes (Some vs ∷ os) = vs ∷ somes os

-- one choice after another, with a step before each and one behind all
abbrev pub ticked : {X : Type 0} → (X → Trace) → List X → Trace
ticked F [] = None ∷ []
ticked F (x ∷ xs) = None ∷ (F x ++ ticked F xs)

-- a match at the end
abbrev pub finish : Values → Trace
finish vs = Some vs ∷ []

module _ (sig : Signature) (single : List (List ℕ)) where
  -- a position that has a value, or none yet
  abbrev pub at_position : ℕ → RawTerm → Values → Option RawTerm → (Values → Trace) → Trace
  at_position i t vs (Some u) k = cond (same u t) (k vs) []
  at_position i t vs None k = cond (fits sig single i t) (k (vs ++ t ∷ [])) []

  -- k goes on with the values of each match
  abbrev mutual
    pub trace : RawTerm → RawTerm → Values → (Values → Trace) → Trace
    trace (numeral n) t vs k = None ∷ cond (same (numeral n) t) (k vs) []
    trace (quoted q) t vs k = None ∷ cond (same (quoted q) t) (k vs) []
    trace (variable x) t vs k = None ∷ at_position x.sort t vs (slice_get vs x.sort) k
    trace (apply f qs) t vs k =
        None ∷ cond (is_assoc sig f)
        (cond (is_comm sig f) (trace_bag f qs (elements (identity_of sig f) f t) vs k) (trace_row f qs (elements (identity_of sig f) f t) vs k))
        (cond (is_comm sig f) (cond (has_top f t) (trace_orders qs (orders (args_of t)) vs k) [])
        (cond (is_successor sig f) (cond (has_before f t) (trace_all qs (before t) vs k) []) (cond (has_top f t) (trace_all qs (args_of t) vs k) [])))

    -- arguments by terms, one by one
    pub trace_all : RawTerms → RawTerms → Values → (Values → Trace) → Trace
    trace_all nil nil vs k = None ∷ k vs
    trace_all nil (cons t ts) vs k = None ∷ []
    trace_all (cons q qs) nil vs k = None ∷ []
    trace_all (cons q qs) (cons t ts) vs k = None ∷ trace q t vs (λ us. trace_all qs ts us k)

    -- in each order
    pub trace_orders : RawTerms → List RawTerms → Values → (Values → Trace) → Trace
    trace_orders nil tss vs k = []
    trace_orders (cons q qs) tss vs k = ticked (λ ts. trace q (first_term ts) vs (λ us. trace_all qs (skip 1 ts) us k)) tss

    -- each pattern takes the first of the elements that are left
    pub trace_row : ℕ → RawTerms → RawTerms → Values → (Values → Trace) → Trace
    trace_row f nil nil vs k = None ∷ k vs
    trace_row f nil (cons z zs) vs k = None ∷ []
    trace_row f (cons q qs) zs vs k =
        None ∷ cond (is_rigid sig (is_single single) f q)
        (cond (are_none zs) [] (trace q (first_term zs) vs (λ us. trace_row f qs (skip 1 zs) us k)))
        (cond (are_none qs)
        (cond (is_backed (identity_of sig f) zs) (trace q (rebuilt (identity_of sig f) f zs) vs k) [])
        (ticked (λ n. trace q (rebuilt (identity_of sig f) f (front n zs)) vs (λ us. trace_row f qs (skip n zs) us k)) (fronts (is_some (identity_of sig f)) (number_of_terms zs))))

    -- each pattern takes a share of the multiset
    pub trace_bag : ℕ → RawTerms → RawTerms → Values → (Values → Trace) → Trace
    trace_bag f nil nil vs k = None ∷ k vs
    trace_bag f nil (cons z zs) vs k = None ∷ []
    trace_bag f (cons q qs) zs vs k =
        None ∷ cond (is_some (value_of q vs))
        (cond (is_within (elements (identity_of sig f) f (unwrap_or (value_of q vs) q)) zs) (trace_bag f qs (left_behind (elements (identity_of sig f) f (unwrap_or (value_of q vs) q)) zs) vs k) [])
        (cond (is_rigid sig (is_single single) f q)
        (ticked (λ n. trace q (term_at n zs) vs (λ us. trace_bag f qs (without n zs) us k)) (news zs 0 (number_of_terms zs)))
        (cond (are_none qs)
        (cond (is_backed (identity_of sig f) zs) (trace q (rebuilt (identity_of sig f) f zs) vs k) [])
        (ticked (λ c. trace q (rebuilt (identity_of sig f) f (part_of zs c)) vs (λ us. trace_bag f qs (rest_of zs c) us k)) (parts (is_some (identity_of sig f)) (times q (cons q qs)) zs))))

  -- the arguments one by one, where f is on top
  abbrev pub arguments_trace : ℕ → RawTerms → RawTerm → Values → (Values → Trace) → Trace
  arguments_trace f qs t vs k = cond (has_top f t) (trace_all qs (args_of t) vs k) []

  -- in each order, where f is on top
  abbrev pub swapped_trace : ℕ → RawTerms → RawTerm → Values → (Values → Trace) → Trace
  swapped_trace f qs t vs k = cond (has_top f t) (trace_orders qs (orders (args_of t)) vs k) []

  -- by what stands under `s_`, or by the number before
  abbrev pub before_trace : ℕ → RawTerms → RawTerm → Values → (Values → Trace) → Trace
  before_trace f qs t vs k = cond (has_before f t) (trace_all qs (before t) vs k) []

  -- an operator on patterns, behind its first step
  abbrev pub operator_trace : ℕ → RawTerms → RawTerm → Values → (Values → Trace) → Trace
  operator_trace f qs t vs k =
      cond (is_assoc sig f)
      (cond (is_comm sig f) (trace_bag f qs (elements (identity_of sig f) f t) vs k) (trace_row f qs (elements (identity_of sig f) f t) vs k))
      (cond (is_comm sig f) (swapped_trace f qs t vs k) (cond (is_successor sig f) (before_trace f qs t vs k) (arguments_trace f qs t vs k)))

  -- the last pattern takes all elements
  abbrev pub last_trace : Option Identity → ℕ → RawTerm → RawTerms → Values → (Values → Trace) → Trace
  last_trace e f q zs vs k = cond (is_backed e zs) (trace q (rebuilt e f zs) vs k) []

  -- a rigid pattern takes the first element of a row
  abbrev pub first_trace : ℕ → RawTerm → RawTerms → RawTerms → Values → (Values → Trace) → Trace
  first_trace f q qs zs vs k = cond (are_none zs) [] (trace q (first_term zs) vs (λ us. trace_row f qs (skip 1 zs) us k))

  -- elements are taken out of a multiset
  abbrev pub taken_trace : ℕ → RawTerms → RawTerms → RawTerms → Values → (Values → Trace) → Trace
  taken_trace f ts qs zs vs k = cond (is_within ts zs) (trace_bag f qs (left_behind ts zs) vs k) []

  -- a rigid pattern takes one of the different elements
  abbrev pub heads_trace : ℕ → RawTerm → RawTerms → RawTerms → Values → (Values → Trace) → Trace
  heads_trace f q qs zs vs k = ticked (λ n. trace q (term_at n zs) vs (λ us. trace_bag f qs (without n zs) us k)) (news zs 0 (number_of_terms zs))

  -- a pattern takes a part of which there are m
  abbrev pub parts_trace : Option Identity → ℕ → RawTerm → RawTerms → ℕ → RawTerms → Values → (Values → Trace) → Trace
  parts_trace e f q qs m zs vs k = ticked (λ c. trace q (rebuilt e f (part_of zs c)) vs (λ us. trace_bag f qs (rest_of zs c) us k)) (parts (is_some e) m zs)
