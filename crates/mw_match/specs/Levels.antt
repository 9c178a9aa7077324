-- Levels of choices: the arguments of a pattern that stand on a term's arguments, and what is still to come of them.
use Rattle.std.specs.Prelude.{◌≡◌, ◌<◌, ◌≤◌, ℕ, suc, List, [], ◌∷◌, ◌++◌, map, flat_map, length, ◌⊎◌, Bool, true, false, ◌||◌, nat_eq, Option, Some, None, option_map, option_to_list, MatchOption, ⊤}
use Rattle.mw_logic.specs.Term.{RawTerm, RawTerms, nil, cons, apply}
use Rattle.mw_logic.specs.Kinds.{is_successor}
use Rattle.mw_logic.specs.NormalForm.{is_comm}
use Rattle.mw_logic.specs.Terms.{args_of, skip}
use Rattle.mw_logic.specs.Parts.{is_assoc, number_of_terms}
use Rattle.mw_logic.specs.Signature.{Signature}
use Rattle.mw_matching.specs.Found.{Values, found}
use Rattle.mw_matching.specs.Multisets.{term_at}
use Rattle.mw_solving.specs.Inside.{Entry}
use Rattle.mw_search.specs.Clashes.{Clash}
use Rattle.mw_search.specs.Lacking.{Each, HaveTheirSorts, OneLacksItsSort}
use Rattle.mw_match.specs.declared.levels.Level.{Level}
use Rattle.mw_match.specs.declared.levels.Levels.{Levels}
use Rattle.mw_match.specs.declared.solutions.Solution.{Solution}
use Rattle.mw_match.specs.Solutions.{Coming, candidate}
use Rattle.mw_position.specs.Variables.{sorts_of}
use Rattle.mw_match.specs.Choices.{is_again, free, firsts, put, part_entry}

-- a level stands on this index
abbrev pub is_on : ℕ → List Level → Bool
is_on i [] = false
is_on i (l ∷ ls) = nat_eq l.at i || is_on i ls

-- the numbers of what levels stand on, among others
abbrev pub taken_by : List ℕ → List Level → List ℕ
taken_by ks [] = ks
taken_by ks (l ∷ ls) = taken_by (put (suc l.at) ks) ls

-- the choices from an index on, behind the one of another index
abbrev pub choices_from : RawTerms → List ℕ → Option ℕ → ℕ → List (ℕ × RawTerm)
choices_from args ks before i = firsts (option_map (λ b. term_at b args) before) (free (suc i) ks (skip i args))

-- and where that is the first
abbrev pub choices_at : RawTerms → List ℕ → Option ℕ → List (ℕ × RawTerm)
choices_at args ks None = []
choices_at args ks (Some i) = (suc i, term_at i args) ∷ choices_from args ks (Some i) (suc i)

-- a pattern clashes with the term of a choice
abbrev pub ClashesAt : Signature → Values → RawTerm → ℕ × RawTerm → Type 0
ClashesAt sig vs q z = Clash sig vs q z.1

-- a pattern has no match there, or the one before stands there again
abbrev pub IsPassedBy : Signature → RawTerms → Values → RawTerm → ℕ → Option ℕ → Type 0
IsPassedBy sig args vs q i before = Clash sig vs q (term_at i args) ⊎ (is_again (option_map (λ b. term_at b args) before) (term_at i args) ≡ true)

-- an operator without axioms on top of a pattern
pub record IsPlainTop (sig : Signature) (q : RawTerm) (f : ℕ) : Type 0 where
  pub args : RawTerms
  pub is : q ≡ apply f args
  pub assoc : is_assoc sig f ≡ false
  pub comm : is_comm sig f ≡ false
  pub successor : is_successor sig f ≡ false

-- what is picked, with a mark for each step
abbrev pub Trace : Type 0
Trace = List (Option (List ℕ × Values))

abbrev pub entries_in : Trace → List Entry
entries_in trace = map part_entry (flat_map option_to_list trace)

abbrev pub picks_in : Trace → List (List ℕ × Values)
picks_in ms = flat_map option_to_list ms

-- the same is picked in fewer steps
pub record Shortens (old new : Trace) : Type 0 where
  pub same : picks_in old ≡ picks_in new
  pub fewer : length new < length old

module _ (sig : Signature) (single : List (List ℕ)) (args : RawTerms) where
  abbrev pub trace : RawTerms → List ℕ → Values → Trace
  trace nil ks vs = Some (ks, vs) ∷ []
  trace (cons q qs) ks vs = None ∷ flat_map (λ (z : ℕ × RawTerm). None ∷ flat_map (λ us. trace qs (put z.0 ks) us) (found sig single q z.1 vs)) (firsts None (free 1 ks args)) ++ None ∷ []

  -- a pattern on these choices
  abbrev pub tries : RawTerm → RawTerms → List ℕ → Values → List (ℕ × RawTerm) → Trace
  tries q qs ks vs zs = flat_map (λ (z : ℕ × RawTerm). None ∷ flat_map (λ us. trace qs (put z.0 ks) us) (found sig single q z.1 vs)) zs

  -- a level's other matches, and its other choices
  abbrev pub behind : RawTerm → RawTerms → List ℕ → Level → Trace
  behind q qs ks l = flat_map (λ us. trace qs (put (suc l.at) ks) us) l.search.coming ++ (tries q qs ks l.given (choices_from args ks (Some l.at) (suc l.at)) ++ None ∷ [])

  -- what goes on from the match at hand, and behind it that of the levels from the last to the first
  abbrev pub come : RawTerms → List ℕ → List Level → Option Values → Trace
  come qs ks [] o = flat_map (λ us. trace qs ks us) (option_to_list o)
  come nil ks (l ∷ ls) o = []
  come (cons q qs) ks (l ∷ ls) o = come qs (put (suc l.at) ks) ls o ++ behind q qs ks l

  -- what a level has, if there is one
  abbrev pub behind_found : RawTerm → RawTerms → List ℕ → Option Level → Trace
  behind_found q qs ks None = []
  behind_found q qs ks (Some l) = behind q qs ks l

abbrev pub still_to_come : Levels → Trace
still_to_come s = come s.context.now.signature s.compiled.now.positions.single.items (args_of s.subject) (args_of s.compiled.now.pattern) [] s.stack.items s.found

-- Levels as they are kept: each goes on from values that have their sorts, and so do its matches, on one of so many elements.
pub record IsOn (sig : Signature) (sorts : List ℕ) (given number : ℕ) (l : Level) : Type 0 where
  pub signature : l.search.signature ≡ sig
  pub positions : l.search.sorts ≡ sorts
  pub size : l.search.given ≡ length l.given
  pub more : given ≤ length l.given
  pub sorted : HaveTheirSorts sig sorts given l.given
  pub each : Each (λ us. (ws : Values) × (us ≡ l.given ++ ws)) l.search.coming
  pub within : l.at < number

-- values that may go on: those that were given are among them, and the others have their sorts
abbrev pub GoOnFrom : Signature → List ℕ → ℕ → Values → Type 0
GoOnFrom sig sorts given us = (given ≤ length us) × HaveTheirSorts sig sorts given us

pub record AreKept (s : Levels) : Type 0 where
  pub sorts : s.compiled.now.positions.sorts ≡ sorts_of s.compiled.now.variables
  pub levels : Each (IsOn s.context.now.signature s.compiled.now.positions.sorts s.given (number_of_terms (args_of s.subject))) s.stack.items
  pub found : MatchOption s.found ⊤ (GoOnFrom s.context.now.signature s.compiled.now.positions.sorts s.given)
  pub depth : length s.stack.items ≤ number_of_terms (args_of s.compiled.now.pattern)

-- the last level has no match left
abbrev pub IsEnded : Levels → Type 0
IsEnded s = (below : List Level) (l : Level) → s.stack.items ≡ below ++ l ∷ [] → l.search.coming ≡ []

-- a new value of what is picked lacks its sort
abbrev pub Misses : Levels → List ℕ × Values → Type 0
Misses s c = OneLacksItsSort s.context.now.signature s.compiled.now.positions.sorts s.given c.1

-- what contracts see of them
abbrev pub coming_in : Levels → Coming
coming_in s = record {
  signature = s.context.now.signature;
  sorts = s.compiled.now.positions.sorts;
  given = s.given;
  candidates = map (candidate s.compiled.now.variables) (entries_in (still_to_come s));
}

-- the match at hand is handed out, with the numbers of what all levels take
abbrev pub IsHandedOut : Levels → Levels → Option Solution → Type 0
IsHandedOut old new o =
    MatchOption old.found (o ≡ None)
    (λ us. (o ≡ Some (candidate old.compiled.now.variables (part_entry (taken_by [] old.stack.items, us)))) × (picks_in (still_to_come old) ≡ (taken_by [] old.stack.items, us) ∷ picks_in (still_to_come new)))
