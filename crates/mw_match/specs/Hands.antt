-- A search with a match at hand, and what is still to come of it and behind it.
use Rattle.std.specs.Prelude.{ℕ, suc, ◌+◌, ◌≡◌, ◌≤◌, List, [], ◌∷◌, ◌++◌, map, length, Option, Some, None, MatchOption, ⊤}
use Rattle.mw_position.specs.Variables.{sorts_of}
use Rattle.mw_matching.specs.Found.{Values, found}
use Rattle.mw_search.specs.Searches.{Matches, FitsSorts as FitsBySearch}
use Rattle.mw_match.specs.declared.parts.Place.{Place}
use Rattle.mw_match.specs.declared.parts.Place.TheVariants.{Whole}
use Rattle.mw_match.specs.declared.parts.Rest.{Rest}
use Rattle.mw_match.specs.declared.parts.Parts.{Parts}
use Rattle.mw_match.specs.declared.hand.Hand.{Hand}
use Rattle.mw_match.specs.declared.solutions.Solution.{Solution}
use Rattle.mw_match.specs.Solutions.{Coming, PassesTo, FitsSorts, candidate, matches_of}
use Rattle.mw_match.specs.Parts.{HasOtherNumber, Searched, searches_behind, entries_of, begins}
use Rattle.mw_match.specs.declared.levels.Levels.{Levels}
use Rattle.mw_match.specs.Choices.{picked, part_entry}
use Rattle.mw_match.specs.Levels.{entries_in, still_to_come, AreKept}
use Rattle.mw_logic.specs.Terms.{args_of}
use Rattle.mw_solving.specs.Inside.{Entry}

-- this search has just begun
abbrev pub HasBegun : Parts → Place → Matches → Type 0
HasBegun p q m = (r : Rest) × (p.rest ≡ Some r) × (m ≡ begins p r q)

module _ (p : Parts) (h : Hand) where
  -- the search at hand, and those behind it
  abbrev pub searches_of : List Searched
  searches_of = (h.place, matches_of h.found h.search.coming) ∷ searches_behind p h.place

  abbrev pub coming_of : Coming
  coming_of = record {
    signature = h.search.signature;
    sorts = h.search.sorts;
    given = h.search.given;
    candidates = map (candidate p.compiled.now.variables) (entries_of p searches_of);
  }

  -- What is kept: the search at hand asks for the same as those behind it, and the match at hand has its sorts.
  pub record IsKept : Type 0 where
    pub signature : h.search.signature ≡ p.context.now.signature
    pub positions : h.search.sorts ≡ p.compiled.now.positions.sorts
    pub sorts : h.search.sorts ≡ sorts_of p.compiled.now.variables
    pub given : (r : Rest) → p.rest ≡ Some r → h.search.given ≡ length r.given
    pub sorted : MatchOption h.found ⊤ (FitsBySearch h.search)

-- what is answered of solutions that come, and what comes behind it
abbrev pub IsNext : Coming → Coming → Option Solution → Type 0
IsNext old new o = MatchOption o (PassesTo old [] × (new.candidates ≡ [])) (λ r. PassesTo old (r ∷ new.candidates) × FitsSorts old r)

-- how many searches and matches are left
abbrev pub steps_of : List Searched → ℕ
steps_of [] = 0
steps_of (s ∷ ss) = suc (length s.1 + steps_of ss)

-- of other searches the same is to come, in no more steps
abbrev pub ComesTo : Parts → List Searched → List Searched → Type 0
ComesTo p ss rs = (entries_of p ss ≡ entries_of p rs) × (steps_of rs ≤ steps_of ss)

-- the whole has no match where it has another number of elements
abbrev pub IsNoneByNumber : Parts → Values → Type 0
IsNoneByNumber p vs =
    HasOtherNumber p.context.now.signature p.compiled.now.positions.single.items p.compiled.now.pattern p.subject
    → found p.context.now.signature p.compiled.now.positions.single.items p.compiled.now.pattern p.subject vs ≡ []

-- the entries with which a search for the whole begins
abbrev pub first_entries : Parts → Values → List Entry
first_entries p vs =
    entries_of p ((Whole, found p.context.now.signature p.compiled.now.positions.single.items p.compiled.now.pattern p.subject vs) ∷ searches_behind p Whole)

-- those that are picked
abbrev pub picked_entries : Parts → Values → List Entry
picked_entries p vs = map part_entry (picked p.context.now.signature p.compiled.now.positions.single.items (args_of p.subject) (args_of p.compiled.now.pattern) [] vs)

-- entries, where so many values were given
abbrev pub coming_with : Parts → ℕ → List Entry → Coming
coming_with p n es = record {
  signature = p.context.now.signature;
  sorts = p.compiled.now.positions.sorts;
  given = n;
  candidates = map (candidate p.compiled.now.variables) es;
}

abbrev pub hand_entries : Parts → Option Hand → List Entry
hand_entries p None = []
hand_entries p (Some h) = entries_of p (searches_of p h)

abbrev pub pick_entries : Option Levels → List Entry
pick_entries None = []
pick_entries (Some s) = entries_in (still_to_come s)

-- what is left of a search and of picks
abbrev pub entries_left : Parts → Option Hand → Option Levels → List Entry
entries_left p o picks = hand_entries p o ++ pick_entries picks

-- a search that may have ended, and picks, where so many values were given
abbrev pub IsHeld : Parts → ℕ → Option Hand → Type 0
IsHeld p n o = MatchOption o ⊤ (λ h. IsKept p h × (h.search.given ≡ n))

pub record ArePicking (p : Parts) (n : ℕ) (s : Levels) : Type 0 where
  pub kept : AreKept s
  pub context : s.context ≡ p.context
  pub compiled : s.compiled ≡ p.compiled
  pub given : s.given ≡ n

abbrev pub AreHeld : Parts → ℕ → Option Hand → Option Levels → Type 0
AreHeld p n o picks = IsHeld p n o × MatchOption picks ⊤ (ArePicking p n)
