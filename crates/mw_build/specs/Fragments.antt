-- What the texts of statements are read as: two sides, and the fragments of a condition; and what is wrong with them. (Maude Manual, chapter 4, "Conditional
-- equations and memberships".)
use Rattle.std.specs.Prelude.{◌≡◌, ◌≢◌, ◌<◌, ◌⊎◌, ◌++◌, ℕ, List, [], ◌∷◌, length, codes, Bool, true, false, IsFalse, Option, Some}
use Rattle.mw_lex.specs.declared.token.Token.{Token}
use Rattle.mw_logic.specs.Term.{Variable, RawTerm}
use Rattle.mw_logic.specs.Signature.{Signature, Sorted, sort, kind, IsSortNamed}
use Rattle.mw_logic.specs.Accepted.{number_of_sort}
use Rattle.mw_logic.specs.Module.{Fragment, equal, matches, has_sort, is_true}
use Rattle.mw_module.specs.declared.faults.FaultKind.{FaultKind}
use Rattle.mw_module.specs.declared.faults.FaultKind.TheVariants.{TermTooLong, NoParse, Ambiguous}
use Rattle.mw_module.specs.Conditions.{WrittenFragment, Match, Equal, Other}
use Rattle.mw_module.specs.Words.{texts}
use Rattle.mw_text.specs.Mixfix.{IsSpelled, Reads}
use Rattle.mw_text.specs.Readings.{NoneHas, TwoHave, IsShort, ArePair, ReadsPair}
use Rattle.mw_build.specs.Pairwise.{AreRelated, IsFirstWrong}

-- a colon and a name, alone or in brackets
abbrev pub ending : Bool → List ℕ → List (List ℕ)
ending false name = codes ":" ∷ name ∷ []
ending true name = codes ":" ∷ codes "[" ∷ name ∷ codes "]" ∷ []

-- Behind the text of a term stand a colon and a name, which is no bracket where it stands alone.
pub record Asks (text term : List (List ℕ)) (bracketed : Bool) (name : List ℕ) : Type 0 where
  pub whole : text ≡ term ++ ending bracketed name
  pub alone : IsFalse bracketed → name ≢ codes "]"

-- the sort, or in brackets its kind
abbrev pub asked_for : Bool → ℕ → Sorted
asked_for false S = sort S
asked_for true S = kind S

module _ (sig : Signature) where
  -- The text tests a term for a sort that is there, or for the kind of one. Any other text is a term of Bool's kind, also where it ends in a colon and a name
  -- of no sort.
  pub record IsTest (text term : List (List ℕ)) (S : Sorted) : Type 0 where
    pub bracketed : Bool
    pub name : List ℕ
    pub asks : Asks text term bracketed name
    pub number : ℕ
    pub named : IsSortNamed sig number name
    pub is : S ≡ asked_for bracketed number

  abbrev pub IsNoTest : List (List ℕ) → Type 0
  IsNoTest text = (term : List (List ℕ)) (S : Sorted) → ¬ IsTest text term S

  module _ (variables : List Variable) where
    -- why a text isn't read as a term of the wanted kind, in this order
    pub data TextFault (wanted : Option ℕ) (text : List (List ℕ)) : FaultKind → Type 0 where
      long_text : 1024 < length text → TextFault wanted text TermTooLong
      unread_text : IsShort text → NoneHas (IsSpelled sig variables wanted text) → TextFault wanted text NoParse
      unclear_text : IsShort text → TwoHave (IsSpelled sig variables wanted text) → TextFault wanted text Ambiguous

    -- why two texts aren't read as terms of one kind, in this order
    pub data PairFault (left right : List (List ℕ)) : FaultKind → Type 0 where
      long_pair : (1024 < length left) ⊎ (1024 < length right) → PairFault left right TermTooLong
      unread_pair : IsShort left → IsShort right → NoneHas (ArePair sig variables left right) → PairFault left right NoParse
      unclear_pair : IsShort left → IsShort right → TwoHave (ArePair sig variables left right) → PairFault left right Ambiguous

    -- The fragment is this one: its texts spell two terms of one kind, a term of the kind of the sort that it is tested for, or a term of Bool's kind; and no
    -- others.
    pub data IsFragment : WrittenFragment → Fragment → Type 0 where
      an_equation : (left right : List Token) (u v : RawTerm) → ReadsPair sig variables (texts left) (texts right) (u, v) → IsFragment (Equal left right) (equal u v)
      a_match : (pattern term : List Token) (p t : RawTerm) → ReadsPair sig variables (texts pattern) (texts term) (p, t) → IsFragment (Match pattern term) (matches p t)
      a_test : (ts : List Token) (term : List (List ℕ)) (S : Sorted) (t : RawTerm) → IsTest (texts ts) term S → Reads sig variables (Some (number_of_sort S)) term t
          → IsFragment (Other ts) (has_sort t S)
      a_truth : (ts : List Token) (B : ℕ) (b : RawTerm) → IsNoTest (texts ts) → IsSortNamed sig B (codes "Bool") → Reads sig variables (Some B) (texts ts) b
          → IsFragment (Other ts) (is_true b)

    -- why it is none
    pub data FragmentFault : WrittenFragment → FaultKind → Type 0 where
      bad_equation : (left right : List Token) (cause : FaultKind) → PairFault (texts left) (texts right) cause → FragmentFault (Equal left right) cause
      bad_match : (pattern term : List Token) (cause : FaultKind) → PairFault (texts pattern) (texts term) cause → FragmentFault (Match pattern term) cause
      bad_test : (ts : List Token) (term : List (List ℕ)) (S : Sorted) (cause : FaultKind) → IsTest (texts ts) term S → TextFault (Some (number_of_sort S)) term cause
          → FragmentFault (Other ts) cause
      bad_truth : (ts : List Token) (B : ℕ) (cause : FaultKind) → IsNoTest (texts ts) → IsSortNamed sig B (codes "Bool") → TextFault (Some B) (texts ts) cause
          → FragmentFault (Other ts) cause
      no_truths : (ts : List Token) → IsNoTest (texts ts) → ((B : ℕ) → ¬ IsSortNamed sig B (codes "Bool")) → FragmentFault (Other ts) NoParse

    -- the fragments are these, one for one
    abbrev pub AreFragments : List WrittenFragment → List Fragment → Type 0
    AreFragments ws C = AreRelated IsFragment ws C

    -- the first fragment that is none is at fault
    abbrev pub FirstFragmentFault : List WrittenFragment → FaultKind → Type 0
    FirstFragmentFault ws cause = IsFirstWrong IsFragment (λ w. FragmentFault w cause) ws
