-- What the block of a match claims, and why a pattern and a subject are refused.
use Rattle.std.specs.Prelude.{◌≡◌, ◌<◌, ◌⊎◌, ◌↔◌, ℕ, Bool, true, false, List, [], length, IsTrue, IsFalse, codes}
use Rattle.std.specs.List.{All}
use Rattle.mw_logic.specs.Term.{Variable, RawTerm, is_ground}
use Rattle.mw_logic.specs.Signature.{Signature, IsRawTerm}
use Rattle.mw_logic.specs.Parts.{IsTooDeep, IsTooLarge}
use Rattle.mw_logic.specs.NormalForm.{normal_form}
use Rattle.mw_canon.specs.Canonical.{IsAdmittedTerm}
use Rattle.mw_words.specs.declared.Options.{Options}
use Rattle.mw_text.specs.Readings.{NoneHas, TwoHave, IsShort, ArePair, ReadsPair}
use Rattle.mw_module.specs.declared.faults.FaultKind.{FaultKind}
use Rattle.mw_module.specs.declared.faults.FaultKind.TheVariants.{TermTooLong, NoParse, Ambiguous, OpenTerm, TooDeep, NumberTooLarge}
use Rattle.mw_build.specs.Statements.{FitsIn}
use Rattle.mw_build.specs.Modules.{Accepted}
use Rattle.mw_solving.specs.Values.{IsValue}
use Rattle.mw_match.specs.Listing.{AreListed}
use Rattle.mw_match.specs.declared.solutions.Solution.{Solution}
use Rattle.mw_block.specs.Matches.{match_block}
use Rattle.mw_block.specs.Notes.{noted}
use Rattle.mw_top.specs.declared.matching.Sides.{Sides as CanonicalSides}

-- The one pair of a pattern and a subject of one kind that these words spell. The subject has no variable, and both fit in.
pub record AreMatchSides (a : Accepted) (pattern subject : List (List ℕ)) (p t : RawTerm) : Type 0 where
  pub read : ReadsPair a.module.signature a.variables pattern subject (p, t)
  pub ground : IsTrue (is_ground t)
  pub pattern_fits : FitsIn a.module.signature p
  pub subject_fits : FitsIn a.module.signature t

abbrev pub match_word : Bool → List ℕ
match_word false = codes "match"
match_word true = codes "xmatch"

-- each value that is shown is a canonical term that is admitted, so no other writing of it is
abbrev pub HaveAdmittedValues : Signature → List Solution → Type 0
HaveAdmittedValues sig rs = All (λ (r : Solution). All (λ (b : Variable × RawTerm). IsAdmittedTerm sig b.1) r.subst) rs

-- The text tells the canonical forms of pattern and subject, and solutions of the pattern for the whole of the subject and, `inside`, for its proper parts on
-- top: each once, in order, with its values in their canonical forms, and all of them, or as many as the limit says, which is told.
pub record IsMatched (a : Accepted) (inside : Bool) (options : Options) (p t : RawTerm) (text : List ℕ) : Type 0 where
  pub solutions : List Solution
  pub listed : AreListed a.module.signature inside p (normal_form a.module.signature t) [] options.max solutions
  pub values : HaveAdmittedValues a.module.signature solutions
  pub limited : Bool
  pub reached : IsTrue limited ↔ (length solutions ≡ options.max)
  pub written : text ≡ noted options.proof (match_block (match_word inside) a.module.signature a.name (normal_form a.module.signature p) (normal_form a.module.signature t) solutions limited)

-- The canonical forms of the sides that these words spell, as the engine takes them.
pub record AreCanonicalSides (a : Accepted) (pattern subject : List (List ℕ)) (s : CanonicalSides) : Type 0 where
  pub p : RawTerm
  pub t : RawTerm
  pub are : AreMatchSides a pattern subject p t
  pub raw : IsRawTerm a.module.signature p
  pub pattern_is : s.pattern ≡ normal_form a.module.signature p
  pub subject_is : s.subject ≡ normal_form a.module.signature t
  pub value : IsValue a.module.signature s.subject
  pub admitted : IsAdmittedTerm a.module.signature s.subject

-- what keeps two terms out: that one is too deep, or else a number of one
pub data AreOversized (a : Accepted) (p t : RawTerm) : FaultKind → Type 0 where
  deep : IsTooDeep a.module.signature p ⊎ IsTooDeep a.module.signature t → AreOversized a p t TooDeep
  large : (IsTooDeep a.module.signature p → ⊥) → (IsTooDeep a.module.signature t → ⊥) → IsTooLarge a.module.signature p ⊎ IsTooLarge a.module.signature t
      → AreOversized a p t NumberTooLarge

-- what is wrong with a pattern and a subject, in this order
pub data SidesFault (a : Accepted) (pattern subject : List (List ℕ)) : FaultKind → Type 0 where
  long : (1024 < length pattern) ⊎ (1024 < length subject) → SidesFault a pattern subject TermTooLong
  unread : IsShort pattern → IsShort subject → NoneHas (ArePair a.module.signature a.variables pattern subject) → SidesFault a pattern subject NoParse
  unclear : IsShort pattern → IsShort subject → TwoHave (ArePair a.module.signature a.variables pattern subject) → SidesFault a pattern subject Ambiguous
  opened : (p t : RawTerm) → ReadsPair a.module.signature a.variables pattern subject (p, t) → IsFalse (is_ground t) → SidesFault a pattern subject OpenTerm
  big : (p t : RawTerm) (cause : FaultKind) → ReadsPair a.module.signature a.variables pattern subject (p, t) → IsTrue (is_ground t) → AreOversized a p t cause
      → SidesFault a pattern subject cause
