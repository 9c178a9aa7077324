-- What is written for the bytes of a source.
use Rattle.std.specs.Prelude.{◌≡◌, ◌<◌, ◌++◌, ℕ, Bool, true, List, [], length, take, Ok, Err}
use Rattle.std.specs.declared.option.Option.{Option}
use Rattle.std.specs.Io.KnownBytes.{Appends}
use Rattle.mw_words.specs.declared.Options.{Options}
use Rattle.mw_top.specs.Purposes.{takes_proofs}
use Rattle.mw_top.specs.declared.purpose.Purpose.{Purpose}
use Rattle.mw_top.specs.declared.purpose.Purpose.TheVariants.{Run, Check}
use Rattle.mw_lex.specs.declared.token.LexFault.{LexFault}
use Rattle.mw_lex.specs.declared.token.LexKind.{LexKind}
use Rattle.mw_lex.specs.declared.token.LexKind.TheVariants.{BadByte, UnendedComment}
use Rattle.mw_lex.specs.declared.token.Token.{Token}
use Rattle.mw_top.specs.Preludes.{source_tokens}
use Rattle.mw_module.specs.declared.faults.Fault.{Fault}
use Rattle.mw_module.specs.declared.faults.FaultKind.{FaultKind}
use Rattle.mw_module.specs.declared.faults.FaultKind.TheVariants as kind
use Rattle.mw_module.specs.Units.{Outcome, Reads}
use Rattle.mw_top.specs.Sources.{Loaded, Gives, Answered, told_refusal}

abbrev pub lexing_kind : LexKind → FaultKind
lexing_kind BadByte = kind.BadByte
lexing_kind UnendedComment = kind.UnendedComment

-- a source that isn't made of tokens is refused whole
abbrev pub lexing_refusal : LexFault → Fault
lexing_refusal f = record { line = f.line; kind = lexing_kind f.kind }

-- What a sink has got of the texts of units: of all, of the first ones and not all, or of the first ones and a proper prefix of the next one's.
pub record AreDone (purpose : Purpose) (tokens : List Token) (held held_after : Option (List ℕ)) (bad : Bool) : Type 0 where
  pub modules : Loaded
  pub text : List ℕ
  pub answered : Answered purpose tokens (length tokens) modules text bad
  pub written : Appends held held_after text

pub record AreBegun (purpose : Purpose) (tokens : List Token) (held held_after : Option (List ℕ)) : Type 0 where
  pub at : ℕ
  pub undone : at < length tokens
  pub modules : Loaded
  pub text : List ℕ
  pub bad : Bool
  pub answered : Answered purpose tokens at modules text bad
  pub written : Appends held held_after text

pub record AreCut (purpose : Purpose) (tokens : List Token) (held held_after : Option (List ℕ)) : Type 0 where
  pub at : ℕ
  pub modules : Loaded
  pub text : List ℕ
  pub bad : Bool
  pub answered : Answered purpose tokens at modules text bad
  pub outcome : Outcome
  pub next : ℕ
  pub last : List ℕ
  pub refused : Bool
  pub after : Loaded
  pub read : Reads (takes_proofs purpose) tokens at outcome next
  pub gives : Gives purpose modules outcome last refused after
  pub part : ℕ
  pub proper : part < length last
  pub written : Appends held held_after (text ++ take part last)

-- The whole text for a source, and whether something was refused. The modules of the prelude that it needs are read before it, as units like its own; where
-- they are accepted they write nothing.
pub data IsOutput (purpose : Purpose) (bytes : List ℕ) : List ℕ → Bool → Type 0 where
  unlexed : (f : LexFault) → source_tokens bytes ≡ Err f → IsOutput purpose bytes (told_refusal purpose (lexing_refusal f)) true
  answered : (tokens : List Token) (after : Loaded) (text : List ℕ) (bad : Bool) → source_tokens bytes ≡ Ok tokens
      → Answered purpose tokens (length tokens) after text bad → IsOutput purpose bytes text bad

-- Where commands are answered, of the same bytes, by the same options, no two outputs differ in whether something was refused.
abbrev pub AgreeInRefusal : Type 0
AgreeInRefusal = (options : Options) (bytes text other : List ℕ) (bad worse : Bool) → IsOutput (Run options) bytes text bad → IsOutput (Run options) bytes other worse → bad ≡ worse

-- Where proofs are checked, what is written tells whether something was refused or answered no: no two outputs of one text differ in it, whatever their bytes
-- and limits.
abbrev pub AgreeInStatus : Type 0
AgreeInStatus = (max most : ℕ) (bytes others text : List ℕ) (bad worse : Bool) → IsOutput (Check max) bytes text bad → IsOutput (Check most) others text worse → bad ≡ worse

-- the texts of the first units, of which one at least is undone, or nothing
pub data IsBegun (purpose : Purpose) (bytes : List ℕ) : List ℕ → Type 0 where
  nothing : IsBegun purpose bytes []
  units : (tokens : List Token) (at : ℕ) (modules : Loaded) (text : List ℕ) (bad : Bool) → source_tokens bytes ≡ Ok tokens → at < length tokens
      → Answered purpose tokens at modules text bad → IsBegun purpose bytes text

-- the texts of the first units, and a proper prefix of the next one's
pub data IsCut (purpose : Purpose) (bytes : List ℕ) : List ℕ → Type 0 where
  in_refusal : (f : LexFault) (n : ℕ) → source_tokens bytes ≡ Err f → n < length (told_refusal purpose (lexing_refusal f))
      → IsCut purpose bytes (take n (told_refusal purpose (lexing_refusal f)))
  in_unit : (tokens : List Token) (at : ℕ) (before : Loaded) (text : List ℕ) (bad : Bool) → source_tokens bytes ≡ Ok tokens
      → Answered purpose tokens at before text bad → (outcome : Outcome) (next : ℕ) (last : List ℕ) (refused : Bool) (after : Loaded)
      → Reads (takes_proofs purpose) tokens at outcome next → Gives purpose before outcome last refused after → (n : ℕ) → n < length last
      → IsCut purpose bytes (text ++ take n last)
