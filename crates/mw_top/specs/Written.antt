-- How proof texts are answered that were written of kept proofs.
use Rattle.std.specs.Prelude.{◌≡◌, ◌⊎◌, ◌<◌, ◌^◌, ℕ, false, List, length, All, Some, ⊤}
use Rattle.mw_lex.specs.declared.token.Token.{Token}
use Rattle.mw_lex.specs.Texts.{IsProper, IsTokenText}
use Rattle.mw_logic.specs.Term.{RawTerm}
use Rattle.mw_logic.specs.NormalForm.{normal_form}
use Rattle.mw_module.specs.Words.{texts}
use Rattle.mw_build.specs.Modules.{Accepted}
use Rattle.mw_build.specs.Printing.{IsOfTexts}
use Rattle.mw_proof.specs.Deductions.{Deduction, IsDeduction}
use Rattle.mw_prooftext.specs.Denoting.{IsTextOf}
use Rattle.mw_proofread.specs.TokenTexts.{text_tokens}
use Rattle.mw_proofread.specs.Kept.{ReadsAsText}
use Rattle.mw_verdict.specs.Exclusion.{HasOneRow}
use Rattle.mw_verdict.specs.Rows.{AreSymmetric}
use Rattle.mw_verdict.specs.Written.{AreFree}
use Rattle.mw_check.specs.declared.answer.Cause.TheVariants as cause
use Rattle.mw_check.specs.declared.checking.Verdict.{Verdict}
use Rattle.mw_check.specs.declared.checking.Verdict.TheVariants.{Yes, No}
use Rattle.mw_top.specs.Commands.{IsTerm, module_named}
use Rattle.mw_top.specs.Proofs.{IsProofAnswer, is_no}

-- A module that a unit of these texts is: what computes of two numbers is commutative only where they may change places. So rows make one term of a part, for
-- each truth value is one constant.
abbrev pub RowsOfAccepted : Type 0
RowsOfAccepted = (sources : List (List ℕ)) (a : Accepted) → IsOfTexts sources a → AreSymmetric a.module.signature → HasOneRow a.module

-- Yes; or no, because a condition isn't shown, or a test of normality stopped.
abbrev pub IsUncertainAtMost : Verdict → Type 0
IsUncertainAtMost (Yes from to count) = ⊤
IsUncertainAtMost (No step why) = (why ≡ cause.Condition) ⊎ (why ≡ cause.Stopped)

-- A deduction in this module, of rank 63, from the canonical form of the term that these words spell; and its proof text. The block of a reduction or rewriting
-- has such a one behind it, where proofs are asked for (`IsDeduced`).
pub record IsKeptText (a : Accepted) (words : List (List ℕ)) (d : Deduction) (text : List ℕ) : Type 0 where
  pub deduction : IsDeduction d
  pub over : d.over ≡ a.module
  pub rank : d.rank ≡ 63
  pub written : RawTerm
  pub term : IsTerm a words written
  pub begins : d.from ≡ normal_form a.module.signature written
  pub text_is : IsTextOf d 1 a.name text

-- The text is cut into the tokens of its items, and the word that ends it; and they are answered so, by whichever limit, where this is the module of its name:
-- by yes where no item has evidence, and none is a test of terms that differ.
pub record IsAnsweredFairly (a : Accepted) (d : Deduction) (text : List ℕ) : Type 0 where
  pub read : ReadsAsText d a.name text
  pub answered : (ms : List Accepted) (max : ℕ) (tokens : List Token) (v : Verdict) → module_named ms a.name ≡ Some a
      → texts tokens ≡ text_tokens a.module.signature 1 a.name d.from read.items d.to → IsProofAnswer ms max tokens v → IsUncertainAtMost v
  pub yes : (ms : List Accepted) (max : ℕ) (tokens : List Token) (v : Verdict) → module_named ms a.name ≡ Some a
      → texts tokens ≡ text_tokens a.module.signature 1 a.name d.from read.items d.to → AreFree a.module read.items d.from → IsProofAnswer ms max tokens v
      → is_no v ≡ false

-- So is the proof text of a deduction that is kept, in a module of these texts whose name is one token, which has fewer than 2^128 operators, and whose
-- commutative operators on numbers are symmetric.
abbrev pub WrittenAnswered : Type 0
WrittenAnswered =
    (sources : List (List ℕ)) (a : Accepted) → IsOfTexts sources a → IsProper a.name → length a.module.signature.operators < 2 ^ 128 → AreSymmetric a.module.signature
    → (words : List (List ℕ)) (d : Deduction) (text : List ℕ) → All IsTokenText words → IsKeptText a words d text → IsAnsweredFairly a d text
