-- What is answered to a proof text.
use Rattle.std.specs.Prelude.{◌≡◌, ◌∷◌, ℕ, Bool, true, false, List, Some, None, codes}
use Rattle.mw_logic.specs.Term.{RawTerm}
use Rattle.mw_logic.specs.Signature.{Signature}
use Rattle.mw_logic.specs.Module.{Module}
use Rattle.mw_canon.specs.Canonical.{IsAdmittedTerm}
use Rattle.mw_lex.specs.declared.token.Token.{Token}
use Rattle.mw_module.specs.Words.{texts}
use Rattle.mw_build.specs.Modules.{Accepted}
use Rattle.mw_items.specs.Items.{Items}
use Rattle.mw_proofread.specs.Reading.{IsText, entry_items}
use Rattle.mw_proofread.specs.Outside.{IsOutside}
use Rattle.mw_items.specs.declared.ProofText.{ProofText}
use Rattle.mw_check.specs.Chains.{HaveAdmittedValues}
use Rattle.mw_check.specs.Answers.{cause_of}
use Rattle.mw_check.specs.Whole.{IsDeductionOf}
use Rattle.mw_verdict.specs.Verdicts.{IsNo}
use Rattle.mw_check.specs.declared.answer.Cause.TheVariants as cause
use Rattle.mw_check.specs.declared.checking.Verdict.{Verdict}
use Rattle.mw_check.specs.declared.checking.Verdict.TheVariants.{Yes, No}
use Rattle.mw_top.specs.Commands.{module_named}

-- The tokens begin as a proof in a module of this name does.
pub record HasName (tokens : List (List ℕ)) (name : List ℕ) : Type 0 where
  pub version : List ℕ
  pub rest : List (List ℕ)
  pub is : tokens ≡ codes "proof" ∷ version ∷ codes "in" ∷ name ∷ rest

-- the terms of a text are canonical and admitted
pub record HasAdmittedTerms (sig : Signature) (text : ProofText) : Type 0 where
  pub from : IsAdmittedTerm sig text.from
  pub to : IsAdmittedTerm sig text.to
  pub values : HaveAdmittedValues sig text.entries

-- Yes, where the text's items are a deduction from the one term to the other; or no, by its cause, where a number of 2^32 or more stands as 0, which no
-- statement and no argument has.
abbrev pub IsVerdictOn : Module → ℕ → RawTerm → RawTerm → Items → Verdict → Type 0
IsVerdictOn M max from to items (Yes f t count) = (f ≡ from) × (t ≡ to) × IsDeductionOf M from to items count
IsVerdictOn M max from to items (No step why) = IsNo M max from to (entry_items items) step (cause_of why)

-- The verdict on a proof text, where these modules were accepted: it names none; or one that isn't there; or it leaves the form in a part; or it is what checking it
-- in its module tells. A text tells one list of items, from one term to one other (`texts_tell` of mw_proofread).
pub data IsProofAnswer (ms : List Accepted) (max : ℕ) (tokens : List Token) : Verdict → Type 0 where
  nameless : ((name : List ℕ) → ¬ HasName (texts tokens) name) → IsProofAnswer ms max tokens (No 0 cause.Text)
  nowhere : (name : List ℕ) → HasName (texts tokens) name → module_named ms name ≡ None → IsProofAnswer ms max tokens (No 0 cause.Module)
  formless : (name : List ℕ) (a : Accepted) (part : ℕ) → HasName (texts tokens) name → module_named ms name ≡ Some a → IsOutside a.module (texts tokens) part → IsProofAnswer ms max tokens (No part cause.Text)
  checked : (name : List ℕ) (a : Accepted) (from to : RawTerm) (items : Items) (v : Verdict) → HasName (texts tokens) name → module_named ms name ≡ Some a
      → IsText a.module (texts tokens) 1 from items to → IsVerdictOn a.module max from to items v → IsProofAnswer ms max tokens v

-- whether it is a no
abbrev pub is_no : Verdict → Bool
is_no (Yes from to count) = false
is_no (No step why) = true
