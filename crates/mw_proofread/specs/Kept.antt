-- What is written of a kept deduction is a proof text.
use Rattle.std.specs.Prelude.{◌≡◌, ◌<◌, ◌^◌, ◌++◌, ℕ, List, [], ◌∷◌, length, Some, codes, ⊤}
use Rattle.mw_lex.specs.Texts.{IsProper}
use Rattle.mw_logic.specs.Signature.{at_number}
use Rattle.mw_logic.specs.Parts.{nested}
use Rattle.mw_logic.specs.Module.{Fragment, equal, matches, has_sort, is_true, Statement, Module}
use Rattle.mw_least.specs.Workable.{IsWorkable}
use Rattle.mw_text.specs.Proper.{HasIdentifiers}
use Rattle.mw_print.specs.Laws.{HasTokens}
use Rattle.mw_print.specs.PrefixLaws.{HasWholeSpellings}
use Rattle.mw_proof.specs.Deductions.{Deduction, IsDeduction}
use Rattle.mw_items.specs.Items.{Items}
use Rattle.mw_prooftext.specs.Tells.{Tells}
use Rattle.mw_prooftext.specs.Passing.{Passes}
use Rattle.mw_prooftext.specs.Narrow.{AreNarrowItems}
use Rattle.mw_prooftext.specs.Denoting.{IsTextOf}
use Rattle.mw_proofread.specs.TokenTexts.{text_tokens}
use Rattle.mw_proofread.specs.Reading.{IsText}

-- The quoted identifiers in the terms of a condition are tokens.
abbrev pub HaveFragmentsIdentifiers : List Fragment → Type 0
HaveFragmentsIdentifiers [] = ⊤
HaveFragmentsIdentifiers (equal u v ∷ C) = HasIdentifiers u × HasIdentifiers v × HaveFragmentsIdentifiers C
HaveFragmentsIdentifiers (matches p t ∷ C) = HasIdentifiers p × HasIdentifiers t × HaveFragmentsIdentifiers C
HaveFragmentsIdentifiers (has_sort t S ∷ C) = HasIdentifiers t × HaveFragmentsIdentifiers C
HaveFragmentsIdentifiers (is_true b ∷ C) = HasIdentifiers b × HaveFragmentsIdentifiers C

-- So are those of a statement, and of each statement of a module.
abbrev pub HasStatementIdentifiers : Statement → Type 0
HasStatementIdentifiers st = HasIdentifiers st.left × HasIdentifiers st.right × HaveFragmentsIdentifiers st.fragments

abbrev pub HaveStatementsIdentifiers : Module → Type 0
HaveStatementsIdentifiers M = (k : ℕ) (st : Statement) → at_number M.statements k ≡ Some st → HasStatementIdentifiers st

-- The module's terms can be written: operators have numbers below 2^128 and are spelled as one token, and the quoted identifiers of statements are tokens.
pub record IsWritable (M : Module) : Type 0 where
  pub workable : IsWorkable M
  pub few : length M.signature.operators < 2 ^ 128
  pub whole : HasWholeSpellings M.signature
  pub identifiers : HaveStatementsIdentifiers M

-- The bytes are cut into the tokens of a proof text, and the word that ends it. Its items tell the run of the deduction, from its first term to its last, they
-- pass all tests but those of conditions, and have numbers of 32 bits.
pub record ReadsAsText (d : Deduction) (name text : List ℕ) : Type 0 where
  pub items : Items
  pub cut : HasTokens text (text_tokens d.over.signature 1 name d.from items d.to ++ codes "endproof" ∷ [])
  pub is_text : IsText d.over (text_tokens d.over.signature 1 name d.from items d.to) 1 d.from items d.to
  pub tells : Tells d.over items d.from d.to d.run
  pub passes : Passes d.over d.rank items d.from d.to
  pub narrow : AreNarrowItems items

-- So is what mw_prooftext writes of a deduction that is kept, in a module whose name is one token, from a term whose quoted identifiers are tokens.
abbrev pub WrittenAreTexts : Type 0
WrittenAreTexts =
    (d : Deduction) (name text : List ℕ) → IsWritable d.over → IsProper name → HasIdentifiers (nested d.over.signature d.from) → IsDeduction d → IsTextOf d 1 name text → ReadsAsText d name text
