-- What a proof text is of a kept deduction.
use Rattle.std.specs.Prelude.{◌≡◌, ℕ, List, ◌++◌}
use Rattle.mw_logic.specs.Parts.{nested}
use Rattle.mw_deduction.specs.Runs.{run, Denotes}
use Rattle.mw_proof.specs.Deductions.{Deduction}
use Rattle.mw_items.specs.Items.{Items}
use Rattle.mw_prooftext.specs.Texts.{lines_text, text_of}
use Rattle.mw_prooftext.specs.Tells.{Tells}
use Rattle.mw_prooftext.specs.Passing.{Passes}
use Rattle.mw_prooftext.specs.Narrow.{AreNarrowItems}

-- behind a head stand items that tell its run
pub record HasItems (d : Deduction) (head text : List ℕ) : Type 0 where
  pub items : Items
  pub text_is : text ≡ head ++ lines_text d.over.signature items
  pub tells : Tells d.over items d.from d.to d.run
  pub passes : Passes d.over d.rank items d.from d.to
  pub narrow : AreNarrowItems items

-- The text tells the run of the deduction, from its first term to its last, and its proof carries that run out, modulo the axioms. Its items pass all tests
-- but those of conditions, and their numbers are of 32 bits.
pub record IsTextOf (d : Deduction) (version : ℕ) (name text : List ℕ) : Type 0 where
  pub items : Items
  pub is : text ≡ text_of d.over.signature version name d.from items d.to
  pub tells : Tells d.over items d.from d.to d.run
  pub passes : Passes d.over d.rank items d.from d.to
  pub narrow : AreNarrowItems items
  pub denotes : Denotes d.over.signature (run (nested d.over.signature d.from) (nested d.over.signature d.to) d.run) d.proof
