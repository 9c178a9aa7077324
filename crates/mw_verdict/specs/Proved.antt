-- What is checked is what the text means, and it is proved.
use Rattle.std.specs.Prelude.{◌≡◌, ℕ}
use Rattle.mw_logic.specs.Term.{RawTerm}
use Rattle.mw_logic.specs.Parts.{nested}
use Rattle.mw_logic.specs.Module.{Module}
use Rattle.mw_logic.specs.Proof.{Proof, rules, count}
use Rattle.mw_logic.specs.Judgements.{Proves}
use Rattle.mw_logic.specs.WellFormed.{IsWellFormed}
use Rattle.mw_canon.specs.Canonical.{IsAdmittedTerm}
use Rattle.mw_deduction.specs.Runs.{Dones, run, Denotes}
use Rattle.mw_items.specs.Items.{Items}
use Rattle.mw_prooftext.specs.Tells.{Tells}
use Rattle.mw_verdict.specs.Checks.{Checks}

-- A proof leads at rank n from the one canonical term to the other, which is admitted, and carries out what was done; and it has so many rules and counts so
-- many replacements.
pub record HasProof (M : Module) (n : ℕ) (t u : RawTerm) (r c : ℕ) (ds : Dones) : Type 0 where
  pub proof : Proof
  pub proves : Proves M n proof (nested M.signature t) (nested M.signature u)
  pub denotes : Denotes M.signature (run (nested M.signature t) (nested M.signature u) ds) proof
  pub rules_are : rules proof ≡ r
  pub count_is : count proof ≡ c
  pub ends : IsAdmittedTerm M.signature u

-- Items that are checked tell what is done.
abbrev pub ChecksTell : Type 0
ChecksTell = (M : Module) (n : ℕ) (items : Items) (t u : RawTerm) (r c : ℕ) (ds : Dones) → Checks M n items t u r c ds → Tells M items t u ds

-- In a well-formed module there is a proof of what is checked.
abbrev pub CheckedProves : Type 0
CheckedProves = (M : Module) → IsWellFormed M → (n : ℕ) (items : Items) (t u : RawTerm) (r c : ℕ) (ds : Dones) → IsAdmittedTerm M.signature t → Checks M n items t u r c ds → HasProof M n t u r c ds
