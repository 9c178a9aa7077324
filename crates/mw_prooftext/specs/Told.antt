-- A text under way: of a proof under way the items that are told of it, and the groups of sides that wait for their statement.
use Rattle.std.specs.Prelude.{◌≡◌, ℕ, suc, List, [], ◌∷◌, ◌++◌, Bool, cond, codes}
use Rattle.mw_logic.specs.Term.{RawTerm}
use Rattle.mw_logic.specs.Signature.{Signature}
use Rattle.mw_logic.specs.Parts.{nested}
use Rattle.mw_logic.specs.Module.{Module}
use Rattle.mw_logic.proofs.Canonical.{IsCanonical}
use Rattle.mw_deduction.specs.Runs.{Dones, Runs, run, another}
use Rattle.mw_deduction.specs.Runs as runs
use Rattle.mw_deduction.specs.Replay.{Stand, whole}
use Rattle.mw_items.specs.Items.{Items, Groups, end, group}
use Rattle.mw_prooftext.specs.Texts.{items_text, lines_text, groups_text}
use Rattle.mw_prooftext.specs.Tells.{Tells}
use Rattle.mw_prooftext.specs.Passing.{Passes}
use Rattle.mw_prooftext.specs.Narrow.{AreNarrowItems, AreNarrowGroups}

-- groups tell these sides, each from some canonical term on, and pass in the rank below
abbrev pub ShowsSides : Module → ℕ → Groups → Runs → Type 0
ShowsSides M n end rs = rs ≡ runs.end
ShowsSides M n (group g gs) rs =
    (t : RawTerm) × (u : RawTerm) × (ds : Dones) × (qs : Runs) × (m : ℕ) × (rs ≡ another (run (nested M.signature t) (nested M.signature u) ds) qs) × (n ≡ suc m) × IsCanonical M.signature t
    × Tells M g t u ds × Passes M m g t u × ShowsSides M n gs qs

-- items as they stand in the text: on lines, or in braces
abbrev pub told_items : Signature → Bool → Items → List ℕ
told_items sig outer is = cond outer (lines_text sig is) (items_text sig is)

-- what stands before an item and behind it, with the groups that waited for it
abbrev pub item_start : Bool → List ℕ
item_start outer = cond outer [] (32 ∷ [])

abbrev pub word_before : List ℕ → List ℕ
word_before [] = []
word_before (b ∷ bs) = codes " where"

abbrev pub item_end : Bool → List ℕ → List ℕ
item_end outer groups = (word_before groups ++ groups) ++ cond outer (10 ∷ []) []

-- a group in braces
abbrev pub braced : List ℕ → List ℕ
braced text = codes " {" ++ (text ++ codes " }")

-- What is written of the proof under way S, which began at a canonical term: behind the head, items that tell its run up to the whole term that it has now; and apart from them the groups.
pub record IsTold (M : Module) (head : List ℕ) (outer : Bool) (text groups : List ℕ) (S : Stand) : Type 0 where
  pub canonical : IsCanonical M.signature S.from
  pub items : Items
  pub text_is : text ≡ head ++ told_items M.signature outer items
  pub tells : Tells M items S.from (whole M.signature S.opens S.hand) S.run
  pub passes : Passes M S.rank items S.from (whole M.signature S.opens S.hand)
  pub narrow : AreNarrowItems items
  pub sides : Groups
  pub groups_are : groups ≡ groups_text M.signature sides
  pub shows : ShowsSides M S.rank sides S.sides
  pub narrow_sides : AreNarrowGroups sides
