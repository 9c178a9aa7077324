-- Parts of a whole text: its head, and what stands behind it.
use Rattle.std.specs.Prelude.{◌≡◌, ◌≤◌, ℕ, suc, List, [], ◌∷◌, ◌++◌, codes}
use Rattle.mw_logic.specs.Term.{RawTerm}
use Rattle.mw_logic.specs.Module.{Module}
use Rattle.mw_items.specs.Items.{Items}
use Rattle.mw_items.specs.Entries.{entries_of}
use Rattle.mw_items.specs.declared.Entry.{Entry}
use Rattle.mw_proofread.specs.Numbers.{number_text}
use Rattle.mw_proofread.specs.TokenTexts.{items_tokens, end_tokens}
use Rattle.mw_proofread.specs.Reading.{IsWritten, HaveForm, most_wheres, entry_items}
use Rattle.mw_proofread.specs.Outside.{HasItem, HasEnd, HasItems}

-- the words in front of `from`
abbrev pub title_tokens : List ℕ → List (List ℕ)
title_tokens name = codes "proof" ∷ number_text 1 ∷ codes "in" ∷ name ∷ []

-- The items and the end, with the entries that come behind those before them.
pub record HasTail (M : Module) (tokens : List (List ℕ)) (to : RawTerm) (old new : List Entry) : Type 0 where
  pub items : Items
  pub is : tokens ≡ items_tokens M.signature items ++ end_tokens M.signature to
  pub have_form : HaveForm M items
  pub nested : most_wheres items ≤ 63
  pub ends : IsWritten M.signature to
  pub entries : new ≡ old ++ entries_of (entry_items items)

-- Behind so many items less one stands neither an end nor another item.
pub record HasStop (M : Module) (tokens : List (List ℕ)) (step : ℕ) : Type 0 where
  pub items : ℕ
  pub rest : List (List ℕ)
  pub is : step ≡ suc items
  pub before : HasItems M items tokens rest
  pub no_end : ¬ HasEnd M rest
  pub no_item : (behind : List (List ℕ)) → ¬ HasItem M rest behind
