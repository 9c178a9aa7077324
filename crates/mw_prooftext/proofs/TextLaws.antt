-- One more item of a text, and one more group.
use Rattle.std.specs.Prelude.{◌≡◌, [], ◌∷◌, ◌++◌, Bool, true, false, cond, codes, refl}
use Rattle.std.proofs.Common.{ap, sym, ◌∙◌, append_assoc, append-nil}
use Rattle.mw_logic.specs.Signature.{Signature}
use Rattle.mw_items.specs.Items.{Item, Items, none, more, Groups, end, group, with_item, with_group}
use Rattle.mw_prooftext.specs.Texts.{line, item_text, where_word, groups_text, items_text, lines_text}
use Rattle.mw_prooftext.specs.Told.{told_items, item_start, word_before, braced}

module _ (sig : Signature) where
  pub items-with : (is : Items) (i : Item) → items_text sig (with_item is i) ≡ items_text sig is ++ (32 ∷ item_text sig i)
  items-with none i = ap (λ x. 32 ∷ x) (append-nil (item_text sig i))
  items-with (more j is) i = ap (λ x. 32 ∷ (item_text sig j ++ x)) (items-with is i) ∙ ap (λ x. 32 ∷ x) (sym (append_assoc (item_text sig j) (items_text sig is) (32 ∷ item_text sig i)))

  pub lines-with : (is : Items) (i : Item) → lines_text sig (with_item is i) ≡ lines_text sig is ++ line (item_text sig i)
  lines-with none i = append-nil (line (item_text sig i))
  lines-with (more j is) i = ap (λ x. line (item_text sig j) ++ x) (lines-with is i) ∙ sym (append_assoc (line (item_text sig j)) (lines_text sig is) (line (item_text sig i)))

  pub groups-with : (gs : Groups) (g : Items) → groups_text sig (with_group gs g) ≡ groups_text sig gs ++ braced (items_text sig g)
  groups-with end g = ap (λ x. codes " {" ++ (items_text sig g ++ x)) (append-nil (codes " }"))
  groups-with (group h gs) g =
      ap (λ x. codes " {" ++ (items_text sig h ++ (codes " }" ++ x))) (groups-with gs g)
      ∙ ap (λ x. codes " {" ++ x) (sym (append_assoc (items_text sig h) (codes " }" ++ groups_text sig gs) (braced (items_text sig g))))

  -- the word stands before groups, where there are any
  pub word_is : (gs : Groups) → word_before (groups_text sig gs) ≡ where_word gs
  word_is end = refl
  word_is (group g gs) = refl

  -- an item in its place
  pub told-with : (outer : Bool) (is : Items) (i : Item) → told_items sig outer (with_item is i) ≡ told_items sig outer is ++ (item_start outer ++ (item_text sig i ++ cond outer (10 ∷ []) []))
  told-with true is i = lines-with is i
  told-with false is i = items-with is i ∙ ap (λ x. items_text sig is ++ (32 ∷ x)) (sym (append-nil (item_text sig i)))
