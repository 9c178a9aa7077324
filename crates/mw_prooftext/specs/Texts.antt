-- Proof texts, byte by byte. docs/FORMATS.md, "Proof texts", has the format in words.
use Rattle.std.specs.Prelude.{ℕ, List, [], ◌∷◌, ◌++◌, Bool, cond, nat_eq, Option, Some, None, codes}
use Rattle.std.specs.Fmt.{decimal}
use Rattle.mw_logic.specs.Term.{RawTerm}
use Rattle.mw_logic.specs.Signature.{Signature}
use Rattle.mw_print.specs.Prefix.{prefix_text}
use Rattle.mw_items.specs.Items.{Spot, Item, step, built, Items, none, more, Groups, end, group}

abbrev pub line : List ℕ → List ℕ
line text = text ++ 10 ∷ []

-- numbers, each behind a space
abbrev pub numbers_text : List ℕ → List ℕ
numbers_text [] = []
numbers_text (n ∷ ns) = 32 ∷ (decimal n ++ numbers_text ns)

abbrev pub take_text : Option (List ℕ) → List ℕ
take_text None = []
take_text (Some ns) = codes " take" ++ numbers_text ns

abbrev pub spot_text : Spot → List ℕ
spot_text s = codes " at" ++ (numbers_text s.path ++ take_text s.take)

-- A form stands in brackets; where its last token ends in a backquote, a space stands before the second one.
abbrev pub closing : List ℕ → List ℕ
closing [] = codes "]"
closing (b ∷ []) = cond (nat_eq b 96) (codes " ]") (codes "]")
closing (b ∷ c ∷ bs) = closing (c ∷ bs)

abbrev pub boxed : List ℕ → List ℕ
boxed form = codes " [" ++ (form ++ closing form)

abbrev pub built_text : Spot → List ℕ
built_text s = codes "step built" ++ spot_text s

-- the word before groups, where there are any
abbrev pub where_word : Groups → List ℕ
where_word end = []
where_word (group g gs) = codes " where"

module _ (sig : Signature) where
  abbrev pub value_text : RawTerm → List ℕ
  value_text t = boxed (prefix_text sig t)

  abbrev pub values_text : List RawTerm → List ℕ
  values_text [] = []
  values_text (t ∷ ts) = value_text t ++ values_text ts

  -- without a word where there are none
  abbrev pub with_text : List RawTerm → List ℕ
  with_text [] = []
  with_text (t ∷ ts) = codes " with" ++ values_text (t ∷ ts)

  abbrev pub step_text : Bool → ℕ → Spot → List RawTerm → List ℕ
  step_text owise k s vs = cond owise (codes "owise ") (codes "step ") ++ (decimal k ++ (spot_text s ++ with_text vs))

  -- an item on one line; the groups of a step stand in braces, their items in them each behind a space
  abbrev mutual
    pub item_text : Item → List ℕ
    item_text (step owise k s vs gs) = step_text owise k s vs ++ (where_word gs ++ groups_text gs)
    item_text (built s) = built_text s

    pub groups_text : Groups → List ℕ
    groups_text end = []
    groups_text (group g gs) = codes " {" ++ (items_text g ++ (codes " }" ++ groups_text gs))

    pub items_text : Items → List ℕ
    items_text none = []
    items_text (more i is) = 32 ∷ (item_text i ++ items_text is)

  -- each on a line
  abbrev pub lines_text : Items → List ℕ
  lines_text none = []
  lines_text (more i is) = line (item_text i) ++ lines_text is

  abbrev pub head_text : ℕ → List ℕ → RawTerm → List ℕ
  head_text version name from = line (codes "proof " ++ (decimal version ++ (codes " in " ++ name))) ++ line (codes "from " ++ prefix_text sig from)

  abbrev pub end_text : RawTerm → List ℕ
  end_text to = line (codes "to " ++ prefix_text sig to) ++ line (codes "endproof")

  -- the text of a proof in the module of this name
  abbrev pub text_of : ℕ → List ℕ → RawTerm → Items → RawTerm → List ℕ
  text_of version name from items to = head_text version name from ++ (lines_text items ++ end_text to)
