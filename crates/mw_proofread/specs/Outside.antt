-- Where tokens are no proof text: of what part they leave the form, counted from the head on.
use Rattle.std.specs.Prelude.{◌≡◌, ◌≤◌, ◌||◌, ℕ, zero, suc, List, [], ◌∷◌, ◌++◌, Bool, IsTrue, codes, ⊤}
use Rattle.std.specs.Str.{bytes_eq}
use Rattle.mw_logic.specs.Term.{RawTerm}
use Rattle.mw_logic.specs.Module.{Module}
use Rattle.mw_items.specs.Items.{Item, Items}
use Rattle.mw_proofread.specs.TokenTexts.{head_tokens, item_tokens, end_tokens}
use Rattle.mw_proofread.specs.Reading.{IsWritten, HasForm, wheres, IsText}

-- a word that may come next behind a head or an item, in some version; or the tokens end there, so what is due is missing
abbrev pub is_next : List ℕ → Bool
is_next w = bytes_eq w (codes "step") || bytes_eq w (codes "owise") || bytes_eq w (codes "par") || bytes_eq w (codes "to")

abbrev pub IsFollowed : List (List ℕ) → Type 0
IsFollowed [] = ⊤
IsFollowed (w ∷ ws) = IsTrue (is_next w)

-- The tokens begin with a head, behind which these stand, with such a word.
pub record HasHead (M : Module) (tokens rest : List (List ℕ)) : Type 0 where
  pub name : List ℕ
  pub from : RawTerm
  pub is : tokens ≡ head_tokens M.signature 1 name from ++ rest
  pub written : IsWritten M.signature from
  pub followed : IsFollowed rest

-- They begin with an item of the form.
pub record HasItem (M : Module) (tokens rest : List (List ℕ)) : Type 0 where
  pub item : Item
  pub is : tokens ≡ item_tokens M.signature item ++ rest
  pub has_form : HasForm M item
  pub nested : wheres item ≤ 63
  pub followed : IsFollowed rest

-- They are a whole end.
pub record HasEnd (M : Module) (tokens : List (List ℕ)) : Type 0 where
  pub to : RawTerm
  pub is : tokens ≡ end_tokens M.signature to
  pub written : IsWritten M.signature to

-- They begin with so many items of the form.
abbrev pub HasItems : Module → ℕ → List (List ℕ) → List (List ℕ) → Type 0
HasItems M zero tokens rest = tokens ≡ rest
HasItems M (suc n) tokens rest = (behind : List (List ℕ)) × HasItem M tokens behind × HasItems M n behind rest

-- Behind a head and so many items stands neither an end nor another item.
pub record StopsBehind (M : Module) (n : ℕ) (tokens : List (List ℕ)) : Type 0 where
  pub items : List (List ℕ)
  pub rest : List (List ℕ)
  pub head : HasHead M tokens items
  pub before : HasItems M n items rest
  pub no_end : ¬ HasEnd M rest
  pub no_item : (behind : List (List ℕ)) → ¬ HasItem M rest behind

-- The tokens leave the form in this part: 0 is the head, then come the items, from 1, and the end, one more than the last of them.
abbrev pub IsOutside : Module → List (List ℕ) → ℕ → Type 0
IsOutside M tokens zero = (rest : List (List ℕ)) → ¬ HasHead M tokens rest
IsOutside M tokens (suc n) = StopsBehind M n tokens

-- Tokens that leave it are no text.
abbrev pub OutsideIsNoText : Type 0
OutsideIsNoText = (M : Module) (tokens : List (List ℕ)) (j : ℕ) → IsOutside M tokens j → (version : ℕ) (from : RawTerm) (items : Items) (to : RawTerm) → ¬ IsText M tokens version from items to

-- They leave it in one part alone.
abbrev pub OutsideIsOne : Type 0
OutsideIsOne = (M : Module) (tokens : List (List ℕ)) (i j : ℕ) → IsOutside M tokens i → IsOutside M tokens j → i ≡ j

-- Tokens are the text of one list of items alone, from one term to one other.
abbrev pub TextsTell : Type 0
TextsTell =
    (M : Module) (tokens : List (List ℕ)) (version other : ℕ) (from first : RawTerm) (items others : Items) (to last : RawTerm) → IsText M tokens version from items to
    → IsText M tokens other first others last → (from ≡ first) × (items ≡ others) × (to ≡ last)
