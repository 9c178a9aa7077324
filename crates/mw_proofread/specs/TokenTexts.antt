-- The tokens of proof texts. docs/FORMATS.md, "Proof texts", has the format in words; specs/Texts of mw_prooftext has its bytes.
use Rattle.std.specs.Prelude.{ℕ, List, [], ◌∷◌, ◌++◌, map, Bool, cond, Option, Some, None, codes}
use Rattle.mw_lex.specs.declared.token.Token.{Token}
use Rattle.mw_logic.specs.Term.{RawTerm}
use Rattle.mw_logic.specs.Signature.{Signature}
use Rattle.mw_print.specs.Tokens.{texts}
use Rattle.mw_print.specs.Prefix.{prefixed}
use Rattle.mw_items.specs.Items.{Spot, Item, step, built, Items, none, more, Groups, end, group}
use Rattle.mw_proofread.specs.Numbers.{number_text}

-- the texts of tokens
abbrev pub token_texts : List Token → List (List ℕ)
token_texts = map (λ (t : Token). t.text)

abbrev pub numbers_tokens : List ℕ → List (List ℕ)
numbers_tokens = map number_text

abbrev pub take_tokens : Option (List ℕ) → List (List ℕ)
take_tokens None = []
take_tokens (Some ns) = codes "take" ∷ numbers_tokens ns

abbrev pub spot_tokens : Spot → List (List ℕ)
spot_tokens s = codes "at" ∷ (numbers_tokens s.path ++ take_tokens s.take)

abbrev pub built_tokens : Spot → List (List ℕ)
built_tokens s = codes "step" ∷ codes "built" ∷ spot_tokens s

-- the word before groups, where there are any
abbrev pub where_word : Groups → List (List ℕ)
where_word end = []
where_word (group g gs) = codes "where" ∷ []

module _ (sig : Signature) where
  abbrev pub form_tokens : RawTerm → List (List ℕ)
  form_tokens t = texts (prefixed sig t)

  -- each in brackets
  abbrev pub values_tokens : List RawTerm → List (List ℕ)
  values_tokens [] = []
  values_tokens (t ∷ ts) = codes "[" ∷ (form_tokens t ++ (codes "]" ∷ values_tokens ts))

  -- without a word where there are none
  abbrev pub with_tokens : List RawTerm → List (List ℕ)
  with_tokens [] = []
  with_tokens (t ∷ ts) = codes "with" ∷ values_tokens (t ∷ ts)

  abbrev pub step_tokens : Bool → ℕ → Spot → List RawTerm → List (List ℕ)
  step_tokens owise k s vs = cond owise (codes "owise") (codes "step") ∷ number_text k ∷ (spot_tokens s ++ with_tokens vs)

  -- the groups of a step stand in braces, their items in them
  abbrev mutual
    pub item_tokens : Item → List (List ℕ)
    item_tokens (step owise k s vs gs) = step_tokens owise k s vs ++ (where_word gs ++ groups_tokens gs)
    item_tokens (built s) = built_tokens s

    pub groups_tokens : Groups → List (List ℕ)
    groups_tokens end = []
    groups_tokens (group g gs) = codes "{" ∷ (items_tokens g ++ (codes "}" ∷ groups_tokens gs))

    pub items_tokens : Items → List (List ℕ)
    items_tokens none = []
    items_tokens (more i is) = item_tokens i ++ items_tokens is

  abbrev pub head_tokens : ℕ → List ℕ → RawTerm → List (List ℕ)
  head_tokens version name from = codes "proof" ∷ number_text version ∷ codes "in" ∷ name ∷ codes "from" ∷ form_tokens from

  abbrev pub end_tokens : RawTerm → List (List ℕ)
  end_tokens to = codes "to" ∷ form_tokens to

  -- the text of a proof in the module of this name, without the word that ends it
  abbrev pub text_tokens : ℕ → List ℕ → RawTerm → Items → RawTerm → List (List ℕ)
  text_tokens version name from items to = head_tokens version name from ++ (items_tokens items ++ end_tokens to)
