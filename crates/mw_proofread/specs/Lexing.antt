-- The bytes of a proof text are cut into its tokens.
use Rattle.std.specs.Prelude.{ℕ, List, [], ◌∷◌, ◌++◌, ◌<◌, ◌^◌, Bool, Option, Some, None, codes, ⊤}
use Rattle.mw_lex.specs.Texts.{IsProper}
use Rattle.mw_logic.specs.Term.{RawTerm}
use Rattle.mw_logic.specs.Signature.{Signature}
use Rattle.mw_print.specs.Laws.{HasTokens}
use Rattle.mw_print.specs.PrefixLaws.{IsTold, HasWholeSpellings}
use Rattle.mw_items.specs.Items.{Spot, Item, step, built, Items, none, more, Groups, end, group}
use Rattle.mw_prooftext.specs.Texts.{text_of}
use Rattle.mw_proofread.specs.TokenTexts.{text_tokens}

-- The numbers are below 2^128, and each term has a form that tells it.
abbrev pub AreSmall : List ℕ → Type 0
AreSmall [] = ⊤
AreSmall (n ∷ ns) = (n < 2 ^ 128) × AreSmall ns

abbrev pub IsSmallTake : Option (List ℕ) → Type 0
IsSmallTake None = ⊤
IsSmallTake (Some ns) = AreSmall ns

abbrev pub IsSmallSpot : Spot → Type 0
IsSmallSpot s = AreSmall s.path × IsSmallTake s.take

abbrev pub AreAllTold : List RawTerm → Type 0
AreAllTold [] = ⊤
AreAllTold (t ∷ ts) = IsTold t × AreAllTold ts

abbrev mutual
  pub IsSmallItem : Item → Type 0
  IsSmallItem (step owise k s vs gs) = (k < 2 ^ 128) × IsSmallSpot s × AreAllTold vs × AreSmallGroups gs
  IsSmallItem (built s) = IsSmallSpot s

  pub AreSmallItems : Items → Type 0
  AreSmallItems none = ⊤
  AreSmallItems (more i is) = IsSmallItem i × AreSmallItems is

  pub AreSmallGroups : Groups → Type 0
  AreSmallGroups end = ⊤
  AreSmallGroups (group g gs) = AreSmallItems g × AreSmallGroups gs

-- What mw_prooftext writes of such items is cut into their tokens, and the word that ends a proof.
abbrev pub TextLexes : Type 0
TextLexes =
    (sig : Signature) (name : List ℕ) (from : RawTerm) (items : Items) (to : RawTerm) → HasWholeSpellings sig → IsProper name → IsTold from → AreSmallItems items → IsTold to
    → HasTokens (text_of sig 1 name from items to) (text_tokens sig 1 name from items to ++ codes "endproof" ∷ [])
