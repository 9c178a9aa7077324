-- Parts of a proof text: its lines, and what is still to come where groups are open.
use Rattle.std.specs.Prelude.{◌≡◌, ◌≢◌, ◌≤◌, ◌+◌, ◌||◌, ◌++◌, ◌<◌, ℕ, suc, List, [], ◌∷◌, map, length, nat_lt, Bool, true, false, Option, Some, None, option_map, IsTrue, codes, ⊤}
use Rattle.std.specs.Str.{bytes_eq}
use Rattle.mw_logic.specs.Term.{RawTerm}
use Rattle.mw_logic.specs.Signature.{Signature}
use Rattle.mw_logic.specs.Module.{Module}
use Rattle.mw_items.specs.Items.{Spot, Item, Items, Groups}
use Rattle.mw_redex.specs.declared.replacing.Place.{Place}
use Rattle.mw_items.specs.Entries.{place_of, entries_of, entries_of_item, entries_of_groups}
use Rattle.mw_items.specs.declared.Entry.{Entry}
use Rattle.mw_items.specs.declared.Entry.TheVariants.{Step, Built, Close}
use Rattle.mw_proofread.specs.Numbers.{number_text, entry_number, IsTake}
use Rattle.mw_proofread.specs.TokenTexts.{numbers_tokens, take_tokens, spot_tokens, form_tokens, values_tokens, with_tokens, built_tokens, step_tokens, item_tokens, items_tokens, groups_tokens}
use Rattle.mw_proofread.specs.Reading.{IsWritten, AreWritten, IsCount, values_of, groups_of, number_of_groups, HasForm, HaveForm, GroupsHaveForm, wheres, most_wheres, wheres_in, entry_spot, entry_item, entry_items, entry_groups}
use Rattle.mw_proofread.specs.Outside.{is_next, IsFollowed}
use Rattle.mw_proofread.specs.declared.frame.Frame.{Frame}

-- The token's first byte is a digit or one of ' ( ) , and others below the letters: tokens of forms and numbers are so, and words aren't.
abbrev pub is_low : List ℕ → Bool
is_low [] = false
is_low (b ∷ bs) = nat_lt b 58

abbrev pub AreLow : List (List ℕ) → Type 0
AreLow [] = ⊤
AreLow (w ∷ ws) = (is_low w ≡ true) × AreLow ws

-- the first token isn't low
abbrev pub IsHigh : List (List ℕ) → Type 0
IsHigh [] = ⊤
IsHigh (w ∷ ws) = is_low w ≡ false

-- nor a number
abbrev pub NoNumber : List (List ℕ) → Type 0
NoNumber [] = ⊤
NoNumber (w ∷ ws) = (n : ℕ) → w ≢ number_text n

-- nor this word
abbrev pub NotFirst : List ℕ → List (List ℕ) → Type 0
NotFirst word [] = ⊤
NotFirst word (w ∷ ws) = w ≢ word

-- a word that may stand behind a line, or nothing more
abbrev pub ends_line : List ℕ → Bool
ends_line w = is_next w || bytes_eq w (codes "where") || bytes_eq w (codes "}")

abbrev pub EndsLine : List (List ℕ) → Type 0
EndsLine [] = ⊤
EndsLine (w ∷ ws) = IsTrue (ends_line w)

-- what may stand behind a place: no number, and no `take`
abbrev pub EndsSpot : List (List ℕ) → Type 0
EndsSpot ws = NoNumber ws × NotFirst (codes "take") ws

-- an item without its groups
pub data Line : Type 0 where
  by_statement : ℕ → Spot → List RawTerm → Line
  by_row : Spot → Line

abbrev pub line_tokens : Signature → Line → List (List ℕ)
line_tokens sig (by_statement k s vs) = step_tokens sig false k s vs
line_tokens sig (by_row s) = built_tokens s

abbrev pub IsLine : Module → Line → Type 0
IsLine M (by_statement k s vs) = IsTake s.take × AreWritten M.signature vs × IsCount (values_of M k) (length vs)
IsLine M (by_row s) = IsTake s.take

-- how many groups it wants
abbrev pub wanted_groups : Module → Line → Option ℕ
wanted_groups M (by_statement k s vs) = groups_of M k
wanted_groups M (by_row s) = Some 0

abbrev pub entry_of : Line → Entry
entry_of (by_statement k s vs) = Step (record { owise = false; statement = entry_number k; place = place_of (entry_spot s); values = vs })
entry_of (by_row s) = Built (place_of (entry_spot s))

-- The rest of a group and of those beside it, then these tokens; and their entries. The item that has them stands in so many groups less one.
pub record HasRest (M : Module) (wanted : Option ℕ) (depth : ℕ) (rest behind : List (List ℕ)) (es others : List Entry) : Type 0 where
  pub items : Items
  pub groups : Groups
  pub is : rest ≡ items_tokens M.signature items ++ (codes "}" ∷ (groups_tokens M.signature groups ++ behind))
  pub items_form : HaveForm M items
  pub groups_form : GroupsHaveForm M groups
  pub items_nested : most_wheres items + depth ≤ 63
  pub groups_nested : wheres_in groups + depth ≤ 63
  pub count : IsCount wanted (suc (number_of_groups groups))
  pub entries : es ≡ entries_of (entry_items items) ++ (Close ∷ (entries_of_groups (entry_groups groups) ++ others))

-- Where these groups are open, the innermost first, the tokens complete an item, behind which the last ones stand.
abbrev pub Completes : Module → List Frame → List (List ℕ) → List (List ℕ) → List Entry → Type 0
Completes M [] rest last es = (rest ≡ last) × IsFollowed last × (es ≡ [])
Completes M (f ∷ fs) rest last es = (behind : List (List ℕ)) × (others : List Entry) × HasRest M f.wanted (suc (length fs)) rest behind es others × Completes M fs behind last others

-- an item with its entries
pub record HasEntries (M : Module) (tokens rest : List (List ℕ)) (es : List Entry) : Type 0 where
  pub item : Item
  pub is : tokens ≡ item_tokens M.signature item ++ rest
  pub has_form : HasForm M item
  pub nested : wheres item ≤ 63
  pub followed : IsFollowed rest
  pub entries : es ≡ entries_of_item (entry_item item)

-- The same where an item may begin: without open groups they are an item.
abbrev pub Awaits : Module → List Frame → List (List ℕ) → List (List ℕ) → List Entry → Type 0
Awaits M [] rest last es = HasEntries M rest last es
Awaits M (f ∷ fs) rest last es = Completes M (f ∷ fs) rest last es

-- what stands at the front, as it is found
pub record HasNumbers (tokens : List (List ℕ)) (found : List ℕ) (rest : List (List ℕ)) : Type 0 where
  pub numbers : List ℕ
  pub is : tokens ≡ numbers_tokens numbers ++ rest
  pub ends : NoNumber rest
  pub are : found ≡ map entry_number numbers

pub record HasTake (tokens : List (List ℕ)) (found : Option (List ℕ)) (rest : List (List ℕ)) : Type 0 where
  pub take : Option (List ℕ)
  pub is : tokens ≡ take_tokens take ++ rest
  pub good : IsTake take
  pub ends : NoNumber tokens → NoNumber rest
  pub no_more : take ≡ None → NotFirst (codes "take") rest
  pub are : found ≡ option_map (map entry_number) take

pub record HasPlace (tokens : List (List ℕ)) (found : Place) (rest : List (List ℕ)) : Type 0 where
  pub spot : Spot
  pub is : tokens ≡ spot_tokens spot ++ rest
  pub good : IsTake spot.take
  pub ends : NoNumber rest
  pub no_more : spot.take ≡ None → NotFirst (codes "take") rest
  pub place : found ≡ place_of (entry_spot spot)

pub record HasValue (sig : Signature) (tokens : List (List ℕ)) (found : RawTerm) (rest : List (List ℕ)) : Type 0 where
  pub is : tokens ≡ form_tokens sig found ++ rest
  pub written : IsWritten sig found
  pub ends : IsHigh rest

pub record HasValues (sig : Signature) (tokens : List (List ℕ)) (found : List RawTerm) (rest : List (List ℕ)) : Type 0 where
  pub is : tokens ≡ values_tokens sig found ++ rest
  pub written : AreWritten sig found
  pub ends : NotFirst (codes "[") rest

-- with the word before them, where there are any
pub record HasWith (sig : Signature) (tokens : List (List ℕ)) (found : List RawTerm) (rest : List (List ℕ)) : Type 0 where
  pub is : tokens ≡ with_tokens sig found ++ rest
  pub written : AreWritten sig found
  pub ends : found ≢ [] → NotFirst (codes "[") rest
  pub no_more : found ≡ [] → NotFirst (codes "with") rest

-- A line, behind which these stand, as they do behind any that ends there; its entry comes behind those before it.
pub record HasLine (M : Module) (tokens rest : List (List ℕ)) (wanted : Option ℕ) (old new : List Entry) : Type 0 where
  pub line : Line
  pub is : tokens ≡ line_tokens M.signature line ++ rest
  pub good : IsLine M line
  pub only : (other : Line) (last : List (List ℕ)) → IsLine M other → EndsLine last → tokens ≡ line_tokens M.signature other ++ last → rest ≡ last
  pub wants : wanted ≡ wanted_groups M line
  pub pushed : new ≡ old ++ (entry_of line ∷ [])

-- what doesn't
abbrev pub NoTake : List (List ℕ) → Type 0
NoTake tokens = (take : Option (List ℕ)) (rest : List (List ℕ)) → IsTake take → EndsSpot rest → tokens ≢ take_tokens take ++ rest

abbrev pub NoPlace : List (List ℕ) → Type 0
NoPlace tokens = (spot : Spot) (rest : List (List ℕ)) → IsTake spot.take → EndsSpot rest → tokens ≢ spot_tokens spot ++ rest

abbrev pub NoForm : Signature → List (List ℕ) → Type 0
NoForm sig tokens = (t : RawTerm) → IsWritten sig t → form_tokens sig t ≢ tokens

abbrev pub NoValue : Signature → List (List ℕ) → Type 0
NoValue sig tokens = (t : RawTerm) (rest : List (List ℕ)) → IsWritten sig t → IsHigh rest → tokens ≢ form_tokens sig t ++ rest

abbrev pub NoValues : Signature → List (List ℕ) → Type 0
NoValues sig tokens = (ts : List RawTerm) (rest : List (List ℕ)) → AreWritten sig ts → NotFirst (codes "[") rest → tokens ≢ values_tokens sig ts ++ rest

abbrev pub NoWith : Signature → List (List ℕ) → Type 0
NoWith sig tokens = (ts : List RawTerm) (rest : List (List ℕ)) → AreWritten sig ts → EndsLine rest → tokens ≢ with_tokens sig ts ++ rest

abbrev pub NoLine : Module → List (List ℕ) → Type 0
NoLine M tokens = (line : Line) (rest : List (List ℕ)) → IsLine M line → EndsLine rest → tokens ≢ line_tokens M.signature line ++ rest

-- From one state to the next: what completes the second, completes the first, with what was told between them; and the first only where the second.
pub record Steps (M : Module) (before after : List Frame) (tokens rest : List (List ℕ)) (old new : List Entry) : Type 0 where
  pub sound : (last : List (List ℕ)) (es : List Entry) → Completes M after rest last es → (fs : List Entry) × (new ++ es ≡ old ++ fs) × Awaits M before tokens last fs
  pub complete : (last : List (List ℕ)) (fs : List Entry) → Awaits M before tokens last fs → (es : List Entry) × Completes M after rest last es
  pub shorter : length rest < length tokens

-- nothing completes it
abbrev pub Stops : Module → List Frame → List (List ℕ) → Type 0
Stops M frames tokens = (last : List (List ℕ)) (es : List Entry) → ¬ Awaits M frames tokens last es

-- An item of these tokens is under way, with entries behind those before it: what completes it from here on, completes it from its beginning; and the other way round.
pub record IsUnderWay (M : Module) (tokens : List (List ℕ)) (start : List Entry) (frames : List Frame) (rest : List (List ℕ)) (told : List Entry) : Type 0 where
  pub sound : (last : List (List ℕ)) (es : List Entry) → Awaits M frames rest last es → (fs : List Entry) × (told ++ es ≡ start ++ fs) × HasEntries M tokens last fs
  pub complete : (last : List (List ℕ)) (fs : List Entry) → HasEntries M tokens last fs → (es : List Entry) × Awaits M frames rest last es
