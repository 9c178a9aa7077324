-- What a trail's items mean.
use Rattle.std.specs.Prelude.{◌≡◌, ◌⊎◌, ◌<◌, ◌+◌, ℕ, suc, List, [], ◌∷◌, ◌++◌, length, take, drop, Bool, false, option_map, unwrap_or}
use Rattle.std.specs.List.{zip}
use Rattle.mw_logic.specs.Term.{Variable, RawTerm, numeral}
use Rattle.mw_logic.specs.Signature.{at_number}
use Rattle.mw_logic.specs.Module.{Module, Statement}
use Rattle.mw_canon.specs.Canonical.{meant}
use Rattle.mw_deduction.specs.Replay.{Move, into, among, out, begins, ends, applies, meets}
use Rattle.mw_trail.specs.declared.trail.Item.{Item}
use Rattle.mw_trail.specs.declared.trail.Item.TheVariants.{Into, Among, Out, Begin, End, Apply, Row}

-- the items, the terms that they take in turn, and the numbers of arguments that they take
pub record Track : Type 0 where
  pub items : List Item
  pub values : List RawTerm
  pub numbers : List ℕ

-- the variables of the statement of this number, and whether it is a rule
abbrev pub variables_of : Module → ℕ → List Variable
variables_of M k = unwrap_or (option_map (λ (e : Statement). e.variables) (at_number M.statements k)) []

abbrev pub is_rule : Module → ℕ → Bool
is_rule M k = unwrap_or (option_map (λ (e : Statement). e.rule) (at_number M.statements k)) false

-- how many terms an item takes, and how many numbers
abbrev pub needs : Item → ℕ
needs (Into i) = 0
needs (Among n) = 0
needs Out = 0
needs (Begin n) = suc n
needs End = 0
needs (Apply n k) = n
needs Row = 1

abbrev pub counts : Item → ℕ
counts (Into i) = 0
counts (Among n) = n
counts Out = 0
counts (Begin n) = 0
counts End = 0
counts (Apply n k) = 0
counts Row = 0

abbrev pub first_of : List RawTerm → RawTerm
first_of [] = numeral 0
first_of (t ∷ ts) = t

-- the move that an item is, by the terms and numbers from its own on
abbrev pub move_of : Module → Item → List RawTerm → List ℕ → Move
move_of M (Into i) vs ns = into i
move_of M (Among n) vs ns = among (take n ns)
move_of M Out vs ns = out
move_of M (Begin n) vs ns = begins (first_of (drop n vs))
move_of M End vs ns = ends
move_of M (Apply n k) vs ns = applies k (is_rule M k) (meant M.signature (zip (variables_of M k) (take n vs))) (take n vs)
move_of M Row vs ns = meets (first_of vs)

abbrev pub moves_of : Module → List Item → List RawTerm → List ℕ → List Move
moves_of M [] vs ns = []
moves_of M (x ∷ xs) vs ns = move_of M x vs ns ∷ moves_of M xs (drop (needs x) vs) (drop (counts x) ns)

abbrev pub moves : Module → Track → List Move
moves M t = moves_of M t.items t.values t.numbers

-- how many terms and numbers they take together
abbrev pub needed : List Item → ℕ
needed [] = 0
needed (x ∷ xs) = needs x + needed xs

abbrev pub counted : List Item → ℕ
counted [] = 0
counted (x ∷ xs) = counts x + counted xs

-- there are as many as that
pub record IsTrack (t : Track) : Type 0 where
  pub values : needed t.items ≡ length t.values
  pub numbers : counted t.items ≡ length t.numbers

-- out, or the last item is one that goes in and is taken back, with so many numbers
abbrev pub TakesBack : List Item → List Item → ℕ → Type 0
TakesBack old new n = ((new ≡ old ++ Out ∷ []) × (n ≡ 0)) ⊎ (((i : ℕ) × (old ≡ new ++ Into i ∷ []) × (n ≡ 0)) ⊎ (old ≡ new ++ Among n ∷ []))

-- The mark m was taken where the trail was s, and since then the trail only grew.
pub record IsMark (m : ℕ) (s t : Track) : Type 0 where
  pub track : IsTrack s
  pub is : m ≡ length s.items
  pub more : Track
  pub items : t.items ≡ s.items ++ more.items
  pub values : t.values ≡ s.values ++ more.values
  pub numbers : t.numbers ≡ s.numbers ++ more.numbers

-- marks stay, or those before the last item
abbrev pub Keeps : Track → Track → Type 0
Keeps t u = (m : ℕ) (s : Track) → IsMark m s t → IsMark m s u

abbrev pub KeepsBefore : Track → Track → Type 0
KeepsBefore t u = (m : ℕ) (s : Track) → IsMark m s t → m < length t.items → IsMark m s u
