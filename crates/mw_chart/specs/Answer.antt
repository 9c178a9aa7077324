-- What a whole text spells, and what is answered for it.
use Rattle.std.specs.Prelude.{ℕ, ◌≤◌, ◌<◌, ◌≡◌, ◌≢◌, ◌⊎◌, List, length, Option, Some, None, ⊤}
use Rattle.mw_chart.specs.Tree.{Tree}
use Rattle.mw_chart.specs.Spelling.{Spells}
use Rattle.mw_chart.specs.declared.table.Table.{Table}
use Rattle.mw_chart.specs.declared.terminal.Terminal.{Terminal}
use Rattle.mw_chart.specs.declared.fault.Unread.{Unread}
use Rattle.mw_chart.specs.declared.fault.Unread.TheVariants.{NoParse, Ambiguous, TooLong, Memory}
use Rattle.mw_chart.specs.declared.fault.TreePair.{TreePair}

-- the whole text spells the tree, as one of the kind
abbrev pub IsOf : Table → List Terminal → ℕ → Tree → Type 0
IsOf g text kind t = (precedence : ℕ) × Spells g text kind precedence t 0 (length text)

-- where a kind is wanted it is this one
abbrev pub IsWanted : Option ℕ → ℕ → Type 0
IsWanted None kind = ⊤
IsWanted (Some K) kind = K ≡ kind

-- the whole text spells the tree, as one of the wanted kind, which is a kind of trees
abbrev pub IsSpelled : Table → Option ℕ → List Terminal → Tree → Type 0
IsSpelled g wanted text t = (kind : ℕ) × (kind ≤ g.kinds) × IsWanted wanted kind × IsOf g text kind t

-- 1,024 tokens at most spell this tree of the wanted kind and no other
pub record Reads (g : Table) (wanted : Option ℕ) (text : List Terminal) (t : Tree) : Type 0 where
  pub short : length text ≤ 1024
  pub spelled : IsSpelled g wanted text t
  pub only : (u : Tree) → IsSpelled g wanted text u → u ≡ t

-- why a text has no one tree
abbrev pub HasNoReading : Table → Option ℕ → List Terminal → Unread Tree → Type 0
HasNoReading g wanted text NoParse = (length text ≤ 1024) × ((u : Tree) → IsSpelled g wanted text u → ⊥)
HasNoReading g wanted text (Ambiguous a b) = (length text ≤ 1024) × IsSpelled g wanted text a × IsSpelled g wanted text b × (a ≢ b)
HasNoReading g wanted text TooLong = 1024 < length text
HasNoReading g wanted text Memory = ⊤

-- the two texts spell the trees, as those of one kind
abbrev pub IsPair : Table → List Terminal → List Terminal → Tree → Tree → Type 0
IsPair g left right a b = (kind : ℕ) × (kind ≤ g.kinds) × IsOf g left kind a × IsOf g right kind b

-- neither text is too long
abbrev pub AreShort : List Terminal → List Terminal → Type 0
AreShort left right = (length left ≤ 1024) × (length right ≤ 1024)

-- of 1,024 tokens at most each, they spell this pair and no other
pub record ReadsPair (g : Table) (left right : List Terminal) (p : TreePair) : Type 0 where
  pub short : AreShort left right
  pub spelled : IsPair g left right p.left p.right
  pub only : (a b : Tree) → IsPair g left right a b → (a ≡ p.left) × (b ≡ p.right)

-- why two texts have no one pair
abbrev pub HasNoPair : Table → List Terminal → List Terminal → Unread TreePair → Type 0
HasNoPair g left right NoParse = AreShort left right × ((a b : Tree) → IsPair g left right a b → ⊥)
HasNoPair g left right (Ambiguous p q) = AreShort left right × IsPair g left right p.left p.right × IsPair g left right q.left q.right × (p ≢ q)
HasNoPair g left right TooLong = (1024 < length left) ⊎ (1024 < length right)
HasNoPair g left right Memory = ⊤
