-- Which tree the tokens of a text spell, from a place to a place, by the states of a table.
use Rattle.std.specs.Prelude.{ℕ, ◌+◌, ◌<◌, ◌≡◌, List, Some}
use Rattle.std.specs.List.{slice_get}
use Rattle.mw_chart.specs.Listed.{AreListed}
use Rattle.mw_chart.specs.Tree.{Tree, leaf, head, app}
use Rattle.mw_chart.specs.declared.table.Next.{Next}
use Rattle.mw_chart.specs.declared.table.Next.TheVariants.{Token, Hole, Whole}
use Rattle.mw_chart.specs.declared.table.Production.{Production}
use Rattle.mw_chart.specs.declared.table.LeftCorners.{LeftCorners}
use Rattle.mw_chart.specs.declared.table.Table.{Table}
use Rattle.mw_chart.specs.declared.terminal.Leaf.{Leaf}
use Rattle.mw_chart.specs.declared.terminal.Terminal.{Terminal}

-- what comes next at a state
abbrev pub NextAt : Table → ℕ → Next → Type 0
NextAt g s x = slice_get g.steps.items s ≡ Some x

-- texts of the operator begin at the state
abbrev pub IsProduction : Table → ℕ → ℕ → Type 0
IsProduction g s op = (n : ℕ) × (production : Production) × (slice_get g.productions.items n ≡ Some production) × (production.state ≡ s) × (production.operator ≡ op)

-- at the place stands the token
abbrev pub TokenAt : List Terminal → ℕ → ℕ → Type 0
TokenAt text k x = (terminal : Terminal) × (slice_get text k ≡ Some terminal) × (terminal.token ≡ x)

-- the terminal is a tree by itself: a leaf with the tree, at the state
abbrev pub IsLeaf : Terminal → ℕ → ℕ → Type 0
IsLeaf terminal s x = (n : ℕ) × (l : Leaf) × (slice_get terminal.leaves.items n ≡ Some l) × (l.state ≡ s) × (l.value ≡ x)

abbrev pub LeafAt : List Terminal → ℕ → ℕ → ℕ → Type 0
LeafAt text k s x = (terminal : Terminal) × (slice_get text k ≡ Some terminal) × IsLeaf terminal s x

-- From i up to k stand the tokens of a text begun, which has come to the state s with the tree v. At a whole state
-- v is the tree that they spell.
pub data IsItem (g : Table) (text : List Terminal) : ℕ → Tree → ℕ → ℕ → Type 0 where
  -- an operator's text, of which nothing stands yet
  predicted : (s op i : ℕ) → IsProduction g s op → IsItem g text s (head op) i i
  scanned : (s next x : ℕ) (v : Tree) (i k : ℕ) → IsItem g text s v i k → NextAt g s (Token x next) → TokenAt text k x
      → IsItem g text next v i (k + 1)
  completed : (s next kind below : ℕ) (v : Tree) (i k : ℕ) → IsItem g text s v i k → NextAt g s (Hole kind below next)
      → (w precedence : ℕ) (t : Tree) (e : ℕ) → IsItem g text w t k e → NextAt g w (Whole kind precedence) → precedence < below
      → IsItem g text next (app v t) i e
  -- a text in parentheses
  grouped : (w kind precedence : ℕ) (t : Tree) (i e : ℕ) → TokenAt text i g.open → IsItem g text w t (i + 1) e
      → NextAt g w (Whole kind precedence) → TokenAt text e g.close → (s : ℕ) → slice_get g.groups.items kind ≡ Some s
      → IsItem g text s t i (e + 1)
  -- a token that is a tree by itself
  alone : (s x i : ℕ) → LeafAt text i s x → IsItem g text s (leaf x) i (i + 1)

-- From i up to e stands a text of the kind that spells the tree, at the precedence.
abbrev pub Spells : Table → List Terminal → ℕ → ℕ → Tree → ℕ → ℕ → Type 0
Spells g text kind precedence t i e = (w : ℕ) × IsItem g text w t i e × NextAt g w (Whole kind precedence)

-- a state where a text may begin: it isn't whole, and no hole alone
abbrev pub IsOpening : Table → ℕ → Type 0
IsOpening g s =
    ((kind precedence : ℕ) → NextAt g s (Whole kind precedence) → ⊥)
    × ((kind below next : ℕ) → NextAt g s (Hole kind below next) → (k p : ℕ) → NextAt g next (Whole k p) → ⊥)

-- at the production's state comes a token
abbrev pub BeginsWith : List Next → Production → ℕ → Type 0
BeginsWith steps production x = (next : ℕ) × (slice_get steps production.state ≡ Some (Token x next))

-- at the production's state comes a hole for texts of a kind
abbrev pub OpensWith : List Next → Production → ℕ → Type 0
OpensWith steps production kind = (below next : ℕ) × (slice_get steps production.state ≡ Some (Hole kind below next))

-- The index has exactly the productions with a token in the list of the token, and those with a hole in the list of its kind.
pub record AreCornersOf (steps : List Next) (productions : List Production) (corners : LeftCorners) : Type 0 where
  pub by_token : AreListed (BeginsWith steps) productions corners.by_token.items
  pub by_kind : AreListed (OpensWith steps) productions corners.by_kind.items

-- No text begins whole, none is a hole alone, and productions are found by what comes first.
pub record IsTable (g : Table) : Type 0 where
  pub opening : (s op : ℕ) → IsProduction g s op → IsOpening g s
  pub indexed : AreCornersOf g.steps.items g.productions.items g.corners
