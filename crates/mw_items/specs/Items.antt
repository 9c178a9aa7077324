-- The items of a proof text: what it says of replacements, one after another.
use Rattle.std.specs.Prelude.{ℕ, List, Bool, Option}
use Rattle.mw_logic.specs.Term.{RawTerm}

-- a place in a term: a path, and several arguments of the associative operator at its end, if any are taken
pub record Spot : Type 0 where
  pub path : List ℕ
  pub take : Option (List ℕ)

-- A statement's number, whether it is an `owise` equation, the place, the values of its variables in their order, and for each side of its condition a
-- group of items; or a row of the built-in schemata, at its place.
mutual
  pub data Item : Type 0 where
    step : Bool → ℕ → Spot → List RawTerm → Groups → Item
    built : Spot → Item

  pub data Items : Type 0 where
    none : Items
    more : Item → Items → Items

  pub data Groups : Type 0 where
    end : Groups
    group : Items → Groups → Groups

-- one more behind them
abbrev pub with_item : Items → Item → Items
with_item none j = more j none
with_item (more i is) j = more i (with_item is j)

abbrev pub with_group : Groups → Items → Groups
with_group end g = group g end
with_group (group h gs) g = group h (with_group gs g)
