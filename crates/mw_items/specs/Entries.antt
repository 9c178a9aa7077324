-- The items of a proof text, one entry after another: what stands in a group stands between the entries that open and close it.
use Rattle.std.specs.Prelude.{List, [], ◌∷◌, ◌++◌}
use Rattle.mw_redex.specs.declared.replacing.Place.{Place}
use Rattle.mw_items.specs.Items.{Spot, Item, step, built, Items, none, more, Groups, end, group}
use Rattle.mw_items.specs.declared.Entry.{Entry}
use Rattle.mw_items.specs.declared.Entry.TheVariants.{Step, Built, Open, Close}

abbrev pub place_of : Spot → Place
place_of s = record { path = s.path; take = s.take }

abbrev mutual
  pub entries_of : Items → List Entry
  entries_of none = []
  entries_of (more i is) = entries_of_item i ++ entries_of is

  pub entries_of_item : Item → List Entry
  entries_of_item (step owise k s vs gs) = Step (record { owise = owise; statement = k; place = place_of s; values = vs }) ∷ entries_of_groups gs
  entries_of_item (built s) = Built (place_of s) ∷ []

  pub entries_of_groups : Groups → List Entry
  entries_of_groups end = []
  entries_of_groups (group g gs) = Open ∷ (entries_of g ++ (Close ∷ entries_of_groups gs))
