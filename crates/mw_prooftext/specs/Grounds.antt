-- What the lines of a text are written from.
use Rattle.std.specs.Prelude.{List, [], ◌∷◌, IsTrue, ⊤}
use Rattle.mw_logic.specs.Term.{RawTerm, is_ground}
use Rattle.mw_redex.specs.declared.replacing.Place.{Place}
use Rattle.mw_items.specs.Items.{Spot}

abbrev pub AreGround : List RawTerm → Type 0
AreGround [] = ⊤
AreGround (t ∷ ts) = IsTrue (is_ground t) × AreGround ts

abbrev pub spot_of : Place → Spot
spot_of p = record { path = p.path; take = p.take }
