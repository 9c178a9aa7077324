-- Items as their readers see them.
use Rattle.mw_text.specs.Names as names
use Rattle.mw_text.specs.declared.items.NameItem.{NameItem}
use Rattle.mw_text.specs.declared.items.NameItem.TheVariants.{Piece, Hole}

abbrev pub item_of : NameItem → names.NameItem
item_of (Piece x) = names.piece x.now
item_of Hole = names.hole
