use Rattle.std.proofs.Common.{◌≡◌, ◌++◌, List, length}
use Rattle.mw_text.specs.Names.{NameItem, items_of, spelled_behind}
use Rattle.mw_declare.proofs.spelling.write_token.Given as goal

abbrev pub invariant-loop-item : goal.invariant-loop-item
invariant-loop-item l = (more : List NameItem) → l.fn.spelling.items ++ spelled_behind l.fn.touching (items_of l.text ++ more) ≡ l.spelling.items ++ spelled_behind l.touching (items_of l.rest ++ more)

abbrev pub decreases-loop-item : goal.decreases-loop-item
decreases-loop-item l = length l.rest
