-- The term that a tree of the chart stands for.
use Rattle.std.specs.Prelude.{List, []}
use Rattle.std.specs.Prelude.{Option, None, Some}
use Rattle.std.specs.List.{slice_get}
use Rattle.mw_logic.specs.Term.{RawTerm, numeral, quoted, variable, apply, nil, cons, join}
use Rattle.mw_chart.specs.Tree.{Tree, leaf, head, app}

-- the term at a place; any, where there is none
abbrev pub leaf_at : Option RawTerm → RawTerm
leaf_at None = variable (record { name = []; sort = 0 })
leaf_at (Some t) = t

-- the operator's term with one argument more
abbrev pub with_last : RawTerm → RawTerm → RawTerm
with_last (numeral n) u = numeral n
with_last (quoted q) u = quoted q
with_last (variable x) u = variable x
with_last (apply f ts) u = apply f (join ts (cons u nil))

-- leaves are terms that tokens are by themselves, by their place in a list
abbrev pub term_of : List RawTerm → Tree → RawTerm
term_of leaves (leaf v) = leaf_at (slice_get leaves v)
term_of leaves (head f) = apply f nil
term_of leaves (app t u) = with_last (term_of leaves t) (term_of leaves u)
