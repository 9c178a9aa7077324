-- The tree of what stands on its top.
use Rattle.mw_chart.specs.Tree as tree
use Rattle.mw_chart.specs.Tree.{Tree}
use Rattle.mw_chart.specs.declared.node.TreeTop.{TreeTop}
use Rattle.mw_chart.specs.declared.node.TreeTop.TheVariants.{Leaf, Head, App}

abbrev pub tree_of_top : TreeTop → Tree
tree_of_top (Leaf x) = tree.leaf x
tree_of_top (Head f) = tree.head f
tree_of_top (App t u) = tree.app t.now u.now
