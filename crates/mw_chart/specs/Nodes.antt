use Rattle.mw_chart.specs.Tree as tree
use Rattle.mw_chart.specs.Tree.{Tree}
use Rattle.mw_chart.specs.declared.node.NodeKind.{NodeKind}
use Rattle.mw_chart.specs.declared.node.NodeKind.TheVariants.{Leaf, Head, App}

-- the tree that a node stands for
abbrev pub tree_of : NodeKind → Tree
tree_of (Leaf x) = tree.leaf x
tree_of (Head f) = tree.head f
tree_of (App t u) = tree.app t u
