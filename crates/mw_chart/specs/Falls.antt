use Rattle.std.specs.Prelude.{◌≤◌}
use Rattle.std.proofs.Common.{arith, max}
use Rattle.mw_chart.specs.Tree.{size_of}
use Rattle.mw_chart.specs.declared.node.NodeKind.{NodeKind}
use Rattle.mw_chart.specs.declared.node.NodeKind.TheVariants.{Leaf, Head, App}
use Rattle.mw_chart.specs.declared.node.Node.TheDeep.{deep-NodeKind}
use Rattle.mw_chart.specs.Nodes.{tree_of}

pub falls : (n : NodeKind) → max (deep-NodeKind n) 0 ≤ size_of (tree_of n)
falls (Leaf x) = omega arith
falls (Head f) = omega arith
falls (App t u) = omega arith
