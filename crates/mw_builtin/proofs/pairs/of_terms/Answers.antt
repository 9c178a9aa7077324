use Rattle.std.proofs.Common.{◌∙◌, ap}
use Rattle.mw_term.specs.Shapes.{viewed}
use Rattle.mw_builtin.specs.Schemata.{on_numbers}
use Rattle.mw_builtin.proofs.Denoting.{of_numerals}
use Rattle.mw_builtin.proofs.pairs.of_terms.Goals as goal

pub returns : goal.returns
returns c sig a =
    of_numerals sig (on_numbers c.args.operator) c.args.comm c.args.first.now c.args.second.now c.in-Nat.m c.in-Nat-view.n c.of_either.result (c.view.ensures ∙ ap viewed c.in-Nat.is) (c.view-2.ensures ∙ ap viewed c.in-Nat-view.is) (c.of_either.ensures sig a)
