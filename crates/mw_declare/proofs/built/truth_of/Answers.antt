use Rattle.std.proofs.Common.{◌∙◌, None, sym}
use Rattle.std.specs.Prelude.{codes}
use Rattle.std.proofs.lemmas.Bool.{and_parts}
use Rattle.mw_module.specs.Units.{seen_all}
use Rattle.mw_declare.proofs.Declaring.{value_known}
use Rattle.mw_declare.proofs.built.truth_of.Goals as goal

pub named-requires : goal.named-requires
named-requires c =
    value_known (codes "true") None (codes "Bool") (seen_all c.args.statements.now) (and_parts _ _ (sym c.has_truths.ensures ∙ c.if-not-has_truths.false)).0
    c.args.hierarchy.now.names c.requires
