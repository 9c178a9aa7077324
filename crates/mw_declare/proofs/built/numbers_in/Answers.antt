use Rattle.std.proofs.Common.{◌∙◌, Some, refl, sym}
use Rattle.std.specs.Prelude.{codes}
use Rattle.std.proofs.lemmas.Bool.{and_parts}
use Rattle.mw_module.specs.Units.{seen_all}
use Rattle.mw_declare.proofs.Declaring.{arg_known}
use Rattle.mw_declare.proofs.built.numbers_in.Goals as goal

pub named-requires : goal.named-requires
named-requires c =
    arg_known (codes "s_") (Some (codes "Nat")) (codes "NzNat") (seen_all c.args.statements.now) (and_parts _ _ (sym c.in_ok-declared.ensures ∙ c.if-not-declared.false)).0
    c.args.hierarchy.now.names c.requires (codes "Nat") refl
