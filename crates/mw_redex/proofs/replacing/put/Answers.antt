use Rattle.std.proofs.Common.{◌≡◌, ◌∙◌, ap, sym, subst, false}
use Rattle.mw_logic.specs.Term.{apply}
use Rattle.mw_logic.specs.NormalForm.{has_largest, some_largest}
use Rattle.mw_logic.specs.Terms.{terms_of}
use Rattle.mw_term.specs.Shapes.{viewed}
use Rattle.mw_redex.proofs.Flags.{exchanged_largest, args_small}
use Rattle.mw_redex.proofs.replacing.put.Goals as goal

pub applied-requires : goal.applied-requires
applied-requires c =
    let small : has_largest c.args.facts.now (apply c.in-Op.operator (terms_of c.in-Op.args.now)) ≡ false = subst (λ t. has_largest c.args.facts.now t ≡ false) (c.view.ensures ∙ ap viewed c.in-Op.is) c.requires.term in
    c.requires.flag ∙ sym (ap (some_largest c.args.facts.now) c.in_ok-args.ensures
    ∙ exchanged_largest c.args.facts.now 1 c.args.first c.args.more.now c.args.with (terms_of c.in-Op.args.now) (args_small c.args.facts.now c.in-Op.operator (terms_of c.in-Op.args.now) small))
