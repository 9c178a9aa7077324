use Rattle.std.proofs.Common.{◌∙◌, ◌≤◌, length, ap, sym, arith}
use Rattle.mw_logic.specs.Parts.{is_assoc}
use Rattle.mw_spot.proofs.Calls.{spread_is}
use Rattle.mw_spot.proofs.numbering.spread.Goals as goal

pub returns-in-Associative-Op : goal.returns-in-Associative-Op
returns-in-Associative-Op c =
    let sig = c.args.facts.now in
    let a = c.in-Associative-Op in
    let some : 1 ≤ length a.args.now = grind arith in
    spread_is sig c.args.level.now c.args.term.now a.operator a.args.now (ap (λ o. is_assoc sig o.operator) (sym c.level.view_is) ∙ a.ensures.0) (c.if-operator-level.true ∙ ap (λ o. o.operator) c.level.view_is) a.ensures' some
