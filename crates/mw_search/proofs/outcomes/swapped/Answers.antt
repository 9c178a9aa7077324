use Rattle.std.proofs.Common.{◌≡◌, ◌∙◌, refl, ap, sym, cond, [], true, length, map}
use Rattle.mw_logic.specs.Terms.{terms_of}
use Rattle.mw_logic.specs.Term.{apply}
use Rattle.mw_term.specs.Shapes.{viewed}
use Rattle.mw_logic.specs.Terms.{args_of}
use Rattle.mw_arguments.specs.Splits.{orders}
use Rattle.mw_matching.specs.Found.{has_top}
use Rattle.mw_search.specs.Traces.{trace_orders}
use Rattle.mw_search.specs.declared.shares.Orders.{Orders}
use Rattle.mw_search.proofs.Meeting.{orders_go, some_args, topped, above_zero}
use Rattle.mw_search.proofs.outcomes.swapped.Goals as goal

pub returns-in_ok-pattern-in-Op : goal.returns-in_ok-pattern-in-Op
returns-in_ok-pattern-in-Op c =
    let t : c.args.term.now ≡ apply c.in-Op.top (terms_of c.in-Op.args.now) = c.view.ensures ∙ ap viewed c.in-Op.is in
    let top : has_top c.args.operator c.args.term.now ≡ true = ap (has_top c.args.operator) t ∙ topped c.args.operator c.in-Op.top c.if-operator-top.true in
    let s : Orders = record { pattern = c.in_ok-pattern-in-Op.pattern; lists = c.in_ok-lists-in-Op.lists; next = 0 } in
    let lists : map args_of c.in_ok-lists-in-Op.lists.items ≡ orders (args_of c.args.term.now) = c.in_ok-lists-in-Op.ensures ∙ ap (λ x. orders (args_of x)) (sym t) in
    λ sig single vs k. ap (λ b. cond b (trace_orders sig single (args_of c.args.pattern.now) (orders (args_of c.args.term.now)) vs k) []) top
    ∙ orders_go sig single c.args.pattern.now c.args.pattern.now c.index-patterns-0.result c.in_ok-first-in-Op.first _ c.in_ok-lists-in-Op.lists.items (orders (args_of c.args.term.now)) s
    (some_args c.args.pattern.now c.index-patterns-0.result c.arguments-patterns.result.now c.arguments-patterns.ensures (above_zero (length c.arguments-patterns.result.now) c.if-is_empty.ensures) c.index-patterns-0.is)
    c.in_ok-first-in-Op.ensures lists c.in_ok-pattern-in-Op.ensures refl refl vs k
