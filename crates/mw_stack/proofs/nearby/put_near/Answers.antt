use Rattle.std.proofs.Common.{◌∙◌, arith}
use Rattle.std.proofs.lemmas.Result.{on_ok_weaker}
use Rattle.mw_stack.proofs.Piles.{below_kept, longer}
use Rattle.mw_stack.proofs.Under.{put_at_end, put_merged}
use Rattle.mw_stack.proofs.nearby.put_near.Goals as goal

pub returns-then-comm-clause-below : goal.returns-then-comm-clause-below
returns-then-comm-clause-below c = λ l.
    let told = c.in_ok-push_elements-in-Associative.ensures in
    on_ok_weaker c.merge_near.result (λ e. e ∙ below_kept c.args.done.now.items c.push_elements.new.found.items _ c.args.from told l) (c.merge_near.ensures.below (omega (arith, l, c.len-at.ensures, c.args.done.now.ok.0)) (omega (arith, longer c.args.done.now.items c.push_elements.new.found.items _ told, c.len-at.ensures, c.args.done.now.ok.0)))

pub returns-then-comm-clause-own : goal.returns-then-comm-clause-own
returns-then-comm-clause-own c = λ l o p.
    let A = c.in-Associative.ensures in
    let k = put_merged c.args.facts.now c.args.operator c.args.term c.args.done.now.items c.push_elements.new.found.items c.args.from _ A.0 A.2 c.in_ok-push_elements-in-Associative.ensures l c.len-at.result (c.len-at.ensures ∙ c.args.done.now.ok.0) (A.1 ∙ c.if-comm.true) o p in
    on_ok_weaker c.merge_near.result (λ e. e ∙ k.4) (c.merge_near.ensures.own k.0 k.1 k.2 k.3)

pub returns-else-comm-clause-below : goal.returns-else-comm-clause-below
returns-else-comm-clause-below c = λ l. below_kept c.args.done.now.items c.push_elements.new.found.items _ c.args.from c.in_ok-push_elements-in-Associative.ensures l

pub returns-else-comm-clause-own : goal.returns-else-comm-clause-own
returns-else-comm-clause-own c = λ l o p.
    let A = c.in-Associative.ensures in
    put_at_end c.args.facts.now c.args.operator c.args.term c.args.done.now.items c.push_elements.new.found.items c.args.from _ A.0 A.2 c.in_ok-push_elements-in-Associative.ensures l (A.1 ∙ c.if-comm.false)
