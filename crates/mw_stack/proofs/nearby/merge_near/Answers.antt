use Rattle.std.proofs.Common.{◌≡◌, ◌+◌, ◌∙◌, [], ◌∷◌, arith, length, ap, sym}
use Rattle.std.proofs.lemmas.List.{length-append}
use Rattle.std.proofs.lemmas.Result.{on_ok_weaker}
use Rattle.mw_logic.specs.TermOrder.{sorted_terms}
use Rattle.mw_stack.proofs.Piles.{own_popped}
use Rattle.mw_stack.proofs.Fitting.{others_ordered}
use Rattle.mw_stack.proofs.nearby.merge_near.Goals as goal

pub returns-in-Some-clause-own : goal.returns-in-Some-clause-own
returns-in-Some-clause-own c = λ l m o p.
    let xs = c.args.done.now.items in
    let ys = c.pop.new.self.items in
    let x = c.in-Some.term in
    let one : length xs ≡ c.args.at + 1 = omega (arith, m, c.len.ensures, c.args.done.now.ok.0, c.saturating_sub.ensures, c.if-saturating_sub-ne1.false) in
    let (k, f, z) = own_popped xs ys x c.args.from c.args.at c.in-Some.ensures.items l (omega (arith, one)) in
    let size : length ys ≡ c.args.at = omega (arith, k, one, ap length c.in-Some.ensures.items, length-append ys (x ∷ [])) in
    on_ok_weaker c.insert_near.result (λ e. e ∙ ap sorted_terms (sym z)) (c.insert_near.ensures.own (omega (arith, l, k)) (others_ordered xs ys c.args.from c.args.at l size f o))
