use Rattle.std.proofs.Common.{◌≡◌, ◌∙◌, ◌+◌, arith, ap, sym, subst}
use Rattle.std.proofs.lemmas.List.{length-map}
use Rattle.std.proofs.lemmas.Result.{IfOk-weaker}
use denote.Ref.{Bor}
use Rattle.mw_logic.specs.Term.{RawTerm, apply}
use Rattle.mw_logic.specs.NormalForm.{height, highest}
use Rattle.mw_logic.specs.Terms.{terms_of}
use Rattle.mw_term.specs.Shapes.{viewed}
use Rattle.mw_term.proofs.Terms.{element}
use Rattle.mw_solving.specs.Reordered.{Reordered, same, inside, AreReordered, then}
use Rattle.mw_compile.specs.Groups.{pointed}
use Rattle.mw_compile.proofs.Orders.{one_more, no_more, highest_reordered, pointed_at, pointed_within}
use Rattle.mw_compile.proofs.reordering.+reordered.Goals as goal

pub all_reordered-reordered-requires : goal.all_reordered-reordered-requires
all_reordered-reordered-requires t c =
    let h = element (pointed c.args.terms.now) c.loop-term.term-index c.term-item.result.now (pointed_within c.args.terms.now c.loop-term.term-index c.loop-term-test.true) in
    let e = ap height (pointed_at c.args.terms.now c.loop-term.term-index c.term-item.result c.term-item.is) in
    (omega (arith, h, e, c.decreases), tt)

pub all_reordered-loop-term-preserved : goal.all_reordered-loop-term-preserved
all_reordered-loop-term-preserved t c = λ f.
    one_more c.args.singles.now f (pointed c.args.terms.now) c.loop-term.term-index c.term-item.result.now c.in_ok-term.term c.loop-term.made.items c.push.new.self.items
    (pointed_within c.args.terms.now c.loop-term.term-index c.loop-term-test.true) (pointed_at c.args.terms.now c.loop-term.term-index c.term-item.result c.term-item.is) c.in_ok-term.ensures c.in_ok-push.ensures.items (c.loop-term.invariant f)

pub all_reordered-returns : goal.all_reordered-returns
all_reordered-returns t c = λ f.
    let n = length-map c.args.terms.now (λ (r : Bor RawTerm). r.now) in
    let l = c.loop-term-test.false in
    no_more c.args.singles.now f (pointed c.args.terms.now) c.loop-term.term-index c.loop-term.made.items (omega (arith, n, l)) (c.loop-term.invariant f)

pub reordered-all_reordered-requires : goal.reordered-all_reordered-requires
reordered-all_reordered-requires t c =
    let is : c.args.term.now ≡ apply c.in-Op.operator (terms_of c.in-Op.args.now) = c.view.ensures ∙ ap viewed c.in-Op.is in
    let h : height c.args.term.now ≡ 1 + highest (terms_of c.in-Op.args.now) = ap height is in
    let k = highest_reordered c.args.singles.now c.in_ok-args-in-Op.ensures in
    let e = ap (λ us. highest (terms_of (pointed us))) c.as_slice.ensures.value in
    (omega (arith, h, k, e, c.decreases), tt)

pub reordered-returns-in_ok-term-in-Op : goal.reordered-returns-in_ok-term-in-Op
reordered-returns-in_ok-term-in-Op t c =
    let sig = c.args.singles.now in
    let f = c.in-Op.operator in
    let ts = terms_of c.in-Op.args.now in
    let us = terms_of c.in_ok-made-in-Op.made.items in
    let is : c.args.term.now ≡ apply f ts = c.view.ensures ∙ ap viewed c.in-Op.is in
    let made : AreReordered sig f (terms_of (pointed c.in_ok-args-in-Op.args.items)) us = subst (λ rs. AreReordered sig f (terms_of (pointed rs)) us) c.as_slice.ensures.value (c.in_ok-made-in-Op.ensures f) in
    let r : Reordered sig (apply f ts) (apply f us) = inside (then c.in_ok-args-in-Op.ensures made) in
    subst (λ q. Reordered sig q c.in_ok-term-in-Op.term) (sym is) (subst (Reordered sig (apply f ts)) (sym c.in_ok-term-in-Op.ensures) r)

pub reordered-returns-in_default : goal.reordered-returns-in_default
reordered-returns-in_default t c = IfOk-weaker c.copy-in_default.result _ _ (λ q e. subst (Reordered c.args.singles.now c.args.term.now) (sym e) same) c.copy-in_default.ensures

pub reordered-returns-then-not-has_choice : goal.reordered-returns-then-not-has_choice
reordered-returns-then-not-has_choice t c = IfOk-weaker c.copy.result _ _ (λ q e. subst (Reordered c.args.singles.now c.args.term.now) (sym e) same) c.copy.ensures
