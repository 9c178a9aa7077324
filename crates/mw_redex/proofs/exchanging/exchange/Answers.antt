use Rattle.std.proofs.Common.{◌∙◌, ap, drop, ◌+◌, ◌∷◌, ◌++◌, []}
use Rattle.mw_logic.specs.Term.{join}
use Rattle.mw_logic.specs.Terms.{terms_of}
use Rattle.mw_redex.specs.Replaced.{exchanged}
use Rattle.mw_arguments.specs.Places.{others}
use Rattle.mw_redex.proofs.Exchanged.{met, passed, unmet}
use Rattle.mw_redex.proofs.exchanging.exchange.Goals as goal

pub returns-then-i-first : goal.returns-then-i-first
returns-then-i-first c =
    c.in_ok-push_others.ensures ∙ ap (λ ts. join (terms_of ts) (others (c.loop-i.i + 1 + 1) c.args.more.now (terms_of (drop (c.loop-i.i + 1) c.args.terms.now)))) (c.in_ok-push.ensures.items ∙ ap (λ x. c.loop-i.made.items ++ x ∷ []) c.loop-i.invariant.same)
    ∙ met c.loop-i.made.items c.loop-i.i c.args.first c.args.more.now c.args.with c.args.terms.now _ c.loop-i-test.true c.if-i-first.true c.loop-i.invariant.told

pub loop-i-preserved : goal.loop-i-preserved
loop-i-preserved c = record {
  same = c.loop-i.invariant.same;
  told = ap (λ ts. join (terms_of ts) (exchanged (c.loop-i.i + 1 + 1) c.args.first c.args.more.now c.args.with (terms_of (drop (c.loop-i.i + 1) c.args.terms.now)))) (c.in_ok-push-2.ensures.items ∙ ap (λ x. c.loop-i.made.items ++ x ∷ []) c.in_ok-term.ensures)
      ∙ passed c.loop-i.made.items c.loop-i.i c.args.first c.args.more.now c.args.with c.args.terms.now c.index-terms-i.result _ c.loop-i-test.true c.index-terms-i.is c.if-i-first.false c.loop-i.invariant.told;
}

pub returns : goal.returns
returns c =
    ap terms_of (c.in_ok-push-3.ensures.items ∙ ap (λ x. c.loop-i.made.items ++ x ∷ []) c.loop-i.invariant.same) ∙ unmet c.loop-i.made.items c.loop-i.i c.args.first c.args.more.now c.args.with c.args.terms.now _ c.loop-i-test.false c.loop-i.invariant.told
