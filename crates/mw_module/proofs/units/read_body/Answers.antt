use Rattle.std.proofs.Common.{arith, ◌∙◌, sym, ap}
use Rattle.mw_module.specs.Forms.{seen_formed}
use Rattle.mw_module.proofs.Bodies.{body_fault, body_unended, fault_kept, statements_kept}
use Rattle.mw_module.proofs.units.read_body.Goals as goal

pub returns-in-Err : goal.returns-in-Err
returns-in-Err c =
    fault_kept _ _ _ _ c.loop-rest.invariant.body
    (body_fault _ _ _ _ _ c.in-len1-up.len_at_least c.first-item.is c.count_before-len.ensures.count c.count_before-len.ensures.within (sym c.in_ok-form.ensures ∙ ap seen_formed c.in-Err.is))

pub returns-then-len-rest : goal.returns-then-len-rest
returns-then-len-rest c =
    fault_kept _ _ _ _ c.loop-rest.invariant.body
    (body_unended _ _ _ _ _ c.in-len1-up.len_at_least c.first-item.is c.count_before-len.ensures.count (omega arith) (sym c.in_ok-form.ensures ∙ ap seen_formed c.in-Ok.is))

pub loop-rest-preserved : goal.loop-rest-preserved
loop-rest-preserved c = record {
  body = rw c.in_ok-push.ensures.items
      (statements_kept _ _ _ _ _ _ _ _ c.in-len1-up.len_at_least c.first-item.is c.count_before-len.ensures.count (omega (arith, c.count_before-len.ensures.within, c.if-len-rest.false))
      (sym c.in_ok-form.ensures ∙ ap seen_formed c.in-Ok.is) c.tokens_from-rest.ensures.seen c.loop-rest.invariant.body);
  fewer = omega (arith, c.tokens_from-rest.ensures.len, c.loop-rest.invariant.fewer);
}
