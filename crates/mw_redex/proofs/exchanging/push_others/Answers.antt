use Rattle.std.proofs.Common.{◌<◌, length, ap, arith, ◌∙◌}
use Rattle.mw_redex.proofs.Exchanged.{none_first, turn_out, turn_in, all_kept}
use Rattle.mw_redex.proofs.exchanging.push_others.Goals as goal
use Rattle.mw_redex.proofs.exchanging.push_others.Goals.{in-len1-up, in_default+in_ok-term-in_default+in_ok-push-in_default, in_default-via-then-rest-lt1, in_default-via-in-len1-up+else-next-i}

pub loop-i-preserved : goal.loop-i-preserved
loop-i-preserved c =
    elim c.if-rest-lt1.branch [
      | in-len1-up w ↦ turn_out c.if-rest-lt1.made.items c.loop-i.made.items c.loop-i.i c.loop-i.rest.now c.if-rest-lt1.rest.now c.args.terms.now _ c.loop-i-test.true (ap (λ v. v.items) w.made-is) w.in-len1-up.len_at_least w.if-next-i.true (ap (λ r. r.now) w.rest-is) c.loop-i.invariant
      | in_default+in_ok-term-in_default+in_ok-push-in_default w ↦
          turn_in c.if-rest-lt1.made.items c.loop-i.made.items c.loop-i.i c.loop-i.rest.now c.if-rest-lt1.rest.now c.args.terms.now w.index-terms-i.result w.in_ok-term-in_default.term _ c.loop-i-test.true w.index-terms-i.is w.in_ok-term-in_default.ensures
          (ap (λ v. v.items) w.made-is ∙ w.in_ok-push-in_default.ensures.items) (ap (λ r. r.now) w.rest-is)
          (elim w.in_default.branch [
            | in_default-via-then-rest-lt1 v ↦ (let l : length c.loop-i.rest.now < 1 = grind arith in none_first c.loop-i.rest.now c.loop-i.i l)
            | in_default-via-in-len1-up+else-next-i v ↦ v.if-next-i.false
          ])
          c.loop-i.invariant
    ]

pub returns : goal.returns
returns c = all_kept _ c.loop-i.i c.loop-i.rest.now c.args.terms.now _ c.loop-i-test.false c.loop-i.invariant
