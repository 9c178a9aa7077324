use Rattle.mw_logic.specs.Terms.{terms_of}
use Rattle.mw_arguments.specs.Places.{numbers_of}
use Rattle.mw_proof.proofs.Numbering.{number_taken, number_passed, numbers_all}
use Rattle.mw_proof.proofs.places.in_order.Goals as goal
use Rattle.mw_proof.proofs.places.in_order.Goals.{in-Some+in_ok-push-in-Some, in-None}

pub loop-others-preserved : goal.loop-others-preserved
loop-others-preserved c =
    let all = numbers_of 1 (terms_of c.args.some.now) (terms_of c.args.args.now) in
    let zs = c.loop-others.others.now in
    let made = c.loop-others.made.items in
    let rest = terms_of c.loop-others.rest.now in
    elim c.match-behind.branch [
      | in-Some+in_ok-push-in-Some w ↦ let (u, e, s) = w.in-Some.ensures in
          rw (w.made-is, w.rest-is) (number_taken all zs c.arg-item.result c.in-len1-up.len_at_least c.arg-item.is c.loop-others.index c.in_ok-number.number c.in_ok-number.ensures made
          rest (terms_of w.in-Some.more.now) u w.push.new.self.items w.in_ok-push-in-Some.ensures.items e s c.loop-others.invariant)
      | in-None w ↦
          rw (w.made-is, w.rest-is) (number_passed all zs c.arg-item.result c.in-len1-up.len_at_least c.arg-item.is c.loop-others.index c.in_ok-number.number c.in_ok-number.ensures made
          rest w.in-None.ensures c.loop-others.invariant)
    ]

pub returns : goal.returns
returns c = numbers_all (numbers_of 1 (terms_of c.args.some.now) (terms_of c.args.args.now)) c.loop-others.made.items _ (terms_of c.loop-others.rest.now) c.loop-others.others.now c.in_default.len_below c.loop-others.invariant
