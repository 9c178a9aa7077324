use Rattle.std.proofs.Common.{arith}
use Rattle.mw_logic.specs.Terms.{terms_of}
use Rattle.mw_match.proofs.Taking.{leaves_none, leaves_taken, leaves_more, leaves_all}
use Rattle.mw_match.proofs.takes.without.Goals as goal
use Rattle.mw_match.proofs.takes.without.Goals.{in-Some, in-None+in_ok-copy-in-None+in_ok-push-in-None}

pub loop-arg-init : goal.loop-arg-init
loop-arg-init c =
    let gone = terms_of c.args.gone.now in
    let args = terms_of c.args.args.now in
    rw c.new-left.ensures.items (leaves_none gone args)

pub loop-arg-preserved : goal.loop-arg-preserved
loop-arg-preserved c =
    let gone = terms_of c.args.gone.now in
    let args = terms_of c.args.args.now in
    let zs = c.args.args.now in
    let z = c.arg-item.result in
    elim c.match-behind.branch [
      | in-Some w ↦ let (u, e, s) = w.in-Some.ensures in
          rw (w.left-is, w.rest-is) (leaves_taken gone args zs c.loop-arg.arg-index z c.loop-arg-test.true c.arg-item.is c.loop-arg.left.items (terms_of c.loop-arg.rest.now) (terms_of w.in-Some.after.now) u e s c.loop-arg.invariant)
      | in-None+in_ok-copy-in-None+in_ok-push-in-None w ↦
          rw (w.left-is, w.rest-is) (leaves_more gone args zs c.loop-arg.arg-index z c.loop-arg-test.true c.arg-item.is c.loop-arg.left.items w.push.new.self.items w.in_ok-copy-in-None.field-0 (terms_of c.loop-arg.rest.now)
          w.in_ok-push-in-None.ensures.items w.in_ok-copy-in-None.ensures w.in-None.ensures c.loop-arg.invariant)
    ]

pub returns : goal.returns
returns c = leaves_all (terms_of c.args.gone.now) (terms_of c.args.args.now) c.args.args.now c.loop-arg.left.items c.loop-arg.arg-index (terms_of c.loop-arg.rest.now) (omega arith) c.loop-arg.invariant
