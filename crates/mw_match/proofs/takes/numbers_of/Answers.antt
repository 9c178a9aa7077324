use Rattle.std.proofs.Common.{◌∙◌, arith}
use Rattle.mw_logic.specs.Terms.{terms_of}
use Rattle.mw_match.proofs.Taking.{numbers_none, numbers_taken, numbers_passed, numbers_all}
use Rattle.mw_match.proofs.takes.numbers_of.Goals as goal
use Rattle.mw_match.proofs.takes.numbers_of.Goals.{in-Some+in_ok-number_at-in-Some+in_ok-push-in-Some, in-None}

pub loop-i-init : goal.loop-i-init
loop-i-init c =
    let some = terms_of c.args.some.now in
    let args = terms_of c.args.args.now in
    rw c.new-made.ensures.items (numbers_none some args)

pub loop-i-preserved : goal.loop-i-preserved
loop-i-preserved c =
    let some = terms_of c.args.some.now in
    let args = terms_of c.args.args.now in
    let zs = c.args.args.now in
    let z = c.index-args-i.result in
    elim c.match-behind.branch [
      | in-Some+in_ok-number_at-in-Some+in_ok-push-in-Some w ↦ let (u, e, s) = w.in-Some.ensures in
          rw (w.made-is, w.rest-is) (numbers_taken some args zs c.loop-i.i z c.loop-i-test.true c.index-args-i.is c.loop-i.made.items w.push.new.self.items w.in_ok-number_at-in-Some.field-0 (terms_of c.loop-i.rest.now) (terms_of w.in-Some.after.now) u
          w.in_ok-push-in-Some.ensures.items w.in_ok-number_at-in-Some.ensures e s c.loop-i.invariant)
      | in-None w ↦ rw (w.made-is, w.rest-is) (numbers_passed some args zs c.loop-i.i z c.loop-i-test.true c.index-args-i.is c.loop-i.made.items (terms_of c.loop-i.rest.now) w.in-None.ensures c.loop-i.invariant)
    ]

pub returns : goal.returns
returns c = c.of.ensures ∙ numbers_all (terms_of c.args.some.now) (terms_of c.args.args.now) c.args.args.now c.loop-i.made.items c.loop-i.i (terms_of c.loop-i.rest.now) (omega arith) c.loop-i.invariant
