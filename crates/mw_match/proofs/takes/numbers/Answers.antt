use Rattle.std.proofs.Common.{◌≡◌, ◌∙◌, ◌-◌, suc, ap, sym, arith}
use Rattle.mw_matching.specs.Found.{numbers_from}
use Rattle.mw_match.proofs.Taking.{next_number}
use Rattle.mw_match.proofs.takes.numbers.Goals as goal

pub loop-i-init : goal.loop-i-init
loop-i-init c =
    let none : c.args.from - c.args.from ≡ 0 = omega arith in
    record { so_far = c.new-made.ensures.items ∙ ap (numbers_from (suc c.args.from)) (sym none); below = omega arith }

pub loop-i-preserved : goal.loop-i-preserved
loop-i-preserved c = record {
  so_far = next_number c.args.from c.args.end c.loop-i.i c.in_ok-number.number c.loop-i.made.items c.push.new.self.items c.loop-i.auto.i c.loop-i-test.true c.in_ok-number.ensures c.in_ok-push.ensures.items c.loop-i.invariant.so_far;
  below = let low = c.loop-i.auto.i in let high = c.loop-i-test.true in omega (arith, low, high);
}

pub returns : goal.returns
returns c =
    let below = c.loop-i.invariant.below in
    let same : c.loop-i.i - c.args.from ≡ c.args.end - c.args.from = omega (arith, below) in
    c.of.ensures ∙ c.loop-i.invariant.so_far ∙ ap (numbers_from (suc c.args.from)) same
