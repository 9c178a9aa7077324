use Rattle.std.proofs.Common.{refl, true, false, arith}
use Rattle.std.proofs.lemmas.Bool.{both_ways}
use Rattle.mw_match.proofs.Sorting.{first_fits, next_fits, next_is_lacking}
use Rattle.mw_match.proofs.sorts.have_sorts.Goals as goal

pub loop-i-init : goal.loop-i-init
loop-i-init c = λ i v S l a b k. absurd (omega (arith, l))

pub returns-then-not-has_sort : goal.returns-then-not-has_sort
returns-then-not-has_sort c =
    let sig = c.args.context.now.signature in
    record {
      fits = λ t. absurd (both_ways false refl t);
      lacks = λ f. next_is_lacking sig c.args.values.now c.args.sorts.now c.requires c.loop-i.i c.index-values-i.result c.has_sort.result c.loop-i-test.true c.index-values-i.is c.has_sort.ensures c.if-not-has_sort.true;
    }

pub loop-i-preserved : goal.loop-i-preserved
loop-i-preserved c =
    let sig = c.args.context.now.signature in
    next_fits sig c.args.values.now c.args.sorts.now c.requires c.loop-i.i c.index-values-i.result c.has_sort.result c.loop-i-test.true c.index-values-i.is c.has_sort.ensures c.if-not-has_sort.false c.loop-i.invariant

pub returns : goal.returns
returns c = record {
  fits = λ t. first_fits c.args.context.now.signature c.args.values.now c.args.sorts.now c.loop-i.i c.loop-i-test.false c.loop-i.invariant;
  lacks = λ f. absurd (both_ways true f refl);
}
