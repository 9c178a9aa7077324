use Rattle.std.proofs.Common.{◌≡◌, ◌<◌, ◌∙◌, ◌+◌, ◌-◌, ◌++◌, ◌∷◌, [], ap, sym, arith, append_assoc}
use Rattle.mw_declare.specs.Freezing.{counted}
use Rattle.mw_declare.proofs.Frozen.{counted_from}
use Rattle.mw_declare.proofs.freezing.all_numbers.Goals as goal

pub loop-place-preserved : goal.loop-place-preserved
loop-place-preserved c =
    let place = c.loop-place.place in
    let last = c.args.last in
    let rest = counted (last - (place + 1)) (place + 1 + 1) in
    let low : place < last = omega (arith, c.loop-place-test.true) in
    ap (λ ns. ns ++ rest) c.in_ok-push.ensures.items ∙ append_assoc c.loop-place.numbers.items ((place + 1) ∷ []) rest
    ∙ ap (λ ns. c.loop-place.numbers.items ++ ns) (sym (counted_from last place low)) ∙ c.loop-place.invariant
