use Rattle.std.proofs.Common.{◌≡◌, refl}
use Rattle.std.specs.Prelude.{nat_eq, true}
use Rattle.std.proofs.lemmas.Bool.{both_ways, eq-eqb}
use Rattle.mw_poset.proofs.Reading.{kinds_same}
use Rattle.mw_least.proofs.closed.are_apart.Goals as goal

pub returns-then-is_there-2 : goal.returns-then-is_there-2
returns-then-is_there-2 c = λ h sig pairs k.
    let K = c.kind_of.result in
    let L = c.kind_of-then-is_there-2.result in
    let e : nat_eq K L ≡ true = eq-eqb K L (kinds_same c.args.order.now.pairs sig c.args.sort c.args.other K L c.kind_of.ensures c.kind_of-then-is_there-2.ensures pairs k) in
    both_ways _ refl (rw e at h)
