use Rattle.std.proofs.Common.{◌≡◌, ◌∙◌, ap, sym, reverse}
use Rattle.mw_logic.specs.Terms.{terms_of}
use Rattle.mw_spot.specs.Spots.{places, spread_take, raised_take}
use Rattle.mw_spot.proofs.Calls.{on_ok}
use Rattle.mw_spot.proofs.spotting.raise.Goals as goal

pub returns-in-Some-clause-take : goal.returns-in-Some-clause-take
returns-in-Some-clause-take c = λ o.
    let at = places c.args.facts.now (reverse c.args.levels.now) in
    let inner = c.args.inner.now in
    let path = reverse c.args.spot.now.path.items in
    let taken = c.args.spot.now.take in
    let s = c.in-Some.ensures in
    on_ok c.spread_out.result (c.spread_out.new.spot.take ≡ spread_take at (terms_of c.in-Some.args.now) path taken) _
    (λ q. q ∙ ap (λ ts. spread_take at ts path taken) s.1 ∙ sym (ap (λ m. raised_take at m inner path taken) s.0)) (c.spread_out.ensures.take o)
