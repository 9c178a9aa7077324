use Rattle.std.proofs.Common.{◌∙◌, ap, List, ℕ, ◌++◌, map}
use Rattle.std.proofs.lemmas.List.{take_all}
use Rattle.mw_poset.proofs.Steps.{turned-within}
use Rattle.mw_poset.proofs.direct.both_ways.Goals as goal

pub of-requires : goal.of-requires
of-requires c = turned-within c.args.sorts c.args.pairs.now c.as_slice.result.now c.requires (c.as_slice.ensures.value ∙ c.loop-lower.invariant ∙ ap (λ (xs : List (ℕ × ℕ)). c.args.pairs.now ++ map (λ (p : ℕ × ℕ). (p.1, p.0)) xs) (take_all c.loop-lower.lower-index c.args.pairs.now c.loop-lower-test.false))
