use Rattle.std.proofs.Common.{rules, inl, inr}
use Rattle.mw_reduce.proofs.Joining.{two_first, some_first}
use Rattle.mw_reduce.proofs.pairs.pair_of.Goals as goal
use Rattle.mw_reduce.proofs.pairs.pair_of.Goals.{else-second-args-via-then-second-args+else-second-made, else-second-args-via-else-second-args}

pub returns-clause-first : goal.returns-clause-first
returns-clause-first c = λ a b.
    let f = c.in_ok-first.ensures.first a b in
    let g = c.in_ok-second.ensures.first f.own_order f.made_order in
    let s = c.in_ok-second.second.left in
    two_first _ _ _ _ _ _ _ _ f g (some_first c.args.args.now c.args.made.now s.own s.made
    (elim c.else-second-args.branch [ else-second-args-via-then-second-args+else-second-made w ↦ inr (search rules) | else-second-args-via-else-second-args w ↦ inl (search rules) ]))
