use Rattle.std.proofs.Common.{◌∙◌, refl}
use Rattle.mw_search.specs.declared.shares.Singles.{Singles}
use Rattle.mw_search.proofs.Sharing.{heads_go}
use Rattle.mw_search.proofs.multisets.heads_met.Goals as goal

pub returns : goal.returns
returns c =
    let s : Singles = record { pattern = c.in_ok-pattern.pattern; then = c.args.then; bag = c.of-bag.result; next = 0 } in
    λ sig single vs k. heads_go sig single c.args.pattern.now c.args.first.now c.in_ok-first.first c.args.bag.now c.args.then s c.in_ok-pattern.ensures (c.of-bag.ensures ∙ c.in_ok-copy.ensures) refl refl c.in_ok-first.ensures vs k
