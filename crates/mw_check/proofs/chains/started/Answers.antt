use Rattle.std.proofs.Common.{◌≡◌, ◌⊎◌, inl, inr}
use Rattle.mw_term.specs.Raws.{raw_term}
use Rattle.mw_canon.specs.declared.CanonError.{CanonError}
use Rattle.mw_canon.specs.declared.CanonError.TheVariants.{Deep, Nat, Memory}
use Rattle.mw_check.proofs.GroupReady.{start_raw, starts, never_starts}
use Rattle.mw_check.proofs.chains.started.Goals as goal

pub instance-requires-clause-raw : goal.instance-requires-clause-raw
instance-requires-clause-raw c = start_raw c.args.context.now c.shows.ensures c.args.values.now c.requires.values (raw_term c.args.side.now) c.requires.side c.facts.result.now c.facts.ensures

pub returns-in-Ok : goal.returns-in-Ok
returns-in-Ok c =
    starts c.args.context.now c.shows.ensures c.args.values.now c.requires.values (raw_term c.args.side.now) c.requires.side c.facts.result.now c.facts.ensures c.in-Ok.term c.in-Ok.ensures.canonical c.in-Ok.ensures.not_deep c.in-Ok.ensures.not_large

not_memory : (e : CanonError) → (e ≡ Deep) ⊎ (e ≡ Nat) → e ≡ Memory → ⊥
not_memory e (inl p) q = cc
not_memory e (inr p) q = cc

pub returns-in-Deep : goal.returns-in-Deep
returns-in-Deep c =
    never_starts c.args.context.now c.shows.ensures c.args.values.now c.requires.values (raw_term c.args.side.now) c.requires.side c.facts.result.now c.facts.ensures c.in-Err.error (not_memory c.in-Err.error c.in-Deep.is) c.in-Err.ensures.cause
