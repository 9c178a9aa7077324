use Rattle.std.proofs.Common.{inl, subst}
use Rattle.mw_builtin.specs.Results.{IsBarren, IsFound, IsFoundOrBarren, result_for}
use Rattle.mw_builtin.proofs.Denoting.{by_second}
use Rattle.mw_builtin.proofs.pairs.of_either.Goals as goal

pub returns-in-Some : goal.returns-in-Some
returns-in-Some c sig a = inl (subst (λ r. IsFound sig r c.in-Some.found) c.compute.ensures (subst (IsFoundOrBarren sig (result_for c.compute.result)) c.in-Some.is (c.denoted.ensures sig a)))

pub returns-in-None : goal.returns-in-None
returns-in-None c sig a =
    by_second sig _ _ c.args.comm c.denoted-in-None.result c.if-comm.true (subst (IsBarren sig) c.compute.ensures (subst (IsFoundOrBarren sig (result_for c.compute.result)) c.in-None.is (c.denoted.ensures sig a)))
    (subst (λ r. IsFoundOrBarren sig r c.denoted-in-None.result) c.compute-in-None.ensures (c.denoted-in-None.ensures sig a))
