use Rattle.std.proofs.Common.{sym, subst}
use Rattle.mw_builtin.specs.Results.{IsBarren, result_for}
use Rattle.mw_builtin.specs.Schemata.{IsConstantFor}
use Rattle.mw_builtin.proofs.Denoting.{no_constant}
use Rattle.mw_builtin.proofs.pairs.denoted.Goals as goal

pub returns-in-None : goal.returns-in-None
returns-in-None c sig a = subst (λ o. IsBarren sig (result_for o)) (sym c.in-Truth.is) (no_constant sig c.in-Truth.truth (subst (IsConstantFor sig c.in-Truth.truth) c.in-None.is (c.constant.ensures sig a)))
