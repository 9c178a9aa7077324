use Rattle.std.proofs.Common.{subst}
use Rattle.mw_proof.specs.Deductions.{IsDeduction}
use Rattle.mw_proof.proofs.Keeping.{deduction_kept}
use Rattle.mw_proof.proofs.proved.Proved.shows.Goals as goal

pub returns : goal.returns
returns c =
    let p = c.self.inside in
    subst IsDeduction c.self.view_is (deduction_kept p.context.now c.shows.ensures.signature.accepted p.rank p.from p.to p.trail c.self.invariant.0)
