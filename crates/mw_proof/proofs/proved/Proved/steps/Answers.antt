use Rattle.std.proofs.Common.{◌∙◌, ap}
use Rattle.mw_logic.specs.Proof.{steps}
use Rattle.mw_proof.specs.Counting.{capped}
use Rattle.mw_proof.specs.Deductions.{Deduction}
use Rattle.mw_proof.proofs.Keeping.{counts_kept}
use Rattle.mw_proof.proofs.proved.Proved.steps.Goals as goal

pub returns : goal.returns
returns c =
    let p = c.self.inside in
    (counts_kept p.context.now p.rank p.from p.to p.trail p.counts c.self.invariant.0 c.self.invariant.1).1 ∙ ap (λ (d : Deduction). capped (steps d.proof)) c.self.view_is
