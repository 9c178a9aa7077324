use Rattle.std.proofs.Common.{◌∙◌, ap}
use Rattle.mw_logic.specs.Proof.{count}
use Rattle.mw_proof.specs.Counting.{capped}
use Rattle.mw_proof.specs.Deductions.{Deduction}
use Rattle.mw_proof.proofs.Keeping.{counts_kept}
use Rattle.mw_proof.proofs.proved.Proved.count.Goals as goal

pub returns : goal.returns
returns c =
    let p = c.self.inside in
    (counts_kept p.context.now p.rank p.from p.to p.trail p.counts c.self.invariant.0 c.self.invariant.1).0 ∙ ap (λ (d : Deduction). capped (count d.proof)) c.self.view_is
