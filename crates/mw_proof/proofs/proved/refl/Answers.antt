use Rattle.std.proofs.Common.{sym, subst, arith}
use Rattle.mw_proof.specs.Deductions.{IsKept}
use Rattle.mw_proof.proofs.Keeping.{kept_itself}
use Rattle.mw_proof.proofs.proved.refl.Goals as goal

pub of-requires : goal.of-requires
of-requires c =
    let M = c.args.context.now in
    let t = c.args.term.now in
    let k = c.new.result in
    let h = (kept_itself M 0 t k (omega arith) c.requires (c.new.ensures.moves M)).0 in
    subst (λ u. IsKept M 0 c.in_ok-from.from u k) (sym c.in_ok-to.ensures) (subst (λ s. IsKept M 0 s t k) (sym c.in_ok-from.ensures) h)
