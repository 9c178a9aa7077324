use Rattle.std.proofs.Common.{◌≡◌, ◌∙◌, Some, ap, sym, subst}
use Rattle.mw_logic.specs.Signature.{IsRawTerm, at_number}
use Rattle.mw_logic.specs.Module.{Statement}
use Rattle.mw_proof.proofs.replacing.both_instances.Goals as goal

pub admitted-requires-clause-raw : goal.admitted-requires-clause-raw
admitted-requires-clause-raw c =
    let M = c.args.context.now in
    let there : at_number M.statements c.args.number ≡ Some c.in-Some.statement.now = ap (λ sts. at_number sts c.args.number) (sym c.statements.ensures) ∙ sym c.in-Some.ensures in
    subst (IsRawTerm M.signature) (sym (ap (λ (e : Statement). e.left) c.statement.view_is)) (c.shows.ensures.sides c.args.number c.in-Some.statement.now there).left

pub admitted-requires-2-clause-raw : goal.admitted-requires-2-clause-raw
admitted-requires-2-clause-raw c =
    let M = c.args.context.now in
    let there : at_number M.statements c.args.number ≡ Some c.in-Some.statement.now = ap (λ sts. at_number sts c.args.number) (sym c.statements.ensures) ∙ sym c.in-Some.ensures in
    subst (IsRawTerm M.signature) (sym (ap (λ (e : Statement). e.right) c.statement.view_is)) (c.shows.ensures.sides c.args.number c.in-Some.statement.now there).right
