use Rattle.std.proofs.Common.{◌∙◌, ap, sym, take}
use Rattle.mw_logic.specs.Term.{join}
use Rattle.mw_logic.specs.NormalForm.{elements, flattened, identity_of}
use Rattle.mw_proof.specs.Beside.{starts}
use Rattle.mw_proof.proofs.Between.{starts_more}
use Rattle.mw_proof.proofs.besides.elements_of.Goals as goal

pub loop-piece-preserved : goal.loop-piece-preserved
loop-piece-preserved c =
    let e = identity_of c.args.facts.now c.args.operator in
    let f = c.args.operator in
    let i = c.loop-piece.piece-index in
    let so_far = flattened e f (starts (take i c.args.pieces.now)) in
    c.in_ok-push_elements.ensures ∙ ap (λ ts. join ts (elements e f c.start.result.now)) c.loop-piece.invariant ∙ ap (λ t. join so_far (elements e f t)) c.start.ensures
    ∙ sym (starts_more e f c.args.pieces.now i c.piece-item.result c.loop-piece-test.true c.piece-item.is)
