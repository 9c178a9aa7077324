use Rattle.std.proofs.Common.{IsTrue, sym, subst, ap, ◌∙◌}
use Rattle.mw_logic.specs.Term.{is_ground}
use Rattle.mw_logic.specs.Module.{Module}
use Rattle.mw_proof.specs.Deductions.{Deduction}
use Rattle.mw_prooftext.proofs.AdmittedValues.{ground_term}
use Rattle.mw_prooftext.proofs.Underway.{text_written}
use Rattle.mw_prooftext.proofs.writing.write.Goals as goal

-- both ends are admitted, so they are ground
pub head-requires : goal.head-requires
head-requires c =
    let d : Deduction = c.args.proved.now in
    record { ground = subst (λ t. IsTrue (is_ground t)) (sym c.from.ensures) (ground_term d.over.signature d.from c.shows.ensures.begins) }

pub write_end-requires : goal.write_end-requires
write_end-requires c =
    let d : Deduction = c.args.proved.now in
    record { ground = subst (λ t. IsTrue (is_ground t)) (sym c.to.ensures) (ground_term d.over.signature d.to c.shows.ensures.ends) }

pub returns : goal.returns
returns c =
    text_written c.args.proved.now c.args.version c.args.name.now c.in_ok-text.text.items c.in_ok-text-2.text.items c.write_end.new.text.items c.signature-signature.result.now c.from.result.now c.to.result.now c.shows.ensures
    (c.signature-signature.ensures ∙ ap (λ (m : Module). m.signature) c.context.ensures) c.from.ensures c.to.ensures c.in_ok-text.ensures c.in_ok-text-2.ensures c.in_ok-write_end.ensures
