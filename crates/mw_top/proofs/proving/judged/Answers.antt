use Rattle.std.proofs.Common.{sym, subst}
use Rattle.mw_logic.specs.Module.{Module}
use Rattle.mw_module.specs.Words.{texts}
use Rattle.mw_proofread.specs.Faults.{OutsideAt}
use Rattle.mw_proofread.specs.Outside.{IsOutside}
use Rattle.mw_proofread.specs.Reading.{IsText, entry_items}
use Rattle.mw_check.specs.declared.answer.Cause.TheVariants as cause
use Rattle.mw_check.specs.declared.checking.Verdict.TheVariants.{No}
use Rattle.mw_top.specs.Proofs.{HasAdmittedTerms, IsProofAnswer, formless, checked}
use Rattle.mw_top.proofs.Answering.{if_ok}
use Rattle.mw_top.proofs.Judging.{text_admitted}
use Rattle.mw_top.proofs.EntryNumbers.{verdict_on}
use Rattle.mw_top.proofs.proving.judged.Goals as goal

pub checked-requires-clause-text : goal.checked-requires-clause-text
checked-requires-clause-text c =
    let read = c.in-Ok.ensures.read in
    subst (λ (M : Module). HasAdmittedTerms M.signature c.in-Ok.text) c.context.ensures (text_admitted c.context.result.now (texts c.args.tokens.now) c.in-Ok.text.version c.in-Ok.text read.0 read.1 read.2)

pub returns-in-Ok : goal.returns-in-Ok
returns-in-Ok c ms name named there =
    let read = c.in-Ok.ensures.read in
    let text = c.in-Ok.text in
    let here : IsText c.args.accepted.now.module (texts c.args.tokens.now) text.version text.from read.0 text.to =
    subst (λ (M : Module). IsText M (texts c.args.tokens.now) text.version text.from read.0 text.to) c.context.ensures read.1 in
    let first : IsText c.args.accepted.now.module (texts c.args.tokens.now) 1 text.from read.0 text.to =
    subst (λ k. IsText c.args.accepted.now.module (texts c.args.tokens.now) k text.from read.0 text.to) here.version_is here in
    if_ok c.checked.result (c.checked.ensures (entry_items read.0) read.2)
    (λ v h. checked name c.args.accepted.now text.from text.to read.0 v named there first (verdict_on c.args.accepted.now.module c.args.max text.from text.to read.0 v h))

pub returns-in-Err-Outside : goal.returns-in-Err-Outside
returns-in-Err-Outside c ms name named there =
    let tokens = texts c.args.tokens.now in
    let at = subst (OutsideAt (IsOutside c.context.result.now tokens)) c.in-Err-Outside.field-0-is c.in-Err-Outside.ensures.outside in
    let part = c.in-Err-Outside.step in
    subst (λ j. IsProofAnswer ms c.args.max c.args.tokens.now (No j cause.Text)) (sym c.in-Err-Outside.step-is)
    (formless name c.args.accepted.now part named there (subst (λ (M : Module). IsOutside M tokens part) c.context.ensures at))
