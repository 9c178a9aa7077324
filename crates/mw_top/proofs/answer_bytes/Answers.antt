use Rattle.std.proofs.Common.{subst, false, true}
use Rattle.mw_lex.specs.Lexing.{HasCause}
use Rattle.mw_top.specs.Preludes.{source_tokens}
use Rattle.mw_top.proofs.Bytes.{done_output, cut_output, begun_output, refused_output, refused_cut, nothing_begun, keeps_same}
use Rattle.mw_top.proofs.answer_bytes.Goals as goal

pub returns-in-Ok-clause-answered : goal.returns-in-Ok-clause-answered
returns-in-Ok-clause-answered g c = λ s. done_output c.args.purpose c.args.bytes.now _ _ _ false c.in-Ok.ensures.ok (rw c.as_slice.ensures.value at (c.answer_units.ensures.answered s))

pub returns-in-Ok-clause-refused : goal.returns-in-Ok-clause-refused
returns-in-Ok-clause-refused g c = λ s. done_output c.args.purpose c.args.bytes.now _ _ _ true c.in-Ok.ensures.ok (rw c.as_slice.ensures.value at (c.answer_units.ensures.refused s))

pub returns-in-Ok-clause-cut : goal.returns-in-Ok-clause-cut
returns-in-Ok-clause-cut g c = λ s. cut_output c.args.purpose c.args.bytes.now _ _ _ c.in-Ok.ensures.ok (rw c.as_slice.ensures.value at (c.answer_units.ensures.cut s))

pub returns-in-Ok-clause-memory : goal.returns-in-Ok-clause-memory
returns-in-Ok-clause-memory g c = λ s. begun_output c.args.purpose c.args.bytes.now _ _ _ c.in-Ok.ensures.ok (rw c.as_slice.ensures.value at (c.answer_units.ensures.memory s))

pub returns-in-Err-Fault-clause-refused : goal.returns-in-Err-Fault-clause-refused
returns-in-Err-Fault-clause-refused g c = λ s.
    refused_output c.args.purpose c.args.bytes.now _ _ c.in-Err-Fault.fault (subst (λ e. HasCause e (source_tokens c.args.bytes.now)) c.in-Err-Fault.field-0-is c.in-Err-Fault.ensures.fault) (c.refuse_whole.ensures.whole s)

pub returns-in-Err-Fault-clause-cut : goal.returns-in-Err-Fault-clause-cut
returns-in-Err-Fault-clause-cut g c = λ s.
    refused_cut c.args.purpose c.args.bytes.now _ _ c.in-Err-Fault.fault (subst (λ e. HasCause e (source_tokens c.args.bytes.now)) c.in-Err-Fault.field-0-is c.in-Err-Fault.ensures.fault) (c.refuse_whole.ensures.part s)

pub returns-in-Err-Fault-clause-memory : goal.returns-in-Err-Fault-clause-memory
returns-in-Err-Fault-clause-memory g c = λ s. nothing_begun c.args.purpose c.args.bytes.now _ _ (c.refuse_whole.ensures.memory s)

pub returns-in-Err-Memory-clause-memory : goal.returns-in-Err-Memory-clause-memory
returns-in-Err-Memory-clause-memory g c = λ s. nothing_begun c.args.purpose c.args.bytes.now _ _ (keeps_same _)
