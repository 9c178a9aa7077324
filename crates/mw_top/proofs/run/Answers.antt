use Rattle.std.proofs.Common.{subst}
use Rattle.mw_words.specs.Asked.{texts, Asks}
use Rattle.mw_top.proofs.Asking.{most_allowed}
use Rattle.mw_top.proofs.run.Goals as goal

pub returns-in-Ok-Run : goal.returns-in-Ok-Run
returns-in-Ok-Run g c = c.answer_source.ensures (texts c.args.words.now) (subst (Asks (texts c.args.words.now)) c.in-Ok-Run.field-0-is c.in-Ok-Run.ensures.asked)

pub answer_source-requires-in-Ok-Check : goal.answer_source-requires-in-Ok-Check
answer_source-requires-in-Ok-Check g c = most_allowed (texts c.args.words.now) c.in-Ok-Check.max (subst (Asks (texts c.args.words.now)) c.in-Ok-Check.field-0-is c.in-Ok-Check.ensures.asked)

pub returns-in-Ok-Check : goal.returns-in-Ok-Check
returns-in-Ok-Check g c = c.answer_source-in-Ok-Check.ensures (texts c.args.words.now) (subst (Asks (texts c.args.words.now)) c.in-Ok-Check.field-0-is c.in-Ok-Check.ensures.asked)
