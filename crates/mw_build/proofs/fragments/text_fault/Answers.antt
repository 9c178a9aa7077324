use Rattle.std.proofs.Common.{subst}
use Rattle.mw_parse.specs.Answers.{HasCause}
use Rattle.mw_build.specs.Fragments.{long_text, unread_text, unclear_text}
use Rattle.mw_build.proofs.fragments.text_fault.Goals as goal

pub returns-in-TooLong : goal.returns-in-TooLong
returns-in-TooLong c = λ sig variables wanted text h. long_text (subst (HasCause sig variables wanted text) c.in-TooLong.is h)

pub returns-in-NoParse : goal.returns-in-NoParse
returns-in-NoParse c = λ sig variables wanted text h. let cause = subst (HasCause sig variables wanted text) c.in-NoParse.is h in unread_text cause.0 cause.1

pub returns-in-Ambiguous : goal.returns-in-Ambiguous
returns-in-Ambiguous c = λ sig variables wanted text h. let cause = subst (HasCause sig variables wanted text) c.in-Ambiguous.is h in unclear_text cause.0 (_, _, cause.1)
