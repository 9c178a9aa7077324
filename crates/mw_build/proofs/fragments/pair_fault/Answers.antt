use Rattle.std.proofs.Common.{subst}
use Rattle.mw_parse.specs.Answers.{HasPairCause}
use Rattle.mw_build.specs.Fragments.{long_pair, unread_pair, unclear_pair}
use Rattle.mw_build.proofs.fragments.pair_fault.Goals as goal

pub returns-in-TooLong : goal.returns-in-TooLong
returns-in-TooLong c = λ sig variables left right h. long_pair (subst (HasPairCause sig variables left right) c.in-TooLong.is h)

pub returns-in-NoParse : goal.returns-in-NoParse
returns-in-NoParse c = λ sig variables left right h. let cause = subst (HasPairCause sig variables left right) c.in-NoParse.is h in unread_pair cause.0 cause.1 cause.2

pub returns-in-Ambiguous : goal.returns-in-Ambiguous
returns-in-Ambiguous c = λ sig variables left right h. let cause = subst (HasPairCause sig variables left right) c.in-Ambiguous.is h in unclear_pair cause.0 cause.1 (_, _, cause.2)
