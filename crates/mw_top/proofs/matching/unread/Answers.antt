use Rattle.std.proofs.Common.{subst}
use Rattle.mw_parse.specs.Answers.{HasPairCause}
use Rattle.mw_top.specs.Matches.{long, unread, unclear}
use Rattle.mw_top.proofs.matching.unread.Goals as goal

pub returns-in-TooLong : goal.returns-in-TooLong
returns-in-TooLong c = λ a left right h. long (subst (HasPairCause a.module.signature a.variables left right) c.in-TooLong.is h)

pub returns-in-NoParse : goal.returns-in-NoParse
returns-in-NoParse c = λ a left right h.
    let (f, g, none) = subst (HasPairCause a.module.signature a.variables left right) c.in-NoParse.is h in
    unread f g none

pub returns-in-Ambiguous : goal.returns-in-Ambiguous
returns-in-Ambiguous c = λ a left right h.
    let (f, g, both) = subst (HasPairCause a.module.signature a.variables left right) c.in-Ambiguous.is h in
    unclear f g (_, _, both)
