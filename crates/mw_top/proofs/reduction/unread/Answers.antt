use Rattle.std.proofs.Common.{None, subst}
use Rattle.mw_parse.specs.Answers.{HasCause}
use Rattle.mw_top.specs.Commands.{long, unread, unclear}
use Rattle.mw_top.proofs.reduction.unread.Goals as goal

pub returns-in-TooLong : goal.returns-in-TooLong
returns-in-TooLong c = λ a words h. long (subst (HasCause a.module.signature a.variables None words) c.in-TooLong.is h)

pub returns-in-NoParse : goal.returns-in-NoParse
returns-in-NoParse c = λ a words h.
    let k = subst (HasCause a.module.signature a.variables None words) c.in-NoParse.is h in
    unread k.0 k.1

pub returns-in-Ambiguous : goal.returns-in-Ambiguous
returns-in-Ambiguous c = λ a words h.
    let k = subst (HasCause a.module.signature a.variables None words) c.in-Ambiguous.is h in
    unclear k.0 (_, _, k.1)
