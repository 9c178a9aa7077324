use Rattle.std.proofs.Common.{Some}
use Rattle.mw_module.specs.Words.{texts}
use Rattle.mw_build.proofs.fragments.term.Goals as goal

pub returns-in_ok-text_fault-in-Err : goal.returns-in_ok-text_fault-in-Err
returns-in_ok-text_fault-in-Err c = λ sig variables grammar.
    c.in_ok-text_fault-in-Err.ensures sig variables (Some c.args.sort) (texts c.args.tokens.now) (c.in-Err.ensures.cause sig variables grammar)
