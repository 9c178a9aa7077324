use Rattle.mw_module.specs.Words.{texts}
use Rattle.mw_top.proofs.reduction.command_term.Goals as goal

pub returns-in-Ok : goal.returns-in-Ok
returns-in-Ok c = record { read = c.ground_term.ensures (texts c.args.tokens.now) c.in-Ok.ensures.read }

pub returns-in-Err : goal.returns-in-Err
returns-in-Err c = record { read = c.unread.ensures c.args.accepted.now (texts c.args.tokens.now) c.in-Err.ensures.cause }
