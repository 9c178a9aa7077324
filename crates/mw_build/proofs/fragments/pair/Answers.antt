use Rattle.mw_module.specs.Words.{texts}
use Rattle.mw_build.proofs.fragments.pair.Goals as goal

pub returns-in_ok-pair_fault-in-Err : goal.returns-in_ok-pair_fault-in-Err
returns-in_ok-pair_fault-in-Err c = λ sig variables grammar.
    c.in_ok-pair_fault-in-Err.ensures sig variables (texts c.args.left.now) (texts c.args.right.now) (c.in-Err.ensures.cause sig variables grammar)
