use Rattle.std.proofs.Common.{sym, subst, IfOk}
use Rattle.mw_logic.specs.Module.{Module}
use Rattle.mw_trail.specs.declared.trail.Item.{Item}
use Rattle.mw_trail.specs.Tracks.{move_of}
use Rattle.mw_prooftext.specs.Chains.{Goes, MayMove, moved}
use Rattle.mw_prooftext.proofs.chains.tell_inside.Goals as goal

pub returns-in-Out : goal.returns-in-Out
returns-in-Out c = λ S stands.
    let M : Module = c.args.context.now in
    subst (λ (i : Item). MayMove M (move_of M i c.args.values.now c.args.numbers.now) S → IfOk c.leave.result (Goes M S (moved M (move_of M i c.args.values.now c.args.numbers.now) S) c.args.chain)) (sym c.in-Out.is)
    (λ m. c.leave.ensures M S m.0 m.1 (sym c.facts.ensures) stands m.2)
