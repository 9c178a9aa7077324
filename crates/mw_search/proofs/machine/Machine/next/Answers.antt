use Rattle.std.proofs.Common.{◌≡◌, sym, subst}
use Rattle.mw_logic.specs.Signature.{Signature}
use Rattle.mw_search.specs.Machines.{IsReady, Stepped}
use Rattle.mw_search.specs.declared.machine.Machine.{Machine}
use Rattle.mw_search.specs.declared.positions.Positions.{Positions}
use Rattle.mw_search.proofs.Passing.{by_step, falls}
use Rattle.mw_search.proofs.machine.Machine.next.Goals as goal

-- a step from a state that is the one before
step_on : (sig : Signature) (ps : Positions) (old same new : Machine) → same ≡ old → IsReady sig ps old → (IsReady sig ps same → Stepped sig ps same new) → Stepped sig ps old new
step_on sig ps old same new e r s = subst (λ m. Stepped sig ps m new) e (s (subst (IsReady sig ps) (sym e) r))

-- and one in a signature that is the same
step_in : (sig other : Signature) (ps : Positions) (old new : Machine) → other ≡ sig → IsReady sig ps old → (IsReady other ps old → Stepped other ps old new) → Stepped sig ps old new
step_in sig other ps old new e r s = subst (λ (x : Signature). Stepped x ps old new) e (s (subst (λ (x : Signature). IsReady x ps old) (sym e) r))

pub loop-self-preserved-in-Continue-branch-2 : goal.loop-self-preserved-in-Continue-branch-2
loop-self-preserved-in-Continue-branch-2 c =
    by_step c.args.context.now.signature c.args.positions.now c.args.self.now c.loop-self.self c.meet.new.self c.loop-self.invariant c.in_ok-meet.ensures.ok

pub loop-self-preserved-in-Continue-branch-3 : goal.loop-self-preserved-in-Continue-branch-3
loop-self-preserved-in-Continue-branch-3 c =
    let sig = c.args.context.now.signature in
    let ps = c.args.positions.now in
    by_step sig ps c.args.self.now c.loop-self.self c.turn.new.self c.loop-self.invariant
    (step_on sig ps c.loop-self.self c.pass_over.new.self c.turn.new.self (c.pass_over.ensures.stays c.if-not-pass_over.true) c.loop-self.invariant.ready (c.in_ok-turn.ensures.ok sig ps))

pub loop-self-smaller-in-Continue-branch-3 : goal.loop-self-smaller-in-Continue-branch-3
loop-self-smaller-in-Continue-branch-3 c =
    let sig = c.args.context.now.signature in
    let ps = c.args.positions.now in
    falls sig ps c.loop-self.self c.turn.new.self
    (step_on sig ps c.loop-self.self c.pass_over.new.self c.turn.new.self (c.pass_over.ensures.stays c.if-not-pass_over.true) c.loop-self.invariant.ready (c.in_ok-turn.ensures.ok sig ps))

pub loop-self-preserved : goal.loop-self-preserved
loop-self-preserved c =
    let sig = c.args.context.now.signature in
    let ps = c.args.positions.now in
    by_step sig ps c.args.self.now c.loop-self.self c.pass_over.new.self c.loop-self.invariant
    (step_in sig c.facts.result.now ps c.loop-self.self c.pass_over.new.self c.facts.ensures c.loop-self.invariant.ready (c.pass_over.ensures.passed c.if-not-pass_over.false))

pub loop-self-smaller : goal.loop-self-smaller
loop-self-smaller c =
    let sig = c.args.context.now.signature in
    let ps = c.args.positions.now in
    falls sig ps c.loop-self.self c.pass_over.new.self
    (step_in sig c.facts.result.now ps c.loop-self.self c.pass_over.new.self c.facts.ensures c.loop-self.invariant.ready (c.pass_over.ensures.passed c.if-not-pass_over.false))
