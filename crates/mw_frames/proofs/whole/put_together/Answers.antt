use Rattle.std.proofs.Common.{rules, ap, ◌≡◌, ◌∙◌, length, min, drop}
use Rattle.mw_logic.specs.NormalForm.{applied_in}
use Rattle.mw_frames.specs.Jobs.{rest}
use Rattle.mw_frames.proofs.LeftOver.{cut_with}
use Rattle.mw_frames.proofs.whole.put_together.Goals as goal

pub returns-clause-term : goal.returns-clause-term
returns-clause-term c =
    let d0 = c.args.machine.now.done.items in
    let at : c.min-at.result ≡ min c.args.frame.from (length d0) = search rules in
    let r = rest c.args.facts.now c.args.machine.now.kept.values (drop c.args.frame.waits c.args.machine.now.jobs.items) in
    let k = cut_with c.args.frame.from c.min-at.result d0 c.push.new.self.items c.args.term r at c.in_ok-push.ensures.items in
    c.in_ok-whole.ensures.term ∙ ap (applied_in c.args.facts.now c.args.frame.op) k.0

pub returns-clause-done : goal.returns-clause-done
returns-clause-done c =
    let d0 = c.args.machine.now.done.items in
    let at : c.min-at.result ≡ min c.args.frame.from (length d0) = search rules in
    let r = rest c.args.facts.now c.args.machine.now.kept.values (drop c.args.frame.waits c.args.machine.now.jobs.items) in
    let k = cut_with c.args.frame.from c.min-at.result d0 c.push.new.self.items c.args.term r at c.in_ok-push.ensures.items in
    c.in_ok-whole.ensures.done ∙ k.1
