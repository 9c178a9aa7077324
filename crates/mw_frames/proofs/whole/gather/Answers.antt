use Rattle.std.proofs.Common.{ap, ◌∙◌, drop}
use Rattle.mw_logic.specs.NormalForm.{applied_in}
use Rattle.mw_frames.specs.Jobs.{rest}
use Rattle.mw_frames.proofs.LeftOver.{taken_out}
use Rattle.mw_frames.proofs.whole.gather.Goals as goal

pub returns-clause-term : goal.returns-clause-term
returns-clause-term c =
    let (ws, d, e) = c.in_ok-put_rest.ensures.done in
    let r = e ∙ ap (λ vs. rest c.args.facts.now vs (drop c.args.waits c.args.machine.now.jobs.items)) c.values.ensures in
    let k = taken_out c.args.at c.args.machine.now.done.items c.put_rest.new.done.items ws c.in_ok-args.args.items _ c.requires d r c.in_ok-args.ensures.tail in
    c.in_ok-whole.ensures ∙ ap (applied_in c.args.facts.now c.args.operator) k.0

pub returns-clause-done : goal.returns-clause-done
returns-clause-done c =
    let (ws, d, e) = c.in_ok-put_rest.ensures.done in
    let k = taken_out c.args.at c.args.machine.now.done.items c.put_rest.new.done.items ws c.in_ok-args.args.items _ c.requires d e c.in_ok-args.ensures.tail in
    c.in_ok-args.ensures.items ∙ k.1
