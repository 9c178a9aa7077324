use Rattle.std.proofs.Common.{refl, subst, true}
use Rattle.std.proofs.lemmas.Result.{IfOk-weaker}
use Rattle.mw_logic.specs.Module.{Module}
use Rattle.mw_logic.specs.Parts.{nested}
use Rattle.mw_frames.specs.Fires.{WouldBeTooDeep, WouldBeTooLarge}
use Rattle.mw_rule.proofs.Applicable.{K, small_at, admitted_at, left_at, fires_along, run_there, ends_at_first, step_made, step_deep, step_large}
use Rattle.mw_rule.proofs.one_step.apply.Goals as goal

pub replaced-requires-clause-small : goal.replaced-requires-clause-small
replaced-requires-clause-small c =
    small_at c.args.context.now c.shows.ensures c.args.term.now c.args.path c.args.choice c.args.sides.items c.requires c.facts-facts.result.now c.facts-facts.ensures c.as_slice.result.now c.as_slice.ensures.value

pub replaced-requires-clause-instance : goal.replaced-requires-clause-instance
replaced-requires-clause-instance c =
    admitted_at c.args.context.now c.shows.ensures c.args.term.now c.args.path c.args.choice c.args.sides.items c.requires c.facts-facts.result.now c.facts-facts.ensures c.as_slice.result.now c.as_slice.ensures.value

pub made-requires-clause-holds : goal.made-requires-clause-holds
made-requires-clause-holds c =
    let M : Module = c.args.context.now in
    let t = c.args.term.now in
    let q = c.args.choice in
    let sides = c.args.sides.items in
    let made = fires_along M c.shows.ensures t c.args.path q sides c.requires c.as_slice-2.result.now c.as_slice-2.ensures c.in_ok-spots.spots.items c.in_ok-spots.ensures c.as_slice-4.result.now c.as_slice-4.ensures.value c.as_slice-3.result.now c.as_slice-3.ensures in
    let fired = c.in_ok-hand.ensures (K M c.shows.ensures t c.args.path q sides c.requires) 0 t (run_there M c.shows.ensures t c.args.path q sides c.requires) refl (ends_at_first M c.shows.ensures t c.args.path q sides c.requires c.new-machine.result c.new-machine.ensures) made in
    (rw c.in-Goes.is at fired).0

pub returns-in-Goes : goal.returns-in-Goes
returns-in-Goes c =
    let M : Module = c.args.context.now in
    let left = left_at M c.shows.ensures c.args.term.now c.args.path c.args.choice c.args.sides.items c.requires c.facts-facts.result.now c.facts-facts.ensures c.as_slice.result.now c.as_slice.ensures.value c.in_ok-whole.whole c.in_ok-whole.ensures in
    IfOk-weaker c.made.result _ _ (λ s step. step_made M c.shows.ensures c.args.term.now c.args.path c.args.choice c.args.sides.items c.requires c.in_ok-whole.whole left s step) c.made.ensures

pub returns-in-TooDeep : goal.returns-in-TooDeep
returns-in-TooDeep c =
    let M : Module = c.args.context.now in
    let t = c.args.term.now in
    let q = c.args.choice in
    let sides = c.args.sides.items in
    let made = fires_along M c.shows.ensures t c.args.path q sides c.requires c.as_slice-2.result.now c.as_slice-2.ensures c.in_ok-spots.spots.items c.in_ok-spots.ensures c.as_slice-4.result.now c.as_slice-4.ensures.value c.as_slice-3.result.now c.as_slice-3.ensures in
    let fired = c.in_ok-hand.ensures (K M c.shows.ensures t c.args.path q sides c.requires) 0 t (run_there M c.shows.ensures t c.args.path q sides c.requires) refl (ends_at_first M c.shows.ensures t c.args.path q sides c.requires c.new-machine.result c.new-machine.ensures) made in
    let z = rw c.in-TooDeep.is at fired in
    let deep = subst (λ v. WouldBeTooDeep M 63 true (nested M.signature v)) z.1 z.0.1 in
    let left = left_at M c.shows.ensures t c.args.path q sides c.requires c.facts-facts.result.now c.facts-facts.ensures c.as_slice.result.now c.as_slice.ensures.value c.in_ok-whole.whole c.in_ok-whole.ensures in
    IfOk-weaker c.refused.result _ _ (λ s step. step_deep M c.shows.ensures t c.args.path q sides c.requires c.in_ok-whole.whole left deep s step) c.refused.ensures

pub returns : goal.returns
returns c =
    let M : Module = c.args.context.now in
    let t = c.args.term.now in
    let q = c.args.choice in
    let sides = c.args.sides.items in
    let made = fires_along M c.shows.ensures t c.args.path q sides c.requires c.as_slice-2.result.now c.as_slice-2.ensures c.in_ok-spots.spots.items c.in_ok-spots.ensures c.as_slice-4.result.now c.as_slice-4.ensures.value c.as_slice-3.result.now c.as_slice-3.ensures in
    let fired = c.in_ok-hand.ensures (K M c.shows.ensures t c.args.path q sides c.requires) 0 t (run_there M c.shows.ensures t c.args.path q sides c.requires) refl (ends_at_first M c.shows.ensures t c.args.path q sides c.requires c.new-machine.result c.new-machine.ensures) made in
    let z = rw c.in-TooLarge.is at fired in
    let large = subst (λ v. WouldBeTooLarge M 63 true (nested M.signature v)) z.1 z.0.1 in
    let left = left_at M c.shows.ensures t c.args.path q sides c.requires c.facts-facts.result.now c.facts-facts.ensures c.as_slice.result.now c.as_slice.ensures.value c.in_ok-whole.whole c.in_ok-whole.ensures in
    IfOk-weaker c.refused-in-TooLarge.result _ _ (λ s step. step_large M c.shows.ensures t c.args.path q sides c.requires c.in_ok-whole.whole left large s step) c.refused-in-TooLarge.ensures
