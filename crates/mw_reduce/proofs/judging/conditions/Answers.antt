use Rattle.std.proofs.Common.{arith, ◌≡◌, ◌≤◌, ◌-◌, ◌∙◌, ℕ, suc, List, map, ap, subst, sym, refl}
use Rattle.std.specs.List.{zip}
use Rattle.mw_logic.specs.Term.{RawTerm}
use Rattle.mw_logic.specs.Module.{Module}
use Rattle.mw_logic.specs.Substitution.{Substitution}
use Rattle.mw_position.specs.Variables.{bound_values}
use Rattle.mw_index.specs.declared.conditions.Condition.{Condition}
use Rattle.mw_reduce.specs.Evaluations.{deduction_of}
use Rattle.mw_reduce.specs.Judgements.{IsHeldWith, IsUntold}
use Rattle.mw_reduce.specs.declared.sides.Reduced.{Reduced}
use Rattle.mw_reduce.proofs.Judgements.{asked_bound, holds_at_once, holds_so, fails_so, failure, stops_so}
use Rattle.mw_reduce.proofs.Tests.{none_there}
use Rattle.mw_reduce.proofs.judging.conditions.Goals as goal

pub returns-then-is_empty : goal.returns-then-is_empty
returns-then-is_empty c = λ e h.
    let M : Module = c.args.context.now in
    let s : Substitution = c.args.given in
    let none = none_there c.args.condition.now.tests c.as_slice.result.now c.is_empty.result c.as_slice.ensures c.is_empty.ensures c.if-is_empty.true in
    subst (IsHeldWith M c.args.budget.nest e s s) (sym c.new.ensures.items) (holds_at_once M c.shows.ensures c.args.number c.args.condition.now s e h (bound_values s) refl c.args.budget.nest none)

pub all_proved-requires-clause-kept : goal.all_proved-requires-clause-kept
all_proved-requires-clause-kept c =
    let (e, h) = c.requires.asked in
    let M : Module = c.args.context.now in
    let n : ℕ = c.args.budget.nest - 1 in
    let nest : c.args.budget.nest ≡ suc n = let z = c.if-budget-eq0.false in omega (arith, z) in
    let held = rw c.in-Held.is at (c.in_ok-sides.ensures n c.args.number e nest h.is_there h.condition
    (asked_bound M c.shows.ensures c.args.number c.args.condition.now c.args.given e h c.in_ok-values.values.items c.in_ok-values.ensures)) in
    held.shown.kept

pub returns-in-Held : goal.returns-in-Held
returns-in-Held c = λ e h.
    let M : Module = c.args.context.now in
    let s : Substitution = c.args.given in
    let q : Condition = c.args.condition.now in
    let us : List RawTerm = c.in_ok-values.values.items in
    let vs : List RawTerm = c.put_in_order.new.values.items in
    let sides : List Reduced = c.in-Held.sides.items in
    let n : ℕ = c.args.budget.nest - 1 in
    let nest : c.args.budget.nest ≡ suc n = let z = c.if-budget-eq0.false in omega (arith, z) in
    let held = rw c.in-Held.is at (c.in_ok-sides.ensures n c.args.number e nest h.is_there h.condition (asked_bound M c.shows.ensures c.args.number q s e h us c.in_ok-values.ensures)) in
    let named : c.in_ok-reached-in-Held.reached ≡ zip e.variables vs = c.in_ok-reached-in-Held.ensures e h.is_there ∙ ap (λ ws. zip e.variables ws) c.as_slice-in-Held.ensures.value in
    let so : IsHeldWith M (suc n) e s (zip e.variables vs) (map (deduction_of M n) sides) =
    holds_so M c.shows.ensures c.args.number q s e h us c.in_ok-values.ensures n c.evaluate.new.values.items vs sides held c.in_ok-put_in_order-in-Held.ensures in
    subst (λ k. IsHeldWith M k e s c.in_ok-reached-in-Held.reached c.in_ok-proofs-in-Held.proofs.items) (sym nest)
    (subst (λ r. IsHeldWith M (suc n) e s r c.in_ok-proofs-in-Held.proofs.items) (sym named)
    (subst (IsHeldWith M (suc n) e s (zip e.variables vs)) (sym c.in_ok-proofs-in-Held.ensures) so))

pub of-requires : goal.of-requires
of-requires c =
    let (e, h) = c.requires.asked in
    let M : Module = c.args.context.now in
    let us : List RawTerm = c.in_ok-values.values.items in
    let n : ℕ = c.args.budget.nest - 1 in
    let nest : c.args.budget.nest ≡ suc n = let z = c.if-budget-eq0.false in omega (arith, z) in
    let low : suc n ≤ 63 = let z = c.requires.nest in omega (arith, z, nest) in
    let failed = rw c.in-Failed.is at (c.in_ok-sides.ensures n c.args.number e nest h.is_there h.condition (asked_bound M c.shows.ensures c.args.number c.args.condition.now c.args.given e h us c.in_ok-values.ensures)) in
    failure M c.shows.ensures c.args.number c.args.condition.now c.args.given e h us c.in_ok-values.ensures n low failed

pub returns-in-Failed : goal.returns-in-Failed
returns-in-Failed c = λ e h.
    let M : Module = c.args.context.now in
    let us : List RawTerm = c.in_ok-values.values.items in
    let n : ℕ = c.args.budget.nest - 1 in
    let nest : c.args.budget.nest ≡ suc n = let z = c.if-budget-eq0.false in omega (arith, z) in
    let failed = rw c.in-Failed.is at (c.in_ok-sides.ensures n c.args.number e nest h.is_there h.condition (asked_bound M c.shows.ensures c.args.number c.args.condition.now c.args.given e h us c.in_ok-values.ensures)) in
    (c.of.ensures, fails_so M c.shows.ensures c.args.number c.args.condition.now c.args.given e h us c.in_ok-values.ensures n failed c.args.budget.nest (omega (arith, nest)))

pub returns : goal.returns
returns c = λ e h.
    let M : Module = c.args.context.now in
    let us : List RawTerm = c.in_ok-values.values.items in
    let n : ℕ = c.args.budget.nest - 1 in
    let nest : c.args.budget.nest ≡ suc n = let z = c.if-budget-eq0.false in omega (arith, z) in
    let stopped = rw c.in-Stopped.is at (c.in_ok-sides.ensures n c.args.number e nest h.is_there h.condition (asked_bound M c.shows.ensures c.args.number c.args.condition.now c.args.given e h us c.in_ok-values.ensures)) in
    subst (λ k. IsUntold M k c.args.budget.side e c.args.given c.in-Stopped.reason) (sym nest) (stops_so M c.shows.ensures c.args.number c.args.condition.now c.args.given e h us c.in_ok-values.ensures n c.args.budget.side c.in-Stopped.reason stopped)
