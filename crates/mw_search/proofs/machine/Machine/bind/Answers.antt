use Rattle.std.proofs.Common.{◌≡◌, ◌∙◌, ◌-◌, false, length, take, ap, refl, arith, subst}
use Rattle.std.specs.Prelude.{MatchBool}
use Rattle.mw_search.specs.Lacking.{HasItsSort, LacksItsSort}
use Rattle.mw_search.specs.declared.machine.Machine.{Machine}
use Rattle.mw_search.proofs.Steps.{bound, unbound}
use Rattle.mw_search.proofs.machine.Machine.bind.Goals as goal

pub returns-then-lacks-clause-ok : goal.returns-then-lacks-clause-ok
returns-then-lacks-clause-ok c =
    let sig = c.args.context.now.signature in
    let ps = c.args.positions.now in
    let old : Machine = c.args.self.now in
    let new : Machine = record { given = old.given; running = false; goals = old.goals; values = old.values; stack = old.stack } in
    let here : c.len.result ≡ length old.values.items = omega arith in
    let lacks : LacksItsSort sig ps.sorts c.len.result c.args.value = subst (λ b. MatchBool b (LacksItsSort sig ps.sorts c.len.result c.args.value) (HasItsSort sig ps.sorts c.len.result c.args.value)) c.if-lacks.true c.lacks.ensures in
    unbound sig ps old new c.args.value c.requires.ready refl (subst (λ n. LacksItsSort sig ps.sorts n c.args.value) here lacks) refl refl refl

pub returns-clause-ok : goal.returns-clause-ok
returns-clause-ok c =
    let sig = c.args.context.now.signature in
    let ps = c.args.positions.now in
    let old : Machine = c.args.self.now in
    let new : Machine = record { given = old.given; running = old.running; goals = c.pop.new.self; values = c.push.new.self; stack = old.stack } in
    let here : c.len.result ≡ length old.values.items = omega arith in
    let has : HasItsSort sig ps.sorts c.len.result c.args.value = subst (λ b. MatchBool b (LacksItsSort sig ps.sorts c.len.result c.args.value) (HasItsSort sig ps.sorts c.len.result c.args.value)) c.if-lacks.false c.lacks.ensures in
    let goals : c.pop.new.self.items ≡ take (length old.goals.items - 1) old.goals.items = c.pop.ensures.rest ∙ ap (λ n. take n old.goals.items) (omega arith) in
    bound sig ps old new c.args.value c.requires.ready refl (subst (λ n. HasItsSort sig ps.sorts n c.args.value) here has) c.requires.running refl goals c.in_ok-push.ensures.items refl
