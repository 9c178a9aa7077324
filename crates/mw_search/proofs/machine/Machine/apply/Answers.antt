use Rattle.std.proofs.Common.{◌≡◌, ◌∙◌, ◌-◌, List, [], ◌∷◌, ◌++◌, length, set, ap, refl, arith, sym, subst}
use Rattle.std.specs.Vec.{with_item}
use Rattle.mw_search.specs.Machines.{Applied}
use Rattle.mw_search.specs.declared.goals.Goal.{Goal}
use Rattle.mw_search.specs.declared.goals.Goal.TheVariants.{Meet}
use Rattle.mw_search.specs.declared.machine.Machine.{Machine}
use Rattle.mw_search.proofs.Steps.{became, first}
use Rattle.mw_search.proofs.machine.Machine.apply.Goals as goal

pub returns-in-Becomes-clause-ok : goal.returns-in-Becomes-clause-ok
returns-in-Becomes-clause-ok c =
    let sig = c.args.context.now.signature in
    let ps = c.args.positions.now in
    let old : Machine = c.args.self.now in
    let new : Machine = record { given = old.given; running = old.running; goals = with_item old.goals (c.len-last.result - 1) c.in-Becomes.goal; values = old.values; stack = old.stack } in
    let at : c.len-last.result - 1 ≡ length old.goals.items - 1 = omega arith in
    subst (λ o. Applied sig ps o old new) (sym c.in-Becomes.is)
    (became sig ps old new c.in-Becomes.goal c.requires.ready refl c.requires.running c.requires.some refl refl refl (ap (λ n. set old.goals.items n c.in-Becomes.goal) at))

pub returns-in_ok-push-in-First-clause-ok : goal.returns-in_ok-push-in-First-clause-ok
returns-in_ok-push-in-First-clause-ok c =
    let sig = c.args.context.now.signature in
    let ps = c.args.positions.now in
    let old : Machine = c.args.self.now in
    let new : Machine = record { given = old.given; running = old.running; goals = with_item c.push.new.self (c.len-last.result - 1) c.in-First.goal; values = old.values; stack = old.stack } in
    let at : c.len-last.result - 1 ≡ length old.goals.items - 1 = omega arith in
    let more : List Goal = old.goals.items ++ Meet c.in-First.pattern c.in-First.term ∷ [] in
    let items : c.push.new.self.items ≡ more = c.in_ok-push-in-First.ensures.items in
    subst (λ o. Applied sig ps o old new) (sym c.in-First.is)
    (first sig ps old new c.in-First.pattern c.in-First.term c.in-First.goal c.requires.ready refl c.requires.running c.requires.some refl refl refl
    (ap (λ gs. set gs (c.len-last.result - 1) c.in-First.goal) items ∙ ap (λ n. set more n c.in-First.goal) at))

pub returns-in_ok-open-in-Opens-clause-ok : goal.returns-in_ok-open-in-Opens-clause-ok
returns-in_ok-open-in-Opens-clause-ok c =
    let sig = c.args.context.now.signature in
    let ps = c.args.positions.now in
    subst (λ o. Applied sig ps o c.args.self.now c.open.new.self) (sym c.in-Opens.is) (c.in_ok-open-in-Opens.ensures.ok sig ps c.requires.ready)
