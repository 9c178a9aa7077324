use Rattle.std.proofs.Common.{◌≡◌, ◌∙◌, ◌-◌, length, get_or, ap, arith, subst}
use Rattle.mw_logic.specs.Signature.{Signature}
use Rattle.mw_matching.specs.Found.{Values}
use Rattle.mw_search.specs.Goals.{Serves}
use Rattle.mw_search.specs.declared.machine.Machine.{Machine}
use Rattle.mw_search.proofs.Steps.{met}
use Rattle.mw_search.proofs.machine.Machine.meet.Goals as goal

pub returns-clause-ok : goal.returns-clause-ok
returns-clause-ok c =
    let old : Machine = c.args.self.now in
    let sig = c.args.context.now.signature in
    let ps = c.args.positions.now in
    let g = c.index-goal.result.now in
    let at : g ≡ get_or old.goals.items (length old.goals.items - 1) g = c.index-goal.ensures ∙ ap (λ n. get_or old.goals.items n g) (omega arith) in
    let is : Serves sig ps.single.items g old.values.items c.in_ok-became.became =
    subst (λ (s : Signature). Serves s ps.single.items g old.values.items c.in_ok-became.became) c.facts.ensures
    (subst (λ (vs : Values). Serves c.facts.result.now ps.single.items g vs c.in_ok-became.became) c.as_slice.ensures.value c.in_ok-became.ensures) in
    met sig ps old c.apply.new.self c.in_ok-became.became g c.requires.running c.requires.some at is c.in_ok-apply.ensures.ok
