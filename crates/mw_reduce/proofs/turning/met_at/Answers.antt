use Rattle.std.proofs.Common.{◌≡◌, ◌∙◌, ℕ, sym, ap, drop}
use Rattle.mw_logic.specs.Term.{RawTerms, apply}
use Rattle.mw_logic.specs.Terms.{terms_of}
use Rattle.mw_builtin.proofs.NoRows.{leaf_has_no_row}
use Rattle.mw_frames.specs.Machines.{data_of}
use Rattle.mw_frames.specs.Steps.{asked_term}
use Rattle.mw_reduce.proofs.Asks.{step_asked, no_operator}
use Rattle.mw_reduce.proofs.turning.met_at.Goals as goal

pub returns-in_ok-met-in-Own : goal.returns-in_ok-met-in-Own
returns-in_ok-met-in-Own c = λ K k run here a.
    let M = c.args.context.now in
    let d = data_of K.over c.args.machine.now in
    let f = c.in-Own.frame in
    let is : asked_term d c.args.asked.now ≡ apply f.op (terms_of c.behind-args.result.now) =
    ap (asked_term d) c.in-Own.is ∙ ap (λ xs. apply f.op (terms_of (drop f.from xs))) (sym c.as_slice.ensures.value) ∙ ap (λ xs. apply f.op (terms_of xs)) (sym c.behind-args.ensures) in
    step_asked K M.signature run M here c.shows.ensures k d c.args.asked.now a c.schemata.result.now c.schemata.ensures c.facts.result.now c.facts.ensures f.op c.behind-args.result.now c.in_ok-met-in-Own.met is c.in_ok-met-in-Own.ensures.normal

pub returns-in_ok-met-in-Op : goal.returns-in_ok-met-in-Op
returns-in_ok-met-in-Op c = λ K k run here a.
    let M = c.args.context.now in
    let d = data_of K.over c.args.machine.now in
    let is : asked_term d c.args.asked.now ≡ apply c.in-Op.operator (terms_of c.in-Op.args.now) = ap (asked_term d) c.in-Term.is ∙ c.in-Op.ensures in
    step_asked K M.signature run M here c.shows.ensures k d c.args.asked.now a c.schemata-in-Op.result.now c.schemata-in-Op.ensures c.facts-in-Op.result.now c.facts-in-Op.ensures c.in-Op.operator c.in-Op.args.now c.in_ok-met-in-Op.met is c.in_ok-met-in-Op.ensures.normal

pub returns-in_default : goal.returns-in_default
returns-in_default c = λ K k run here a.
    let d = data_of K.over c.args.machine.now in
    let leaf : (f : ℕ) (ts : RawTerms) → asked_term d c.args.asked.now ≡ apply f ts → ⊥ = λ f ts e. no_operator c.in-Term.term c.view.result c.view.ensures c.in_default.not-Op f ts (sym (ap (asked_term d) c.in-Term.is) ∙ e) in
    leaf_has_no_row K.over.signature run.accepted (asked_term d c.args.asked.now) leaf
