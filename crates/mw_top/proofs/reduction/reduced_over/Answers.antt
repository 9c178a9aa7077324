use Rattle.std.proofs.Common.{refl, subst, sym}
use Rattle.mw_logic.specs.Module.{Module}
use Rattle.mw_canon.specs.Canonical.{IsAdmittedTerm}
use Rattle.mw_index.specs.Index.{IsIndexOf}
use Rattle.mw_reduce.specs.Reductions.{IsReductionOf}
use Rattle.mw_top.proofs.Answering.{reduced_by, if_ok}
use Rattle.mw_top.proofs.reduction.reduced_over.Goals as goal

pub reduce-requires-clause-admitted : goal.reduce-requires-clause-admitted
reduce-requires-clause-admitted c = subst (λ (M : Module). IsAdmittedTerm M.signature c.args.term) (sym c.context-context.ensures) c.requires.admitted

pub reduce-requires-clause-index : goal.reduce-requires-clause-index
reduce-requires-clause-index c = subst (λ (M : Module). IsIndexOf M c.args.index.now) (sym c.context-context.ensures) c.requires.index

pub told-requires : goal.told-requires
told-requires c =
    let over = subst (λ (M : Module). IsAdmittedTerm M.signature c.in_ok-proved.proved.to) c.in_ok-proved.ensures.over c.shows.ensures.ends in
    subst (λ (M : Module). IsAdmittedTerm M.signature c.in_ok-proved.proved.to) c.context-context.ensures over

pub returns : goal.returns
returns c = λ written canonical.
    let reduction = subst (λ M. IsReductionOf M c.args.term (record { steps = c.args.options.max; side = c.args.options.max; nest = 63 }) c.in_ok-proved.proved c.in_ok-proved.outcome) c.context-context.ensures c.in_ok-proved.ensures in
    if_ok c.told.result c.told.ensures
    (λ text told. let (S, least, proof, proof_is, is) = told in reduced_by c.args.accepted.now c.args.options written c.args.term (record { steps = c.args.options.max; side = c.args.options.max; nest = 63 }) c.in_ok-proved.proved c.in_ok-proved.outcome text.items canonical refl reduction c.shows.ensures S least _ c.status_of-status.ensures proof proof_is is)
