use Rattle.std.proofs.Common.{◌∙◌, ap, sym, subst}
use Rattle.mw_logic.specs.Module.{Module}
use Rattle.mw_logic.specs.Signature.{Signature}
use Rattle.mw_poset.specs.SortOrder.{order_of}
use Rattle.mw_term.specs.Signatures.{sorted_of}
use Rattle.mw_print.specs.Sorts.{IsKindThere}
use Rattle.mw_block.specs.Notes.{noted}
use Rattle.mw_canon.specs.Canonical.{IsAdmittedTerm}
use Rattle.mw_top.proofs.Answering.{kind_of_least, parsed_by, if_ok}
use Rattle.mw_top.proofs.reduction.parsed_term.Goals as goal

pub parsed-requires-clause-order : goal.parsed-requires-clause-order
parsed-requires-clause-order c = c.order.ensures ∙ ap order_of (sym c.signature.ensures)

pub parsed-requires-clause-kind : goal.parsed-requires-clause-kind
parsed-requires-clause-kind c =
    let M = c.context-context.result.now in
    let t = c.args.term.now in
    let S = sorted_of c.least_sort-sort.result in
    let admitted : IsAdmittedTerm M.signature t = subst (λ (N : Module). IsAdmittedTerm N.signature t) (sym c.context-context.ensures) c.requires in
    subst (λ (sig : Signature). IsKindThere sig S) (sym c.signature.ensures)
    (kind_of_least M c.shows.ensures t admitted S (c.least_sort-sort.ensures admitted.canonical admitted.raw))

pub returns : goal.returns
returns c = λ written canonical.
    let M = c.context-context.result.now in
    let t = c.args.term.now in
    let S = sorted_of c.least_sort-sort.result in
    let admitted : IsAdmittedTerm M.signature t = subst (λ (N : Module). IsAdmittedTerm N.signature t) (sym c.context-context.ensures) c.requires in
    if_ok c.noted.result c.noted.ensures
    (λ text told. parsed_by c.args.accepted.now c.args.options.proof M c.context-context.ensures c.signature.result.now c.signature.ensures c.name.result.now c.name.ensures written t canonical S text.items
    (c.least_sort-sort.ensures admitted.canonical admitted.raw) (told ∙ ap (noted c.args.options.proof) c.in_ok-block.ensures))
