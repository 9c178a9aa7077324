use Rattle.std.proofs.Common.{◌≡◌, ap, subst, sym}
use Rattle.mw_logic.specs.Signature.{Signature, SameKind}
use Rattle.mw_logic.specs.Accepted.{number_of_sort}
use Rattle.mw_logic.specs.Preregular.{IsSortOf}
use Rattle.mw_poset.specs.SortOrder.{SortOrder}
use Rattle.mw_poset.specs.Order.{IsSort}
use Rattle.mw_term.specs.Signatures.{sorted_of}
use Rattle.mw_term.specs.declared.signature.Sorted.{Sorted}
use Rattle.mw_sorts.specs.Sorting.{Sorting}
use Rattle.mw_sorts.proofs.Connected.{there-with}
use Rattle.mw_sorts.proofs.sorting.Sorting.is_below.Goals as goal

pub le-requires-clause-lower_is_there : goal.le-requires-clause-lower_is_there
le-requires-clause-lower_is_there c =
    let sig : Signature = c.self.inside.signature.now in
    let is : sig ≡ c.args.self.now.signature = ap (λ (s : Sorting). s.signature) c.self.view_is in
    let same : SameKind c.args.self.now.signature c.in-Sort-Sort.lower c.in-Sort-Sort.upper =
    subst (λ (T : Sorted). SameKind c.args.self.now.signature c.in-Sort-Sort.lower (number_of_sort (sorted_of T))) c.in-Sort-Sort.is-1
    (subst (λ (S : Sorted). SameKind c.args.self.now.signature (number_of_sort (sorted_of S)) (number_of_sort (sorted_of c.args.upper))) c.in-Sort-Sort.is-0 c.requires.kind) in
    let upper : IsSortOf c.args.self.now.signature c.in-Sort-Sort.upper = subst (λ (T : Sorted). IsSortOf c.args.self.now.signature (number_of_sort (sorted_of T))) c.in-Sort-Sort.is-1 c.requires.upper_is_there in
    let lower : IsSortOf sig c.in-Sort-Sort.lower =
    there-with sig c.self.invariant.sorts c.in-Sort-Sort.lower c.in-Sort-Sort.upper (subst (λ (g : Signature). SameKind g c.in-Sort-Sort.lower c.in-Sort-Sort.upper) (sym is) same)
    (subst (λ (g : Signature). IsSortOf g c.in-Sort-Sort.upper) (sym is) upper) in
    subst (λ (order : SortOrder). IsSort order.sorts c.in-Sort-Sort.lower) (sym c.self.invariant.in_order) lower
