use Rattle.std.proofs.Common.{◌≡◌, ◌∙◌, ◌-◌, ◌++◌, ◌∷◌, ℕ, List, [], map, ap, subst, sym, arith, refl}
use Rattle.std.specs.Global.{Vec}
use Rattle.std.proofs.lemmas.List.{take_all, map-append}
use Rattle.mw_logic.specs.Signature.{Signature, sort, kind}
use Rattle.mw_logic.specs.Signature as logic
use Rattle.mw_logic.specs.Preregular.{IsSortOf}
use Rattle.mw_poset.specs.SortOrder.{SortOrder}
use Rattle.mw_poset.specs.Order.{IsKindOf}
use Rattle.mw_term.specs.Signatures.{sorted_of}
use Rattle.mw_term.specs.declared.signature.Sorted.{Sorted}
use Rattle.mw_sorts.specs.Sorting.{Sorting, IsSorting, AreEntriesOf}
use Rattle.mw_sorts.proofs.Placing.{entries-are, counted}
use Rattle.mw_sorts.proofs.Getting.{read-get}
use Rattle.mw_sorts.proofs.Connected.{kind-there}
use Rattle.mw_sorts.proofs.sorting.Sorting.entries.Goals as goal

-- the kind is there
kind_ok : (sig : Signature) (order : SortOrder) (places : List ℕ) (members : List (Vec ℕ)) (K L : ℕ) → IsSorting sig order places members → IsSortOf sig K → IsKindOf order.pairs K L → IsSortOf sig L × IsKindOf sig.pairs K L
kind_ok sig order places members K L h s k =
    let by_pairs : IsKindOf sig.pairs K L = subst (λ (g : SortOrder). IsKindOf g.pairs K L) h.in_order k in
    (kind-there sig h.sorts K L s by_pairs, by_pairs)

pub overflow_sub-kind_of : goal.overflow_sub-kind_of
overflow_sub-kind_of c =
    let i = c.self.inside in
    let s : IsSortOf i.signature.now c.args.kind = subst (λ (g : Sorting). IsSortOf g.signature c.args.kind) (sym c.self.view_is) c.requires in
    (kind_ok i.signature.now i.order.now i.places.items i.members.items c.args.kind c.kind_of.result c.self.invariant s c.kind_of.ensures).0.0

pub index-requires : goal.index-requires
index-requires c =
    let i = c.self.inside in
    let s : IsSortOf i.signature.now c.args.kind = subst (λ (g : Sorting). IsSortOf g.signature c.args.kind) (sym c.self.view_is) c.requires in
    let k = (kind_ok i.signature.now i.order.now i.places.items i.members.items c.args.kind c.kind_of.result c.self.invariant s c.kind_of.ensures).0 in
    let low = k.0 in
    let high = k.1 in
    let n = c.self.invariant.placed.kinds in
    omega arith

pub returns : goal.returns
returns c =
    let i = c.self.inside in
    let s : IsSortOf i.signature.now c.args.kind = subst (λ (g : Sorting). IsSortOf g.signature c.args.kind) (sym c.self.view_is) c.requires in
    let k = kind_ok i.signature.now i.order.now i.places.items i.members.items c.args.kind c.kind_of.result c.self.invariant s c.kind_of.ensures in
    let low = (k.0).0 in
    let high = (k.0).1 in
    let n = c.self.invariant.placed.kinds in
    let by_index : IsKindOf i.signature.now.pairs c.args.kind _ = subst (λ (x : ℕ). IsKindOf i.signature.now.pairs c.args.kind x) (sym (counted c.kind_of.result low)) k.1 in
    let x = c.index.ensures in
    let y = c.as_slice-members.ensures.value in
    let e = entries-are i.signature.now i.order.now i.places.items i.members.items c.self.invariant c.args.kind (c.kind_of.result - 1) c.index.result.now by_index
    (read-get i.members.items i.members.items (c.kind_of.result - 1) c.index.result.now refl (omega arith) x) s in
    let all : map sorted_of c.loop-sort.entries.items ≡ map sort c.index.result.now.items =
    c.loop-sort.invariant ∙ ap (λ (xs : List ℕ). map sort xs) (take_all c.loop-sort.sort-index c.as_slice-members.result.now c.loop-sort-test.false ∙ y) in
    let list : map sorted_of c.push-2.new.self.items ≡ map sort c.index.result.now.items ++ kind c.args.kind ∷ [] =
    ap (λ (xs : List Sorted). map sorted_of xs) c.in_ok-push-2.ensures.items ∙ map-append sorted_of c.loop-sort.entries.items _ ∙ ap (λ (xs : List logic.Sorted). xs ++ kind c.args.kind ∷ []) all in
    subst (λ (g : Sorting). AreEntriesOf g c.args.kind (map sorted_of c.push-2.new.self.items)) c.self.view_is
    (subst (λ (xs : List logic.Sorted). AreEntriesOf (record { signature = i.signature.now; places = i.places.items }) c.args.kind xs) (sym list) e)
