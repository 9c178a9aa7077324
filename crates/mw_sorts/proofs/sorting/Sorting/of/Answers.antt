use Rattle.std.proofs.Common.{◌≡◌, ◌∙◌, ◌≤◌, ◌<◌, ◌-◌, ◌+◌, ℕ, List, [], ◌∷◌, ◌++◌, length, ap, subst, arith, refl}
use Rattle.mw_logic.specs.Signature.{Signature}
use Rattle.mw_logic.specs.Preregular.{IsSortOf, HasItsSorts}
use Rattle.mw_poset.specs.SortOrder.{SortOrder}
use Rattle.mw_poset.specs.Order.{IsKindOf}
use Rattle.mw_poset.specs.SortOrder.{order_of}
use Rattle.mw_sorts.specs.Sorting.{ArePlacesOf}
use Rattle.mw_sorts.proofs.Placing.{placed-next}
use Rattle.mw_sorts.proofs.Getting.{read-get}
use Rattle.mw_sorts.proofs.Connected.{kind-there}
use Rattle.mw_sorts.proofs.sorting.Sorting.of.Goals as goal

-- the next sort's kind is there
kind_ok : (sig : Signature) (order : SortOrder) (n number K sorts : ℕ) → HasItsSorts sig → order ≡ order_of sig → number ≡ n + 1 → n < sorts → sorts ≡ length sig.sorts → IsKindOf order.pairs number K → IsSortOf sig K × IsKindOf sig.pairs number K
kind_ok sig order n number K sorts h o e l m k =
    let by_pairs : IsKindOf sig.pairs number K = subst (λ (g : SortOrder). IsKindOf g.pairs number K) o k in
    let low : 1 ≤ number = omega arith in
    let high : number ≤ length sig.sorts = omega arith in
    (kind-there sig h number K (low, high) by_pairs, by_pairs)

pub overflow_sub-kind_of : goal.overflow_sub-kind_of
overflow_sub-kind_of c =
    let m : length c.as_slice-items.result.now ≡ length c.args.signature.now.sorts = ap (λ (xs : List (List ℕ)). length xs) (c.as_slice-items.ensures ∙ ap (λ (s : Signature). s.sorts) c.signature.view_is) in
    (kind_ok c.args.signature.now c.args.order.now c.loop-index.index c.in_ok-sort.sort c.kind_of.result _ c.requires.sorts c.requires.order c.in_ok-sort.ensures c.loop-index-test.true m c.kind_of.ensures).0.0

pub index_mut-list-requires : goal.index_mut-list-requires
index_mut-list-requires c =
    let m : length c.as_slice-items.result.now ≡ length c.args.signature.now.sorts = ap (λ (xs : List (List ℕ)). length xs) (c.as_slice-items.ensures ∙ ap (λ (s : Signature). s.sorts) c.signature.view_is) in
    let k = (kind_ok c.args.signature.now c.args.order.now c.loop-index.index c.in_ok-sort.sort c.kind_of.result _ c.requires.sorts c.requires.order c.in_ok-sort.ensures c.loop-index-test.true m c.kind_of.ensures).0 in
    let low = k.0 in
    let high = k.1 in
    let n = c.loop-index.invariant.kinds in
    omega arith

pub loop-index-preserved : goal.loop-index-preserved
loop-index-preserved c =
    let m : length c.as_slice-items.result.now ≡ length c.args.signature.now.sorts = ap (λ (xs : List (List ℕ)). length xs) (c.as_slice-items.ensures ∙ ap (λ (s : Signature). s.sorts) c.signature.view_is) in
    let k = kind_ok c.args.signature.now c.args.order.now c.loop-index.index c.in_ok-sort.sort c.kind_of.result _ c.requires.sorts c.requires.order c.in_ok-sort.ensures c.loop-index-test.true m c.kind_of.ensures in
    let low = (k.0).0 in
    let high = (k.0).1 in
    let n = c.loop-index.invariant.kinds in
    let v = c.index_mut-list.ensures.value in
    let p : c.len.result ≡ length c.index_mut-list.result.now.items = let q = c.len.ensures in let o = c.index_mut-list.result.now.ok in omega arith in
    placed-next c.args.signature.now c.loop-index.index c.in_ok-sort.sort c.kind_of.result c.loop-index.places.items c.push.new.self.items c.loop-index.members.items _ c.index_mut-list.result.now c.push-in-loop-index.new.self
    c.loop-index.invariant c.in_ok-sort.ensures low k.1 (read-get c.loop-index.members.items c.loop-index.members.items (c.kind_of.result - 1) c.index_mut-list.result.now refl (omega arith) v) c.in_ok-push-2.ensures.items
    (c.in_ok-push.ensures.items ∙ ap (λ (x : ℕ). c.loop-index.places.items ++ x ∷ []) p) refl

pub invariant_of-result : goal.invariant_of-result
invariant_of-result c =
    let high = c.loop-index-test.false in
    let low = c.loop-index.auto.index-end in
    let m : length c.as_slice-items.result.now ≡ length c.args.signature.now.sorts = ap (λ (xs : List (List ℕ)). length xs) (c.as_slice-items.ensures ∙ ap (λ (s : Signature). s.sorts) c.signature.view_is) in
    let n : c.loop-index.index ≡ length c.args.signature.now.sorts = omega arith in
    record {
      sorts = c.requires.sorts;
      in_order = c.requires.order;
      placed = subst (λ (k : ℕ). ArePlacesOf c.args.signature.now k c.loop-index.places.items c.loop-index.members.items) n c.loop-index.invariant;
    }
