use Rattle.std.specs.Prelude.{All, ◌↔◌, slice_index}
use Rattle.std.proofs.Common.{◌≡◌, ◌+◌, ℕ, List, ap, subst, sym, ◌∙◌, length}
use Rattle.std.proofs.lemmas.Bool.{eqb-true, eq-eqb}
use Rattle.std.proofs.lemmas.List.{take_all}
use Rattle.mw_logic.specs.Signature.{Member}
use Rattle.mw_poset.specs.SortOrder.{SortOrder}
use Rattle.mw_poset.specs.Order.{IsOnCycle, IsSort}
use Rattle.mw_poset.specs.Tables.{AreOfOneKind, supersorts}
use Rattle.mw_poset.proofs.Members.{member-at, member-all, no_items}
use Rattle.mw_poset.proofs.Reading.{MaximalSoFar, maximal_found, maximal_passed, is_maximal, maximal-top}
use Rattle.mw_poset.proofs.Poset.maximal.Goals as goal
use Rattle.mw_poset.proofs.Poset.maximal.Goals.{then-is_empty+in_ok-push, else-is_empty}

pub loop-sort-preserved : goal.loop-sort-preserved
loop-sort-preserved c =
    let S : ℕ = slice_index c.same_kind-sort-items.result.now c.loop-sort.sort-index in
    let direct : c.above.result.now ≡ supersorts c.args.self.now.pairs S = c.above.ensures.direct ∙ ap (λ (o : SortOrder). supersorts o.pairs S) c.self.view_is in
    let kind = subst (λ (o : SortOrder). (T : ℕ) → Member T c.same_kind-sort-items.result.now ↔ AreOfOneKind o.pairs c.args.kind T) c.self.view_is c.same_kind-sort-items.ensures.listed in
    let acyclic = subst (λ (o : SortOrder). (U : ℕ) → ¬ IsOnCycle o.pairs U) c.self.view_is c.self.invariant in
    let there : Member S c.same_kind-sort-items.result.now = member-at c.same_kind-sort-items.result.now c.loop-sort.sort-index 0 c.loop-sort-test.true in
    elim c.if-is_empty.branch [
      | then-is_empty+in_ok-push w ↦
          subst (λ (xs : List ℕ). MaximalSoFar c.args.self.now.pairs c.args.kind (c.loop-sort.sort-index + 1) c.same_kind-sort-items.result.now xs) (sym (ap (λ v. v.items) w.found-is ∙ w.in_ok-push.ensures.items))
          (maximal_found c.args.self.now.pairs c.args.kind c.loop-sort.sort-index c.same_kind-sort-items.result.now c.loop-sort.found.items c.same_kind-sort-items.ensures.in_order c.loop-sort-test.true c.loop-sort.invariant
          (is_maximal c.args.self.now.pairs c.args.kind S ((kind S).0 there) (sym direct ∙ no_items c.above.result.now (eqb-true _ _ (sym c.is_empty.ensures ∙ w.if-is_empty.true)))))
      | else-is_empty w ↦
          subst (λ (xs : List ℕ). MaximalSoFar c.args.self.now.pairs c.args.kind (c.loop-sort.sort-index + 1) c.same_kind-sort-items.result.now xs) (sym (ap (λ v. v.items) w.found-is))
          (maximal_passed c.args.self.now.pairs c.args.kind c.loop-sort.sort-index c.same_kind-sort-items.result.now c.loop-sort.found.items c.same_kind-sort-items.ensures.in_order c.loop-sort-test.true c.loop-sort.invariant
          (λ m. let e = c.is_empty.ensures ∙ eq-eqb (length c.above.result.now) 0 (maximal-top c.args.self.now.pairs c.args.kind S acyclic m c.above.result.now (sym direct)) in let f = w.if-is_empty.false in cc))
    ]

pub returns-clause-listed : goal.returns-clause-listed
returns-clause-listed c = λ T. (
  (λ i. ((c.loop-sort.invariant.listed T).0 i).1),
  (λ m.
      let kind = subst (λ (o : SortOrder). (U : ℕ) → Member U c.same_kind-sort-items.result.now ↔ AreOfOneKind o.pairs c.args.kind U) c.self.view_is c.same_kind-sort-items.ensures.listed in
      (c.loop-sort.invariant.listed T).1
      (subst (λ (xs : List ℕ). Member T xs) (sym (take_all c.loop-sort.sort-index c.same_kind-sort-items.result.now c.loop-sort-test.false)) ((kind T).1 m.same), m)),
)

pub returns-clause-within : goal.returns-clause-within
returns-clause-within c = λ T i.
    let within = subst (λ (o : SortOrder). All (IsSort o.sorts) c.same_kind-sort-items.result.now) c.self.view_is c.same_kind-sort-items.ensures.within in
    member-all (λ (S : ℕ). IsSort c.args.self.now.sorts S) c.same_kind-sort-items.result.now within T
    (subst (λ (xs : List ℕ). Member T xs) (take_all c.loop-sort.sort-index c.same_kind-sort-items.result.now c.loop-sort-test.false) ((c.loop-sort.invariant.listed T).0 i).0)
