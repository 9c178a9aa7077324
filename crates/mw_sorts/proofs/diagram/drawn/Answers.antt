use Rattle.std.proofs.Common.{◌≡◌, ◌∙◌, ◌+◌, ◌++◌, ◌∷◌, ℕ, List, [], length, map, get_or, ap, subst, sym, arith}
use Rattle.std.specs.Prelude.{slice_get, Some, option_map}
use Rattle.std.proofs.lemmas.List.{map-append}
use Rattle.mw_logic.specs.Signature.{Operator, Sorted}
use Rattle.mw_term.specs.Signatures.{sorted_of}
use Rattle.mw_term.specs.declared.signature.Sorted.{Sorted as Held}
use Rattle.mw_sorts.specs.Diagrams.{Level}
use Rattle.mw_sorts.specs.Sorting.{AreEntriesOf}
use Rattle.mw_sorts.specs.States.{ways, IsLevelOf, AreEndsOf}
use Rattle.mw_sorts.specs.Marks.{IsDrawn}
use Rattle.mw_sorts.proofs.Getting.{get-member, read-or}
use Rattle.mw_sorts.proofs.Layers.{IsDrawnSoFar, drawn-none, drawn-more, drawn-done}
use Rattle.mw_sorts.proofs.diagram.drawn.Goals as goal

pub loop-place-init : goal.loop-place-init
loop-place-init c =
    subst (λ (ls : List Level). IsDrawnSoFar c.args.sorting.now c.args.operator.now 0 ls (map (map sorted_of) c.new-lists.result.items) c.in_ok-states.states.value) (sym c.new-levels.ensures.items)
    (subst (λ (ess : List (List Held)). IsDrawnSoFar c.args.sorting.now c.args.operator.now 0 [] (map (map sorted_of) ess) c.in_ok-states.states.value) (sym c.new-lists.ensures.items)
    (drawn-none c.args.sorting.now c.args.operator.now c.in_ok-states.states.value c.in_ok-states.ensures))

pub entries-requires : goal.entries-requires
entries-requires c =
    let i = c.loop-place.place in
    let K : ℕ = get_or c.as_slice-kind-items.result.now i 0 in
    let e : slice_get c.args.operator.now.args i ≡ Some K =
    read-or c.args.operator.now.args c.as_slice-kind-items.result.now i 0 (c.as_slice-kind-items.ensures ∙ ap (λ (o : Operator). o.args) c.operator.view_is) c.loop-place-test.true in
    c.requires.operator.args K (get-member c.args.operator.now.args i K e)

pub level-requires-clause-kind : goal.level-requires-clause-kind
level-requires-clause-kind c =
    let i = c.loop-place.place in
    let K : ℕ = get_or c.as_slice-kind-items.result.now i 0 in (
      K,
      read-or c.args.operator.now.args c.as_slice-kind-items.result.now i 0 (c.as_slice-kind-items.ensures ∙ ap (λ (o : Operator). o.args) c.operator.view_is) c.loop-place-test.true,
      subst (λ (es : List Held). AreEntriesOf c.args.sorting.now K (map sorted_of es)) (sym c.as_slice.ensures.value) c.in_ok-entries.ensures,
    )

pub loop-place-preserved : goal.loop-place-preserved
loop-place-preserved c =
    let i = c.loop-place.place in
    let K : ℕ = get_or c.as_slice-kind-items.result.now i 0 in
    let e : slice_get c.args.operator.now.args i ≡ Some K =
    read-or c.args.operator.now.args c.as_slice-kind-items.result.now i 0 (c.as_slice-kind-items.ensures ∙ ap (λ (o : Operator). o.args) c.operator.view_is) c.loop-place-test.true in
    let level = subst (λ (es : List Held). IsLevelOf c.args.sorting.now.signature (ways c.args.operator.now) i (map sorted_of es) c.loop-place.states.value c.in_ok-rows.next.value c.in_ok-rows.rows) c.as_slice.ensures.value
    (subst (λ (ss : List (List ℕ)). IsLevelOf c.args.sorting.now.signature (ways c.args.operator.now) i (map sorted_of c.as_slice.result.now) ss c.in_ok-rows.next.value c.in_ok-rows.rows) c.deref.ensures c.in_ok-rows.ensures.level) in
    let more = drawn-more c.args.sorting.now c.args.operator.now i c.loop-place.states.value c.in_ok-rows.next.value K (map sorted_of c.in_ok-entries.entries.items) c.in_ok-rows.rows e c.in_ok-entries.ensures level c.loop-place.levels.items
    (map (map sorted_of) c.loop-place.lists.items) c.in_ok-rows.ensures.states c.loop-place.invariant in
    let lists : map (map sorted_of) c.push-in-loop-place.new.self.items ≡ map (map sorted_of) c.loop-place.lists.items ++ map sorted_of c.in_ok-entries.entries.items ∷ [] =
    ap (λ (ess : List (List Held)). map (map sorted_of) ess) c.in_ok-push-2.ensures.items ∙ map-append (map sorted_of) c.loop-place.lists.items _
    ∙ ap (λ (es : List Held). map (map sorted_of) c.loop-place.lists.items ++ map sorted_of es ∷ []) c.of.ensures in
    subst (λ (ess : List (List Sorted)). IsDrawnSoFar c.args.sorting.now c.args.operator.now (i + 1) c.push.new.self.items ess c.in_ok-rows.next.value) (sym lists)
    (subst (λ (ls : List Level). IsDrawnSoFar c.args.sorting.now c.args.operator.now (i + 1) ls (map (map sorted_of) c.loop-place.lists.items ++ map sorted_of c.in_ok-entries.entries.items ∷ []) c.in_ok-rows.next.value)
    (sym c.in_ok-push.ensures.items) more)

pub returns : goal.returns
returns c =
    let high = c.loop-place-test.false in
    let low = c.loop-place.auto.place-end in
    let m : length c.as_slice-kind-items.result.now ≡ length c.args.operator.now.args = ap (λ (xs : List ℕ). length xs) (c.as_slice-kind-items.ensures ∙ ap (λ (o : Operator). o.args) c.operator.view_is) in
    let done = drawn-done c.args.sorting.now c.args.operator.now c.loop-place.place c.loop-place.levels.items (map (map sorted_of) c.loop-place.lists.items) c.loop-place.states.value (map (option_map sorted_of) c.in_ok-ends.field-0)
    c.requires.operator (omega arith) c.loop-place.invariant
    (subst (λ (ss : List (List ℕ)). AreEndsOf c.args.sorting.now.signature c.args.operator.now ss (map (option_map sorted_of) c.in_ok-ends.field-0)) c.deref-2.ensures c.in_ok-ends.ensures) in
    subst (λ (ls : List Level). IsDrawn c.args.sorting.now c.args.operator.now ls (map (map sorted_of) c.of-3.result) (map (option_map sorted_of) c.in_ok-ends.field-0)) (sym c.of-2.ensures)
    (subst (λ (ess : List (List Held)). IsDrawn c.args.sorting.now c.args.operator.now c.loop-place.levels.items (map (map sorted_of) ess) (map (option_map sorted_of) c.in_ok-ends.field-0)) (sym c.of-3.ensures) done)
