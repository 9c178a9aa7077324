use Rattle.std.proofs.Common.{◌≡◌, ◌≢◌, ◌∙◌, ◌-◌, ℕ, List, [], ◌∷◌, ◌++◌, length, map, get_or, replicate, refl, ap, sym, subst, arith, length-append}
use Rattle.std.specs.Prelude.{slice_get, Some}
use Rattle.std.proofs.lemmas.List.{length-map, length-replicate, length-set}
use Rattle.mw_logic.specs.Preregular.{AreOfKinds}
use Rattle.mw_logic.proofs.KindLaws.{SameKind-trans, SameKind-sym}
use Rattle.mw_term.specs.Signatures.{sorted_of}
use Rattle.mw_term.specs.declared.signature.Sorted.{Sorted as Held}
use Rattle.mw_sorts.specs.Entries.{place_in}
use Rattle.mw_sorts.specs.Diagrams.{IsDiagram}
use Rattle.mw_sorts.proofs.Getting.{read-get, some_same}
use Rattle.mw_sorts.proofs.Succeeding.{named-there}
use Rattle.mw_sorts.proofs.Counting.{vec_length, counted-start, counted-more, spot-there, counted-table, zero-kind, next-kind, zeros-set}
use Rattle.mw_sorts.proofs.numbers.number_table.Goals as goal

pub entries-requires : goal.entries-requires
entries-requires c = named-there c.args.sorting.now.signature c.args.zero _ c.requires.zero

pub loop-places-init : goal.loop-places-init
loop-places-init c = λ f is d.
    let b : c.in_ok-behind.behind.items ≡ replicate (length c.as_slice-width.result.now) 0 = c.in_ok-behind.ensures.items_if_clones_equal (λ y h. h) in
    counted-start c.args.sorting.now is.operator c.args.zero (length c.as_slice-width.result.now) c.place-spot.result c.new-entries.result.items c.in_ok-behind.behind.items c.new-entries.ensures.items b (ap length b ∙ length-replicate (length c.as_slice-width.result.now) 0)
    (c.place-spot.ensures ∙ ap (λ ps. get_or ps (c.args.zero - 1) 0) c.places-places.ensures)

-- the places of the kind
wide : (width : ℕ) (read held : List Held) → width ≡ length read → read ≡ held → width ≡ length (map sorted_of held)
wide width read held e h = e ∙ ap length h ∙ sym (length-map held sorted_of)

pub index-requires : goal.index-requires
index-requires c =
    let (f, is, d) = c.requires.diagram in
    let l = spot-there c.args.sorting.now is.operator c.args.zero (length c.as_slice-width.result.now) c.loop-places.entries.items c.loop-places.behind.items c.loop-places.last c.loop-places.spot (c.loop-places.invariant f is d)
    (map sorted_of c.in_ok-kind.kind.items) c.in_ok-kind.ensures (wide _ _ _ refl c.as_slice-width.ensures.value) in
    let n = vec_length c.loop-places.behind in
    omega (arith, l, n)

pub index_mut-requires : goal.index_mut-requires
index_mut-requires c =
    let (f, is, d) = c.requires.diagram in
    let l = spot-there c.args.sorting.now is.operator c.args.zero (length c.as_slice-width.result.now) c.loop-places.entries.items c.loop-places.behind.items c.loop-places.last c.loop-places.spot (c.loop-places.invariant f is d)
    (map sorted_of c.in_ok-kind.kind.items) c.in_ok-kind.ensures (wide _ _ _ refl c.as_slice-width.ensures.value) in
    let n = vec_length c.loop-places.behind in
    omega (arith, l, n)

pub loop-places-smaller : goal.loop-places-smaller
loop-places-smaller c =
    let (f, is, d) = c.requires.diagram in
    let l = spot-there c.args.sorting.now is.operator c.args.zero (length c.as_slice-width.result.now) c.loop-places.entries.items c.loop-places.behind.items c.loop-places.last c.loop-places.spot (c.loop-places.invariant f is d)
    (map sorted_of c.in_ok-kind.kind.items) c.in_ok-kind.ensures (wide _ _ _ refl c.as_slice-width.ensures.value) in
    let z : slice_get c.loop-places.behind.items c.loop-places.spot ≡ Some 0 =
    read-get c.loop-places.behind.items c.loop-places.behind.items c.loop-places.spot c.index.result.now refl l c.index.ensures ∙ ap Some c.loop-places-test.true in
    let e = ap length c.in_ok-push.ensures.items ∙ length-append c.loop-places.entries.items (c.loop-places.last ∷ []) in
    let n = c.len.ensures ∙ vec_length c.push.new.self in
    zeros-set c.loop-places.behind.items c.loop-places.spot c.len.result z (omega (arith, e, n))

pub loop-places-preserved : goal.loop-places-preserved
loop-places-preserved c = λ f is d.
    let sig = c.args.sorting.now.signature in
    let h = c.loop-places.invariant f is d in
    let k = SameKind-trans h.of_kind (SameKind-trans (SameKind-sym (zero-kind sig f c.args.zero c.requires.accepted c.requires.well_sorted c.requires.zero is)) is.of_argument) in
    let ks : AreOfKinds sig (sorted_of c.loop-places.last ∷ []) is.operator.args = subst (AreOfKinds sig (sorted_of c.loop-places.last ∷ [])) (sym is.takes_one) (k, tt) in
    let d2 : IsDiagram sig c.places-places.result.now is.operator c.args.diagram.now = subst (λ ps. IsDiagram sig ps is.operator c.args.diagram.now) (sym c.places-places.ensures) d in
    let r = c.result_on-last.ensures sig is.operator d2 ks in
    counted-more c.args.sorting.now is.operator c.args.zero (length c.as_slice-width.result.now) c.loop-places.entries.items c.loop-places.behind.items c.loop-places.last c.loop-places.spot h c.push.new.self.items _ c.result_on-last.result c.len.result
    c.place-spot-in-loop-places.result c.in_ok-push.ensures.items (c.len.ensures ∙ vec_length c.push.new.self) refl (length-set _ _ _) r (next-kind sig f c.args.zero c.requires.accepted c.requires.well_sorted c.requires.zero is _ _ r)
    (c.place-spot-in-loop-places.ensures ∙ ap (λ ps. place_in ps (length c.as_slice-width.result.now) (sorted_of c.result_on-last.result)) c.places-places.ensures)

pub index-requires-2 : goal.index-requires-2
index-requires-2 c =
    let (f, is, d) = c.requires.diagram in
    let l = spot-there c.args.sorting.now is.operator c.args.zero (length c.as_slice-width.result.now) c.loop-places.entries.items c.loop-places.behind.items c.loop-places.last c.loop-places.spot (c.loop-places.invariant f is d)
    (map sorted_of c.in_ok-kind.kind.items) c.in_ok-kind.ensures (wide _ _ _ refl c.as_slice-width.ensures.value) in
    let n = vec_length c.loop-places.behind in
    omega (arith, l, n)

pub returns : goal.returns
returns c =
    let (f, is, d) = c.requires.diagram in
    let h = c.loop-places.invariant f is d in
    let es = map sorted_of c.in_ok-kind.kind.items in
    let w = wide _ _ _ refl c.as_slice-width.ensures.value in
    let l = spot-there c.args.sorting.now is.operator c.args.zero (length c.as_slice-width.result.now) c.loop-places.entries.items c.loop-places.behind.items c.loop-places.last c.loop-places.spot h es c.in_ok-kind.ensures w in
    let b : slice_get c.loop-places.behind.items c.loop-places.spot ≡ Some c.index-2.result.now = read-get c.loop-places.behind.items c.loop-places.behind.items c.loop-places.spot c.index-2.result.now refl l c.index-2.ensures in
    let b2 : slice_get c.loop-places.behind.items c.loop-places.spot ≡ Some c.index.result.now = read-get c.loop-places.behind.items c.loop-places.behind.items c.loop-places.spot c.index.result.now refl l c.index.ensures in
    let not_zero : c.index-2.result.now ≢ 0 = λ z. c.loop-places-test.false (some_same (sym b2 ∙ b) ∙ z) in
    let final : c.of.result ≡ c.loop-places.entries.items ++ c.loop-places.last ∷ [] = c.of.ensures ∙ c.in_ok-push-2.ensures.items in
    counted-table c.args.sorting.now is.operator c.args.zero (length c.as_slice-width.result.now) c.loop-places.entries.items c.loop-places.behind.items c.loop-places.last c.loop-places.spot h es c.in_ok-kind.ensures w f c.index-2.result.now
    c.of.result is refl c.requires.zero b not_zero final
