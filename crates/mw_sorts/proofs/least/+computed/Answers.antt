use Rattle.std.proofs.Common.{◌≡◌, ◌∙◌, ◌+◌, ◌-◌, ◌<◌, ◌≤◌, ℕ, zero, suc, List, [], length, get_or, ap, sym, subst, arith}
use Rattle.std.specs.Prelude.{IsTrue, true, false, nat_eq}
use Rattle.std.proofs.lemmas.Bool.{eqb-true}
use Rattle.mw_poset.proofs.Members.{no_items}
use Rattle.mw_logic.specs.Term.{Variable, RawTerm, variable, numeral, quoted, apply}
use Rattle.mw_logic.specs.Terms.{terms_of}
use Rattle.mw_logic.specs.NormalForm.{height, highest}
use Rattle.mw_logic.specs.Signature.{Signature, IsRawTerm, a_numeral, a_quoted, sort}
use Rattle.mw_logic.specs.Parts.{is_assoc, nested}
use Rattle.mw_logic.proofs.KindLaws.{SameKind-trans, SameKind-sym}
use Rattle.mw_term.proofs.Terms.{element}
use Rattle.mw_term.specs.Shapes.{viewed}
use Rattle.mw_term.specs.Signatures.{sorted_of}
use Rattle.mw_sorting.specs.ComputedSorts.{ComputedSort, variable_sort, plain_sort, chain_sort}
use Rattle.mw_sorts.specs.Diagrams.{Level, LeadsTo, EndsIn, IsDiagram}
use Rattle.mw_sorts.proofs.Looking.{got, found_diagram, no_diagram}
use Rattle.mw_sorts.proofs.Computing.{walk-start, walk-more, walk-end, IsFolded, argument-kind, argument-at, assoc-is, operator-there, plain-arguments, chained-raw, chained-some, folded-last, folded-more}
use Rattle.mw_sorts.proofs.least.+computed.Goals as goal

numeral_there : (sig : Signature) (n : ℕ) → IsRawTerm sig (numeral n) → IsTrue sig.nat
numeral_there sig n (a_numeral b l) = b

quoted_there : (sig : Signature) (q : List ℕ) → IsRawTerm sig (quoted q) → IsTrue sig.qid
quoted_there sig q (a_quoted b) = b

pub computed_sort-returns-in-Nat : goal.computed_sort-returns-in-Nat
computed_sort-returns-in-Nat t c = λ sig tables ok r.
    let e = c.in-Nat.ensures in
    let nat = numeral_there sig c.in-Nat.number (subst (λ u. IsRawTerm sig (nested sig u)) e r) in
    subst (λ u. ComputedSort sig u (sorted_of c.number_sort.result)) (sym e) (c.number_sort.ensures sig tables nat)

pub computed_sort-returns-in-Qid : goal.computed_sort-returns-in-Qid
computed_sort-returns-in-Qid t c = λ sig tables ok r.
    let e = c.in-Qid.ensures in
    let q = c.in-Qid.field-0.now in
    let qid = quoted_there sig q (subst (λ u. IsRawTerm sig (nested sig u)) e r) in
    subst (λ u. ComputedSort sig u (sorted_of c.quoted_sort.result)) (sym e) (c.quoted_sort.ensures sig q tables qid)

pub computed_sort-returns-in-Var : goal.computed_sort-returns-in-Var
computed_sort-returns-in-Var t c = λ sig tables ok r.
    let e = c.view.ensures ∙ ap viewed c.in-Var.is in
    let s = ap (λ (x : Variable). sort x.sort) c.variable.view_is in
    let d : ComputedSort sig (variable c.in-Var.variable.now) (sort c.in-Var.variable.now.sort) = variable_sort in
    subst (λ u. ComputedSort sig u (sort c.variable.inside.sort)) (sym e) (subst (ComputedSort sig (variable c.in-Var.variable.now)) (sym s) d)

pub applied_sort-returns-in_default : goal.applied_sort-returns-in_default
applied_sort-returns-in_default t c = λ sig tables ok r.
    let (o, is) = operator-there sig c.args.operator (terms_of c.args.args.now) r in
    absurd (no_diagram sig c.args.tables.now c.args.operator o tables is (rw c.in_default.is at c.diagram.ensures))

pub applied_sort-returns-then-diagram : goal.applied_sort-returns-then-diagram
applied_sort-returns-then-diagram t c = λ sig tables ok r.
    let f = c.args.operator in
    let (o, is) = operator-there sig f (terms_of c.args.args.now) r in
    let d = found_diagram sig c.args.tables.now f o c.in-Some.diagram.now tables is (rw c.in-Some.is at c.diagram.ensures) in
    let a : IsTrue o.assoc = sym d.assoc ∙ c.if-diagram.true in
    chain_sort o is (assoc-is sig f o true is a) (c.folded_sort.ensures sig f o tables ok is a d r)

pub applied_sort-returns-else-diagram : goal.applied_sort-returns-else-diagram
applied_sort-returns-else-diagram t c = λ sig tables ok r.
    let f = c.args.operator in
    let (o, is) = operator-there sig f (terms_of c.args.args.now) r in
    let d = found_diagram sig c.args.tables.now f o c.in-Some.diagram.now tables is (rw c.in-Some.is at c.diagram.ensures) in
    let h : is_assoc sig f ≡ false = assoc-is sig f o false is (sym d.assoc ∙ c.if-diagram.false) in
    let (Ss, ss, q) = c.result_sort.ensures sig o tables ok d (plain-arguments sig f o is h (terms_of c.args.args.now) r) in
    plain_sort o is h ss q

pub result_sort-loop-i-init : goal.result_sort-loop-i-init
result_sort-loop-i-init t c = λ sig o tables ok d raw.
    let h = subst (λ ps. LeadsTo sig ps c.args.diagram.now.levels 0 o.args (EndsIn sig o c.args.diagram.now.ends)) (sym c.as_slice-places.ensures) d.leads in
    let g = subst (λ (ls : List Level). LeadsTo sig c.as_slice-places.result.now ls 0 o.args (EndsIn sig o c.args.diagram.now.ends)) (sym c.as_slice-levels.ensures) h in
    walk-start sig ok c.as_slice-places.result.now c.as_slice-levels.result.now c.args.diagram.now.ends o c.args.args.now g

not_zero : (n : ℕ) → nat_eq n 0 ≡ false → 1 ≤ n
not_zero zero e = cc
not_zero (suc n) e = omega arith

-- what stands at a place that was read is no higher than the highest
lower : (ts : List RawTerm) (i : ℕ) (u : RawTerm) → i < length ts → u ≡ get_or ts i u → height u ≤ highest (terms_of ts)
lower ts i u l e = let k = element ts i u l in let h : height u ≡ height (get_or ts i u) = ap height e in omega (arith, k, h)

pub result_sort-computed_sort-sort-requires : goal.result_sort-computed_sort-sort-requires
result_sort-computed_sort-sort-requires t c =
    let k = lower c.args.args.now c.loop-i.i c.index-args-i.result c.loop-i-test.true c.index-args-i.is in
    (omega (arith, k, c.decreases), tt)

pub result_sort-loop-i-preserved : goal.result_sort-loop-i-preserved
result_sort-loop-i-preserved t c = λ sig o tables ok d raw.
    let i = c.loop-i.i in
    let w = c.loop-i.invariant sig o tables ok d raw in
    let at = got c.args.args.now i c.index-args-i.result c.loop-i-test.true c.index-args-i.is in
    let a = argument-at sig c.args.args.now o.args i c.index-args-i.result raw at in
    let s = c.computed_sort-sort.ensures sig tables ok a.term.0 in
    let (next, n, more) =
    walk-more sig ok c.as_slice-places.result.now c.as_slice-levels.result.now c.args.diagram.now.ends o c.args.args.now i c.loop-i.row c.index-args-i.result (sorted_of c.computed_sort-sort.result) w raw at s in
    let e : c.next_row-row.result ≡ next = c.next_row-row.ensures n.level n.row next n.is_there n.of_row n.of_next in
    let j : i + 1 ≡ suc i = omega arith in
    rw (e, j) more

pub result_sort-returns : goal.result_sort-returns
result_sort-returns t c = λ sig o tables ok d raw.
    let w = c.loop-i.invariant sig o tables ok d raw in
    let (ss, (R, g, r)) =
    walk-end sig ok c.as_slice-places.result.now c.as_slice-levels.result.now c.args.diagram.now.ends o c.args.args.now c.loop-i.i c.loop-i.row c.loop-i-test.false raw w in
    let e = c.end_at.ensures R (rw c.as_slice.ensures g) in
    (w.sorted, ss, rw e r)

pub folded_sort-returns-then-is_empty : goal.folded_sort-returns-then-is_empty
folded_sort-returns-then-is_empty t c = λ sig f o tables ok is a d raw.
    let h = assoc-is sig f o true is a in
    let n : c.args.args.now ≡ [] = no_items c.args.args.now (eqb-true (length c.args.args.now) 0 (sym c.is_empty.ensures ∙ c.if-is_empty.true)) in
    absurd (chained-some sig ok.accepted f o is h (subst (λ ts. IsRawTerm sig (nested sig (apply f (terms_of ts)))) n raw))

pub folded_sort-computed_sort-sort-requires : goal.folded_sort-computed_sort-sort-requires
folded_sort-computed_sort-sort-requires t c =
    let some : 1 ≤ length c.args.args.now = not_zero (length c.args.args.now) (sym c.is_empty.ensures ∙ c.if-is_empty.false) in
    let k = lower c.args.args.now (length c.args.args.now - 1) c.index-args-i.result (omega (arith, some)) c.index-args-i.is in
    (omega (arith, k, c.decreases), tt)

pub folded_sort-loop-i-init : goal.folded_sort-loop-i-init
folded_sort-loop-i-init t c =
    let some : 1 ≤ length c.args.args.now = not_zero (length c.args.args.now) (sym c.is_empty.ensures ∙ c.if-is_empty.false) in
    let i : ℕ = length c.args.args.now - 1 in (
      omega (arith, some),
      λ sig f o tables ok is a d raw.
          let h = assoc-is sig f o true is a in
          let at = got c.args.args.now i c.index-args-i.result (omega (arith, some)) c.index-args-i.is in
          let s = c.computed_sort-sort.ensures sig tables ok (chained-raw sig ok.accepted f o is h c.args.args.now raw i c.index-args-i.result at) in
          folded-last sig ok f o is h c.args.args.now raw i c.index-args-i.result (sorted_of c.computed_sort-sort.result) (omega (arith, some)) at s,
    )

pub folded_sort-computed_sort-before-requires : goal.folded_sort-computed_sort-before-requires
folded_sort-computed_sort-before-requires t c =
    let l = c.loop-i.invariant.0 in
    let k = lower c.args.args.now (c.loop-i.i - 1) c.index-args-i-in-loop-i.result (omega (arith, l)) c.index-args-i-in-loop-i.is in
    (omega (arith, k, c.decreases), tt)

pub folded_sort-loop-i-preserved : goal.folded_sort-loop-i-preserved
folded_sort-loop-i-preserved t c =
    let l = c.loop-i.invariant.0 in
    let i : ℕ = c.loop-i.i - 1 in
    let args = c.args.args.now in (
      omega (arith, l),
      λ sig f o tables ok is a d raw.
          let h = assoc-is sig f o true is a in
          let u = c.index-args-i-in-loop-i.result in
          let at = got args i u (omega (arith, l)) c.index-args-i-in-loop-i.is in
          let s = c.computed_sort-before.ensures sig tables ok (chained-raw sig ok.accepted f o is h args raw i u at) in
          let j : c.loop-i.i ≡ suc i = omega (arith, c.loop-i-test.true) in
          let g : IsFolded sig o args (suc i) (sorted_of c.loop-i.sort) = subst (λ k. IsFolded sig o args k (sorted_of c.loop-i.sort)) j (c.loop-i.invariant.1 sig f o tables ok is a d raw) in
          let many : 1 < length args = omega (arith, l, j) in
          let (K, L, e, k, k2) = ok.accepted.assoc f o is a in
          let d2 = subst (λ ps. IsDiagram sig ps o c.args.diagram.now) (sym c.as_slice-places.ensures) d in
          let first = SameKind-trans (argument-kind sig ok f o is h args raw i u (sorted_of c.computed_sort-before.result) at s many) (SameKind-sym k) in
          let second = SameKind-trans (g.of_kind many) (SameKind-sym k2) in
          let r = c.on_two-sort.ensures sig o K L d2 e first second in
          folded-more sig ok f o is h args raw i u (sorted_of c.computed_sort-before.result) (sorted_of c.loop-i.sort) (sorted_of c.on_two-sort.result) at s g r,
    )

pub folded_sort-returns : goal.folded_sort-returns
folded_sort-returns t c = λ sig f o tables ok is a d raw.
    let z : c.loop-i.i ≡ 0 = omega (arith, c.loop-i-test.false) in
    (subst (λ k. IsFolded sig o c.args.args.now k (sorted_of c.loop-i.sort)) z (c.loop-i.invariant.1 sig f o tables ok is a d raw)).folds
