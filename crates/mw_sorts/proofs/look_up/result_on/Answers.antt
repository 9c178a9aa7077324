use Rattle.std.proofs.Common.{◌≡◌, ◌+◌, suc, List, map, take, get_or, sym, subst, refl, arith}
use Rattle.std.specs.Prelude.{slice_get, Some}
use Rattle.std.proofs.lemmas.List.{length-map, take_all}
use Rattle.mw_logic.specs.Signature.{Sorted}
use Rattle.mw_term.specs.Signatures.{sorted_of}
use Rattle.mw_term.specs.declared.signature.Sorted.{Sorted as Held}
use Rattle.mw_sorting.specs.ComputedSorts.{IsResultOn}
use Rattle.mw_sorts.specs.Diagrams.{Level, LeadsTo, EndsIn}
use Rattle.mw_sorts.proofs.Getting.{read-or, get-map, take-get}
use Rattle.mw_sorts.proofs.Taking.{of_kinds-at, of_kinds-length}
use Rattle.mw_sorts.proofs.Looking.{led-more, led-end}
use Rattle.mw_sorts.proofs.look_up.result_on.Goals as goal

pub loop-i-init : goal.loop-i-init
loop-i-init c = λ sig o d k.
    subst (λ (ls : List Level). LeadsTo sig c.args.places.now ls 0 o.args (EndsIn sig o c.args.diagram.now.ends)) (sym c.as_slice-levels.ensures) d.leads

pub loop-i-preserved : goal.loop-i-preserved
loop-i-preserved c = λ sig o d k.
    let i = c.loop-i.i in
    let places = c.args.places.now in
    let levels = c.as_slice-levels.result.now in
    let ends = c.args.diagram.now.ends in
    let Ss : List Sorted = map sorted_of c.args.sorts.now in
    let s : Held = get_or c.args.sorts.now i (Held.Sort 0) in
    let at : slice_get Ss i ≡ Some (sorted_of s) = get-map sorted_of c.args.sorts.now i s (read-or c.args.sorts.now c.args.sorts.now i (Held.Sort 0) refl c.loop-i-test.true) in
    let (K, g, kind) = of_kinds-at sig Ss o.args i (sorted_of s) k at in
    let (next, n) = led-more sig places levels ends o (take i Ss) i c.loop-i.row K (sorted_of s) g kind (c.loop-i.invariant sig o d k) in
    let e : c.next_row-row.result ≡ next = c.next_row-row.ensures n.level n.row next n.is_there n.of_row n.of_next in
    let j : i + 1 ≡ suc i = omega arith in
    rw (e, j, take-get Ss i (sorted_of s) at) n.led

pub returns : goal.returns
returns c = λ sig o d k.
    let Ss : List Sorted = map sorted_of c.args.sorts.now in
    let low = c.loop-i-test.false in
    let m = length-map c.args.sorts.now sorted_of in
    let long = of_kinds-length sig Ss o.args k in
    let all : take c.loop-i.i Ss ≡ Ss = take_all c.loop-i.i Ss (omega (arith, low, m)) in
    let (R, g, r) = led-end sig c.args.places.now c.as_slice-levels.result.now c.args.diagram.now.ends o (take c.loop-i.i Ss) c.loop-i.i c.loop-i.row (omega (arith, low, m, long)) (c.loop-i.invariant sig o d k) in
    let e = c.end_at.ensures R (rw c.as_slice.ensures g) in
    rw e (subst (λ (Ts : List Sorted). IsResultOn sig o Ts (sorted_of R)) all r)
