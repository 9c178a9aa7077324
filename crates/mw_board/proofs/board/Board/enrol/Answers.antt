use Rattle.std.proofs.Common.{arith, rules, ◌≡◌, ◌+◌, ◌∷◌, [], ◌++◌, ap, max, ◌∙◌, sym}
use Rattle.mw_board.specs.declared.view.View.{View}
use Rattle.mw_board.specs.Rule.{Worker, Ground}
use Rattle.mw_board.specs.Rule.{has_enrolled, mark_of}
use Rattle.mw_board.proofs.Steps.{enrol_allows}
use Rattle.mw_board.proofs.Views.{mark_more}
use Rattle.mw_board.proofs.board.Board.enrol.Goals as goal

pub compare_exchange-found-requires : goal.compare_exchange-found-requires
compare_exchange-found-requires c =
    let t = c.self.inside.table.shared in
    let s = c.seat.inside in
    let fits = ap (λ (w : Worker). w.board) c.seat.view_is ∙ c.requires.board ∙ sym (ap (λ (g : Ground). g.name) c.self.view_is) in
    (fits, grind (arith, c.self.invariant.0), enrol_allows t.key t.table_id.slots s.place.id s.place.me s.saw c.seat.invariant.1 (grind (arith, c.seat.invariant.2, c.if-seat-eq64.false)))

pub invariant_of-seat : goal.invariant_of-seat
invariant_of-seat c =
    let s = c.seat.inside in
    let i = c.seat.invariant in
    let x = c.compare_exchange-found in
    let t = x.ensures.2 in
    let e : x.result ≡ s.saw = search rules in
    let w : x.new.seat.me.0 ≡ has_enrolled s.place.me.0 x.result = t.1 e in
    let m : c.max-seat-inside.result ≡ max s.mark (s.saw + 1) = search rules in
    let n : mark_of x.new.seat.me.0.numbers ≡ mark_of (s.place.me.0.numbers ++ x.result ∷ []) = ap (λ (v : View). mark_of v.numbers) w in
    let k = mark_more s.place.me.0.numbers x.result in
    let y : x.new.seat.me.0.saw ≡ x.result + 1 = ap (λ (v : View). v.saw) w in
    let q = i.3 in
    (t.0 ∙ i.0, omega (arith, y, e), grind (arith, i.2, c.if-seat-eq64.false), omega (arith, m, n, k, e, q))
