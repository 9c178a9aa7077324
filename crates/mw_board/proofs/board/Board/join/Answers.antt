use Rattle.std.proofs.Common.{arith, rules, ◌≡◌, ◌++◌, ap, max, ◌∙◌, sym}
use Rattle.mw_board.specs.declared.view.View.{View}
use Rattle.mw_board.specs.Rule.{Worker, Ground}
use Rattle.atomic_table.specs.Table.{Me}
use Rattle.mw_board.specs.Rule.{has_joined, mark_of}
use Rattle.mw_board.proofs.Steps.{join_joins, tell_allows}
use Rattle.mw_board.proofs.Views.{mark_append}
use Rattle.mw_board.proofs.board.Board.join.Goals as goal

pub join_seat-requires : goal.join_seat-requires
join_seat-requires c =
    let t = c.self.inside.table.shared in
    let s = c.seat.inside in
    let o = c.other.inside in
    let g = sym (ap (λ (g : Ground). g.name) c.self.view_is) in
    (ap (λ (w : Worker). w.board) c.seat.view_is ∙ c.requires.board.0 ∙ g, ap (λ (w : Worker). w.board) c.other.view_is ∙ c.requires.board.1 ∙ g, c.other.invariant.0, grind (arith, c.self.invariant.0), join_joins t.key s.place.id s.place.me.0 o.place.id o.place.me.0)

pub load-requires : goal.load-requires
load-requires c =
    let t = c.self.inside.table.shared in
    let x = c.join_seat.new.seat in
    let g = sym (ap (λ (g : Ground). g.name) c.self.view_is) in
    (c.join_seat.ensures.0 ∙ (ap (λ (w : Worker). w.board) c.seat.view_is ∙ c.requires.board.0 ∙ g), grind (arith, c.self.invariant.0), tell_allows t.key t.table_id.slots x.id x.me)

pub invariant_of-seat : goal.invariant_of-seat
invariant_of-seat c =
    let s = c.seat.inside in
    let o = c.other.inside in
    let i = c.seat.invariant in
    let j = c.other.invariant in
    let x = c.load.new.seat.me in
    let t : x ≡ (has_joined s.place.me.0 o.place.me.0, s.place.me.1) = c.load.ensures.2.0 ∙ c.join_seat.ensures.2 in
    let w : x.0 ≡ has_joined s.place.me.0 o.place.me.0 = ap (λ (me : Me (Unit {0}) View). me.0) t in
    let m : c.max-seat-inside.result ≡ max s.mark o.mark = search rules in
    let n : mark_of x.0.numbers ≡ mark_of (s.place.me.0.numbers ++ o.place.me.0.numbers) = ap (λ (v : View). mark_of v.numbers) w in
    let k = mark_append s.place.me.0.numbers o.place.me.0.numbers in
    let p = i.3 in
    let q = j.3 in
    (ap (λ (me : Me (Unit {0}) View). me.1) t ∙ i.0, ap (λ (v : View). v.saw) w ∙ i.1, i.2, omega (arith, m, n, k, p, q))
