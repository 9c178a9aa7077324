use Rattle.std.proofs.Common.{length, sym, refl}
use Rattle.mw_chart.proofs.Filling.{advances_token, advances_not, advances_hole, advances_whole, advances_none}
use Rattle.mw_chart.proofs.Adding.{if_ok_more}
use Rattle.mw_chart.proofs.Fulls.{full_more}
use Rattle.mw_chart.proofs.completing.advance.Goals as goal

pub returns-in_ok-put_at-in-Some-Token-clause-ok : goal.returns-in_ok-put_at-in-Some-Token-clause-ok
returns-in_ok-put_at-in-Some-Token-clause-ok c =
    advances_token _ _ c.args.table.now c.args.text.now c.args.row.now.constituents.items c.args.at c.args.state c.in-Some-Token.token c.in-Some-Token.next c.args.tree.now _
    (sym (rw c.in-Some-Token.field-0-is at c.in-Some-Token.ensures)) (c.if-stands.ensures.0 refl) c.in_ok-again-in-Some-Token.ensures c.in_ok-put_at-in-Some-Token.ensures.ok

pub returns-else-stands-clause-ok : goal.returns-else-stands-clause-ok
returns-else-stands-clause-ok c =
    advances_not _ c.args.table.now c.args.text.now c.args.row.now.constituents.items c.args.at c.args.state c.in-Some-Token.token c.in-Some-Token.next c.args.tree.now
    (sym (rw c.in-Some-Token.field-0-is at c.in-Some-Token.ensures)) (λ e. let bad = c.if-stands.ensures.1 e in let h : ⊥ = (cc) in h)

pub returns-in-Some-Hole-clause-ok : goal.returns-in-Some-Hole-clause-ok
returns-in-Some-Hole-clause-ok c =
    if_ok_more c.complete.result _ _
    (λ x p. advances_hole _ _ c.args.table.now c.args.text.now c.args.row.now.constituents.items c.args.at c.args.state c.in-Some-Hole.kind c.in-Some-Hole.below c.in-Some-Hole.next c.args.tree.now
    (sym (rw c.in-Some-Hole.field-0-is at c.in-Some-Hole.ensures)) p) c.complete.ensures.ok

pub returns-in-Some-Whole-clause-ok : goal.returns-in-Some-Whole-clause-ok
returns-in-Some-Whole-clause-ok c =
    advances_whole _ c.args.table.now c.args.text.now c.args.row.now.constituents.items c.args.at c.args.state c.in-Some-Whole._kind c.in-Some-Whole._precedence c.args.tree.now
    (sym (rw c.in-Some-Whole.field-0-is at c.in-Some-Whole.ensures))

pub returns-in-None-clause-ok : goal.returns-in-None-clause-ok
returns-in-None-clause-ok c = advances_none _ c.args.table.now c.args.text.now c.args.row.now.constituents.items c.args.at c.args.state c.args.tree.now (sym c.in-None.ensures)

pub returns-in_ok-put_at-in-Some-Token-clause-ready : goal.returns-in_ok-put_at-in-Some-Token-clause-ready
returns-in_ok-put_at-in-Some-Token-clause-ready c = record {
  short = c.requires.ready.short;
  shape = c.requires.ready.shape;
  indexed = c.requires.ready.indexed;
  within = c.requires.ready.within;
  count = c.in_ok-put_at-in-Some-Token.ensures.len;
  full = full_more (length c.args.text.now) c.args.agenda.now.full.items c.args.agenda.now.cells.items _ c.in_ok-put_at-in-Some-Token.ensures.ok.kept c.in_ok-put_at-in-Some-Token.ensures.len c.requires.ready.full;
}
