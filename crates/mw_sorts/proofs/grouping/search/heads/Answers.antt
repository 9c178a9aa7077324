use Rattle.std.proofs.Common.{arith, ◌∙◌, ◌+◌, ℕ, ap, sym, subst, inl, inr}
use Rattle.std.specs.Prelude.{Some}
use Rattle.std.specs.Global.{Vec}
use Rattle.mw_sorts.proofs.Heads.{AreHeadsSoFar, seen-more, heads-more, heads-seen, heads-done}
use Rattle.mw_sorts.proofs.grouping.search.heads.Goals.{then-number-known+in_ok-push, else-number-known}
use Rattle.mw_sorts.proofs.grouping.search.heads.Goals as goal

pub loop-place-preserved : goal.loop-place-preserved
loop-place-preserved c =
    let rows = c.args.rows.now in
    let columns = c.args.columns.now in
    let n = c.loop-place.place in
    let list = c.in_ok-vec.ensures.items in
    let only = c.in_ok-number.ensures.only in
    let met = seen-more rows columns n c.loop-place.seen c.number.new.self c.loop-place.heads.items c.loop-place.invariant (λ s l g. elim (only s l g) [ inl a ↦ inl a | inr e ↦ inr (e ∙ list) ]) in
    elim c.if-number-known.branch [
      | then-number-known+in_ok-push w ↦
          heads-more rows columns n c.loop-place.seen c.number.new.self c.loop-place.heads.items c.if-number-known.heads.items c.loop-place.invariant (ap (λ (v : Vec ℕ). v.items) w.heads-is ∙ w.in_ok-push.ensures.items) met
      | else-number-known w ↦
          let less = w.if-number-known.false in
          let known = c.len-known.ensures in
          subst (λ (v : Vec ℕ). AreHeadsSoFar rows columns (n + 1) c.number.new.self v.items) (sym w.heads-is) (
          heads-seen rows columns n c.in_ok-number.number c.loop-place.seen c.number.new.self c.loop-place.heads.items c.loop-place.invariant c.in_ok-number.ensures.kept (c.in_ok-number.ensures.number ∙ ap Some list) (omega arith) met
          )
    ]

pub returns : goal.returns
returns c =
    let high = c.loop-place-test.false in
    let low = c.loop-place.auto.place-end in
    heads-done c.args.rows.now c.args.columns.now c.loop-place.place c.loop-place.seen c.loop-place.heads.items (omega arith) c.loop-place.invariant
