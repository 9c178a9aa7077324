use Rattle.std.proofs.Common.{◌∙◌, ◌-◌, subst, ap, refl, take}
use Rattle.mw_deduction.specs.Replay.{Leaves}
use Rattle.mw_trail.specs.Tracks.{Track, KeepsBefore, moves}
use Rattle.mw_trail.proofs.Marks.{IsLeft, left_track, left_moves, left_keeps}
use Rattle.mw_trail.proofs.trail.Trail.leave.Goals as goal

pub invariant_of-self-2 : goal.invariant_of-self-2
invariant_of-self-2 c =
    let p = c.self.inside in
    let t : Track = record { items = p.items.items; values = p.values.items; numbers = p.numbers.items } in
    let u : Track = record { items = c.go_out.new.items.items; values = p.values.items; numbers = c.truncate.new.self.items } in
    let n = c.in_ok-count.count in
    let e = c.saturating_sub.ensures ∙ ap (λ k. k - n) (c.len.ensures ∙ p.numbers.ok.0) in
    let l : IsLeft n t u = record { items = c.in_ok-count.ensures.out; values = refl; numbers = c.truncate.ensures.items ∙ ap (λ k. take k p.numbers.items) e } in
    left_track n t u c.self.invariant l

pub returns-clause-moves : goal.returns-clause-moves
returns-clause-moves c = λ M.
    let p = c.self.inside in
    let t : Track = record { items = p.items.items; values = p.values.items; numbers = p.numbers.items } in
    let u : Track = record { items = c.go_out.new.items.items; values = p.values.items; numbers = c.truncate.new.self.items } in
    let n = c.in_ok-count.count in
    let e = c.saturating_sub.ensures ∙ ap (λ k. k - n) (c.len.ensures ∙ p.numbers.ok.0) in
    let l : IsLeft n t u = record { items = c.in_ok-count.ensures.out; values = refl; numbers = c.truncate.ensures.items ∙ ap (λ k. take k p.numbers.items) e } in
    subst (λ s. Leaves (moves M s) (moves M u)) c.self.view_is (left_moves M n t u c.self.invariant l)

pub returns-clause-keeps : goal.returns-clause-keeps
returns-clause-keeps c =
    let p = c.self.inside in
    let t : Track = record { items = p.items.items; values = p.values.items; numbers = p.numbers.items } in
    let u : Track = record { items = c.go_out.new.items.items; values = p.values.items; numbers = c.truncate.new.self.items } in
    let n = c.in_ok-count.count in
    let e = c.saturating_sub.ensures ∙ ap (λ k. k - n) (c.len.ensures ∙ p.numbers.ok.0) in
    let l : IsLeft n t u = record { items = c.in_ok-count.ensures.out; values = refl; numbers = c.truncate.ensures.items ∙ ap (λ k. take k p.numbers.items) e } in
    subst (λ s. KeepsBefore s u) c.self.view_is (left_keeps n t u c.self.invariant l)
