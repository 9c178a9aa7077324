use Rattle.std.proofs.Common.{◌∙◌, subst, sym, ap, length}
use Rattle.mw_trail.specs.Tracks.{Track, IsMark, moves}
use Rattle.mw_trail.proofs.Tracks.{length-moves}
use Rattle.mw_trail.proofs.Marks.{marks_itself}
use Rattle.mw_trail.proofs.trail.Trail.mark.Goals as goal

pub returns-clause-number : goal.returns-clause-number
returns-clause-number c = λ M.
    let p = c.self.inside in
    let t : Track = record { items = p.items.items; values = p.values.items; numbers = p.numbers.items } in
    c.len.ensures ∙ p.items.ok.0 ∙ sym (length-moves M t) ∙ ap (λ s. length (moves M s)) c.self.view_is

pub returns-clause-mark : goal.returns-clause-mark
returns-clause-mark c =
    let p = c.self.inside in
    let t : Track = record { items = p.items.items; values = p.values.items; numbers = p.numbers.items } in
    subst (λ s. IsMark c.len.result s s) c.self.view_is (marks_itself c.len.result t c.self.invariant (c.len.ensures ∙ p.items.ok.0))
