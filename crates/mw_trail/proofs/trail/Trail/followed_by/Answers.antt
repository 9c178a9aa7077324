use Rattle.std.proofs.Common.{◌∙◌, ◌++◌, ap}
use Rattle.mw_trail.specs.Tracks.{Track, moves}
use Rattle.mw_trail.proofs.Tracks.{IsJoined, moves-append, track_joined}
use Rattle.mw_trail.proofs.trail.Trail.followed_by.Goals as goal

pub invariant_of-result : goal.invariant_of-result
invariant_of-result c =
    let p = c.self.inside in
    let q = c.next.inside in
    let t : Track = record { items = p.items.items; values = p.values.items; numbers = p.numbers.items } in
    let w : Track = record { items = q.items.items; values = q.values.items; numbers = q.numbers.items } in
    let u : Track = record { items = c.join.new.items.items; values = c.join.new.values.items; numbers = c.join.new.numbers.items } in
    let j : IsJoined t w u = record { items = c.in_ok-join.ensures.items; values = c.in_ok-join.ensures.values; numbers = c.in_ok-join.ensures.numbers } in
    track_joined t w u c.self.invariant c.next.invariant j

pub returns-clause-moves : goal.returns-clause-moves
returns-clause-moves c = λ M.
    let p = c.self.inside in
    let q = c.next.inside in
    let t : Track = record { items = p.items.items; values = p.values.items; numbers = p.numbers.items } in
    let w : Track = record { items = q.items.items; values = q.values.items; numbers = q.numbers.items } in
    let u : Track = record { items = c.join.new.items.items; values = c.join.new.values.items; numbers = c.join.new.numbers.items } in
    let j : IsJoined t w u = record { items = c.in_ok-join.ensures.items; values = c.in_ok-join.ensures.values; numbers = c.in_ok-join.ensures.numbers } in
    moves-append M t w u c.self.invariant j ∙ ap (λ s. moves M s ++ moves M w) c.self.view_is ∙ ap (λ s. moves M c.args.self ++ moves M s) c.next.view_is
