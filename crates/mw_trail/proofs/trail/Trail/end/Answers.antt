use Rattle.std.proofs.Common.{◌∙◌, [], refl, subst}
use Rattle.mw_trail.specs.Tracks.{Track, Keeps}
use Rattle.mw_trail.specs.declared.trail.Item.TheVariants.{End}
use Rattle.mw_trail.proofs.Tracks.{IsJoined, alone, track_alone, track_joined, keeps_joined, moves-append, without_values}
use Rattle.mw_trail.proofs.trail.Trail.end.Goals as goal

pub invariant_of-self-2 : goal.invariant_of-self-2
invariant_of-self-2 c =
    let p = c.self.inside in
    let t : Track = record { items = p.items.items; values = p.values.items; numbers = p.numbers.items } in
    let u : Track = record { items = c.push.new.self.items; values = p.values.items; numbers = p.numbers.items } in
    let w : Track = alone End [] [] in
    let j : IsJoined t w u = without_values t u End c.in_ok-push.ensures.items refl refl in
    track_joined t w u c.self.invariant (track_alone End [] [] refl refl) j

pub returns-clause-moves : goal.returns-clause-moves
returns-clause-moves c = λ M.
    let p = c.self.inside in
    let t : Track = record { items = p.items.items; values = p.values.items; numbers = p.numbers.items } in
    let u : Track = record { items = c.push.new.self.items; values = p.values.items; numbers = p.numbers.items } in
    let w : Track = alone End [] [] in
    let j : IsJoined t w u = without_values t u End c.in_ok-push.ensures.items refl refl in
    moves-append M t w u c.self.invariant j ∙ rw (← c.self.view_is) refl

pub returns-clause-keeps : goal.returns-clause-keeps
returns-clause-keeps c =
    let p = c.self.inside in
    let t : Track = record { items = p.items.items; values = p.values.items; numbers = p.numbers.items } in
    let u : Track = record { items = c.push.new.self.items; values = p.values.items; numbers = p.numbers.items } in
    let w : Track = alone End [] [] in
    let j : IsJoined t w u = without_values t u End c.in_ok-push.ensures.items refl refl in
    subst (λ s. Keeps s u) c.self.view_is (keeps_joined t w u j)
