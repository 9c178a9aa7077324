use Rattle.std.proofs.Common.{◌∙◌, [], refl, subst, arith}
use Rattle.mw_trail.specs.Tracks.{Track, Keeps}
use Rattle.mw_trail.specs.declared.trail.Item.TheVariants.{Among}
use Rattle.mw_trail.proofs.Tracks.{IsJoined, alone, track_alone, track_joined, keeps_joined, with_numbers, among_moves}
use Rattle.mw_trail.proofs.trail.Trail.among.Goals as goal

pub invariant_of-self-2 : goal.invariant_of-self-2
invariant_of-self-2 c =
    let p = c.self.inside in
    let t : Track = record { items = p.items.items; values = p.values.items; numbers = p.numbers.items } in
    let u : Track = record { items = c.push_reserved.new.self.items; values = p.values.items; numbers = c.extend_from_slice.new.self.items } in
    let w : Track = alone (Among c.in_ok-count.count) [] c.args.numbers.now in
    let j : IsJoined t w u = with_numbers t u (Among c.in_ok-count.count) c.args.numbers.now (grind (arith, c.push_reserved.ensures.items, c.reserve.ensures.items)) refl c.in_ok-extend_from_slice.ensures.items in
    track_joined t w u c.self.invariant (track_alone (Among c.in_ok-count.count) [] c.args.numbers.now refl c.in_ok-count.ensures) j

pub returns-clause-moves : goal.returns-clause-moves
returns-clause-moves c = λ M.
    let p = c.self.inside in
    let t : Track = record { items = p.items.items; values = p.values.items; numbers = p.numbers.items } in
    let u : Track = record { items = c.push_reserved.new.self.items; values = p.values.items; numbers = c.extend_from_slice.new.self.items } in
    let w : Track = alone (Among c.in_ok-count.count) [] c.args.numbers.now in
    let j : IsJoined t w u = with_numbers t u (Among c.in_ok-count.count) c.args.numbers.now (grind (arith, c.push_reserved.ensures.items, c.reserve.ensures.items)) refl c.in_ok-extend_from_slice.ensures.items in
    among_moves M t u c.in_ok-count.count c.args.numbers.now c.self.invariant c.in_ok-count.ensures j ∙ rw (← c.self.view_is) refl

pub returns-clause-keeps : goal.returns-clause-keeps
returns-clause-keeps c =
    let p = c.self.inside in
    let t : Track = record { items = p.items.items; values = p.values.items; numbers = p.numbers.items } in
    let u : Track = record { items = c.push_reserved.new.self.items; values = p.values.items; numbers = c.extend_from_slice.new.self.items } in
    let w : Track = alone (Among c.in_ok-count.count) [] c.args.numbers.now in
    let j : IsJoined t w u = with_numbers t u (Among c.in_ok-count.count) c.args.numbers.now (grind (arith, c.push_reserved.ensures.items, c.reserve.ensures.items)) refl c.in_ok-extend_from_slice.ensures.items in
    subst (λ s. Keeps s u) c.self.view_is (keeps_joined t w u j)
