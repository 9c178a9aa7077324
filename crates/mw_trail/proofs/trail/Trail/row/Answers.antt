use Rattle.std.proofs.Common.{◌∙◌, [], ◌∷◌, refl, subst, arith}
use Rattle.mw_trail.specs.Tracks.{Track, Keeps}
use Rattle.mw_trail.specs.declared.trail.Item.TheVariants.{Row}
use Rattle.mw_trail.proofs.Tracks.{IsJoined, alone, track_alone, track_joined, keeps_joined, moves-append, with_values}
use Rattle.mw_trail.proofs.trail.Trail.row.Goals as goal

pub invariant_of-self-2 : goal.invariant_of-self-2
invariant_of-self-2 c =
    let p = c.self.inside in
    let t : Track = record { items = p.items.items; values = p.values.items; numbers = p.numbers.items } in
    let u : Track = record { items = c.push_reserved.new.self.items; values = c.push.new.self.items; numbers = p.numbers.items } in
    let w : Track = alone Row (c.args.term ∷ []) [] in
    let j : IsJoined t w u = with_values t u Row (c.args.term ∷ []) (grind (arith, c.push_reserved.ensures.items, c.reserve.ensures.items)) c.in_ok-push.ensures.items refl in
    track_joined t w u c.self.invariant (track_alone Row (c.args.term ∷ []) [] refl refl) j

pub returns-clause-moves : goal.returns-clause-moves
returns-clause-moves c = λ M.
    let p = c.self.inside in
    let t : Track = record { items = p.items.items; values = p.values.items; numbers = p.numbers.items } in
    let u : Track = record { items = c.push_reserved.new.self.items; values = c.push.new.self.items; numbers = p.numbers.items } in
    let w : Track = alone Row (c.args.term ∷ []) [] in
    let j : IsJoined t w u = with_values t u Row (c.args.term ∷ []) (grind (arith, c.push_reserved.ensures.items, c.reserve.ensures.items)) c.in_ok-push.ensures.items refl in
    moves-append M t w u c.self.invariant j ∙ rw (← c.self.view_is) refl

pub returns-clause-keeps : goal.returns-clause-keeps
returns-clause-keeps c =
    let p = c.self.inside in
    let t : Track = record { items = p.items.items; values = p.values.items; numbers = p.numbers.items } in
    let u : Track = record { items = c.push_reserved.new.self.items; values = c.push.new.self.items; numbers = p.numbers.items } in
    let w : Track = alone Row (c.args.term ∷ []) [] in
    let j : IsJoined t w u = with_values t u Row (c.args.term ∷ []) (grind (arith, c.push_reserved.ensures.items, c.reserve.ensures.items)) c.in_ok-push.ensures.items refl in
    subst (λ s. Keeps s u) c.self.view_is (keeps_joined t w u j)
