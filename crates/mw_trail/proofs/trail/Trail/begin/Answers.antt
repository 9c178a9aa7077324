use Rattle.std.proofs.Common.{◌∙◌, ◌++◌, List, [], ◌∷◌, suc, length, refl, subst, ap, sym, arith, length-append}
use Rattle.mw_logic.specs.Term.{RawTerm}
use Rattle.mw_trail.specs.Tracks.{Track, Keeps}
use Rattle.mw_trail.specs.declared.trail.Item.TheVariants.{Begin}
use Rattle.mw_trail.proofs.Tracks.{IsJoined, alone, track_alone, track_joined, keeps_joined, with_values, begun_moves}
use Rattle.mw_trail.proofs.trail.Trail.begin.Goals as goal

pub invariant_of-self-2 : goal.invariant_of-self-2
invariant_of-self-2 c =
    let p = c.self.inside in
    let t : Track = record { items = p.items.items; values = p.values.items; numbers = p.numbers.items } in
    let u : Track = record { items = c.push_reserved.new.self.items; values = c.append.new.self.items; numbers = p.numbers.items } in
    let vs : List RawTerm = c.args.given.now.items in
    let x = Begin c.in_ok-count.count in
    let w : Track = alone x (vs ++ c.args.term ∷ []) [] in
    let j : IsJoined t w u = with_values t u x (vs ++ c.args.term ∷ []) (grind (arith, c.push_reserved.ensures.items, c.reserve.ensures.items)) (grind (arith, c.in_ok-append.ensures.items, c.in_ok-push.ensures.items)) refl in
    let l = length-append vs (c.args.term ∷ []) in
    let n = c.in_ok-count.ensures in
    let m = c.len.ensures in
    track_joined t w u c.self.invariant (track_alone x (vs ++ c.args.term ∷ []) [] (omega (arith, l, n, m)) refl) j

pub returns-clause-moves : goal.returns-clause-moves
returns-clause-moves c = λ M.
    let p = c.self.inside in
    let t : Track = record { items = p.items.items; values = p.values.items; numbers = p.numbers.items } in
    let u : Track = record { items = c.push_reserved.new.self.items; values = c.append.new.self.items; numbers = p.numbers.items } in
    let vs : List RawTerm = c.args.given.now.items in
    let x = Begin c.in_ok-count.count in
    let w : Track = alone x (vs ++ c.args.term ∷ []) [] in
    let j : IsJoined t w u = with_values t u x (vs ++ c.args.term ∷ []) (grind (arith, c.push_reserved.ensures.items, c.reserve.ensures.items)) (grind (arith, c.in_ok-append.ensures.items, c.in_ok-push.ensures.items)) refl in
    begun_moves M t u c.in_ok-count.count vs c.args.term c.self.invariant (grind (arith, c.in_ok-count.ensures, c.len.ensures)) j ∙ rw (← c.self.view_is) refl

pub returns-clause-keeps : goal.returns-clause-keeps
returns-clause-keeps c =
    let p = c.self.inside in
    let t : Track = record { items = p.items.items; values = p.values.items; numbers = p.numbers.items } in
    let u : Track = record { items = c.push_reserved.new.self.items; values = c.append.new.self.items; numbers = p.numbers.items } in
    let vs : List RawTerm = c.args.given.now.items in
    let x = Begin c.in_ok-count.count in
    let w : Track = alone x (vs ++ c.args.term ∷ []) [] in
    let j : IsJoined t w u = with_values t u x (vs ++ c.args.term ∷ []) (grind (arith, c.push_reserved.ensures.items, c.reserve.ensures.items)) (grind (arith, c.in_ok-append.ensures.items, c.in_ok-push.ensures.items)) refl in
    subst (λ s. Keeps s u) c.self.view_is (keeps_joined t w u j)
