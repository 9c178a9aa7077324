use Rattle.std.proofs.Common.{◌≡◌, ◌∙◌, List, ℕ, [], ◌∷◌, ◌++◌, map, ap}
use Rattle.mw_redex.specs.declared.walking.Spot.{Spot}
use Rattle.mw_redex.specs.Waiting.{way_of, to_come}
use Rattle.mw_redex.proofs.Waited.{to_come-top}
use Rattle.mw_redex.proofs.walking.Places.new.Goals as goal

pub returns : goal.returns
returns c =
    let first : Spot = record { path = c.of-path.result; term = c.args.term } in
    let one : c.push_back.new.self.items ≡ first ∷ [] = c.in_ok-push_back.ensures.items ∙ ap (λ (spots : List Spot). spots ++ first ∷ []) c.new-waiting.ensures.items in
    ap (λ (spots : List Spot). to_come (map way_of spots)) one ∙ ap (λ (path : List ℕ). to_come ((path, c.args.term.now) ∷ [])) (c.of-path.ensures ∙ c.new.ensures.items) ∙ to_come-top c.args.term.now
