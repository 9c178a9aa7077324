use Rattle.std.proofs.Common.{◌≡◌, ◌∙◌, ◌+◌, ◌-◌, ◌∷◌, ap, sym, reverse, take, length}
use Rattle.mw_logic.specs.Parts.{number_of_terms}
use Rattle.mw_spot.specs.Spots.{passed}
use Rattle.mw_spot.proofs.Calls.{on_ok, last_first, pushed_first}
use Rattle.mw_spot.proofs.Levels.{so_many}
use Rattle.mw_spot.proofs.spotting.+pass.Goals as goal

pub returns-clause-path : goal.returns-clause-path
returns-clause-path t c =
    let levels = c.args.levels.now in
    let o = c.level-item.result in
    let path = c.args.spot.now.path.items in
    let l = c.level.inside in
    let os = reverse (take (length levels - 1) levels) in
    let first : reverse levels ≡ o ∷ os = last_first levels o c.in-len1-up.len_at_least c.level-item.is in
    let at : l.at ≡ number_of_terms o.before = sym (so_many l.at l.others.items c.level.invariant) ∙ ap (λ o. number_of_terms o.before) c.level.view_is in
    let number : reverse c.push.new.self.items ≡ (number_of_terms o.before + 1) ∷ reverse path =
    pushed_first path c.push.new.self.items c.in_ok-number.number c.in_ok-push.ensures.items ∙ ap (λ n. n ∷ reverse path) (c.in_ok-number.ensures ∙ ap (λ n. n + 1) at) in
    on_ok c.pass.result (reverse c.pass.new.spot.path.items ≡ passed os (reverse c.push.new.self.items)) (reverse c.pass.new.spot.path.items ≡ passed (reverse levels) (reverse path))
    (λ q. q ∙ ap (passed os) number ∙ ap (λ os. passed os (reverse path)) (sym first)) c.pass.ensures.path
