use Rattle.std.proofs.Common.{◌≡◌, ◌∙◌, ℕ, ◌-◌, List, [], ◌∷◌, ◌++◌, length, take, set, get_or, ap, refl, arith, sym, true, option_map}
use Rattle.std.specs.Vec.{with_item}
use Rattle.mw_matching.specs.Multisets.{behind_first}
use Rattle.mw_search.specs.Goals.{shares_left}
use Rattle.mw_search.specs.declared.goals.Goal.{Goal}
use Rattle.mw_search.specs.declared.goals.Goal.TheVariants.{Meet}
use Rattle.mw_search.specs.declared.machine.Choice.{Choice}
use Rattle.mw_search.specs.declared.machine.Machine.{Machine}
use Rattle.mw_search.proofs.Meeting.{next_none, next_some, got_any}
use Rattle.mw_search.proofs.Steps.{closed, turned}
use Rattle.mw_search.proofs.machine.Machine.turn.Goals as goal

pub returns-in-None-clause-ok : goal.returns-in-None-clause-ok
returns-in-None-clause-ok c =
    let old : Machine = c.args.self.now in
    let top : Choice = c.index-top.result.now in
    let new : Machine = record { given = old.given; running = old.running; goals = old.goals; values = old.values; stack = c.pop.new.self } in
    let at : top ≡ get_or old.stack.items (length old.stack.items - 1) top = c.index-top.ensures ∙ ap (λ n. get_or old.stack.items n top) (omega arith) in
    let none : shares_left top.shares ≡ [] = next_none _ (shares_left top.shares) (ap (option_map _) c.in-None.is) c.in_ok-share.ensures in
    let popped : c.pop.new.self.items ≡ take (length old.stack.items - 1) old.stack.items = c.pop.ensures.rest ∙ ap (λ n. take n old.stack.items) (omega arith) in
    λ sig ps ready. closed sig ps old new top ready refl c.requires.resting c.requires.some at none refl refl popped

pub returns-in_ok-push-in-Some-2-clause-ok : goal.returns-in_ok-push-in-Some-2-clause-ok
returns-in_ok-push-in-Some-2-clause-ok c =
    let old : Machine = c.args.self.now in
    let n : ℕ = length old.stack.items - 1 in
    let top : Choice = c.index-top.result.now in
    let later : Choice = c.index_mut-top.result.now in
    let passed : Choice = record { pattern = later.pattern; shares = c.pass.new.self; goals = later.goals; below = later.below } in
    let new : Machine = record { given = old.given; running = true; goals = c.push-in-Some.new.self; values = c.truncate.new.self; stack = with_item old.stack (c.len-last.result - 1) passed } in
    let here : c.len-last.result - 1 ≡ n = omega arith in
    let at : top ≡ get_or old.stack.items n top = c.index-top.ensures ∙ ap (λ m. get_or old.stack.items m top) here in
    let still : later ≡ top = c.index_mut-top.ensures.value ∙ ap (λ m. get_or old.stack.items m later) here ∙ got_any old.stack.items n later top (omega arith) ∙ sym at in
    let some : shares_left top.shares ≡ (c.in-Some.term, c.in-Some.goal) ∷ behind_first (shares_left top.shares) = next_some _ (c.in-Some.term, c.in-Some.goal) (shares_left top.shares) (ap (option_map _) c.in-Some.is) c.in_ok-share.ensures in
    let left : shares_left c.pass.new.self ≡ behind_first (shares_left top.shares) = c.pass.ensures ∙ ap (λ (x : Choice). behind_first (shares_left x.shares)) still in
    let copies : c.in_ok-goals-in-Some.goals.items ≡ top.goals.items = c.in_ok-goals-in-Some.ensures ∙ c.as_slice.ensures.value in
    let goals : c.push-in-Some.new.self.items ≡ (top.goals.items ++ c.in-Some.goal ∷ []) ++ Meet top.pattern c.in-Some.term ∷ [] =
    c.in_ok-push-in-Some-2.ensures.items
    ∙ ap (λ p. c.push.new.self.items ++ Meet p c.in-Some.term ∷ []) c.in_ok-copy-in-Some.ensures
    ∙ ap (λ (gs : List Goal). gs ++ Meet top.pattern c.in-Some.term ∷ []) (c.in_ok-push-in-Some.ensures.items ∙ ap (λ (gs : List Goal). gs ++ c.in-Some.goal ∷ []) copies) in
    λ sig ps ready. turned sig ps old new top passed c.in-Some.term c.in-Some.goal (behind_first (shares_left top.shares)) ready refl c.requires.resting c.requires.some at some
    (ap (λ (x : Choice). x.pattern) still) (ap (λ (x : Choice). x.goals.items) still) (ap (λ (x : Choice). x.below) still) left refl c.truncate.ensures.items
    (ap (λ m. set old.stack.items m passed) here) goals
