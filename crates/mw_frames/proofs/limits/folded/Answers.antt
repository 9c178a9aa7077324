use Rattle.std.proofs.Common.{rules, ap, ◌∙◌, ◌≡◌, ◌++◌, ◌∷◌, [], ◌≤◌, ◌+◌, length}
use Rattle.mw_logic.specs.Terms.{terms_of}
use Rattle.mw_logic.specs.NormalForm.{applied_in}
use Rattle.mw_logic.proofs.Pushed.{terms_of-append}
use Rattle.mw_frames.specs.Jobs.{rest}
use Rattle.mw_frames.proofs.HoleFits.{put_round, few_waiting}
use Rattle.mw_frames.proofs.limits.folded.Goals as goal

pub returns-clause-some : goal.returns-clause-some
returns-clause-some c =
    let l : length c.args.own.now + length c.args.waiting.now ≤ 1 = c.may_fold.ensures.yes (search rules) in
    let w = rest c.args.facts.now c.args.values.now c.args.waiting.now in
    let f1 = c.push_copies.new.found.items in
    let f2 = c.push.new.self.items in
    let copied : f2 ≡ f1 ++ c.args.term.now ∷ [] = c.in_ok-push.ensures.items ∙ ap (λ u. f1 ++ u ∷ []) c.in_ok-copy.ensures in
    let copies = ap terms_of c.in_ok-push_copies.ensures ∙ terms_of-append c.new-args.result.items c.args.own.now in
    c.in_ok-whole.ensures ∙ ap (applied_in c.args.facts.now c.args.operator)
    (put_round c.new-args.result.items f1 f2 c.push_waiting.new.found.items c.args.own.now c.args.term.now w c.new-args.ensures.items copies copied (c.in_ok-push_waiting.ensures (few_waiting (length c.args.own.now) (length c.args.waiting.now) l)))
