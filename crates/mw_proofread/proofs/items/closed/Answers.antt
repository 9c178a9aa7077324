use Rattle.mw_proofread.specs.TokenTexts.{token_texts}
use Rattle.mw_proofread.proofs.Frames.{closed_ends, closed_opens}
use Rattle.mw_proofread.proofs.items.closed.Goals as goal

pub returns-in-Some-after-clause-ok : goal.returns-in-Some-after-clause-ok
returns-in-Some-after-clause-ok c = λ M.
    closed_opens M c.args.frames.now.items c.pop.new.self.items c.in-Some.frame c.in-Some.ensures.items c.in-Some-closed.frame c.push-in-Some-after-2.new.self.items
    (token_texts c.args.tokens.now) (token_texts c.in-Some-after.behind.now) c.args.entries.now.items c.push.new.self.items c.push-in-Some-after.new.self.items
    c.in-Some-closed.ensures c.in_ok-push-3.ensures.items c.in-Some-after.ensures c.in_ok-push.ensures.items c.in_ok-push-2.ensures.items

pub returns-then-is_done-clause-ok : goal.returns-then-is_done-clause-ok
returns-then-is_done-clause-ok c = λ M.
    closed_ends M c.args.frames.now.items c.pop.new.self.items c.in-Some.frame c.in-Some.ensures.items c.in-Some-closed.frame (token_texts c.args.tokens.now) c.args.entries.now.items c.push.new.self.items
    c.in-Some-closed.ensures c.in_default-after.ensures (c.is_done.ensures.0 c.if-is_done.true) c.requires c.in_ok-push.ensures.items
