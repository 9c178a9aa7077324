use Rattle.std.proofs.lemmas.Bool.{both_ways}
use Rattle.mw_proofread.proofs.Tails.{head_is, unfollowed_head}
use Rattle.mw_proofread.proofs.reading.head.Goals as goal

pub returns-then-is_followed-clause-ok : goal.returns-then-is_followed-clause-ok
returns-then-is_followed-clause-ok c =
    let (name, title) = c.in-Some.ensures in
    head_is c.args.reader.now.ctx.now _ _ _ name title c.in-Some-after.ensures c.in_ok-from.from _ c.in_ok-from.ensures.ok (c.is_followed.ensures.0 c.if-is_followed.true)

pub returns-else-is_followed-clause-outside : goal.returns-else-is_followed-clause-outside
returns-else-is_followed-clause-outside c =
    let (name, title) = c.in-Some.ensures in
    unfollowed_head c.args.reader.now.ctx.now _ _ _ name title c.in-Some-after.ensures c.in_ok-from.from _ c.in_ok-from.ensures.ok (λ f. both_ways c.is_followed.result c.if-is_followed.false (c.is_followed.ensures.1 f))
