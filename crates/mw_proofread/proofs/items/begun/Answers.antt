use Rattle.std.proofs.Common.{◌≡◌, ◌++◌, ◌∷◌, ◌≤◌, ◌⊎◌, [], length, reverse}
use Rattle.std.specs.Prelude.{codes}
use Rattle.std.proofs.lemmas.Bool.{both_ways}
use Rattle.mw_items.specs.declared.Entry.TheVariants.{Open}
use Rattle.mw_proofread.specs.TokenTexts.{token_texts}
use Rattle.mw_proofread.specs.Parts.{NotFirst, NoLine, Steps, Stops}
use Rattle.mw_proofread.proofs.Causes.{on_outside, passed, from_three, from_err}
use Rattle.mw_proofread.proofs.Frames.{begun_none, begun_ends, begun_stops, begun_shut, begun_opens}
use Rattle.mw_proofread.proofs.items.begun.Goals as goal

pub returns-in_err-found-clause-outside : goal.returns-in_err-found-clause-outside
returns-in_err-found-clause-outside c =
    let M = c.args.reader.now.ctx.now in
    let frames = c.args.frames.now.items in
    passed _ _ c.in_err-found.field-0.0 c.from_residual.ensures.1
    (on_outside (NoLine M (token_texts c.args.tokens.now)) (Stops M (reverse frames) (token_texts c.args.tokens.now)) c.in_err-found.field-0.0
    (λ n. begun_none M frames (token_texts c.args.tokens.now) n c.requires.open) c.in_err-found.ensures.outside)

pub returns-in-Some-clause-ok : goal.returns-in-Some-clause-ok
returns-in-Some-clause-ok c =
    let M = c.args.reader.now.ctx.now in
    let frames = c.args.frames.now.items in
    from_three
    (λ _. c.opened.new.frames.items ≡ frames ++ (record { wanted = c.in_ok-found.found.wanted } ∷ []))
    (λ _. c.opened.new.entries.items ≡ c.line.new.entries.items ++ (Open ∷ []))
    (λ rest. token_texts c.in-Some.behind.now ≡ codes "{" ∷ token_texts rest.now)
    (λ rest. Steps M (reverse frames) (reverse c.opened.new.frames.items) (token_texts c.args.tokens.now) (token_texts rest.now) c.args.entries.now.items c.opened.new.entries.items)
    c.opened.result c.opened.ensures.pushed c.opened.ensures.entries c.opened.ensures.rest
    (λ rest p q r. begun_opens M frames _ _ c.in_ok-found.found.wanted _ _ c.in_ok-found.ensures.ok c.requires.open (token_texts c.in-Some.behind.now) (token_texts rest.now) c.opened.new.frames.items c.opened.new.entries.items c.in-Some.ensures r p q)

pub returns-in-Some-clause-outside : goal.returns-in-Some-clause-outside
returns-in-Some-clause-outside c =
    let M = c.args.reader.now.ctx.now in
    let frames = c.args.frames.now.items in
    from_err (NotFirst (codes "{") (token_texts c.in-Some.behind.now) ⊎ (63 ≤ length frames)) (Stops M (reverse frames) (token_texts c.args.tokens.now)) c.opened.result
    (λ d. begun_shut M frames _ _ c.in_ok-found.found.wanted _ _ c.in_ok-found.ensures.ok c.requires.open (token_texts c.in-Some.behind.now) c.in-Some.ensures d) c.opened.ensures.outside

pub returns-then-is_count-clause-ok : goal.returns-then-is_count-clause-ok
returns-then-is_count-clause-ok c =
    begun_ends c.args.reader.now.ctx.now c.args.frames.now.items _ _ c.in_ok-found.found.wanted _ _ c.in_ok-found.ensures.ok c.requires.open c.in_ok-found.ensures.ends c.in_default.ensures (c.is_count.ensures.0 c.if-is_count.true) c.requires.deep

pub returns-else-is_count-clause-outside : goal.returns-else-is_count-clause-outside
returns-else-is_count-clause-outside c =
    begun_stops c.args.reader.now.ctx.now c.args.frames.now.items _ _ c.in_ok-found.found.wanted _ _ c.in_ok-found.ensures.ok c.requires.open c.in_ok-found.ensures.ends c.in_default.ensures
    (λ k. both_ways c.is_count.result c.if-is_count.false (c.is_count.ensures.1 k))
