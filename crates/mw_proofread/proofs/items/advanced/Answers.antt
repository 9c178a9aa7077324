use Rattle.std.proofs.Common.{◌∷◌, reverse, sym, subst}
use Rattle.std.specs.Prelude.{codes}
use Rattle.mw_logic.specs.Module.{Module}
use Rattle.mw_proofread.specs.TokenTexts.{token_texts}
use Rattle.mw_proofread.specs.Parts.{Steps, Stops}
use Rattle.mw_proofread.proofs.Causes.{from_ok, from_err}
use Rattle.mw_proofread.proofs.items.advanced.Goals as goal

pub returns-in-Some-clause-ok : goal.returns-in-Some-clause-ok
returns-in-Some-clause-ok c =
    let before = reverse c.args.frames.now.items in
    let after = reverse c.closed.new.frames.items in
    let old = c.args.entries.now.items in
    let new = c.closed.new.entries.items in
    from_ok (λ rest. (M : Module) → Steps M before after (codes "}" ∷ token_texts c.in-Some.behind.now) (token_texts rest.now) old new)
    (λ rest. Steps c.args.reader.now.ctx.now before after (token_texts c.args.tokens.now) (token_texts rest.now) old new) c.closed.result
    (λ rest h. subst (λ z. Steps c.args.reader.now.ctx.now before after z (token_texts rest.now) old new) (sym c.in-Some.ensures) (h c.args.reader.now.ctx.now)) c.closed.ensures.ok

pub returns-in-Some-clause-outside : goal.returns-in-Some-clause-outside
returns-in-Some-clause-outside c =
    let before = reverse c.args.frames.now.items in
    from_err ((M : Module) → Stops M before (codes "}" ∷ token_texts c.in-Some.behind.now)) (Stops c.args.reader.now.ctx.now before (token_texts c.args.tokens.now)) c.closed.result
    (λ h. subst (Stops c.args.reader.now.ctx.now before) (sym c.in-Some.ensures) (h c.args.reader.now.ctx.now)) c.closed.ensures.outside
