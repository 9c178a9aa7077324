use Rattle.std.proofs.Common.{◌≡◌, ◌∙◌, ap, sym, subst, Err}
use Rattle.mw_logic.specs.Parts.{nested, IsTooDeep, IsTooLarge}
use Rattle.mw_logic.specs.NormalForm.{normal_form}
use Rattle.mw_term.specs.Raws.{raw_term}
use Rattle.mw_canon.specs.Causes.{HasCause}
use Rattle.mw_canon.specs.declared.CanonError.TheVariants.{Deep, Nat, Memory}
use Rattle.mw_prefix.specs.Forms.{IsPrefixForm, IsNoForm}
use Rattle.mw_proofread.specs.TokenTexts.{token_texts}
use Rattle.mw_proofread.proofs.Sameness.{same_one}
use Rattle.mw_proofread.proofs.Written.{read_written, read_form, deep_other, not_same_other, no_form_other}
use Rattle.mw_proofread.proofs.forms.form.Goals as goal

pub returns-in-Err-NoParse-clause-outside : goal.returns-in-Err-NoParse-clause-outside
returns-in-Err-NoParse-clause-outside c =
    no_form_other c.args.reader.now.ctx.now.signature c.shows.ensures.signature.accepted (token_texts c.args.tokens.now)
    (subst (λ s. IsNoForm s (token_texts c.args.tokens.now)) c.facts.ensures (c.in-Err-NoParse.ensures.no_parse (ap Err c.in-Err-NoParse.field-0-is)).0)

pub returns-in-Err-Deep-clause-outside : goal.returns-in-Err-Deep-clause-outside
returns-in-Err-Deep-clause-outside c =
    let raw = raw_term c.in-Ok.raw in
    let form : IsPrefixForm c.args.reader.now.ctx.now.signature raw (token_texts c.args.tokens.now) = subst (λ s. IsPrefixForm s raw (token_texts c.args.tokens.now)) c.facts.ensures c.in-Ok.ensures.read in
    deep_other c.args.reader.now.ctx.now.signature raw (token_texts c.args.tokens.now) form c.in-Err-Deep.field-0 (subst (λ s. HasCause s (nested s raw) c.in-Err-Deep.field-0) c.facts-2.ensures c.in-Err-Deep.ensures.cause)
    (λ e. let k : Deep ≡ Memory = sym c.in-Err-Deep.field-0-is ∙ e in cc)

pub returns-in-Err-Nat-clause-outside : goal.returns-in-Err-Nat-clause-outside
returns-in-Err-Nat-clause-outside c =
    let raw = raw_term c.in-Ok.raw in
    let form : IsPrefixForm c.args.reader.now.ctx.now.signature raw (token_texts c.args.tokens.now) = subst (λ s. IsPrefixForm s raw (token_texts c.args.tokens.now)) c.facts.ensures c.in-Ok.ensures.read in
    deep_other c.args.reader.now.ctx.now.signature raw (token_texts c.args.tokens.now) form c.in-Err-Nat.field-0 (subst (λ s. HasCause s (nested s raw) c.in-Err-Nat.field-0) c.facts-2.ensures c.in-Err-Nat.ensures.cause)
    (λ e. let k : Nat ≡ Memory = sym c.in-Err-Nat.field-0-is ∙ e in cc)

pub returns-then-is_same-clause-is : goal.returns-then-is_same-clause-is
returns-then-is_same-clause-is c =
    let raw = raw_term c.in-Ok.raw in
    let form : IsPrefixForm c.args.reader.now.ctx.now.signature raw (token_texts c.args.tokens.now) = subst (λ s. IsPrefixForm s raw (token_texts c.args.tokens.now)) c.facts.ensures c.in-Ok.ensures.read in
    read_form c.args.reader.now.ctx.now.signature raw (token_texts c.args.tokens.now) form c.in-Ok-canon.term (same_one raw c.in-Ok-canon.term (sym c.is_same.ensures ∙ c.if-is_same.true))

pub returns-then-is_same-clause-written : goal.returns-then-is_same-clause-written
returns-then-is_same-clause-written c =
    let raw = raw_term c.in-Ok.raw in
    let t = c.in-Ok-canon.term in
    let form : IsPrefixForm c.args.reader.now.ctx.now.signature raw (token_texts c.args.tokens.now) = subst (λ s. IsPrefixForm s raw (token_texts c.args.tokens.now)) c.facts.ensures c.in-Ok.ensures.read in
    read_written c.args.reader.now.ctx.now.signature raw (token_texts c.args.tokens.now) form t
    (subst (λ s. t ≡ normal_form s (nested s raw)) c.facts-2.ensures c.in-Ok-canon.ensures.canonical)
    (subst (λ s. ¬ IsTooDeep s (nested s raw)) c.facts-2.ensures c.in-Ok-canon.ensures.not_deep)
    (subst (λ s. ¬ IsTooLarge s (nested s raw)) c.facts-2.ensures c.in-Ok-canon.ensures.not_large)
    (same_one raw t (sym c.is_same.ensures ∙ c.if-is_same.true))

pub returns-clause-outside : goal.returns-clause-outside
returns-clause-outside c =
    let raw = raw_term c.in-Ok.raw in
    let t = c.in-Ok-canon.term in
    let form : IsPrefixForm c.args.reader.now.ctx.now.signature raw (token_texts c.args.tokens.now) = subst (λ s. IsPrefixForm s raw (token_texts c.args.tokens.now)) c.facts.ensures c.in-Ok.ensures.read in
    not_same_other c.args.reader.now.ctx.now.signature raw (token_texts c.args.tokens.now) form t
    (subst (λ s. t ≡ normal_form s (nested s raw)) c.facts-2.ensures c.in-Ok-canon.ensures.canonical) (sym c.is_same.ensures ∙ c.if-is_same.false)
