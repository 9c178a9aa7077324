use Rattle.std.proofs.Common.{length, sym, subst}
use Rattle.std.specs.Prelude.{◌∷◌, codes}
use Rattle.std.proofs.lemmas.Bool.{both_ways}
use Rattle.mw_proofread.specs.Reading.{IsCount, values_of}
use Rattle.mw_proofread.specs.TokenTexts.{token_texts}
use Rattle.mw_proofread.specs.Parts.{NoPlace, NoWith, NoLine, HasLine}
use Rattle.mw_proofread.proofs.Causes.{on_outside, passed}
use Rattle.mw_proofread.proofs.LineParts.{place_not_there, with_not_there, count_not, statement_is}
use Rattle.mw_proofread.proofs.lines.by_statement.Goals as goal

pub returns-in_err-place-clause-outside : goal.returns-in_err-place-clause-outside
returns-in_err-place-clause-outside c =
    let (n, is, v) = c.in-Some.ensures in
    passed _ _ c.in_err-place.field-0.0 c.from_residual.ensures.1
    (on_outside (NoPlace (token_texts c.in-Some.behind.now)) (NoLine c.args.reader.now.ctx.now (codes "step" ∷ token_texts c.args.tokens.now)) c.in_err-place.field-0.0
    (place_not_there c.args.reader.now.ctx.now _ _ n is) c.in_err-place.ensures.outside)

pub returns-in_err-values-clause-outside : goal.returns-in_err-values-clause-outside
returns-in_err-values-clause-outside c =
    let (n, is, v) = c.in-Some.ensures in
    passed _ _ c.in_err-values.field-0.0 c.from_residual-in_err-values.ensures.1
    (on_outside (NoWith c.args.reader.now.ctx.now.signature (token_texts c.in_ok-place.rest.now)) (NoLine c.args.reader.now.ctx.now (codes "step" ∷ token_texts c.args.tokens.now)) c.in_err-values.field-0.0
    (with_not_there c.args.reader.now.ctx.now _ _ n is c.in_ok-place.place _ c.in_ok-place.ensures.ok) c.in_err-values.ensures.outside)

pub returns-then-not-is_count-clause-outside : goal.returns-then-not-is_count-clause-outside
returns-then-not-is_count-clause-outside c =
    let (n, is, v) = c.in-Some.ensures in
    count_not c.args.reader.now.ctx.now _ _ n is c.in_ok-place.place _ c.in_ok-place.ensures.ok c.in_ok-values.values _ c.in_ok-values.ensures.ok
    (λ k. both_ways c.is_count.result c.if-not-is_count.true (c.is_count.ensures.1
    (subst (λ o. IsCount o (length c.as_slice.result.now)) (sym (c.counts_of-counts.ensures.values n v)) (subst (λ z. IsCount (values_of c.args.reader.now.ctx.now n) (length z)) (sym c.as_slice.ensures) k))))

pub returns-clause-ok : goal.returns-clause-ok
returns-clause-ok c =
    let (n, is, v) = c.in-Some.ensures in
    let count : IsCount (values_of c.args.reader.now.ctx.now n) (length c.in_ok-values.values)
    = subst (λ z. IsCount (values_of c.args.reader.now.ctx.now n) (length z)) c.as_slice.ensures
    (subst (λ o. IsCount o (length c.as_slice.result.now)) (c.counts_of-counts.ensures.values n v) (c.is_count.ensures.0 c.if-not-is_count.false)) in
    subst (λ o. HasLine c.args.reader.now.ctx.now (codes "step" ∷ token_texts c.args.tokens.now) (token_texts c.in_ok-values.rest.now) o c.args.entries.now.items c.push.new.self.items) (sym (c.counts_of-counts.ensures.groups n v))
    (statement_is c.args.reader.now.ctx.now _ _ n is c.in_ok-place.place _ c.in_ok-place.ensures.ok c.in_ok-values.values _ c.in_ok-values.ensures.ok c.entry_number.result c.in-Some.number _ _ c.entry_number.ensures v count c.in_ok-push.ensures.items)
