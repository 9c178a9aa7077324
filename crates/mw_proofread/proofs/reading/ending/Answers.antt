use Rattle.std.proofs.Common.{◌≡◌, ◌∙◌, length, ap, sym, arith}
use Rattle.std.proofs.lemmas.Bool.{both_ways, eqb-true, eq-eqb}
use Rattle.mw_proofread.proofs.Tails.{end_is, other_end}
use Rattle.mw_proofread.proofs.Slices.{none_text, texts_length}
use Rattle.mw_proofread.proofs.reading.ending.Goals as goal

pub returns-then-is_empty-clause-ok : goal.returns-then-is_empty-clause-ok
returns-then-is_empty-clause-ok c =
    let none : length c.in_ok-to.rest.now ≡ 0 = eqb-true _ 0 (sym c.is_empty.ensures ∙ c.if-is_empty.true) in
    end_is c.args.reader.now.ctx.now _ c.in_ok-to.to _ c.in_ok-to.ensures.ok (none_text c.in_ok-to.rest.now (omega (arith, none)))

pub returns-else-is_empty-clause-outside : goal.returns-else-is_empty-clause-outside
returns-else-is_empty-clause-outside c =
    other_end c.args.reader.now.ctx.now _ c.in_ok-to.to _ c.in_ok-to.ensures.ok
    (λ e. both_ways c.is_empty.result c.if-is_empty.false (c.is_empty.ensures ∙ eq-eqb _ 0 (sym (texts_length c.in_ok-to.rest.now) ∙ ap length e)))
