use Rattle.std.proofs.Common.{◌∙◌, true, false, ap, sym, subst}
use Rattle.mw_lex.specs.declared.token.Token.{Token}
use Rattle.mw_module.specs.Words.{texts}
use Rattle.mw_build.specs.Fragments.{Asks}
use Rattle.mw_build.proofs.Asking.{asks_kind, asks_sort, asks_nothing}
use Rattle.mw_build.proofs.fragments.asked_in.Goals as goal

pub returns-then-is_kind_end : goal.returns-then-is_kind_end
returns-then-is_kind_end c =
    subst (Asks (texts c.args.tokens.now) (texts c.cut.result.0.now) true) (sym (c.as_slice-name.ensures ∙ ap (λ (t : Token). t.text) (sym c.index-end-2.is)))
    (asks_kind c.args.tokens.now c.cut.result.0.now c.cut.result.1.now c.index-end-2.result c.cut.ensures.front c.cut.ensures.end c.index-end-2.is (sym c.is_kind_end.ensures ∙ c.if-is_kind_end.true))

pub returns-then-is_sort_end : goal.returns-then-is_sort_end
returns-then-is_sort_end c =
    subst (Asks (texts c.args.tokens.now) (texts c.cut-2.result.0.now) false) (sym (c.as_slice-name-then-is_sort_end.ensures ∙ ap (λ (t : Token). t.text) (sym c.index-end-1.is)))
    (asks_sort c.args.tokens.now c.cut-2.result.0.now c.cut-2.result.1.now c.index-end-1.result c.cut-2.ensures.front c.cut-2.ensures.end c.index-end-1.is (sym c.is_sort_end.ensures ∙ c.if-is_sort_end.true))

pub returns : goal.returns
returns c =
    asks_nothing c.args.tokens.now c.cut.result.1.now c.cut-2.result.1.now c.cut.ensures.end c.cut-2.ensures.end
    (sym c.is_kind_end.ensures ∙ c.if-is_kind_end.false) (sym c.is_sort_end.ensures ∙ c.if-is_sort_end.false)
