use Rattle.std.proofs.Common.{◌∙◌, ap, [], ◌++◌}
use Rattle.std.proofs.lemmas.List.{append-nil}
use Rattle.mw_print.specs.Tokens.{spaced}
use Rattle.mw_print.specs.Prefix.{prefixed}
use Rattle.mw_print.proofs.numbered.prefix.Goals as goal

pub returns-clause-written : goal.returns-clause-written
returns-clause-written c =
    let tokens = prefixed c.args.signature.now c.args.term.now in
    let old = c.args.text.now.items in
    c.into_text.ensures ∙ c.in_ok-write_form.ensures [] ∙ c.behind-writer.ensures (tokens ++ [])
    ∙ ap (λ v. v.items ++ spaced (tokens ++ [])) c.replace.ensures.value ∙ ap (λ ts. old ++ spaced ts) (append-nil tokens)
