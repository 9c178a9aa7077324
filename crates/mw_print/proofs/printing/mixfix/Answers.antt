use Rattle.std.proofs.Common.{◌∙◌, ap, [], ◌++◌}
use Rattle.std.proofs.lemmas.List.{append-nil}
use Rattle.mw_print.specs.Tokens.{spaced}
use Rattle.mw_print.specs.Printing.{shown}
use Rattle.mw_print.proofs.printing.mixfix.Goals as goal

pub returns : goal.returns
returns c =
    let tokens = (shown c.args.signature.now c.args.term.now).tokens in
    c.into_text.ensures ∙ c.in_ok-print.ensures [] ∙ c.new-writer.ensures (tokens ++ []) ∙ ap spaced (append-nil tokens)
