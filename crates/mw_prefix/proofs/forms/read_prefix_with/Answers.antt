use Rattle.std.proofs.Common.{◌∙◌, ap, sym, arith}
use Rattle.std.specs.Prelude.{option_map}
use Rattle.mw_term.specs.Raws.{raw_term}
use Rattle.mw_prefix.specs.Forms.{token_texts}
use Rattle.mw_prefix.proofs.Forming.{read_form, none_read}
use Rattle.mw_prefix.proofs.forms.read_prefix_with.Goals as goal

pub returns-in-Some-clause-read : goal.returns-in-Some-clause-read
returns-in-Some-clause-read c =
    read_form c.args.facts.now c.shows.ensures (token_texts c.args.tokens.now) (raw_term c.in-Some.term) (sym c.in_ok-term.ensures ∙ ap (option_map raw_term) c.in-Some.is)

pub returns-in-None-clause-no_parse : goal.returns-in-None-clause-no_parse
returns-in-None-clause-no_parse c =
    λ e. (none_read c.args.facts.now c.shows.ensures (token_texts c.args.tokens.now) (sym c.in_ok-term.ensures ∙ ap (option_map raw_term) c.in-None.is), omega arith)
