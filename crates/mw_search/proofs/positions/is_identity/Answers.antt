use Rattle.std.proofs.Common.{◌∙◌, ap}
use Rattle.mw_logic.specs.NormalForm.{identity_of}
use Rattle.mw_matching.specs.Found.{are_none}
use Rattle.mw_search.proofs.Elements.{no_identity_by, no_elements, none_empty, nothing_is}
use Rattle.mw_search.proofs.positions.is_identity.Goals as goal

pub returns-in-Associative : goal.returns-in-Associative
returns-in-Associative c =
    c.is_empty.ensures ∙ none_empty c.parts.result.now ∙ ap are_none c.parts.ensures
    ∙ no_elements (identity_of c.args.facts.now c.args.operator) c.args.operator c.args.term.now

pub returns-in_default : goal.returns-in_default
returns-in_default c = nothing_is _ c.args.term.now (no_identity_by c.args.facts.now c.args.operator c.axioms.result c.in_default.not-Associative c.shows.ensures c.axioms.ensures)
