use Rattle.std.proofs.Common.{◌∙◌, ap, sym}
use Rattle.mw_logic.specs.Terms.{args_of}
use Rattle.mw_logic.specs.Parts.{number_of_terms}
use Rattle.mw_search.proofs.BagLists.{number_terms}
use Rattle.mw_match.proofs.parts.Parts.count.Goals as goal

pub returns-in-Op : goal.returns-in-Op
returns-in-Op c = sym (number_terms c.in-Op.args.now) ∙ ap (λ t. number_of_terms (args_of t)) (sym c.in-Op.ensures)
