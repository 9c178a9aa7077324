use Rattle.std.proofs.Common.{◌≡◌, ◌∙◌, ◌≤◌, length, ap, sym, arith, option_map}
use Rattle.mw_logic.specs.NormalForm.{rebuilt}
use Rattle.mw_logic.specs.Parts.{number_of_terms}
use Rattle.mw_logic.specs.Terms.{args_of, skip}
use Rattle.mw_term.specs.Signatures.{identity_of as identity_named}
use Rattle.mw_search.proofs.BagLists.{number_terms}
use Rattle.mw_search.proofs.Lists.{front_all, skip_number}
use Rattle.mw_search.proofs.terms.rebuilt_rest.Goals as goal

pub returns : goal.returns
returns c =
    let ts = args_of c.args.row.now in
    let l : length c.arguments.result.now ≡ number_of_terms ts = sym (number_terms c.arguments.result.now) ∙ ap number_of_terms c.arguments.ensures in
    let s : number_of_terms (skip c.args.from ts) ≤ number_of_terms ts = skip_number c.args.from ts in
    c.in_ok-term.ensures ∙ ap (rebuilt (option_map identity_named c.args.identity) c.args.operator) (front_all (length c.arguments.result.now) (skip c.args.from ts) (omega (arith, l, s)))
