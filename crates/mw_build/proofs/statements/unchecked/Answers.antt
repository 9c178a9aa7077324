use Rattle.std.proofs.Common.{◌∙◌, [], map, ap}
use Rattle.mw_position.specs.Variables.{met}
use Rattle.mw_term.specs.Raws.{raw_term}
use Rattle.mw_term.specs.Statements.{fragment_of}
use Rattle.mw_least.specs.Conditions.{met_fragments}
use Rattle.mw_build.proofs.Sides.{made}
use Rattle.mw_build.proofs.statements.unchecked.Goals as goal

pub returns : goal.returns
returns c =
    let left = raw_term c.args.left in
    let right = raw_term c.args.right in
    let C = map fragment_of c.args.fragments.items in
    made left right c.args.rule c.args.executable C (map fragment_of c.of.result) c.in_ok-variables.variables (ap (map fragment_of) c.of.ensures)
    (c.in_ok-variables.ensures ∙ ap (λ fs. met_fragments (met (met [] left) right) (map fragment_of fs)) c.deref.ensures.value)
