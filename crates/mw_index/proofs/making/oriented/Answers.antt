use Rattle.std.proofs.Common.{◌≡◌, ◌∙◌, subst, sym, ap}
use Rattle.mw_logic.specs.Module.{Statement}
use Rattle.mw_logic.specs.NormalForm.{normal_form}
use Rattle.mw_term.specs.Raws.{raw_term}
use Rattle.mw_position.specs.Variables.{AreDistinct}
use Rattle.mw_compile.specs.Compiled.{AreAmong}
use Rattle.mw_index.proofs.Sides.{variables_distinct, right_among}
use Rattle.mw_index.proofs.making.oriented.Goals as goal

pub new-requires : goal.new-requires
new-requires c =
    let xs : c.as_slice.result.now ≡ c.args.statement.now.variables = c.as_slice.ensures ∙ ap (λ (s : Statement). s.variables) c.statement.view_is in
    subst AreDistinct (sym xs) (variables_distinct c.args.context.now c.shows.ensures c.args.number c.args.statement.now c.requires.statement)

pub pattern_of-requires : goal.pattern_of-requires
pattern_of-requires c =
    let xs : c.in_ok-places.places ≡ c.args.statement.now.variables = c.in_ok-places.ensures ∙ c.as_slice.ensures ∙ ap (λ (s : Statement). s.variables) c.statement.view_is in
    let t : c.in_ok-right.right ≡ normal_form c.args.context.now.signature c.args.statement.now.right =
    c.in_ok-right.ensures ∙ ap (λ sig. normal_form sig (raw_term c.statement.inside.right)) c.facts.ensures ∙ ap (λ (s : Statement). normal_form c.args.context.now.signature s.right) c.statement.view_is in
    subst (λ xs. AreAmong xs c.in_ok-right.right) (sym xs)
    (subst (AreAmong c.args.statement.now.variables) (sym t) (right_among c.args.context.now c.shows.ensures c.args.number c.args.statement.now c.requires.statement))
