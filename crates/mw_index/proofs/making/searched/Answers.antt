use Rattle.std.proofs.Common.{◌≡◌, ◌∙◌, List, [], ap, sym, subst, map}
use Rattle.mw_logic.specs.Term.{Variable}
use Rattle.mw_logic.specs.Signature.{Signature}
use Rattle.mw_logic.specs.Module.{Statement}
use Rattle.mw_logic.specs.NormalForm.{normal_form}
use Rattle.mw_position.specs.Variables.{AreDistinct, met, place}
use Rattle.mw_compile.specs.Compiled.{IsCompiled}
use Rattle.mw_index.specs.Sections.{AreIn}
use Rattle.mw_index.proofs.Sides.{compiled_from, compiled_distinct, compiled_has}
use Rattle.mw_index.proofs.making.searched.Goals as goal

pub order_among-requires-clause-distinct : goal.order_among-requires-clause-distinct
order_among-requires-clause-distinct c =
    let h = compiled_from _ _ _ _ _ (c.of.ensures ∙ c.new.ensures.items) c.requires.left c.in_ok-compiled.ensures in
    subst AreDistinct (sym c.as_slice.ensures) (compiled_distinct c.args.context.now c.shows.ensures c.args.number c.args.statement.now c.requires.statement c.in_ok-compiled.compiled h)

pub order_among-requires-clause-within : goal.order_among-requires-clause-within
order_among-requires-clause-within c =
    let h = compiled_from _ _ _ _ _ (c.of.ensures ∙ c.new.ensures.items) c.requires.left c.in_ok-compiled.ensures in
    subst (AreIn c.args.places.now) (sym c.as_slice.ensures)
    (subst (λ (xs : List Variable). AreIn xs c.in_ok-compiled.compiled.variables) (sym c.requires.places) (compiled_has c.args.context.now c.shows.ensures c.args.number c.args.statement.now c.requires.statement c.in_ok-compiled.compiled h))

pub returns : goal.returns
returns c =
    let sig : Signature = c.args.context.now.signature in
    let e : Statement = c.args.statement.now in
    let h : IsCompiled sig (normal_form sig e.left) [] c.in_ok-compiled.compiled = compiled_from _ _ _ _ _ (c.of.ensures ∙ c.new.ensures.items) c.requires.left c.in_ok-compiled.ensures in
    let ys : c.as_slice.result.now ≡ c.in_ok-compiled.compiled.variables = c.as_slice.ensures in
    record {
      compiled = h;
      order = c.in_ok-order.ensures ∙ ap (λ (xs : List Variable). map (λ x. place x c.as_slice.result.now) xs) c.requires.places
          ∙ ap (λ (ys : List Variable). map (λ x. place x ys) (met [] e.left)) ys;
    }
