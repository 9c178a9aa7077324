use Rattle.std.proofs.Common.{◌∙◌, ap, sym, length}
use Rattle.mw_logic.specs.Term.{variable}
use Rattle.mw_logic.specs.Terms.{terms_of}
use Rattle.mw_position.specs.Positions.{position}
use Rattle.mw_match.proofs.Places.{pattern_made}
use Rattle.mw_match.proofs.Taking.{is_some}
use Rattle.mw_match.proofs.parts.pattern_with_rest.Goals as goal

pub returns : goal.returns
returns c =
    pattern_made c.args.facts.now c.args.compiled.now.positions.single.items c.args.compiled.now.pattern c.args.subject.now c.in_ok-made.made c.in_ok-rest.rest (length c.args.compiled.now.variables) c.in-Op.operator (terms_of c.in-Op.field-1.now)
    c.parts-elements.result.now c.in_ok-args.args.items c.push.new.self.items c.in-Op.ensures c.in-Associative.ensures.0 (sym c.is_rigid.ensures ∙ c.if-is_rigid.false) c.parts-elements.ensures (is_some (length c.parts-elements.result.now) c.is_empty.result c.is_empty.ensures c.if-is_empty.false) c.in_ok-args.ensures (c.in_ok-rest.ensures ∙ ap (λ xs. variable (position (length xs))) c.as_slice.ensures) c.in_ok-push.ensures.items c.in_ok-made.ensures
