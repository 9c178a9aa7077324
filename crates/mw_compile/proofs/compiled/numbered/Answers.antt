use Rattle.std.proofs.Common.{◌∙◌, ap, subst}
use Rattle.std.proofs.lemmas.Bool.{or_right}
use Rattle.mw_logic.specs.Substitution.{occurs}
use Rattle.mw_position.specs.Variables.{is_in}
use Rattle.mw_position.proofs.Meeting.{is_in-met}
use Rattle.mw_solving.specs.Values.{AreSure}
use Rattle.mw_compile.proofs.compiled.numbered.Goals as goal

pub by_position-requires : goal.by_position-requires
by_position-requires c = λ x o.
    ap (is_in x) c.in_ok-meet_all.ensures ∙ is_in-met x c.in_ok-places.places c.args.pattern.now ∙ or_right (is_in x c.in_ok-places.places) (occurs x c.args.pattern.now) o

pub returns-clause-sure : goal.returns-clause-sure
returns-clause-sure c = subst (AreSure c.args.singles.now c.in_ok-single.single.items) c.as_slice.ensures c.in_ok-single.ensures.sure
