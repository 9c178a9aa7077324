use Rattle.mw_carry.specs.Profiles.{Profile}
use Rattle.mw_build.proofs.ObjectOperators.{profile_found}
use Rattle.mw_build.proofs.classes.operator_on.Goals as goal

pub returns : goal.returns
returns c =
    let p : Profile = record { spelling = c.args.spelling.items; args = c.in_ok-kinds_of.field-0.items; result = c.kind_of.result } in
    profile_found c.args.target.now p c.args.sorts.now c.args.sort c.in_ok-kinds_of.ensures c.kind_of.ensures c.operator.result c.operator.ensures
