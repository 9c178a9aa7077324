use Rattle.std.proofs.Common.{[], subst, sym}
use Rattle.mw_position.specs.Variables.{met}
use Rattle.mw_compile.specs.Compiled.{AreAmong}
use Rattle.mw_index.proofs.Sides.{left_among}
use Rattle.mw_index.proofs.making.left_of.Goals as goal

pub plain_arguments-requires : goal.plain_arguments-requires
plain_arguments-requires c =
    subst (λ xs. AreAmong xs c.args.left.now) (sym c.requires.places)
    (subst (AreAmong (met [] c.args.statement.now.left)) (sym c.requires.left) (left_among c.args.context.now c.shows.ensures c.args.number c.args.statement.now c.requires.statement))
