use Rattle.std.proofs.Common.{◌∙◌, ap}
use Rattle.mw_import.specs.Flat.{number_named}
use Rattle.mw_import.proofs.Tables.{number_held}
use Rattle.mw_import.proofs.units.Units.number.Goals as goal

pub returns : goal.returns
returns c =
    c.get_index_of.ensures.index ∙ number_held c.args.name.now c.self.inside.kept.entries
    ∙ ap (λ us. number_named us c.args.name.now) c.self.view_is
