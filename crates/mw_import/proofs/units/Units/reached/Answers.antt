use Rattle.std.proofs.Common.{◌∙◌, ap, option_map}
use Rattle.mw_import.specs.Flat.{reached_by}
use Rattle.mw_import.specs.Seen.{flat_unit}
use Rattle.mw_import.proofs.Tables.{at_held}
use Rattle.mw_import.proofs.units.Units.reached.Goals as goal

pub returns-in-Some : goal.returns-in-Some
returns-in-Some c =
    let es = c.self.inside.kept.entries in
    c.as_slice.ensures ∙ ap (λ o. reached_by (option_map flat_unit o)) c.in-Some.ensures.entry
    ∙ ap reached_by (at_held c.args.self.now es c.self.view_is c.args.unit)

pub returns-in-None : goal.returns-in-None
returns-in-None c =
    let es = c.self.inside.kept.entries in
    ap (λ o. reached_by (option_map flat_unit o)) c.in-None.ensures.entry
    ∙ ap reached_by (at_held c.args.self.now es c.self.view_is c.args.unit)
