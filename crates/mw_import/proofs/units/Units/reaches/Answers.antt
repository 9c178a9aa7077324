use Rattle.std.proofs.Common.{◌∙◌, ◌||◌, ap, sym}
use Rattle.mw_import.specs.Flat.{number_named, is_unit_among, is_among}
use Rattle.mw_import.proofs.Lists.{any_among}
use Rattle.mw_import.proofs.units.Units.reaches.Goals as goal

pub returns-in-Some : goal.returns-in-Some
returns-in-Some c =
    let flat = c.args.flat.now in
    c.contains.ensures.value ∙ any_among c.in-Some.unit c.as_slice.result.now ∙ ap (is_among c.in-Some.unit) c.as_slice.ensures
    ∙ ap (is_unit_among flat) (sym c.in-Some.is ∙ c.number.ensures)
    ∙ ap (λ b. b || is_unit_among flat (number_named c.args.self.now c.args.name.now)) (sym c.if-eq.false ∙ c.eq.ensures)
