use Rattle.std.proofs.Common.{◌∙◌, ◌++◌, ap, sym, map, option_map}
use Rattle.std.proofs.lemmas.List.{append-nil}
use Rattle.mw_module.specs.Units.{seen_all}
use Rattle.mw_import.specs.Flat.{statements_at, told_at}
use Rattle.mw_import.specs.Seen.{flat_unit}
use Rattle.mw_import.proofs.Tables.{at_held}
use Rattle.mw_import.proofs.units.Units.tell_unit.Goals as goal

pub returns-in-None : goal.returns-in-None
returns-in-None c =
    let es = c.self.inside.kept.entries in
    let all = seen_all c.args.all.now.items in
    sym (append-nil all) ∙ ap (λ o. all ++ map (told_at c.args.line) (statements_at (option_map flat_unit o))) c.in-None.ensures.entry
    ∙ ap (λ o. all ++ map (told_at c.args.line) (statements_at o)) (at_held c.args.self.now es c.self.view_is c.args.unit)
