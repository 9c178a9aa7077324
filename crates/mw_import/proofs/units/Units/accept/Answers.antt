use Rattle.std.proofs.Common.{◌≡◌, ◌∙◌, ◌++◌, ◌∷◌, [], ap, sym, subst, None}
use Rattle.std.proofs.lemmas.List.{map-append}
use Rattle.indexmap.proofs.CallerLemmas.{insert_entry-new}
use Rattle.mw_module.specs.Units.{seen_unit}
use Rattle.mw_import.specs.declared.units.Kept.{Kept}
use Rattle.mw_import.specs.Flat.{FlatUnit, number_named, IsFlat, AreAccepted}
use Rattle.mw_import.specs.Seen.{flat_unit, flat_units}
use Rattle.mw_import.proofs.Lists.{none_named}
use Rattle.mw_import.proofs.Tables.{lookup_held, accepted_more}
use Rattle.mw_import.proofs.units.Units.accept.Goals as goal

pub invariant_of-self-2 : goal.invariant_of-self-2
invariant_of-self-2 c =
    let table = c.self.inside.kept in
    let us = flat_units table.entries in
    let old : us ≡ c.args.self.now = c.self.view_is in
    let key : c.in_ok-name.name.items ≡ c.args.name.now = c.in_ok-name.ensures.items_if_clones_equal (λ x y e. e) in
    let new : number_named us c.in_ok-name.name.items ≡ None = ap (number_named us) key ∙ ap (λ us. number_named us c.args.name.now) old ∙ c.requires.new in
    let none = lookup_held c.in_ok-name.name.items table.entries (none_named us c.in_ok-name.name.items new) in
    let kept : Kept = record { unit = c.args.unit; flat = c.args.flat } in
    let u = flat_unit (c.in_ok-name.name, kept) in
    let more = ap flat_units (c.in_ok-insert.ensures.entries ∙ insert_entry-new _ table c.in_ok-name.name kept none) ∙ map-append flat_unit table.entries ((c.in_ok-name.name, kept) ∷ []) in
    subst AreAccepted (sym more)
    (accepted_more us c.self.invariant u new
    (subst (λ us. IsFlat us u.statements u.reached) (sym old) c.requires.flat))

pub returns-clause-accepted : goal.returns-clause-accepted
returns-clause-accepted c =
    let table = c.self.inside.kept in
    let us = flat_units table.entries in
    let old : us ≡ c.args.self.now = c.self.view_is in
    let key : c.in_ok-name.name.items ≡ c.args.name.now = c.in_ok-name.ensures.items_if_clones_equal (λ x y e. e) in
    let new : number_named us c.in_ok-name.name.items ≡ None = ap (number_named us) key ∙ ap (λ us. number_named us c.args.name.now) old ∙ c.requires.new in
    let none = lookup_held c.in_ok-name.name.items table.entries (none_named us c.in_ok-name.name.items new) in
    let kept : Kept = record { unit = c.args.unit; flat = c.args.flat } in
    ap flat_units (c.in_ok-insert.ensures.entries ∙ insert_entry-new _ table c.in_ok-name.name kept none) ∙ map-append flat_unit table.entries ((c.in_ok-name.name, kept) ∷ [])
    ∙ ap (λ us. us ++ flat_unit (c.in_ok-name.name, kept) ∷ []) old
    ∙ ap (λ n. let u : FlatUnit = record { name = n; statements = (seen_unit c.args.unit).statements; reached = c.args.flat } in c.args.self.now ++ u ∷ []) key
