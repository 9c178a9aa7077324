use Rattle.std.proofs.Common.{◌≡◌, ◌∙◌, ◌++◌, ◌∷◌, [], ap, sym, subst}
use Rattle.mw_import.specs.Flat.{FlatUnit}
use Rattle.mw_build.specs.Modules.{AreLoaded, IsAccepted}
use Rattle.mw_build.proofs.Loading.{loaded_more}
use Rattle.mw_module.specs.Units.{seen_unit}
use Rattle.mw_top.specs.Commands.{module_named}
use Rattle.mw_top.specs.Sources.{Loaded}
use Rattle.mw_sorts.proofs.Counting.{vec_length}
use Rattle.mw_top.proofs.Sessions.{none_there, popped}
use Rattle.mw_top.proofs.session.Session.accept.Goals as goal

pub accept-requires-clause-new : goal.accept-requires-clause-new
accept-requires-clause-new c =
    none_there c.self.inside.units c.self.inside.modules.items c.self.invariant.names c.args.name.now
    (ap (λ (l : Loaded). module_named l.modules c.args.name.now) c.self.view_is ∙ c.requires.new)

pub invariant_of-self-in-Ok : goal.invariant_of-self-in-Ok
invariant_of-self-in-Ok c =
    let us = c.self.inside.units in
    let ms = c.self.inside.modules.items in
    let u = seen_unit c.args.unit in
    let unit : FlatUnit = record { name = c.args.name.now; statements = u.statements; reached = c.args.built.flat } in
    let is : IsAccepted us ms u c.args.name.now c.args.built.flat c.args.built.module =
    subst (λ (l : Loaded). IsAccepted l.units l.modules u c.args.name.now c.args.built.flat c.args.built.module) (sym c.self.view_is) c.requires.accepted in
    subst (λ vs. AreLoaded vs c.push.new.self.items) (sym c.in-Ok.ensures.accepted)
    (subst (AreLoaded (us ++ unit ∷ [])) (sym c.in_ok-push.ensures.items)
    (loaded_more us ms c.shows.ensures c.self.invariant u c.requires.known c.args.name.now c.args.built.flat c.args.built.module is))

pub invariant_of-self-in-Err : goal.invariant_of-self-in-Err
invariant_of-self-in-Err c =
    let same : c.pop.new.self.items ≡ c.self.inside.modules.items = c.pop.ensures.rest ∙ popped c.self.inside.modules.items c.push.new.self.items c.args.built.module c.in_ok-push.ensures.items _ (vec_length c.push.new.self) in
    subst (λ us. AreLoaded us c.pop.new.self.items) (sym c.in-Err.ensures.kept) (subst (AreLoaded c.self.inside.units) (sym same) c.self.invariant)
