use Rattle.std.proofs.Common.{◌≡◌, ◌∙◌, List, Some, option_map, ap, sym}
use Rattle.std.specs.Borrow.{Bor}
use Rattle.std.specs.List.{slice_get}
use Rattle.mw_build.specs.Modules.{Accepted}
use Rattle.mw_import.specs.Flat.{number_named}
use Rattle.mw_top.specs.Commands.{module_named}
use Rattle.mw_top.specs.Sources.{Loaded}
use Rattle.mw_top.proofs.Sessions.{item_is, number_found, number_none}
use Rattle.mw_top.proofs.session.Session.named.Goals as goal

pub returns-in_err-number : goal.returns-in_err-number
returns-in_err-number c =
    ap (option_map (λ (m : Bor Accepted). m.now)) c.from_residual.ensures
    ∙ sym (number_none c.self.inside.units c.self.inside.modules.items c.self.invariant.names c.args.name.now (sym c.in_err-number.ensures))
    ∙ ap (λ (l : Loaded). module_named l.modules c.args.name.now) c.self.view_is

pub returns : goal.returns
returns c =
    let ms = c.self.inside.modules.items in
    let found : number_named c.self.inside.units c.args.name.now ≡ Some c.in_ok-number.number = sym c.in_ok-number.ensures in
    item_is c.deref.result.now c.in_ok-number.number c.get.result c.get.ensures.lookup ∙ ap (λ (xs : List Accepted). slice_get xs c.in_ok-number.number) c.deref.ensures.value
    ∙ number_found c.self.inside.units ms c.self.invariant.names c.args.name.now c.in_ok-number.number found
    ∙ ap (λ (l : Loaded). module_named l.modules c.args.name.now) c.self.view_is
