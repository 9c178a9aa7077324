use Rattle.std.proofs.Common.{◌≡◌, ◌∙◌, ap, sym, option_map, List, ℕ}
use Rattle.std.specs.Borrow.{Bor}
use Rattle.mw_build.specs.Modules.{Accepted}
use Rattle.mw_import.specs.Flat.{number_named}
use Rattle.mw_lex.specs.declared.token.Token.{Token}
use Rattle.mw_top.specs.Commands.{module_at, module_named, module_for}
use Rattle.mw_top.specs.Sources.{Loaded}
use Rattle.mw_top.proofs.Sessions.{number_at}
use Rattle.mw_top.proofs.session.Session.number_for.Goals as goal

pub returns-in-Some : goal.returns-in-Some
returns-in-Some c =
    let name : List ℕ = c.in-Some.name.now.text in
    let ms : List Accepted = c.args.self.now.modules in
    let found : number_named c.self.inside.units name ≡ c.number.result = sym (c.number.ensures ∙ ap (number_named c.self.inside.units) c.as_slice.ensures) in
    ap (λ (l : Loaded). module_at l.modules c.number.result) (sym c.self.view_is)
    ∙ number_at c.self.inside.units c.self.inside.modules.items c.self.invariant.names name c.number.result found
    ∙ ap (λ (l : Loaded). module_named l.modules name) c.self.view_is
    ∙ ap (λ o. module_for ms (option_map (λ (n : Bor Token). n.now.text) o)) (sym c.in-Some.is)
