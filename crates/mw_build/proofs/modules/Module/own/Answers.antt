use Rattle.std.proofs.Common.{◌≡◌, ◌∙◌, All, drop, ap, subst, sym}
use Rattle.std.proofs.lemmas.List.Elements.{All-drop}
use Rattle.mw_logic.specs.Module.{Module}
use Rattle.mw_least.specs.Workable.{AreSides, IsWorkable}
use Rattle.mw_build.specs.Imported.{Accepted}
use Rattle.mw_build.proofs.Sides.{sides_at_all}
use Rattle.mw_build.proofs.modules.Module.own.Goals as goal

pub returns-clause-sides : goal.returns-clause-sides
returns-clause-sides c =
    let M = c.self.inside.context.value in
    let workable : IsWorkable M = subst IsWorkable c.deref.ensures c.shows.ensures in
    let own : c.split_at.result.1.now ≡ drop c.self.inside.imported M.statements =
    c.split_at.ensures.back ∙ ap (drop c.self.inside.imported) (c.statements.ensures ∙ ap (λ (M : Module). M.statements) c.deref-2.ensures) in
    let all : All (AreSides M.signature) c.split_at.result.1.now =
    subst (All (AreSides M.signature)) (sym own) (All-drop (AreSides M.signature) c.self.inside.imported M.statements (sides_at_all M workable)) in
    subst (λ (a : Accepted). All (AreSides a.module.signature) c.split_at.result.1.now) c.self.view_is all
