use Rattle.std.proofs.Common.{◌≡◌, ◌∙◌, ◌++◌, ◌∷◌, [], List, ℕ, sym, subst}
use Rattle.mw_import.specs.Flat.{FlatUnit}
use Rattle.mw_build.specs.Modules.{Accepted, AreLoaded, IsAccepted}
use Rattle.mw_build.proofs.Loading.{loaded_more}
use Rattle.mw_module.specs.Units.{seen_unit}
use Rattle.mw_flat.proofs.loading.accept.Goals as goal

pub returns-in-Ok : goal.returns-in-Ok
returns-in-Ok c =
    let us = c.args.units.now in
    let ms = c.args.modules.now.items in
    let u = seen_unit c.args.unit in
    let text = c.as_slice-text.result.now in
    let flat = c.in-Ok.built.flat in
    let made = c.in-Ok.built.module in
    let unit : FlatUnit = record { name = text; statements = u.statements; reached = flat } in
    let copied : c.of-name.result ≡ text = c.of-name.ensures ∙ c.in_ok-to_vec.ensures.items_if_clones_equal (λ x y e. e) in
    let is : IsAccepted us ms u text flat made = subst (λ (n : List ℕ). IsAccepted us ms u n flat made) copied
    (subst (λ (xs : List Accepted). IsAccepted us xs u c.of-name.result flat made) c.as_slice.ensures.value c.in-Ok.ensures.accepted) in
    subst (λ vs. AreLoaded vs c.push.new.self.items) (sym c.in_ok-accept-in-Ok.ensures.accepted)
    (subst (AreLoaded (us ++ unit ∷ [])) (sym c.in_ok-push-in-Ok.ensures.items)
    (loaded_more us ms c.shows.ensures c.requires.loaded u c.requires.known text flat made is))
