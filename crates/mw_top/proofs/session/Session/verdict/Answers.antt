use Rattle.std.proofs.Common.{◌≡◌, ◌∙◌, ap, sym, subst, List, Some, None, option_map, slice_get, IfOk}
use Rattle.std.specs.Borrow.{Bor}
use Rattle.mw_import.specs.Flat.{number_named}
use Rattle.mw_build.specs.Modules.{Accepted}
use Rattle.mw_top.specs.Commands.{module_named}
use Rattle.mw_top.specs.Sources.{Loaded}
use Rattle.mw_top.specs.Proofs.{IsProofAnswer, nameless, nowhere}
use Rattle.mw_top.proofs.Sessions.{item_is, number_found, number_none}
use Rattle.mw_top.proofs.session.Session.verdict.Goals as goal
use Rattle.mw_top.proofs.session.Session.verdict.Goals.{in-Some-get, in-None}

pub returns-in_default-clause-judged : goal.returns-in_default-clause-judged
returns-in_default-clause-judged c = nameless c.in_default.ensures

pub returns-in_default-number-clause-judged : goal.returns-in_default-number-clause-judged
returns-in_default-number-clause-judged c =
    let name = c.in-Some.name.now.text in
    let us = c.self.inside.units in
    let found : number_named us name ≡ None = ap (number_named us) (sym c.as_slice.ensures) ∙ sym c.number.ensures ∙ c.in_default-number.is in
    nowhere name c.in-Some.ensures (sym (ap (λ (l : Loaded). module_named l.modules name) c.self.view_is) ∙ number_none us c.self.inside.modules.items c.self.invariant.names name found)

pub returns-clause-judged : goal.returns-clause-judged
returns-clause-judged c =
    let name = c.in-Some.name.now.text in
    let us = c.self.inside.units in
    let number = c.in-Some-number.number in
    let found : number_named us name ≡ Some number = ap (number_named us) (sym c.as_slice.ensures) ∙ sym c.number.ensures ∙ c.in-Some-number.is in
    let at : slice_get c.args.self.now.modules number ≡ module_named c.args.self.now.modules name =
    sym (ap (λ (l : Loaded). slice_get l.modules number) c.self.view_is) ∙ number_found us c.self.inside.modules.items c.self.invariant.names name number found
    ∙ ap (λ (l : Loaded). module_named l.modules name) c.self.view_is in
    let got : option_map (λ (m : Bor Accepted). m.now) c.get.result ≡ module_named c.args.self.now.modules name =
    item_is c.deref.result.now number c.get.result c.get.ensures.lookup ∙ ap (λ (xs : List Accepted). slice_get xs number) c.deref.ensures.value
    ∙ ap (λ (l : Loaded). slice_get l.modules number) (c.self-2.view_is ∙ c.in_ok-prepare_number.ensures) ∙ at in
    elim c.match-get.branch [
      | in-Some-get w ↦ subst (λ r. IfOk r (IsProofAnswer c.args.self.now.modules c.args.max c.args.tokens.now)) (sym w.result-is)
          (w.judged.ensures c.args.self.now.modules name c.in-Some.ensures (sym got ∙ ap (option_map (λ (m : Bor Accepted). m.now)) w.in-Some-get.is))
      | in-None w ↦ subst (λ r. IfOk r (IsProofAnswer c.args.self.now.modules c.args.max c.args.tokens.now)) (sym w.result-is)
          (nowhere name c.in-Some.ensures (sym got ∙ ap (option_map (λ (m : Bor Accepted). m.now)) w.in-None.is))
    ]
