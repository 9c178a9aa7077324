use Rattle.std.proofs.Common.{◌≡◌, ◌∙◌, ap}
use Rattle.mw_declare.specs.Faults.{sort_in}
use Rattle.mw_declare.proofs.Typings.{typing_held, sort_held, bytes_held, lent_bytes}
use Rattle.mw_declare.proofs.variables.Typing.sort.Goals as goal

pub returns : goal.returns
returns c =
    let held : typing_held c.deref.result.now.entries ≡ c.args.self.now = ap (λ t. typing_held t.entries) c.deref.ensures ∙ c.self.view_is in
    lent_bytes c.get.result ∙ ap bytes_held c.get.ensures.value ∙ sort_held c.deref.result.now.entries c.args.name.now ∙ ap (λ es. sort_in es c.args.name.now) held
