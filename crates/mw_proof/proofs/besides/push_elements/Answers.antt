use Rattle.std.proofs.Common.{◌∙◌, ap}
use Rattle.mw_logic.specs.Term.{join}
use Rattle.mw_logic.specs.Terms.{terms_of}
use Rattle.mw_logic.proofs.Pushed.{terms_of-append}
use Rattle.mw_proof.proofs.besides.push_elements.Goals as goal

pub returns : goal.returns
returns c =
    let old = c.args.terms.now.items in
    ap terms_of c.in_ok-copy_all.ensures ∙ terms_of-append old c.parts.result.now ∙ ap (join (terms_of old)) c.parts.ensures
