use Rattle.std.proofs.Common.{◌≡◌, ap, sym, ◌∙◌, refl}
use Rattle.std.specs.Prelude.{Bool, true, false, cond}
use Rattle.mw_logic.specs.Signature.{Declaration}
use Rattle.mw_sorts.specs.States.{turned}
use Rattle.mw_sorts.proofs.narrow.result_of.Goals as goal

pub returns : goal.returns
returns c =
    let d : Declaration = c.declaration_at.result.0.now in
    let t : Bool = c.declaration_at.result.1 in
    (cond t (turned d) d, c.declaration_at.ensures.there, same t d ∙ sym (ap (λ (b : Declaration). b.result) c.declaration.view_is))
  where
    same : (t : Bool) (d : Declaration) → (cond t (turned d) d).result ≡ d.result
    same true d = refl
    same false d = refl
