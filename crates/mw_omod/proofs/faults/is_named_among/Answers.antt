use Rattle.std.proofs.Common.{◌≡◌, refl}
use Rattle.mw_omod.proofs.Listing.{one_has}
use Rattle.mw_omod.proofs.faults.is_named_among.Goals as goal

pub returns-in-Some : goal.returns-in-Some
returns-in-Some c =
    (λ h. one_has (λ w. w.form ≡ c.args.object.now.form) c.args.elements.now c.in-Some.field-0.index c.in-Some.field-0.object.now c.in-Some.ensures.0 c.in-Some.ensures.1, λ h. refl)
