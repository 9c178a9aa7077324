use Rattle.std.proofs.Common.{◌≡◌, ◌∙◌, sym}
use Rattle.mw_canon.specs.declared.CanonError.TheVariants.{Deep, Nat, Memory}
use Rattle.mw_redex.specs.Replaced.{replaced_at}
use Rattle.mw_check.proofs.PlacingParts.{next_within, next_past}
use Rattle.mw_check.proofs.parts.replaced.Goals as goal

pub returns-in-Ok : goal.returns-in-Ok
returns-in-Ok c = λ known.
    let whole = replaced_at c.args.facts.now c.args.place.now.path c.args.place.now.take c.args.with c.args.term.now in
    let e = c.in-Ok.ensures in
    next_within c.args.facts.now c.shows.ensures whole known c.in-Ok.next e.replaced e.not_deep e.not_large

pub returns-in-Err-Deep : goal.returns-in-Err-Deep
returns-in-Err-Deep c = λ known.
    let whole = replaced_at c.args.facts.now c.args.place.now.path c.args.place.now.take c.args.with c.args.term.now in
    next_past c.args.facts.now c.shows.ensures whole known c.in-Err-Deep.field-0 (λ e. let k : Deep ≡ Memory = sym c.in-Err-Deep.field-0-is ∙ e in cc) c.in-Err-Deep.ensures.cause

pub returns-in-Err-Nat : goal.returns-in-Err-Nat
returns-in-Err-Nat c = λ known.
    let whole = replaced_at c.args.facts.now c.args.place.now.path c.args.place.now.take c.args.with c.args.term.now in
    next_past c.args.facts.now c.shows.ensures whole known c.in-Err-Nat.field-0 (λ e. let k : Nat ≡ Memory = sym c.in-Err-Nat.field-0-is ∙ e in cc) c.in-Err-Nat.ensures.cause
