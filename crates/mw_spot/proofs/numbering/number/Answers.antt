use Rattle.std.proofs.Common.{◌≡◌, ◌∙◌, ◌+◌, ◌-◌, sym, reverse}
use Rattle.mw_logic.specs.Terms.{terms_of}
use Rattle.mw_spot.specs.Spots.{places, number_of}
use Rattle.mw_spot.proofs.Calls.{if_ok, number_found, number_missing}
use Rattle.mw_spot.proofs.numbering.number.Goals as goal

pub returns-in_ok-places-in-Some : goal.returns-in_ok-places-in-Some
returns-in_ok-places-in-Some c = λ o.
    let at = places c.args.facts.now (reverse c.args.levels.now) in
    if_ok c.number_behind.result (λ n. n ≡ c.in_ok-places-in-Some.field-0 + (c.args.number - 1 + 1)) (λ n. n ≡ number_of at (terms_of c.args.terms.now) c.args.number)
    (λ n e. e ∙ number_found at c.args.terms.now c.args.number c.in_ok-places-in-Some.field-0 c.in-Some.term.now (sym c.in-Some.ensures) (c.in_ok-places-in-Some.ensures o)) c.number_behind.ensures

pub returns-in-None : goal.returns-in-None
returns-in-None c = λ o. number_missing (places c.args.facts.now (reverse c.args.levels.now)) c.args.terms.now c.args.number (sym c.in-None.ensures)
