use Rattle.std.proofs.Common.{sym, subst, true≢false}
use Rattle.mw_prooftext.specs.Grounds.{spot_of}
use Rattle.mw_verdict.proofs.Same.{one_part}
use Rattle.mw_check.specs.Parts.{StandsAt}
use Rattle.mw_check.proofs.replacing.stands_at.Goals as goal

pub returns-in-None : goal.returns-in-None
returns-in-None c = (λ h. absurd (true≢false (sym h)), λ h. absurd ((rw c.in-None.is at c.in_ok-found.ensures) c.args.part.now h))

pub returns-in-Some : goal.returns-in-Some
returns-in-Some c =
    let sig = c.args.facts.now in
    let place = c.args.place.now in
    let t = c.args.term.now in
    let found : StandsAt sig (spot_of place) t c.in-Some.found = rw c.in-Some.is at c.in_ok-found.ensures in (
      λ h. subst (StandsAt sig (spot_of place) t) (c.same.ensures.0 h) found,
      λ h. c.same.ensures.1 (one_part sig place.path place.take t c.in-Some.found c.args.part.now found.part h.part),
    )
