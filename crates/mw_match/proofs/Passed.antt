-- Places without matches, passed over: the same is to come behind them.
use Rattle.std.specs.Prelude.{◌≡◌, ◌<◌, ◌+◌, suc, List, [], ◌∷◌, ◌++◌, length, flat_map, Some}
use Rattle.std.proofs.Common.{ap, subst, ◌∙◌, arith}
use Rattle.mw_match.specs.Parts.{places_of, entries_at, matches_at, searches_at, behind_with, entries_of}
use Rattle.mw_match.specs.Hands.{ComesTo, steps_of}
use Rattle.mw_match.specs.declared.parts.Place.{Place}
use Rattle.mw_match.specs.declared.parts.Rest.{Rest}
use Rattle.mw_match.specs.declared.parts.Parts.{Parts}

module _ (p : Parts) (r : Rest) where
  abbrev places : Place → List Place
  places q = places_of p.context.now.signature p.subject q

  begins_with : (at next : Place) → places at ≡ next ∷ places next → behind_with p r at ≡ (next, matches_at p r next) ∷ behind_with p r next
  begins_with at next h = ap (searches_at p (Some r)) h

  pub passed_next : (place at next : Place) → ComesTo p (behind_with p r place) (behind_with p r at) → places at ≡ next ∷ places next
      → ComesTo p (behind_with p r place) ((next, matches_at p r next) ∷ behind_with p r next)
  passed_next place at next c h = subst (ComesTo p (behind_with p r place)) (begins_with at next h) c

  pub passed_falls : (at next : Place) → places at ≡ next ∷ places next → steps_of (behind_with p r next) < steps_of (behind_with p r at)
  passed_falls at next h =
      let e : steps_of (behind_with p r at) ≡ suc (length (matches_at p r next) + steps_of (behind_with p r next)) = ap steps_of (begins_with at next h) in
      omega (arith, e)

  -- there is no match at the next place
  pub passed_over : (place at next : Place) → ComesTo p (behind_with p r place) (behind_with p r at) → places at ≡ next ∷ places next → matches_at p r next ≡ []
      → ComesTo p (behind_with p r place) (behind_with p r next)
  passed_over place at next c h none =
      let (entries, steps) = passed_next place at next c h in
      let falls = passed_falls at next h in
      let before = c.1 in (
        entries ∙ ap (λ us. flat_map (entries_at p next) us ++ entries_of p (behind_with p r next)) none,
        omega (arith, falls, before),
      )

  -- there is no place left
  pub passed_all : (place at : Place) → ComesTo p (behind_with p r place) (behind_with p r at) → places at ≡ [] → entries_of p (behind_with p r place) ≡ []
  passed_all place at c h = c.0 ∙ ap (λ qs. entries_of p (searches_at p (Some r) qs)) h
