-- Where arguments of an operator are taken, they are fewer than all, from level to level.
use Rattle.std.specs.Prelude.{◌≡◌, ◌<◌, ◌≤◌, ◌+◌, ℕ, suc, List, [], ◌∷◌, ◌++◌, length, Bool, true, false, Option, Some, None, refl}
use Rattle.std.proofs.Common.{ap, sym, subst, ◌∙◌, arith}
use Rattle.std.proofs.lemmas.List.{length-map}
use Rattle.mw_logic.specs.Term.{RawTerm, apply, RawTerms}
use Rattle.mw_logic.specs.Terms.{args_of}
use Rattle.mw_logic.specs.Signature.{Signature}
use Rattle.mw_logic.specs.Accepted.{IsAccepted}
use Rattle.mw_logic.specs.Parts.{number_of_terms}
use Rattle.mw_logic.proofs.Canonical.{IsCanonical}
use Rattle.mw_arguments.specs.Places.{Rise}
use Rattle.mw_deduction.specs.Standing.{Open, filled}
use Rattle.mw_deduction.specs.Replay.{whole}
use Rattle.mw_redex.specs.Paths.{at_path}
use Rattle.mw_redex.specs.Replaced.{replaced_at, IsOpenWay, way_of_place, ReplacesAt}
use Rattle.mw_spot.specs.Spots.{TakesPart, ReplacesPart, places, number_of, is_spread, raised_path, raised_take, AreMore, StandsIn}
use Rattle.mw_spot.proofs.Among.{with_all, numbers_length}
use Rattle.mw_spot.proofs.Filled.{filled_several, several_fewer, long_all, long_several}
use Rattle.mw_spot.proofs.Held.{stands_beyond}
use Rattle.mw_spot.proofs.Raised.{same_some, same_arguments}
use Rattle.mw_spot.proofs.Grouped.{spread_in_next, rises}

-- numbers that rise are no more than their bound allows
rise_length : (i n : ℕ) (ks : List ℕ) → i ≤ n → Rise i n ks → i + length ks ≤ n
rise_length i n [] l h = omega (arith, l)
rise_length i n (k ∷ ks) l h =
    let a = h.0 in
    let b = h.1 in
    let r = rise_length (suc k) n ks (omega (arith, b)) h.2 in
    omega (arith, a, r)

module _ (sig : Signature) (ok : IsAccepted sig) (r : Bool) where
  -- The whole of what stands at the path may be replaced, too.
  way_before : (path : List ℕ) (t : RawTerm) → IsOpenWay sig r (path ++ 1 ∷ []) t → IsOpenWay sig r path t
  way_before [] t h = tt
  way_before (i ∷ path) t h = (h.0, λ u e. way_before path u (h.1 u e))

  way_whole : (path : List ℕ) (take : Option (List ℕ)) (t : RawTerm) → IsOpenWay sig r (way_of_place path take) t → IsOpenWay sig r path t
  way_whole path None t h = h
  way_whole path (Some ks) t h = way_before path t h

  replaces_whole : (w x : RawTerm) (path : List ℕ) (take : Option (List ℕ)) (t y : RawTerm) (a : ReplacesAt sig r w x path take t y) → ReplacesAt sig r a.part.end x path None t (replaced_at sig path None x t)
  replaces_whole w x path take t y a = record { part = record { end = a.part.end; there = a.part.there; taken = refl }; open_way = way_whole path take t a.open_way; becomes = refl }

  -- What comes as several arguments has fewer than what holes of one associative operator are with it.
  fewer : (o : Open) (os : List Open) → AreMore sig o.operator os → (t : RawTerm) → StandsIn sig r (o ∷ os) t → is_spread sig o t ≡ true → (g : ℕ) (ts : RawTerms) → whole sig (o ∷ os) t ≡ apply g ts
      → number_of_terms (args_of t) < number_of_terms ts
  fewer o [] more t stands s g ts e =
      let (v, l) = filled_several sig ok o stands.clear.0 t stands.canonical stands.seen s in
      subst (λ us. number_of_terms (args_of t) < number_of_terms us) (same_arguments (sym v ∙ e)) (several_fewer sig ok o stands.clear.0 t s)
  fewer o (p ∷ os) more t stands s g ts e =
      let es : RawTerms = args_of t in
      let (v, l) = filled_several sig ok o stands.clear.0 t stands.canonical stands.seen s in
      let spread = spread_in_next sig o p more.0 (filled sig o t) (with_all sig o es) v (long_all sig ok o stands.clear.0 es (long_several es l)) in
      let rest = fewer p os (subst (λ f. AreMore sig f os) (sym more.0.1) more.1) (filled sig o t) (stands_beyond sig ok r (o ∷ []) (p ∷ os) t stands) spread g ts e in
      let here = several_fewer sig ok o stands.clear.0 t s in
      let same = ap number_of_terms (ap args_of v) in
      omega (arith, rest, here, same)

  module _ (w x : RawTerm) (kx : IsCanonical sig x) (o : Open) (os : List Open) (more : AreMore sig o.operator os) (t y : RawTerm) (stands : StandsIn sig r (o ∷ os) t) where
    abbrev at : RawTerm → ℕ
    at = places sig (o ∷ os)

    -- where the path goes on to the same, as much is taken of it
    stays : (path : List ℕ) (take : Option (List ℕ)) → ReplacesPart sig r w x path take t y → (m : Bool) → is_spread sig o t ≡ m → raised_take at m t path None ≡ None → TakesPart (raised_path at m t path) take (whole sig (o ∷ os) t)
    stays path take a m s n ks f ts e g =
        let z : RawTerm = replaced_at sig path None x t in
        let end : RawTerm = a.there.part.end in
        let b = rises sig ok r end x kx o os more t z path None stands (replaces_whole w x path take t y a.there) in
        let c = subst (λ take. ReplacesAt sig r end x (raised_path at m t path) take (whole sig (o ∷ os) t) (whole sig (o ∷ os) z)) n
        (subst (λ m. ReplacesAt sig r end x (raised_path at m t path) (raised_take at m t path None) (whole sig (o ∷ os) t) (whole sig (o ∷ os) z)) s b) in
        let there : at_path (whole sig (o ∷ os) t) (raised_path at m t path) ≡ Some end = c.part.there ∙ ap Some c.part.taken in
        a.part ks f ts e (a.there.part.there ∙ sym there ∙ g)

    part : (path : List ℕ) (take : Option (List ℕ)) → ReplacesPart sig r w x path take t y → (m : Bool) → is_spread sig o t ≡ m → TakesPart (raised_path at m t path) (raised_take at m t path take) (whole sig (o ∷ os) t)
    part path take a false s = stays path take a false s refl
    part (j ∷ path) take a true s = stays (j ∷ path) take a true s refl
    part [] None a true s = λ ks f ts e g.
        let l = fewer o os more t stands s f ts (same_some g) in
        let n = ap length (same_some e) in
        let m = numbers_length at 1 (args_of t) in
        omega (arith, l, n, m)
    part [] (Some js) a true s = λ ks f ts e g.
        let p = a.there.part.taken in
        let l = fewer o os more t stands s f ts (same_some g) in
        let n = ap length (same_some e) in
        let m = length-map js (number_of at (args_of t)) in
        let u = rise_length 1 (suc (number_of_terms p.args)) js (omega arith) p.rise in
        let same = ap number_of_terms (ap args_of (same_some a.there.part.there ∙ p.term)) in
        omega (arith, l, n, m, u, same)

    -- So it is from level to level.
    pub rises_part : (path : List ℕ) (take : Option (List ℕ)) → ReplacesPart sig r w x path take t y
        → ReplacesPart sig r w x (raised_path (places sig (o ∷ os)) (is_spread sig o t) t path) (raised_take (places sig (o ∷ os)) (is_spread sig o t) t path take) (whole sig (o ∷ os) t) (whole sig (o ∷ os) y)
    rises_part path take a = record { there = rises sig ok r w x kx o os more t y path take stands a.there; part = part path take a (is_spread sig o t) refl }
