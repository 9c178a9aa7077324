-- Up through levels, from the innermost on: one turn, and what it leaves to the next.
use Rattle.std.specs.Prelude.{◌≡◌, ◌-◌, ◌≤◌, ℕ, List, [], ◌∷◌, ◌++◌, take, drop, length, get_or, reverse, Bool, Option, All}
use Rattle.std.proofs.Common.{ap, sym, subst, ◌∙◌, arith}
use Rattle.std.proofs.lemmas.List.{reverse-append, length-take-le}
use Rattle.std.proofs.lemmas.List.Elements.{All-nil, All-cons}
use Rattle.mw_logic.specs.Term.{RawTerm}
use Rattle.mw_logic.specs.Signature.{Signature}
use Rattle.mw_logic.specs.Accepted.{IsAccepted}
use Rattle.mw_logic.proofs.Canonical.{IsCanonical}
use Rattle.mw_deduction.specs.Standing.{Open, AreClear}
use Rattle.mw_deduction.specs.Replay.{whole}
use Rattle.mw_spot.specs.Walks.{IsOrderly, AreOrderly}
use Rattle.mw_spot.specs.Spots.{places, is_spread, raised_path, raised_take, IsAnother, AreMore, StandsIn, ReplacesPart}
use Rattle.mw_spot.proofs.Held.{whole-append, stands_within, stands_beyond}
use Rattle.mw_spot.proofs.Gathered.{more_reversed, cut_behind}
use Rattle.mw_spot.proofs.Fewer.{rises_part}

orderly_last : (sig : Signature) (os : List Open) (o : Open) → AreOrderly sig (os ++ (o ∷ [])) → AreOrderly sig os × IsOrderly sig o
orderly_last sig [] o h = (tt, h.0)
orderly_last sig (p ∷ os) o h = let q = orderly_last sig os o h.1 in ((h.0, q.0), q.1)

orderly_each : (sig : Signature) (os : List Open) → AreOrderly sig (reverse os) → All (IsOrderly sig) os
orderly_each sig [] h = All-nil (IsOrderly sig)
orderly_each sig (o ∷ os) h =
    let q = orderly_last sig (reverse os) o (subst (AreOrderly sig) (reverse-append (o ∷ []) os) h) in
    All-cons (IsOrderly sig) o os q.1 (orderly_each sig os q.0)

module _ (sig : Signature) (ok : IsAccepted sig) (levels : List Open) (o : Open) (n : ℕ) (some : 1 ≤ length levels) (last : o ≡ get_or levels (length levels - 1) o) (f : ℕ) (operator : o.operator ≡ f)
    (bound : n ≤ length (take (length levels - 1) levels)) (another : All (IsAnother sig f) (drop n (take (length levels - 1) levels))) where
  abbrev pub same : List Open
  same = reverse (drop n levels)

  abbrev pub more : List Open
  more = reverse (drop n (take (length levels - 1) levels))

  abbrev pub outer : List Open
  outer = reverse (take n (take (length levels - 1) levels))

  parts : (same ≡ o ∷ more) × (reverse levels ≡ same ++ outer)
  parts = let s = length-take-le (length levels - 1) levels (omega arith) in cut_behind levels o n some last (omega (arith, bound, s))

  -- the levels of one operator
  pub together : (same ≡ o ∷ more) × AreMore sig f more
  together = (parts.0, more_reversed sig f (drop n (take (length levels - 1) levels)) another)

  module _ (r : Bool) (t : RawTerm) (stands : StandsIn sig r (reverse levels) t) where
    both : StandsIn sig r (same ++ outer) t
    both = subst (λ os. StandsIn sig r os t) parts.1 stands

    pub clear_here : AreClear sig (o ∷ more)
    clear_here = subst (AreClear sig) parts.0 (stands_within sig ok r same outer t both).clear

    pub stands_on : StandsIn sig r outer (whole sig same t)
    stands_on = stands_beyond sig ok r same outer t both

    pub turn : (w x : RawTerm) → IsCanonical sig x → (y : RawTerm) (path path' : List ℕ) (take take' : Option (List ℕ)) → ReplacesPart sig r w x path take t y
        → (All (IsOrderly sig) (drop n levels) → path' ≡ raised_path (places sig same) (is_spread sig o t) t path)
        → (All (IsOrderly sig) (drop n levels) → take' ≡ raised_take (places sig same) (is_spread sig o t) t path take)
        → ReplacesPart sig r w x path' take' (whole sig same t) (whole sig same y)
    turn w x kx y path path' take take' a p q =
        let here : StandsIn sig r same t = stands_within sig ok r same outer t both in
        let each : All (IsOrderly sig) (drop n levels) = orderly_each sig (drop n levels) here.orderly in
        subst (λ path. ReplacesPart sig r w x path take' (whole sig same t) (whole sig same y)) (sym (p each))
        (subst (λ take. ReplacesPart sig r w x (raised_path (places sig same) (is_spread sig o t) t path) take (whole sig same t) (whole sig same y)) (sym (q each))
        (subst (λ os. ReplacesPart sig r w x (raised_path (places sig os) (is_spread sig o t) t path) (raised_take (places sig os) (is_spread sig o t) t path take) (whole sig os t) (whole sig os y)) (sym parts.0)
        (rises_part sig ok r w x kx o more (subst (λ f. AreMore sig f more) (sym operator) together.1) t y (subst (λ os. StandsIn sig r os t) parts.0 here) path take a)))

  pub whole_beyond : (t : RawTerm) → whole sig outer (whole sig same t) ≡ whole sig (reverse levels) t
  whole_beyond t = sym (ap (λ os. whole sig os t) parts.1 ∙ whole-append sig same outer t)

  -- where no level stands round these
  pub whole_here : n ≡ 0 → (t : RawTerm) → whole sig same t ≡ whole sig (reverse levels) t
  whole_here e t = ap (λ n. whole sig (reverse (drop n levels)) t) e
