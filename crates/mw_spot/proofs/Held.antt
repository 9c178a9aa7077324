-- A term in holes, some of which stand in others.
use Rattle.std.specs.Prelude.{◌≡◌, List, [], ◌∷◌, ◌++◌, Bool, refl}
use Rattle.mw_logic.specs.Term.{RawTerm}
use Rattle.mw_logic.specs.Signature.{Signature}
use Rattle.mw_logic.specs.Accepted.{IsAccepted}
use Rattle.mw_deduction.specs.Standing.{Open, filled, AreClear, IsSeen}
use Rattle.mw_deduction.specs.Replay.{whole}
use Rattle.mw_spot.specs.Walks.{AreOrderly}
use Rattle.mw_spot.specs.Spots.{AreOpenHoles, StandsIn}
use Rattle.mw_spot.proofs.Filled.{filled_canonical, filled_seen}

pub whole-append : (sig : Signature) (os ps : List Open) (t : RawTerm) → whole sig (os ++ ps) t ≡ whole sig ps (whole sig os t)
whole-append sig [] ps t = refl
whole-append sig (o ∷ os) ps t = whole-append sig os ps (filled sig o t)

module _ (sig : Signature) (ok : IsAccepted sig) (r : Bool) where
  -- in the inner ones
  pub stands_within : (os ps : List Open) (t : RawTerm) → StandsIn sig r (os ++ ps) t → StandsIn sig r os t
  stands_within os ps t h = record {
    orderly = orderly os h.orderly;
    clear = clear os h.clear;
    open_holes = open_holes os h.open_holes;
    canonical = h.canonical;
    seen = seen os h.seen;
  }
    where
      orderly : (os : List Open) → AreOrderly sig (os ++ ps) → AreOrderly sig os
      orderly [] h = tt
      orderly (o ∷ os) h = (h.0, orderly os h.1)

      clear : (os : List Open) → AreClear sig (os ++ ps) → AreClear sig os
      clear [] h = tt
      clear (o ∷ os) h = (h.0, clear os h.1)

      open_holes : (os : List Open) → AreOpenHoles sig r (os ++ ps) → AreOpenHoles sig r os
      open_holes [] h = tt
      open_holes (o ∷ os) h = (h.0, open_holes os h.1)

      seen : (os : List Open) → IsSeen sig (os ++ ps) t → IsSeen sig os t
      seen [] h = tt
      seen (o ∷ os) h = h

  -- what they are with it, in the outer ones
  pub stands_beyond : (os ps : List Open) (t : RawTerm) → StandsIn sig r (os ++ ps) t → StandsIn sig r ps (whole sig os t)
  stands_beyond [] ps t h = h
  stands_beyond (o ∷ os) ps t h = stands_beyond os ps (filled sig o t) (record {
    orderly = h.orderly.1;
    clear = h.clear.1;
    open_holes = h.open_holes.1;
    canonical = filled_canonical sig ok o h.clear.0 t h.canonical;
    seen = above (os ++ ps);
  })
    where
      above : (qs : List Open) → IsSeen sig qs (filled sig o t)
      above [] = tt
      above (q ∷ qs) = filled_seen sig ok o h.clear.0 q t h.canonical h.seen
