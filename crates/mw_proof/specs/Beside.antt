-- Proofs beside one another under an associative operator, and terms that stay.
use Rattle.std.specs.Prelude.{◌≡◌, ℕ, max, List, [], ◌∷◌, Bool, true, false, cond}
use Rattle.mw_logic.specs.Term.{RawTerm, RawTerms, nil, cons, join}
use Rattle.mw_logic.specs.Signature.{Signature}
use Rattle.mw_logic.specs.NormalForm.{identity_of, elements, flattened, applied_in}
use Rattle.mw_logic.specs.Module.{Module}
use Rattle.mw_logic.proofs.Canonical.{Each, IsElement, IsCanonical, AreCanonical}
use Rattle.mw_canon.specs.Canonical.{IsAdmittedTerm}
use Rattle.mw_deduction.specs.Standing.{Open, filled, IsClear}
use Rattle.mw_deduction.specs.Runs.{Dones, none, both}
use Rattle.mw_deduction.specs.Replay.{opened}
use Rattle.mw_deduction.specs.Under.{under_dones, AllMayBeUnder}
use Rattle.mw_proof.specs.Deductions.{Deduction}
use Rattle.mw_proof.specs.declared.besides.Piece.{Piece}
use Rattle.mw_proof.specs.declared.besides.Piece.TheVariants.{Rest, Part}

-- the terms at the beginning and in the end
abbrev pub start_of : Piece → RawTerm
start_of (Rest t) = t
start_of (Part d) = d.from

abbrev pub starts : List Piece → RawTerms
starts [] = nil
starts (p ∷ ps) = cons (start_of p) (starts ps)

abbrev pub stop_of : Piece → RawTerm
stop_of (Rest t) = t
stop_of (Part d) = d.to

abbrev pub stops : List Piece → RawTerms
stops [] = nil
stops (p ∷ ps) = cons (stop_of p) (stops ps)

-- the highest rank
abbrev pub rank_of : Piece → ℕ
rank_of (Rest t) = 0
rank_of (Part d) = d.rank

abbrev pub highest : List Piece → ℕ
highest [] = 0
highest (p ∷ ps) = max (rank_of p) (highest ps)

-- the operator between elements before, and those that the pieces behind begin with
abbrev pub between : Signature → ℕ → RawTerms → List Piece → Open
between sig f b ps = opened f b (flattened (identity_of sig f) f (starts ps))

-- nothing stands there
abbrev pub is_nothing : RawTerms → Bool
is_nothing nil = true
is_nothing (cons t ts) = false

abbrev pub is_alone : Open → Bool
is_alone o = is_nothing (join o.before o.after)

-- A run under the operator; where nothing stands beside it, it stays as it is, and may be anything.
abbrev pub beside_dones : Signature → Open → Dones → Dones
beside_dones sig o ds = cond (is_alone o) ds (under_dones sig (o ∷ []) ds)

abbrev pub MayBeBeside : Module → Open → Dones → Type 0
MayBeBeside M o ds = is_alone o ≡ false → AllMayBeUnder M (o ∷ []) ds

-- The pieces in turn, from the left, behind elements that stand before them: those before a proof are as they are in the end, those behind it as they are in
-- the beginning. Each is of the module, and begins with a canonical term; each replacement may be made between the others.
abbrev pub AreBeside : Module → ℕ → RawTerms → List Piece → Type 0
AreBeside M f b [] = Unit {0}
AreBeside M f b (Rest t ∷ ps) = IsCanonical M.signature t × AreBeside M f (join b (elements (identity_of M.signature f) f t)) ps
AreBeside M f b (Part d ∷ ps) = (d.over ≡ M) × IsCanonical M.signature d.from × MayBeBeside M (between M.signature f b ps) d.run × AreBeside M f (join b (elements (identity_of M.signature f) f d.to)) ps

-- what they carry out, one after another
abbrev pub run_beside : Signature → ℕ → RawTerms → List Piece → Dones
run_beside sig f b [] = none
run_beside sig f b (Rest t ∷ ps) = run_beside sig f (join b (elements (identity_of sig f) f t)) ps
run_beside sig f b (Part d ∷ ps) = both (beside_dones sig (between sig f b ps) d.run) (run_beside sig f (join b (elements (identity_of sig f) f d.to)) ps)

-- the operator on elements before, and the pieces as they begin
abbrev pub applied_on : Signature → ℕ → RawTerms → List Piece → RawTerm
applied_on sig f b ps = applied_in sig f (join b (starts ps))

-- elements of f
pub record AreElements (sig : Signature) (f : ℕ) (b : RawTerms) : Type 0 where
  pub canonical : AreCanonical sig b
  pub elements : Each (IsElement (identity_of sig f) f) b

-- A proof so far leads to the operator on elements before and the pieces that are still to come.
pub record IsReady (M : Module) (f : ℕ) (b : RawTerms) (ps : List Piece) (p : Deduction) : Type 0 where
  pub over : p.over ≡ M
  pub hand : p.to ≡ applied_on M.signature f b ps
  pub elements : AreElements M.signature f b
  pub beside : AreBeside M f b ps

-- with pieces still to come, q is on the way to what p was on the way to with others
pub record GoesOn (sig : Signature) (f : ℕ) (b : RawTerms) (ps : List Piece) (p : Deduction) (c : RawTerms) (qs : List Piece) (q : Deduction) : Type 0 where
  pub from : q.from ≡ p.from
  pub run : both q.run (run_beside sig f c qs) ≡ both p.run (run_beside sig f b ps)
  pub stops : applied_in sig f (join c (stops qs)) ≡ applied_in sig f (join b (stops ps))
  pub rank : max q.rank (highest qs) ≡ max p.rank (highest ps)

-- a proof may stand between elements, where there are some
pub record MayStand (M : Module) (f : ℕ) (b a : RawTerms) (d : Deduction) : Type 0 where
  pub clear : is_nothing (join b a) ≡ false → IsClear M.signature (opened f b a)
  pub begins : is_nothing (join b a) ≡ false → IsAdmittedTerm M.signature (filled M.signature (opened f b a) d.from)
  pub may : MayBeBeside M (opened f b a) d.run

-- as it then stands
pub record Stands (sig : Signature) (f : ℕ) (b a : RawTerms) (d p : Deduction) : Type 0 where
  pub from : p.from ≡ cond (is_nothing (join b a)) d.from (filled sig (opened f b a) d.from)
  pub to : p.to ≡ cond (is_nothing (join b a)) d.to (filled sig (opened f b a) d.to)
  pub run : p.run ≡ beside_dones sig (opened f b a) d.run
