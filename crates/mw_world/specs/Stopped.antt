-- Why a claimed part may come back although its rule wasn't found to fail.
use Rattle.std.specs.Prelude.{◌≡◌, ◌⊎◌, ℕ, List, ◌∷◌, ◌++◌, None, false}
use Rattle.mw_logic.specs.Term.{RawTerm}
use Rattle.mw_logic.specs.Substitution.{Substitution, Extends, instance}
use Rattle.mw_logic.specs.Parts.{IsAdmitted}
use Rattle.mw_logic.specs.NormalForm.{normal_form, has_largest}
use Rattle.mw_logic.specs.Module.{Module, Fragment, Statement, IsStatement}
use Rattle.mw_logic.specs.Proof.{Proof, Proofs, rules}
use Rattle.mw_logic.specs.Judgements.{judgements}
use Rattle.mw_logic.specs.Ends as ends
use Rattle.mw_canon.specs.Canonical.{meant}
use Rattle.mw_redex.specs.Replaced.{replaced_at}
use Rattle.mw_proof.specs.declared.reason.Reason.{Reason}
use Rattle.mw_proof.specs.declared.reason.Reason.TheVariants.{Rules, Rewrites, Depth, Nat, Nest, Condition}
use Rattle.mw_multiset.specs.Together.{IsShallow}
use Rattle.mw_world.specs.World.{Claim}

-- A term doesn't become normal in rank n, with so many steps: it is past the limits, or an equational proof from it stops.
abbrev pub SideStops : Module → ℕ → ℕ → RawTerm → Type 0
SideStops M n limit t =
    (q : Proof) × (v : RawTerm) × (why : ends.Reason)
    × (ends.StopsAtOnce M t why ⊎ (IsAdmitted M.signature t × (rules q ≡ 0) × ends.Stops M n (ends.limits_of limit) t q v why))

-- A side of a condition stops, where what stands before its fragment holds.
pub record IsSideStopped (M : Module) (limit : ℕ) (C : List Fragment) (s : Substitution) : Type 0 where
  pub held : List Fragment
  pub fragment : Fragment
  pub rest : List Fragment
  pub is : C ≡ held ++ fragment ∷ rest
  pub proofs : Proofs
  pub reached : Substitution
  pub holds : (judgements M 63).Held held s proofs reached
  pub side : RawTerm
  pub is_side : ends.IsSide fragment side
  pub stops : SideStops M 62 limit (instance reached side)

-- The condition holds for values that extend the claim's, and what the rule leaves of the part by them has an element of more than 999 levels, or a number
-- that is too large.
pub record IsPastBounds (M : Module) (c : Claim) (e : Statement) : Type 0 where
  pub values : Substitution
  pub extends : Extends (meant M.signature c.subst) values
  pub proofs : Proofs
  pub holds : (judgements M 63).Held e.fragments values proofs values
  pub whole : RawTerm
  pub is : whole ≡ replaced_at M.signature c.path c.take (normal_form M.signature (instance values e.right)) c.part
  pub past : (IsShallow M.signature c.operator whole × (has_largest M.signature whole ≡ false)) → ⊥

-- The claim's rule may stop for this reason: a side of its condition stops, or the one step leaves what may not stand in a pool.
abbrev pub IsStopped : Module → Claim → Reason → Type 0
IsStopped M c Rules = ⊥
IsStopped M c Rewrites = ⊥
IsStopped M c Depth = (e : Statement) × IsStatement M c.rule e × IsPastBounds M c e
IsStopped M c Nat = (e : Statement) × IsStatement M c.rule e × IsPastBounds M c e
IsStopped M c Nest = ⊥
IsStopped M c Condition = (e : Statement) × IsStatement M c.rule e × IsSideStopped M c.side e.fragments (meant M.signature c.subst)
