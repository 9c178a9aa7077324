-- Each step keeps what a survey says of its pool; one that is used up leaves nothing to claim.
use Rattle.std.specs.Prelude.{◌≡◌, ℕ, List, [], ◌++◌}
use Rattle.std.proofs.Common.{sym, subst}
use Rattle.mw_logic.specs.Term.{RawTerm}
use Rattle.mw_logic.specs.Signature.{Signature, Member}
use Rattle.mw_logic.specs.Module.{Module}
use Rattle.mw_canon.specs.Canonical.{IsAdmittedTerm}
use Rattle.mw_least.specs.Workable.{IsWorkable}
use Rattle.mw_index.specs.Choices.{Tried}
use Rattle.mw_multiset.specs.Together.{IsOfMultisets, parts, together, IsMember, AreMembers}
use Rattle.mw_world.specs.World.{Claim, Try, World, claimed, IsSound}
use Rattle.mw_world.specs.Whole.{IsOneProof}
use Rattle.mw_world.specs.Events.{IsSamePool, Claims}
use Rattle.mw_world.proofs.Keeping.{claims_sound, gives_sound, releases_sound}
use Rattle.mw_world.proofs.Whole.{one_proof}
use Rattle.mw_survey.specs.Surveys.{IsExhausted, Covers}
use Rattle.mw_survey.specs.Runs.{Survey, begun, Step, claims, gives, releases, passes, ends, begins, Steps, none, more, IsOf, IsUsedUp, IsGood}
use Rattle.mw_survey.proofs.Permuted.{all_left}
use Rattle.mw_survey.proofs.Covered.{covers_begun, covers_kept, covers_passed, covers_ended}
use Rattle.mw_survey.proofs.Exhausted.{fewer_admitted, exhausted}
use Rattle.std.proofs.lemmas.List.Sorted.{IsPermutation-refl}

-- the pool stays good
good_kept : (w v : World) → IsSamePool w v → IsSound v → IsGood w → IsGood v
good_kept w v s sound h = record { sound = sound; work = subst IsWorkable (sym s.over) h.work }

module _ (w : World) (h : IsGood w) where
  abbrev sig : Signature
  sig = w.over.signature

  abbrev f : ℕ
  f = w.operator

  abbrev everything : List RawTerm
  everything = w.free ++ claimed sig f w.claims

  proof : IsOneProof w h.sound
  proof = one_proof w h.sound

  -- the free elements are members
  pub free_members : AreMembers sig f w.free
  free_members = all_left (IsMember sig f) w.free (claimed sig f w.claims) proof.members

  whole_admitted : IsAdmittedTerm sig (together sig f everything)
  whole_admitted =
      let k = proof in
      let a : IsAdmittedTerm k.proof.over.signature k.proof.to = k.is.ends in
      let b : IsAdmittedTerm sig k.proof.to = subst (λ (M : Module). IsAdmittedTerm M.signature k.proof.to) k.over a in
      subst (IsAdmittedTerm sig) k.to b

  -- and together admitted, where there are some
  pub free_admitted : (w.free ≡ [] → ⊥) → IsAdmittedTerm sig (together sig f w.free)
  free_admitted some =
      let op : IsOfMultisets w.over f = h.sound.of in
      fewer_admitted w.over h.work f op.assoc op.comm op.free everything w.free (claimed sig f w.claims) proof.members (IsPermutation-refl everything) whole_admitted some

  pub begun_is : IsOf (begun w.free) w
  begun_is came = covers_begun w.over f w.tries w.free free_members free_admitted

-- the same pool
moved_covers : (w v : World) → IsSamePool w v → (ts : List Try) (free all : List RawTerm) (at : ℕ) (here : List Tried) → Covers w.over w.operator ts free all at here → Covers v.over v.operator ts free all at here
moved_covers w v s ts free all at here h = subst (λ M. Covers M v.operator ts free all at here) (sym s.over) (subst (λ g. Covers w.over g ts free all at here) (sym s.operator) h)

-- a claim only takes elements away
pub claims_keep : (w v : World) (c : Claim) (s : Survey) → Claims w v c → IsOf s w → IsOf s v
claims_keep w v c s e h came =
    moved_covers w v e.same v.tries v.free s.all s.at s.here
    (covers_kept w.over w.operator w.tries v.tries w.free (parts w.over.signature w.operator c.part) v.free (λ t m. subst (Member t) (sym e.tries) m) e.taken s.all s.at s.here (h came))

abbrev Kept : World → Survey → World → Survey → Type 0
Kept w s v r = IsGood v × IsOf r v

pub step_keeps : (w : World) (s : Survey) (v : World) (r : Survey) → Step w s v r → IsGood w → IsOf s w → Kept w s v r
step_keeps w s v r (claims c e) g h = (good_kept w v e.same (claims_sound w v c g.sound e) g, claims_keep w v c s e h)
step_keeps w s v r (gives c d e) g h = (good_kept w v e.same (gives_sound w v c d g.sound e) g, λ came. cc came)
step_keeps w s v r (releases c e) g h = (good_kept w v e.same (releases_sound w v c g.sound e) g, λ came. cc came)
step_keeps w s v r (passes c p) g h = (g, λ came. covers_passed w.over w.operator w.tries w.free s.all s.at s.here c (h came) p)
step_keeps w s v r (ends d) g h = (g, λ came. covers_ended w.over w.operator w.tries w.free s.all s.at s.here (h came) d)
step_keeps w s v r begins g h = (g, begun_is w g)

-- Whatever steps were made since a survey began: what it says of the pool holds.
pub steps_keep : (w : World) (s : Survey) (v : World) (r : Survey) → Steps w s v r → IsGood w → IsOf s w → Kept w s v r
steps_keep w s v r none g h = (g, h)
steps_keep w s v r (more {v = u} {r = q} k e) g h = let (a, b) = steps_keep w s u q k g h in step_keeps u q v r e a b

-- A survey that is used up while no element came leaves nothing to claim.
pub used_up : (w : World) (s : Survey) → IsGood w → IsOf s w → IsUsedUp s → IsExhausted w.over w.operator w.tries w.free
used_up w s g h (came, low) = exhausted w.over g.work w.operator g.sound.of.assoc g.sound.of.comm g.sound.of.free w.tries w.free s.all s.at s.here (h came) low

-- So does one that began at any state, with whatever claims, receipts and releases between.
pub nothing_left : (w v : World) (r : Survey) → IsGood w → Steps w (begun w.free) v r → IsUsedUp r → IsExhausted v.over v.operator v.tries v.free
nothing_left w v r g k u = let (a, b) = steps_keep w (begun w.free) v r k g (begun_is w g) in used_up v r a b u
