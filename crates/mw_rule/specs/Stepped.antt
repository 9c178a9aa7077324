-- What rules leave of a normal whole.
use Rattle.std.specs.Prelude.{◌≡◌, ◌≢◌, ◌<◌, ◌≤◌, ℕ, suc, true, List, Some, slice_get}
use Rattle.mw_logic.specs.Term.{RawTerm, RawTerms, apply, Context}
use Rattle.mw_logic.specs.CanonicalPart.{IsOpen}
use Rattle.mw_logic.specs.Signature.{Signature}
use Rattle.mw_logic.specs.Parts.{nested, IsPart, IsFrozen}
use Rattle.mw_logic.specs.Judgements.{IsNormal, admitted_judgements}
use Rattle.mw_logic.specs.Ends.{IsFinal}
use Rattle.mw_deduction.specs.Tops.{IsNormalTerm}
use Rattle.mw_trail.specs.Tracks.{Track}
use Rattle.mw_proof.specs.declared.reason.Reason.{Reason}
use Rattle.mw_proof.specs.declared.reason.Reason.TheVariants as reason
use Rattle.mw_frames.specs.declared.job.Job.TheVariants.{Normal}
use Rattle.mw_frames.specs.State.{Run, with_rules, after_one, Data, InHand, Holds}
use Rattle.mw_frames.specs.Steps.{IsEnd}
use Rattle.mw_frames.specs.Redex.{IsSeenIn}
use Rattle.mw_frames.specs.Fires.{IsWhole, WouldBeTooDeep, WouldBeTooLarge, HasWhole, IsOpenRound, IsFired, IsRefusedAs}
use Rattle.mw_reduce.specs.Attempts.{IsHalting, IsMade}
use Rattle.mw_reduce.specs.Driven.{EndsBy}
use Rattle.mw_reduce.specs.declared.drive.End.{End}
use Rattle.mw_reduce.specs.declared.drive.Outcome.{Outcome}
use Rattle.mw_reduce.specs.declared.drive.Outcome.TheVariants.{Done, Stopped}
use Rattle.mw_index.specs.declared.choices.Choice.{Choice}
use Rattle.mw_redexes.specs.Spots.{AreWays}
use Rattle.mw_redexes.specs.declared.spots.Spot.{Spot}
use Rattle.mw_redexes.specs.declared.redexes.Found.{Found}
use Rattle.mw_rule.specs.declared.rewriting.Bounds.{Bounds}
use Rattle.mw_rule.specs.declared.rewriting.Looked.{Looked}
use Rattle.mw_rule.specs.declared.rewriting.Looked.TheVariants.{Nothing, Fires, Halts, Takes}
use Rattle.mw_rule.specs.declared.rewriting.Stepped.{Stepped}
use Rattle.mw_rule.specs.declared.rewriting.Stepped.TheVariants.{Goes, Ends}

-- The term t is in hand, normal and seen, where rules may change it; with what stands round it, it is the whole v.
pub record IsAt (K : Run) (count : ℕ) (d : Data) (t v : RawTerm) : Type 0 where
  pub holds : InHand K count d (Normal t)
  pub seen : IsSeenIn K.over.signature d.frames t
  pub free : IsOpenRound K count d
  pub same : HasWhole K count d v

-- the same of the part of this number
abbrev pub IsAtPart : Run → ℕ → Data → List Spot → ℕ → RawTerm → Type 0
IsAtPart K count d spots at v = (s : Spot) × (slice_get spots at ≡ Some s) × IsAt K count d s.term.now v

-- A rule applies, by its values, at a part of t, or to several of its arguments that rules may change: these trails show the condition.
pub record IsMadeAt (K : Run) (spots : List Spot) (t : RawTerm) (x : Found) (sides : List Track) : Type 0 where
  pub ways : AreWays K.over.signature t spots
  pub spot : Spot
  pub there : slice_get spots x.at ≡ Some spot
  pub rule : x.choice.by.now.rule ≡ true
  pub free : (ks : List ℕ) (f : ℕ) (ts : RawTerms) → x.choice.take ≡ Some ks → spot.term.now ≡ apply f ts → IsOpen K.over.signature true f 1
  pub made : IsMade K.over K.rank spot.term.now x.choice sides

-- so to t itself, or to several of its arguments
pub record IsMadeOf (K : Run) (t : RawTerm) (c : Choice) (sides : List Track) : Type 0 where
  pub rule : c.by.now.rule ≡ true
  pub free : (ks : List ℕ) (f : ℕ) (ts : RawTerms) → c.take ≡ Some ks → t ≡ apply f ts → IsOpen K.over.signature true f 1
  pub made : IsMade K.over K.rank t c sides

-- at a part of the whole t that rules may change it isn't told whether the condition of a rule holds
pub record IsUntoldIn (K : Run) (side : ℕ) (t : RawTerm) (why : Reason) : Type 0 where
  pub context : Context
  pub part : RawTerm
  pub is_part : IsPart K.over.signature (nested K.over.signature t) context part
  pub free : ¬ IsFrozen K.over.signature context
  pub halting : IsHalting K.over true K.rank side part why

-- what comes of looking for a rule in the normal whole t
abbrev pub IsLooked : Run → ℕ → ℕ → Data → RawTerm → Looked → Type 0
IsLooked K count side d t Nothing = IsEnd K count d t × IsFinal K.over (nested K.over.signature t)
IsLooked K count side d t (Fires f) = IsFired K true count d f × IsRefusedAs t f
IsLooked K count side d t (Halts why) = IsEnd K count d t × IsUntoldIn K side t why
IsLooked K count side d t (Takes c sides) = IsEnd K count d t × IsMadeOf K t c sides.items

-- Why it goes on no further at the normal whole t.
abbrev pub EndsThere : Run → ℕ → ℕ → Data → RawTerm → Outcome → Type 0
EndsThere K count side d t Done = IsFinal K.over (nested K.over.signature t)
EndsThere K count side d t (Stopped reason.Rules) = ⊥
EndsThere K count side d t (Stopped reason.Rewrites) = ⊥
EndsThere K count side d t (Stopped reason.Depth) = WouldBeTooDeep K.over K.rank true (nested K.over.signature t)
EndsThere K count side d t (Stopped reason.Nat) = WouldBeTooLarge K.over K.rank true (nested K.over.signature t)
EndsThere K count side d t (Stopped reason.Nest) = IsUntoldIn K side t reason.Nest
EndsThere K count side d t (Stopped reason.Condition) = IsUntoldIn K side t reason.Condition

-- the whole is normal, and rules are tried
pub record EndsByRules (K : Run) (count side : ℕ) (d : Data) (e : End) : Type 0 where
  pub whole : IsWhole K count d e.term
  pub normal : IsNormal K.over 63 (nested K.over.signature e.term)
  pub held : IsNormalTerm K.over (admitted_judgements K.over K.rank).Fails e.term
  pub there : EndsThere K count side d e.term e.outcome

-- a rule was applied, or the end
abbrev pub IsStepped : Run → ℕ → ℕ → Data → Stepped → Type 0
IsStepped K count side d (Goes h) = Holds (after_one true K) (suc count) d h
IsStepped K count side d (Ends e) = EndsByRules K count side d e

-- How a rewriting ends: as a reduction does; with as many rules as the bound, at a normal whole; or as rules leave it.
pub data EndsRewriting (K : Run) (b : Bounds) (count : ℕ) (d : Data) (e : End) : Type 0 where
  by_equations : EndsBy K b.steps b.side count d e → (e.outcome ≡ Done → ⊥) → EndsRewriting K b count d e
  by_bound : IsEnd K count d e.term → count < b.steps → Some K.rules ≡ b.rules → e.outcome ≡ Stopped reason.Rules → EndsRewriting K b count d e
  by_rules : count < b.steps → Some K.rules ≢ b.rules → EndsByRules K count b.side d e → EndsRewriting K b count d e

-- the bound, if there is one, is so many at least
abbrev pub IsWithinBound : ℕ → Bounds → Type 0
IsWithinBound r b = (n : ℕ) → b.rules ≡ Some n → r ≤ n

-- so it ends, with as many rules as were applied by then, and no more than the bound
abbrev pub IsRewrittenBy : Run → Bounds → Data → End → Type 0
IsRewrittenBy K b d e = (r : ℕ) × (count : ℕ) × IsWithinBound r b × EndsRewriting (with_rules r K) b count d e
