-- What comes of a step of the machine.
use Rattle.std.specs.Prelude.{◌≡◌, ◌≤◌, ◌<◌, ℕ, [], ◌∷◌, length, drop, Bool, codes, ⊤}
use Rattle.mw_logic.specs.Term.{RawTerm, apply}
use Rattle.mw_logic.specs.Terms.{terms_of}
use Rattle.mw_logic.specs.Module.{Module, IsTruth, IsPolymorphic}
use Rattle.mw_canon.specs.Axioms.{HasAxioms}
use Rattle.mw_canon.specs.declared.axioms.Axioms.TheVariants.{Plain}
use Rattle.mw_deduction.specs.Replay.{Stand}
use Rattle.mw_frames.specs.declared.job.Job.TheVariants.{Try, Normal}
use Rattle.mw_frames.specs.declared.job.Job.{Job}
use Rattle.mw_frames.specs.declared.job.Frame.{Frame}
use Rattle.mw_frames.specs.declared.job.Hand.{Hand}
use Rattle.mw_frames.specs.declared.job.Hand.TheVariants.{One}
use Rattle.mw_frames.specs.declared.machine.Machine.{Machine}
use Rattle.mw_frames.specs.declared.looking.Step.{Step}
use Rattle.mw_frames.specs.declared.looking.Step.TheVariants.{Goes, Ended, Asks, Decides}
use Rattle.mw_frames.specs.declared.looking.Asked.{Asked}
use Rattle.mw_frames.specs.declared.looking.Asked.TheVariants.{Term, Own}
use Rattle.mw_frames.specs.State.{Run, Data, Leads, InHand, Settled, Holds, IsNormalHere, work_of}
use Rattle.mw_frames.specs.Redex.{IsSeenIn}
use Rattle.mw_frames.specs.Machines.{data_of}

-- the whole is reduced to a normal term
pub record IsEnd (K : Run) (count : ℕ) (d : Data) (t : RawTerm) : Type 0 where
  pub stand : Stand
  pub leads : Leads K count d.moves stand
  pub closed : stand.opens ≡ []
  pub hand : stand.hand ≡ t
  pub normal : IsNormalHere K.over K.rank t

-- a term is in hand, over normal arguments, and seen in its hole
pub record IsAsked (K : Run) (count : ℕ) (d : Data) (t : RawTerm) : Type 0 where
  pub holds : InHand K count d (Try t)
  pub seen : IsSeenIn K.over.signature d.frames t

-- an operator without axioms has all its arguments
pub record IsComplete (K : Run) (count : ℕ) (d : Data) (f : Frame) : Type 0 where
  pub settled : Settled K count d f
  pub all : length d.jobs ≤ f.waits
  pub some : f.from < length d.done
  pub plain : HasAxioms K.over.signature f.op Plain

-- The condition of a choice is the truth value b; its branches wait, as they are.
pub record IsDecided (K : Run) (count : ℕ) (d : Data) (f : Frame) (b : Bool) : Type 0 where
  pub settled : Settled K count d f
  pub choice : IsPolymorphic K.over.signature f.op (codes "if_then_else_fi")
  pub condition : RawTerm
  pub own : drop f.from d.done ≡ condition ∷ []
  pub truth : IsTruth K.over.signature b condition
  pub first : Job
  pub second : Job
  pub waiting : drop f.waits d.jobs ≡ second ∷ first ∷ []

-- the term that statements are asked for
abbrev pub asked_term : Data → Asked → RawTerm
asked_term d (Term t) = t
asked_term d (Own f) = apply f.op (terms_of (drop f.from d.done))

abbrev pub IsAskedFor : Run → ℕ → Data → Asked → Type 0
IsAskedFor K count d (Term t) = IsAsked K count d t
IsAskedFor K count d (Own f) = IsComplete K count d f

abbrev pub Answers : Run → ℕ → Data → Step → Type 0
Answers K count d (Goes h) = Holds K count d h
Answers K count d (Ended t) = IsEnd K count d t
Answers K count d (Asks a) = IsAskedFor K count d a
Answers K count d (Decides f b) = IsDecided K count d f b

-- less is left
abbrev pub FallsTo : Module → ℕ → Machine → Hand → Type 0
FallsTo M w m h = work_of M.signature (data_of M m) h < w

-- Less is left where it goes on, and where it goes on with a normal term in place of what statements are asked for.
abbrev pub FallsBelow : Module → ℕ → Machine → Step → Type 0
FallsBelow M w m (Goes h) = FallsTo M w m h
FallsBelow M w m (Ended t) = ⊤
FallsBelow M w m (Asks a) = FallsTo M w m (One (Normal (asked_term (data_of M m) a)))
FallsBelow M w m (Decides f b) = ⊤
