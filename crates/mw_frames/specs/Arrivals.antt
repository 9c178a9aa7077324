-- What comes to a frame: parts of right sides, and jobs that stand for them.
use Rattle.std.specs.Prelude.{◌≡◌, ◌≤◌, ℕ, ◌+◌, List, [], ◌∷◌, length, take, drop, Bool, true}
use Rattle.mw_logic.specs.Term.{RawTerm, apply, RawTerms, nil, cons, join}
use Rattle.mw_logic.specs.Terms.{terms_of}
use Rattle.mw_logic.specs.Signature.{Signature, IsSuccessor}
use Rattle.mw_logic.specs.Accepted.{IsAccepted, IsWellSorted}
use Rattle.mw_logic.specs.NormalForm.{is_comm, arranged}
use Rattle.mw_logic.specs.Module.{Module}
use Rattle.mw_matching.specs.Matches.{evaluated_all}
use Rattle.mw_deduction.proofs.Depths.{added}
use Rattle.mw_stack.specs.Own.{spread}
use Rattle.mw_frames.specs.declared.job.Job.{Job}
use Rattle.mw_frames.specs.declared.job.Frame.{Frame}
use Rattle.mw_frames.specs.declared.machine.Machine.{Machine}
use Rattle.mw_frames.specs.Jobs.{instance_of, term_of, rest, size, sizes, nodes, nodes_in, weight, weights, work}
use Rattle.mw_frames.specs.declared.job.Hand.{Hand}
use Rattle.mw_frames.specs.State.{Run, Data, IsRun, InHand, Holds, IsKnownIn, AreKnownIn, IsJob, AreJobs, AreAtHand, IsGood}
use Rattle.mw_frames.specs.Machines.{data_of}

-- a module over this signature, which is accepted
pub record IsOver (M : Module) (sig : Signature) : Type 0 where
  pub signature : M.signature ≡ sig
  pub accepted : IsAccepted M.signature
  pub sorted : IsWellSorted M.signature

-- x stands for the part p of a right side, whose values stand in vs from base on
pub record StandsFor (sig : Signature) (vs : List RawTerm) (base top : ℕ) (p : RawTerm) (x : Job) : Type 0 where
  pub term : term_of sig vs x ≡ instance_of sig vs p base
  pub known : (M : Module) (n : ℕ) → IsOver M sig → IsKnownIn M n vs base top p → IsJob M n vs x
  pub light : weight sig vs x ≤ size (instance_of sig vs p base) + nodes p

-- so do jobs for several, the next one last
pub record StandForAll (sig : Signature) (vs : List RawTerm) (base top : ℕ) (ps : RawTerms) (xs : List Job) : Type 0 where
  pub terms : rest sig vs xs ≡ evaluated_all sig (drop base vs) ps
  pub known : (M : Module) (n : ℕ) → IsOver M sig → AreKnownIn M n vs base top ps → AreJobs M n vs xs
  pub light : weights sig vs xs ≤ sizes (evaluated_all sig (drop base vs) ps) + nodes_in ps

-- what terms are under f, one after the other
abbrev pub spread_all : Signature → ℕ → RawTerms → RawTerms
spread_all sig f nil = nil
spread_all sig f (cons t ts) = join (spread sig f t) (spread_all sig f ts)

-- The terms ts come in front of those that wait from w on, or in order among them where c says so, if Known says that they may.
pub record Joins (sig : Signature) (vs : List RawTerm) (c : Bool) (w : ℕ) (ts : RawTerms) (Known : Module → ℕ → Type 0) (js js' : List Job) : Type 0 where
  pub below : w ≤ length js → take w js' ≡ take w js
  pub known : (M : Module) (n : ℕ) → w ≤ length js → Known M n → AreJobs M n vs (drop w js) → AreJobs M n vs (drop w js')
  pub at_hand : w ≤ length js → AreAtHand (drop w js) → AreAtHand (drop w js')
  pub order : w ≤ length js → (c ≡ true → AreAtHand (drop w js)) → arranged c (rest sig vs (drop w js)) ≡ rest sig vs (drop w js)
      → rest sig vs (drop w js') ≡ arranged c (join ts (rest sig vs (drop w js)))

-- The terms es came to a frame's own arguments and to those that wait: in front of these, or anywhere where the operator is commutative. All is in order as it was.
pub record AreAdded (M : Module) (n : ℕ) (vs : List RawTerm) (f : Frame) (es own own' : RawTerms) (xs xs' : List Job) : Type 0 where
  pub same : (us : RawTerms) → arranged (is_comm M.signature f.op) (join own' (join us (rest M.signature vs xs'))) ≡ arranged (is_comm M.signature f.op) (join own (join us (join es (rest M.signature vs xs))))
  pub good : IsGood M n vs f own' xs'

-- so they do, if Known says that they may, and nothing below the frame changes
pub record Comes (sig : Signature) (vs : List RawTerm) (f : Frame) (es : RawTerms) (Known : Module → ℕ → Type 0) (ds ds' : List RawTerm) (js js' : List Job) : Type 0 where
  pub below : f.from ≤ length ds → take f.from ds' ≡ take f.from ds
  pub below_jobs : f.waits ≤ length js → take f.waits js' ≡ take f.waits js
  pub are_added : (M : Module) (n : ℕ) → IsOver M sig → ¬ IsSuccessor sig f.op → f.from ≤ length ds → f.waits ≤ length js → Known M n
      → IsGood M n vs f (terms_of (drop f.from ds)) (drop f.waits js) → AreAdded M n vs f es (terms_of (drop f.from ds)) (terms_of (drop f.from ds')) (drop f.waits js) (drop f.waits js')

-- a machine's frames and its proof are as they were
pub record KeepsFrames (old new : Machine) : Type 0 where
  pub frames : new.frames.items ≡ old.frames.items
  pub kept : new.kept ≡ old.kept

-- how many levels stand above a term with g on top that comes into the hole of the first frame
abbrev pub level_over : Signature → List Frame → ℕ → ℕ
level_over sig [] g = 0
level_over sig (f ∷ fs) g = added sig f.op (apply g nil) + f.level

-- f is a frame of g over these, the innermost first, which has no arguments yet
pub record IsNewFrame (sig : Signature) (fs : List Frame) (ds : List RawTerm) (js : List Job) (g : ℕ) (f : Frame) : Type 0 where
  pub operator : f.op ≡ g
  pub level : f.level ≡ level_over sig fs g
  pub from : f.from ≡ length ds
  pub waits : f.waits ≡ length js

-- What is in hand, and stands for the part p of a right side, is opened so that all of the machine means what it did.
abbrev pub Opens : Signature → Machine → Machine → ℕ → ℕ → RawTerm → Hand → Type 0
Opens sig old new base top p hand =
    (K : Run) (k : ℕ) (x : Job) → IsRun K sig → InHand K k (data_of K.over old) x → term_of K.over.signature old.kept.values x ≡ instance_of K.over.signature old.kept.values p base
    → IsKnownIn K.over K.rank old.kept.values base top p → Holds K k (data_of K.over new) hand

-- the work that is left where the part p of a right side is in hand
abbrev pub made_work : Signature → Data → RawTerm → ℕ → ℕ
made_work sig d p base = size (instance_of sig d.values p base) + nodes p + work sig d.values d.frames d.jobs
