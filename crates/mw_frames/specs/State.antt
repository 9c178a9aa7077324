-- Where the machine stands.
use Rattle.std.specs.Prelude.{◌≡◌, ◌⊎◌, ◌≤◌, ℕ, suc, ◌+◌, List, [], ◌∷◌, length, take, drop, Bool, true, false, cond, IsTrue, ⊤}
use Rattle.mw_logic.specs.Term.{RawTerm, numeral, quoted, variable, apply, RawTerms, nil, cons, join, is_ground}
use Rattle.mw_logic.specs.Terms.{terms_of}
use Rattle.mw_logic.specs.Signature.{Signature, IsSuccessor}
use Rattle.mw_arguments.specs.Arguments.{HasArity}
use Rattle.mw_logic.specs.Accepted.{IsAccepted, IsWellSorted}
use Rattle.mw_logic.specs.Parts.{number_of_terms}
use Rattle.mw_logic.specs.NormalForm.{is_comm, arranged, applied_in}
use Rattle.mw_logic.specs.Module.{Module}
use Rattle.mw_logic.specs.WellFormed.{IsWellFormed}
use Rattle.mw_logic.specs.Proof as proof
use Rattle.mw_logic.specs.Judgements.{admitted_judgements}
use Rattle.mw_logic.proofs.Canonical.{Each, IsCanonical}
use Rattle.mw_pattern.specs.Clean.{clean}
use Rattle.mw_deduction.specs.Tops.{IsNormalTerm}
use Rattle.mw_deduction.specs.Chains.{proof_of}
use Rattle.mw_deduction.specs.Standing.{round}
use Rattle.mw_deduction.specs.Replay.{Move, Stand, plays, AreMoves}
use Rattle.mw_deduction.specs.Stands.{AreStanding}
use Rattle.mw_deduction.proofs.Depths.{level_in}
use Rattle.mw_frames.specs.Fair.{Stays, IsFair}
use Rattle.mw_stack.specs.Hidden.{IsHiddenNumeral}
use Rattle.mw_frames.specs.declared.job.Job.{Job}
use Rattle.mw_frames.specs.declared.job.Job.TheVariants.{Walk, Try, Normal, Made, Built}
use Rattle.mw_frames.specs.declared.job.Frame.{Frame}
use Rattle.mw_frames.specs.declared.job.Hand.{Hand}
use Rattle.mw_frames.specs.declared.job.Hand.TheVariants.{One, Over}
use Rattle.mw_frames.specs.Jobs.{value_at, is_sure, instance_of, term_of, rest, arguments, AreOpened, weight, work}

-- A run: the module, the rank, the term that it begins at, and the proofs under way when it began; below its own one stand those of outer conditions. And
-- how many rules were applied in it by now.
pub record Run : Type 0 where
  pub over : Module
  pub rank : ℕ
  pub from : RawTerm
  pub start : List Stand
  pub below : List Stand
  pub rules : ℕ

-- the same run with so many rules applied
abbrev pub with_rules : ℕ → Run → Run
with_rules r K = record { over = K.over; rank = K.rank; from = K.from; start = K.start; below = K.below; rules = r }

-- the same behind one statement more, which may be a rule
abbrev pub after_one : Bool → Run → Run
after_one b K = with_rules (cond b (suc K.rules) K.rules) K

-- The machine's data: frames, the innermost first, terms that are done, what waits, the values that are kept, and the moves.
pub record Data : Type 0 where
  pub frames : List Frame
  pub done : List RawTerm
  pub jobs : List Job
  pub values : List RawTerm
  pub moves : List Move

-- the term of a job is at hand
abbrev pub IsAtHand : Job → Type 0
IsAtHand (Walk t) = ⊤
IsAtHand (Try t) = ⊤
IsAtHand (Normal t) = ⊤
IsAtHand (Made p base top) = ⊥
IsAtHand (Built t p base top) = ⊤

abbrev pub AreAtHand : List Job → Type 0
AreAtHand [] = ⊤
AreAtHand (x ∷ xs) = IsAtHand x × AreAtHand xs

-- so many arguments may stand under f
pub record HasArguments (sig : Signature) (f k : ℕ) : Type 0 where
  pub arity : HasArity sig f k
  pub one : IsSuccessor sig f → k ≡ 1

module _ (M : Module) (n : ℕ) where
  abbrev sig : Signature
  sig = M.signature

  abbrev pub IsNormalHere : RawTerm → Type 0
  IsNormalHere t = IsNormalTerm M (admitted_judgements M n).Fails t

  -- an argument that is done
  abbrev pub IsDone : ℕ → RawTerm → Type 0
  IsDone f t = IsNormalHere t ⊎ IsHiddenNumeral sig f t

  -- each argument is normal
  abbrev pub HasNormalArguments : RawTerm → Type 0
  HasNormalArguments t = (f : ℕ) (ts : RawTerms) → t ≡ apply f ts → Each IsNormalHere ts

  -- the value of a variable: normal, or its arguments are, and it may be seen that it isn't
  pub record IsKnown (top : ℕ) (t : RawTerm) : Type 0 where
    pub canonical : IsCanonical sig t
    pub ground : IsTrue (is_ground t)
    pub known : IsNormalHere t ⊎ (HasNormalArguments t × (is_sure top t ≡ false))

  -- so is each value in a pattern, whose operators have as many arguments as their axioms ask for
  abbrev mutual
    pub IsKnownIn : List RawTerm → ℕ → ℕ → RawTerm → Type 0
    IsKnownIn vs base top (numeral m) = ⊤
    IsKnownIn vs base top (quoted q) = ⊤
    IsKnownIn vs base top (variable x) = IsKnown top (value_at vs base x.sort)
    IsKnownIn vs base top (apply f ts) = HasArguments sig f (number_of_terms ts) × AreKnownIn vs base top ts

    pub AreKnownIn : List RawTerm → ℕ → ℕ → RawTerms → Type 0
    AreKnownIn vs base top nil = ⊤
    AreKnownIn vs base top (cons t ts) = IsKnownIn vs base top t × AreKnownIn vs base top ts

  abbrev pub IsJob : List RawTerm → Job → Type 0
  IsJob vs (Walk t) = ⊤
  IsJob vs (Try t) = HasNormalArguments t
  IsJob vs (Normal t) = IsNormalHere t
  IsJob vs (Made p base top) = IsKnownIn vs base top (clean p.now)
  IsJob vs (Built t p base top) = IsKnownIn vs base top (clean p.now) × (t ≡ instance_of sig vs (clean p.now) base)

  abbrev pub AreJobs : List RawTerm → List Job → Type 0
  AreJobs vs [] = ⊤
  AreJobs vs (x ∷ xs) = IsJob vs x × AreJobs vs xs

  pub record IsGood (vs : List RawTerm) (f : Frame) (own : RawTerms) (waiting : List Job) : Type 0 where
    pub done : Each (IsDone f.op) own
    pub order : arranged (is_comm sig f.op) own ≡ own
    pub jobs : AreJobs vs waiting
    pub jobs_order : arranged (is_comm sig f.op) (rest sig vs waiting) ≡ rest sig vs waiting
    pub seen : Each (Stays sig f.op) (rest sig vs waiting)
    pub at_hand : is_comm sig f.op ≡ true → AreAtHand waiting

  -- frames, the innermost first
  abbrev pub AreGood : List RawTerm → List Frame → List RawTerm → List Job → Type 0
  AreGood vs [] ds js = ⊤
  AreGood vs (f ∷ fs) ds js =
      IsGood vs f (terms_of (drop f.from ds)) (drop f.waits js) × (f.from ≤ length ds) × (f.waits ≤ length js) × AreGood vs fs (take f.from ds) (take f.waits js)

-- What was kept leads, from where the run began, to a stand of its own, which made so many replacements, as many of them by rules as the run says.
pub record Leads (K : Run) (count : ℕ) (ms : List Move) (stand : Stand) : Type 0 where
  pub plays : plays K.over ms K.start ≡ stand ∷ K.below
  pub moves : AreMoves K.over ms K.start
  pub rank : stand.rank ≡ K.rank
  pub from : stand.from ≡ K.from
  pub ready : stand.read.ready ≡ proof.nil
  pub steps : proof.steps (proof_of stand.read.done) ≡ count
  pub rules : proof.rules (proof_of stand.read.done) ≡ K.rules

-- what may be asked of a run
pub record IsRun (K : Run) (sig : Signature) : Type 0 where
  pub signature : K.over.signature ≡ sig
  pub accepted : IsAccepted K.over.signature
  pub sorted : IsWellSorted K.over.signature
  pub well : IsWellFormed K.over
  pub start : AreStanding K.over K.start

-- a job is in hand
pub record InHand (K : Run) (count : ℕ) (m : Data) (x : Job) : Type 0 where
  pub stand : Stand
  pub leads : Leads K count m.moves stand
  pub opened : AreOpened K.over.signature m.values m.frames m.done m.jobs stand.opens
  pub hand : stand.hand ≡ term_of K.over.signature m.values x
  pub good : AreGood K.over K.rank m.values m.frames m.done m.jobs
  pub job : IsJob K.over K.rank m.values x

-- none is in hand: the frame f has only arguments that are done or wait
pub record Settled (K : Run) (count : ℕ) (m : Data) (f : Frame) : Type 0 where
  pub stand : Stand
  pub leads : Leads K count m.moves stand
  pub opened : AreOpened K.over.signature m.values m.frames (take f.from m.done) (take f.waits m.jobs) stand.opens
  pub level : f.level ≡ level_in K.over.signature (round K.over.signature stand.opens) (apply f.op nil)
  pub hand : stand.hand ≡ applied_in K.over.signature f.op (arguments K.over.signature m.values f m.done m.jobs)
  pub fair : IsFair K.over.signature f.op (arguments K.over.signature m.values f m.done m.jobs)
  pub good : AreGood K.over K.rank m.values (f ∷ m.frames) m.done m.jobs

abbrev pub Holds : Run → ℕ → Data → Hand → Type 0
Holds K count m (One x) = InHand K count m x
Holds K count m (Over f) = Settled K count m f

-- work that is left: a frame in which nothing is in hand costs one more
abbrev pub work_of : Signature → Data → Hand → ℕ
work_of sig m (One x) = weight sig m.values x + work sig m.values m.frames m.jobs
work_of sig m (Over f) = suc (work sig m.values (f ∷ m.frames) m.jobs)

-- What a term t in hand is opened into: a new frame f with the terms os, which are done, and the jobs ys, which wait.
pub record IsOpening (M : Module) (n : ℕ) (vs : List RawTerm) (t : RawTerm) (f : Frame) (os : List RawTerm) (ys : List Job) : Type 0 where
  pub is : t ≡ applied_in M.signature f.op (join (terms_of os) (rest M.signature vs ys))
  pub fair : IsFair M.signature f.op (join (terms_of os) (rest M.signature vs ys))
  pub good : IsGood M n vs f (terms_of os) ys
