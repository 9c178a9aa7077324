-- A statement that applies to a term, and where the term stands.
use Rattle.std.specs.Prelude.{◌≡◌, ◌⊎◌, ◌≤◌, ℕ, ◌+◌, List, [], ◌∷◌, length, Bool, false, IsTrue, IsFalse, ⊤}
use Rattle.std.specs.List.{zip}
use Rattle.mw_logic.specs.Term.{Variable, RawTerm, RawTerms, numeral, quoted, variable, apply, nil, cons, is_ground}
use Rattle.mw_logic.specs.Signature.{Signature, IsRawTerm, HasKind}
use Rattle.mw_logic.specs.Substitution.{Substitution, occurs, IsSubstitution, Extends, IsSolution}
use Rattle.mw_logic.specs.Parts.{nested, IsClean, IsFrozen}
use Rattle.mw_logic.specs.NormalForm.{normal_form, height, has_largest}
use Rattle.mw_logic.specs.Module.{Fragment, Module, Statement, IsStatement, Row}
use Rattle.mw_logic.specs.Proof.{Proofs}
use Rattle.mw_logic.specs.Proof as proof
use Rattle.mw_logic.specs.Judgements.{IsNormalBy, admitted_judgements}
use Rattle.mw_canon.specs.Canonical.{meant}
use Rattle.mw_least.specs.Workable.{AreSides, IsOrdinary}
use Rattle.mw_position.specs.Variables.{is_in, placed}
use Rattle.mw_solving.specs.Values.{IsValue, AreValues}
use Rattle.mw_stack.specs.Hidden.{IsHidden}
use Rattle.mw_deduction.proofs.Depths.{added}
use Rattle.mw_matching.specs.Matches.{evaluated}
use Rattle.mw_deduction.specs.Replay.{Move, Stand, whole, plays, AreMoves, all_sides, begun_sides, beginnings}
use Rattle.mw_deduction.specs.Standing.{round}
use Rattle.mw_deduction.specs.Stands.{AreStanding}
use Rattle.mw_frames.specs.declared.job.Job.{Job}
use Rattle.mw_frames.specs.declared.job.Job.TheVariants.{Walk, Try}
use Rattle.mw_frames.specs.declared.job.Frame.{Frame}
use Rattle.mw_frames.specs.Jobs.{term_of, AreOpened}
use Rattle.mw_frames.specs.State.{Run, Data, Leads, InHand, IsJob, IsNormalHere, HasNormalArguments}

-- T is the proof under way S with this evidence, which waits for its statement
pub record IsWaiting (es : Proofs) (S T : Stand) : Type 0 where
  pub rank : T.rank ≡ S.rank
  pub from : T.from ≡ S.from
  pub opens : T.opens ≡ S.opens
  pub hand : T.hand ≡ S.hand
  pub entered : T.read.entered ≡ S.read.entered
  pub done : T.read.done ≡ S.read.done
  pub ready : T.read.ready ≡ es

-- The moves may be made from the stand S on; then evidence waits by which the condition holds, from s on, and reaches r. The sides that it was shown by began
-- at those of the condition: at their canonical instances by r, and so by all that extends it.
pub record IsShown (M : Module) (n : ℕ) (C : List Fragment) (s r : Substitution) (ms : List Move) (S : Stand) (B : List Stand) : Type 0 where
  pub evidence : Proofs
  pub waiting : Stand
  pub may : AreMoves M ms (S ∷ B)
  pub plays : plays M ms (S ∷ B) ≡ waiting ∷ B
  pub waits : IsWaiting evidence S waiting
  pub starts : (q : Substitution) → Extends r q → beginnings waiting.sides ≡ begun_sides M.signature q (all_sides C)
  pub holds : (admitted_judgements M n).Held C s evidence r

-- so they may wherever a proof stands in this rank
abbrev pub AreShowing : Module → ℕ → List Fragment → Substitution → Substitution → List Move → Type 0
AreShowing M n C s r ms = (S : Stand) (B : List Stand) → AreStanding M (S ∷ B) → S.rank ≡ n → S.read.ready ≡ proof.nil → IsShown M n C s r ms S B

-- it has no arguments
abbrev pub IsBare : RawTerm → Type 0
IsBare (numeral n) = ⊤
IsBare (quoted q) = ⊤
IsBare (variable x) = ⊤
IsBare (apply f nil) = ⊤
IsBare (apply f (cons t ts)) = ⊥

-- the value of one of these variables, by their values in order
abbrev pub value_in : Signature → List Variable → List RawTerm → Variable → RawTerm
value_in sig xs vs x = evaluated sig vs (placed xs (variable x))

-- The statement of this number applies to the term w in rank n: a solution makes its left side w, from there its condition holds, which the moves ms show, and
-- the values of its variables are those that are reached. What a match found is normal, or has no arguments. `pattern` is the right side in canonical
-- form, with positions for the variables.
pub record IsRedex (M : Module) (n number : ℕ) (ms : List Move) (vs : List RawTerm) (pattern w : RawTerm) : Type 0 where
  pub statement : Statement
  pub is_there : IsStatement M number statement
  pub ordinary : IsOrdinary M.signature statement
  pub sides : AreSides M.signature statement
  pub size : length vs ≡ length statement.variables
  pub values : AreValues M.signature vs
  pub substitution : IsSubstitution M.signature (meant M.signature (zip statement.variables vs))
  pub solution : Substitution
  pub solves : IsSolution M.signature statement.left (nested M.signature w) [] solution
  pub reached : Substitution
  pub shown : AreShowing M n statement.fragments solution reached ms
  pub goes_on : Extends solution reached
  pub reaches : Extends reached (meant M.signature (zip statement.variables vs))
  pub found : (x : Variable) → IsTrue (is_in x statement.variables) → IsFalse (occurs x statement.left) → IsNormalHere M n (value_in M.signature statement.variables vs x) ⊎ IsBare (value_in M.signature statement.variables vs x)
  pub right : pattern ≡ placed statement.variables (normal_form M.signature statement.right)

-- v may come for the flattened w: a raw and ground term of its kinds
pub record MayCome (sig : Signature) (w v : RawTerm) : Type 0 where
  pub raw : IsRawTerm sig v
  pub is_ground : IsTrue (is_ground v)
  pub kinds : (L : ℕ) → HasKind sig (nested sig w) L → HasKind sig v L

-- the operator on top is this one, or there is none
abbrev pub HasOnTop : ℕ → RawTerm → Type 0
HasOnTop f t = (g : ℕ) (ts : RawTerms) → t ≡ apply g ts → g ≡ f

-- Frames, the innermost first: t is not hidden in its hole,
abbrev pub IsSeenIn : Signature → List Frame → RawTerm → Type 0
IsSeenIn sig [] t = ⊤
IsSeenIn sig (f ∷ fs) t = ¬ IsHidden sig f.op t

-- and so many levels stand above it there
abbrev pub hole_level : Signature → List Frame → RawTerm → ℕ
hole_level sig [] t = 0
hole_level sig (f ∷ fs) t = added sig f.op t + f.level

-- what is known of it is left aside
abbrev pub walked : (K : Run) (count : ℕ) (m : Data) (w : RawTerm) → InHand K count m (Try w) → InHand K count m (Walk w)
walked K count m w h = record { stand = h.stand; leads = h.leads; opened = h.opened; hand = h.hand; good = h.good; job = tt }

-- A term w is in hand, and seen; v has no more than 1,000 levels where it comes for it, and no number is too large there.
pub record MayStand (K : Run) (count : ℕ) (m : Data) (w v : RawTerm) : Type 0 where
  pub in_hand : InHand K count m (Walk w)
  pub seen : IsSeenIn K.over.signature m.frames w
  pub low : hole_level K.over.signature m.frames v + height v ≤ 1000
  pub small : has_largest K.over.signature (whole K.over.signature in_hand.stand.opens v) ≡ false

-- The statement, a rule where b says so, applies to it, its arguments are normal, and its right side fits; a rule may change what stands there.
pub record MayFire (K : Run) (b : Bool) (count : ℕ) (m : Data) (number : ℕ) (ms : List Move) (vs : List RawTerm) (pattern w : RawTerm) : Type 0 where
  pub redex : IsRedex K.over K.rank number ms vs pattern w
  pub rule : redex.statement.rule ≡ b
  pub known : HasNormalArguments K.over K.rank w
  pub stands : MayStand K count m w (evaluated K.over.signature vs pattern)
  pub free : IsTrue b → ¬ IsFrozen K.over.signature (round K.over.signature stands.in_hand.stand.opens)

-- The term v is in hand, as any job for it of which that is known.
abbrev pub HasInHand : Run → ℕ → Data → RawTerm → Type 0
HasInHand K count m v = (x : Job) → term_of K.over.signature m.values x ≡ v → IsJob K.over K.rank m.values x → InHand K count m x

-- The term t stands in the innermost hole, whatever is known of it and of what stands beside it.
pub record Stands (K : Run) (count : ℕ) (m : Data) (t : RawTerm) : Type 0 where
  pub stand : Stand
  pub leads : Leads K count m.moves stand
  pub opened : AreOpened K.over.signature m.values m.frames m.done m.jobs stand.opens
  pub hand : stand.hand ≡ t

-- A row of the schemata leads from a clean form of w to the canonical t.
pub record IsRowOf (M : Module) (n : ℕ) (w t : RawTerm) : Type 0 where
  pub form : RawTerm
  pub raw : IsRawTerm M.signature form
  pub clean : IsClean M.signature form
  pub is : normal_form M.signature form ≡ w
  pub row : Row M.signature (IsNormalBy M (admitted_judgements M n).Fails) form (nested M.signature t)
  pub value : IsValue M.signature t

-- it is met at the term in hand, and what comes of it fits
pub record MayMeetRow (K : Run) (count : ℕ) (m : Data) (w t : RawTerm) : Type 0 where
  pub row : IsRowOf K.over K.rank w t
  pub stands : MayStand K count m w t
