-- What comes where a statement is applied, and where a run stops.
use Rattle.std.specs.Prelude.{◌≡◌, ◌-◌, ◌^◌, min, ℕ, suc, List, [], Bool, true, false, Option, Some, None, IsTrue, IsFalse, ⊤}
use Rattle.mw_logic.specs.Term.{Variable, RawTerm, RawTerms, apply, Context, plug}
use Rattle.mw_logic.specs.Signature.{Signature}
use Rattle.mw_logic.specs.Substitution.{Substitution, instance, occurs, IsSolution}
use Rattle.mw_logic.specs.Parts.{nested, IsPart, IsFrozen, IsFrozenArgument, IsTooDeep, IsTooLarge}
use Rattle.mw_logic.specs.NormalForm.{normal_form, height}
use Rattle.mw_logic.specs.Module.{Module, Statement, IsStatement, Row, IsTooBigPair}
use Rattle.mw_logic.specs.Proof.{Proofs}
use Rattle.mw_logic.specs.Judgements.{IsNormalBy, admitted_judgements}
use Rattle.mw_frames.specs.Several.{IsSeveral}
use Rattle.mw_least.specs.Workable.{IsOrdinary}
use Rattle.mw_position.specs.Positions.{fill}
use Rattle.mw_position.specs.Variables.{is_in, placed}
use Rattle.mw_pattern.specs.Clean.{clean}
use Rattle.mw_deduction.specs.Standing.{round}
use Rattle.mw_deduction.specs.Replay.{Move, Stand, whole}
use Rattle.mw_frames.specs.declared.applying.Fired.{Fired}
use Rattle.mw_frames.specs.declared.applying.Fired.TheVariants.{Goes, TooDeep, TooLarge}
use Rattle.mw_frames.specs.declared.applying.Applied.{Applied}
use Rattle.mw_canon.specs.Free.{IsFree}
use Rattle.mw_frames.specs.Redex.{value_in, IsRedex}
use Rattle.mw_frames.specs.State.{Run, after_one, Data, Leads, IsNormalHere, Holds}

-- w is the whole of t, or what these numbers take of it
abbrev pub IsPartTaken : Signature → Option (List ℕ) → RawTerm → RawTerm → Type 0
IsPartTaken sig None t w = w ≡ t
IsPartTaken sig (Some ks) t w = IsSeveral sig ks t w

-- In the left side of the statement no operator has an axiom, and values of other variables are normal.
pub record IsSure (M : Module) (n : ℕ) (e : Statement) (vs : List RawTerm) : Type 0 where
  pub operator : ℕ
  pub patterns : RawTerms
  pub left : apply operator patterns ≡ placed e.variables (normal_form M.signature e.left)
  pub free : IsFree M.signature (apply operator patterns)
  pub found : (x : Variable) → IsTrue (is_in x e.variables) → IsFalse (occurs x e.left) → IsNormalHere M n (value_in M.signature e.variables vs x)

-- The statement that is applied, by these values, applies to w, with a condition that these moves show.
pub record IsApplied (M : Module) (n : ℕ) (e : Applied) (ms : List Move) (vs : List RawTerm) (w : RawTerm) : Type 0 where
  pub redex : IsRedex M n e.number ms vs (clean e.right.now) w
  pub rule : redex.statement.rule ≡ e.rule
  pub free : IsTrue e.free → IsFree M.signature (clean e.right.now)
  -- the variables of the right side stay
  pub levels : e.levels ≡ min (height (fill [] (clean e.right.now))) (2 ^ 16 - 1)
  -- no operator of the left side has an axiom, and what a match found is normal
  pub sure : IsTrue e.sure → IsSure M n redex.statement vs

-- the run's whole is t
pub record IsWhole (K : Run) (count : ℕ) (d : Data) (t : RawTerm) : Type 0 where
  pub stand : Stand
  pub leads : Leads K count d.moves stand
  pub closed : stand.opens ≡ []
  pub hand : stand.hand ≡ t

-- no argument on the way to what is in hand is frozen
abbrev pub IsOpenRound : Run → ℕ → Data → Type 0
IsOpenRound K count d = (S : Stand) → Leads K count d.moves S → ¬ IsFrozen K.over.signature (round K.over.signature S.opens)

-- what is in hand is the whole t with what stands round it
abbrev pub HasWhole : Run → ℕ → Data → RawTerm → Type 0
HasWhole K count d t = (S : Stand) → Leads K count d.moves S → whole K.over.signature S.opens S.hand ≡ t

-- A rule may be applied to the term t in hand, or to several of its arguments.
pub record IsOpenTo (K : Run) (count : ℕ) (d : Data) (t : RawTerm) (take : Option (List ℕ)) : Type 0 where
  pub around : IsOpenRound K count d
  pub inside : (ks : List ℕ) (f : ℕ) (ts : RawTerms) → take ≡ Some ks → t ≡ apply f ts → ¬ IsFrozenArgument K.over.signature f 1

-- The whole u becomes another by an equation, or by a rule where b says so, or by a row of the schemata, at one of its parts; by a rule at one that rules may
-- change.
pub data Becomes (M : Module) (n : ℕ) (b : Bool) (u : RawTerm) : RawTerm → Type 0 where
  by_statement : (C : Context) (w : RawTerm) (number : ℕ) (e : Statement) (s r : Substitution) (es : Proofs) → IsPart M.signature u C w
      → IsStatement M number e → e.rule ≡ b → (IsTrue b → ¬ IsFrozen M.signature C)
      → IsOrdinary M.signature e → IsSolution M.signature e.left w [] s → (admitted_judgements M n).Held e.fragments s es r
      → Becomes M n b u (plug C (instance r e.right))
  by_schema : (C : Context) (w v : RawTerm) → IsPart M.signature u C w → Row M.signature (IsNormalBy M (admitted_judgements M n).Fails) w v → Becomes M n b u (plug C v)

-- that would be too deep
pub record WouldBeTooDeep (M : Module) (n : ℕ) (b : Bool) (u : RawTerm) : Type 0 where
  pub next : RawTerm
  pub becomes : Becomes M n b u next
  pub deep : IsTooDeep M.signature next

-- or too large, and not too deep
pub record WouldBeTooLarge (M : Module) (n : ℕ) (b : Bool) (u : RawTerm) : Type 0 where
  pub next : RawTerm
  pub becomes : Becomes M n b u next
  pub large : IsTooLarge M.signature next
  pub not_deep : ¬ IsTooDeep M.signature next

-- w is a part of u
abbrev pub HasPart : Signature → RawTerm → RawTerm → Type 0
HasPart sig u w = (C : Context) × IsPart sig u C w

-- a sum or product at one of its parts is too big
pub record HasBigPair (M : Module) (u : RawTerm) : Type 0 where
  pub context : Context
  pub pair : RawTerm
  pub is_part : IsPart M.signature u context pair
  pub too_big : IsTooBigPair M.signature pair

abbrev pub Refuses : Run → Bool → Bool → RawTerm → Type 0
Refuses K b true u = WouldBeTooDeep K.over K.rank b u
Refuses K b false u = WouldBeTooLarge K.over K.rank b u

-- what comes of a statement, a rule where b says so, or of a row
abbrev pub IsFired : Run → Bool → ℕ → Data → Fired → Type 0
IsFired K b count d (Goes h) = Holds (after_one b K) (suc count) d h
IsFired K b count d (TooDeep t) = IsWhole K count d t × WouldBeTooDeep K.over K.rank b (nested K.over.signature t)
IsFired K b count d (TooLarge t) = IsWhole K count d t × WouldBeTooLarge K.over K.rank b (nested K.over.signature t)

-- where nothing is applied, the whole that is answered is t
abbrev pub IsRefusedAs : RawTerm → Fired → Type 0
IsRefusedAs t (Goes h) = ⊤
IsRefusedAs t (TooDeep u) = u ≡ t
IsRefusedAs t (TooLarge u) = u ≡ t
