-- What is told of a term, of a part, of a step's statement, and of an item.
use Rattle.std.specs.Prelude.{◌≡◌, ◌≢◌, ◌⊎◌, ℕ, List, [], ◌∷◌, length, map, Option, Some, None, IsTrue, codes, ⊤}
use Rattle.std.specs.List.{zip}
use Rattle.mw_logic.specs.Term.{Variable, RawTerm, binary}
use Rattle.mw_logic.specs.Signature.{Signature, IsRawTerm}
use Rattle.mw_logic.specs.Axioms.{EqualModulo}
use Rattle.mw_logic.specs.Substitution.{Substitution, instance, IsSubstitution}
use Rattle.mw_logic.specs.Parts.{nested, IsAdmitted}
use Rattle.mw_logic.specs.NormalForm.{normal_form}
use Rattle.mw_logic.specs.Module.{Fragment, equal, matches, has_sort, is_true, Statement, Module, binds_statement, IsPolymorphic, Row}
use Rattle.mw_logic.specs.Judgements.{IsNormal}
use Rattle.mw_logic.specs.Confluence.{IsReducible}
use Rattle.mw_canon.specs.Canonical.{IsAdmittedTerm, HasAdmittedValues, meant}
use Rattle.mw_deduction.specs.Runs.{Done}
use Rattle.mw_proof.specs.Counting.{capped}
use Rattle.mw_items.specs.Items.{Spot, Item}
use Rattle.mw_prooftext.specs.Tells.{ReplacesSpot}
use Rattle.mw_prooftext.specs.Passing.{TakesSome}
use Rattle.mw_verdict.specs.Checks.{IsFormOf, ChecksOne}
use Rattle.mw_verdict.specs.Leads.{IsOneArgument, LeadsOne}
use Rattle.mw_verdict.specs.Verdicts as verdicts
use Rattle.mw_verdict.specs.Verdicts.{IsStopped, Refuses}
use Rattle.mw_check.specs.declared.answer.Cause.{Cause}
use Rattle.mw_check.specs.declared.answer.Cause.TheVariants as cause
use Rattle.mw_check.specs.declared.answer.Answer.{Answer}
use Rattle.mw_check.specs.declared.answer.Answer.TheVariants as answer
use Rattle.mw_check.specs.declared.normal.Normal.{Normal}
use Rattle.mw_check.specs.declared.normal.Normal.TheVariants as normal
use Rattle.mw_check.specs.declared.placing.Placed.{Placed}
use Rattle.mw_check.specs.declared.placing.Placed.TheVariants as placed
use Rattle.mw_check.specs.declared.rows.Computed.{Computed}
use Rattle.mw_check.specs.declared.rows.Computed.TheVariants as computed

-- In rank n the term is normal, or reducible, or a test of it stops.
abbrev pub IsTold : Module → ℕ → ℕ → RawTerm → Normal → Type 0
IsTold M most n t normal.Yes = IsNormal M n (nested M.signature t)
IsTold M most n t normal.No = IsReducible M n (nested M.signature t)
IsTold M most n t normal.Stopped = IsStopped M most n (nested M.signature t)

abbrev pub AreAdmittedTerms : Signature → List RawTerm → Type 0
AreAdmittedTerms sig [] = ⊤
AreAdmittedTerms sig (t ∷ ts) = IsAdmittedTerm sig t × AreAdmittedTerms sig ts

-- A row leads from a clean form of w to the canonical u, if these terms are normal. With several arguments taken as one term it asks for no normal one.
pub record Gives (sig : Signature) (IsGood : RawTerm → Type 0) (w u : RawTerm) : Type 0 where
  pub form : RawTerm
  pub result : RawTerm
  pub is_form : IsFormOf sig w form
  pub row : Row sig IsGood form result
  pub one : Row sig (IsOneArgument sig form) form result
  pub is : normal_form sig result ≡ u
  pub admitted : IsAdmittedTerm sig u

-- A test of two terms that differ stops at one of them.
pub record StopsAtSide (M : Module) (most n : ℕ) (w : RawTerm) : Type 0 where
  pub operator : ℕ
  pub first : RawTerm
  pub second : RawTerm
  pub result : RawTerm
  pub is_form : IsFormOf M.signature w (binary operator first second)
  pub row : Row M.signature (λ v. ⊤) (binary operator first second) result
  pub test : IsPolymorphic M.signature operator (codes "_==_") ⊎ IsPolymorphic M.signature operator (codes "_=/=_")
  pub differ : ¬ EqualModulo M.signature first second
  pub stops : IsStopped M most n first ⊎ IsStopped M most n second

-- What rows make of the canonical w in rank n.
abbrev pub IsComputation : Module → ℕ → ℕ → RawTerm → Computed → Type 0
IsComputation M most n w computed.NoRow = (form result : RawTerm) → IsFormOf M.signature w form → ¬ Row M.signature (λ v. ⊤) form result
IsComputation M most n w computed.NotNormal =
    ((form : RawTerm) × (result : RawTerm) × IsFormOf M.signature w form × Row M.signature (λ v. ⊤) form result)
    × ((form result : RawTerm) → IsFormOf M.signature w form → ¬ Row M.signature (λ v. ¬ IsReducible M n v) form result)
IsComputation M most n w (computed.Stopped u) = StopsAtSide M most n w × Gives M.signature (λ v. ⊤) w u
IsComputation M most n w (computed.Gives u) = Gives M.signature (IsNormal M n) w u

-- the substitution that these values of a statement's variables are
abbrev pub values_by_name : Signature → List Variable → List RawTerm → Substitution
values_by_name sig xs vs = zip xs (map (nested sig) vs)

-- v is the next term: it is this admitted one, or none, where it isn't admitted.
abbrev pub IsNext : Signature → RawTerm → Option RawTerm → Type 0
IsNext sig v None = ¬ IsAdmitted sig (nested sig v)
IsNext sig v (Some u) = (u ≡ v) × IsAdmittedTerm sig v

-- The statement replaces at the place, by the values, in the canonical t.
abbrev pub ReplacesBy : Signature → Statement → Substitution → Spot → RawTerm → RawTerm → Type 0
ReplacesBy sig st s at t v = ReplacesSpot sig st.rule (instance s st.left) (instance s st.right) at t v × TakesSome at t

-- By values of its variables the statement replaces, and this is next. The values are as many as the variables.
pub record IsReplacement (sig : Signature) (st : Statement) (s : Substitution) (at : Spot) (t : RawTerm) (values : Substitution) (next : Option RawTerm) : Type 0 where
  pub values_are : meant sig values ≡ s
  pub admitted : HasAdmittedValues sig values
  pub binds : IsTrue (binds_statement s st)
  pub whole : RawTerm
  pub replaces : ReplacesBy sig st s at t whole
  pub next_is : IsNext sig whole next

-- What the statement does at the place, by these values, in the canonical t.
abbrev pub IsPlacedBy : Signature → Statement → Substitution → Spot → RawTerm → Placed → Type 0
IsPlacedBy sig st s at t placed.IllSorted = ¬ IsSubstitution sig s
IsPlacedBy sig st s at t placed.NoPart = IsSubstitution sig s × ((v : RawTerm) → ¬ ReplacesBy sig st s at t v)
IsPlacedBy sig st s at t (placed.Next values next) = IsSubstitution sig s × IsReplacement sig st s at t values next

abbrev pub IsPlaced : Module → Statement → Spot → List RawTerm → RawTerm → Placed → Type 0
IsPlaced M st at vs t p = (length vs ≡ length st.variables) × IsPlacedBy M.signature st (values_by_name M.signature st.variables vs) at t p

-- the instance of a match's pattern is a raw term
abbrev pub HasRawPattern : Signature → Substitution → Fragment → Type 0
HasRawPattern sig s (equal u v) = ⊤
HasRawPattern sig s (matches p t) = IsRawTerm sig (instance s p)
HasRawPattern sig s (has_sort t S) = ⊤
HasRawPattern sig s (is_true b) = ⊤

abbrev pub cause_of : Cause → verdicts.Cause
cause_of cause.Module = verdicts.no_module
cause_of cause.Text = verdicts.not_of_form
cause_of cause.Statement = verdicts.no_statement
cause_of cause.Binding = verdicts.ill_sorted
cause_of cause.Part = verdicts.no_part
cause_of cause.Overlap = verdicts.overlaps
cause_of cause.Condition = verdicts.no_condition
cause_of cause.Stopped = verdicts.stopped
cause_of cause.Limit = verdicts.past_limit
cause_of cause.End = verdicts.not_the_end

-- In rank n the item passes all tests at t, and leads to u; a replacement by a rule counts as one rule.
pub record Passes (M : Module) (n : ℕ) (i : Item) (t u : RawTerm) (count : ℕ) : Type 0 where
  pub rules : ℕ
  pub replacements : ℕ
  pub done : Done
  pub checks : ChecksOne M n i t u rules replacements done
  pub admitted : IsAdmittedTerm M.signature u
  pub count_is : count ≡ capped replacements

-- What comes of an item at the canonical t, in rank n.
abbrev pub IsAnswer : Module → ℕ → ℕ → Item → RawTerm → Answer → Type 0
IsAnswer M most n i t (answer.Refused c) = Refuses M most n i t (cause_of c) × (c ≢ cause.Stopped)
IsAnswer M most n i t (answer.Stopped next) = Refuses M most n i t verdicts.stopped × (v : RawTerm) × LeadsOne M i t v × IsNext M.signature v next
IsAnswer M most n i t (answer.Passed u count) = Passes M n i t u count
