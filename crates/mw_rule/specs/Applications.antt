-- A rule that is applied to a normal term, at one of its parts.
use Rattle.std.specs.Prelude.{◌≡◌, ◌≤◌, ℕ, List, Option, Some, true, false}
use Rattle.std.specs.List.{zip}
use Rattle.mw_logic.specs.Term.{RawTerm}
use Rattle.mw_logic.specs.Signature.{Signature}
use Rattle.mw_logic.specs.Parts.{nested}
use Rattle.mw_logic.specs.NormalForm.{normal_form, height, has_largest}
use Rattle.mw_logic.specs.Substitution.{instance}
use Rattle.mw_logic.specs.Module.{Module, Statement, IsStatement}
use Rattle.mw_logic.specs.Proof.{rules, steps}
use Rattle.mw_logic.specs.Judgements.{Proves, admitted_judgements}
use Rattle.mw_canon.specs.Canonical.{meant}
use Rattle.mw_deduction.specs.Tops.{IsNormalTerm}
use Rattle.mw_trail.specs.Tracks.{Track}
use Rattle.mw_redex.specs.Paths.{at_path}
use Rattle.mw_redex.specs.Replaced.{IsOpenWay, way_of_place, replaced_at}
use Rattle.mw_proof.specs.Deductions.{Deduction}
use Rattle.mw_index.specs.declared.choices.Choice.{Choice}
use Rattle.mw_frames.specs.Fires.{WouldBeTooDeep, WouldBeTooLarge}
use Rattle.mw_reduce.specs.Attempts.{IsMade}
use Rattle.mw_rule.specs.declared.one_step.OneStep.{OneStep}
use Rattle.mw_rule.specs.declared.one_step.OneStep.TheVariants.{Made, Deep, Nat}

-- A rule applies, by these values, to the part of the normal t that stands at a place which rules may change: these trails show its condition. That t is normal
-- is what `reduce` and `rewrite_alone` hand out of a term that they are done with (`IsNormalWhere` of mw_reduce).
pub record IsApplicable (M : Module) (t : RawTerm) (path : List ℕ) (c : Choice) (sides : List Track) : Type 0 where
  pub normal : IsNormalTerm M (admitted_judgements M 63).Fails t
  pub end : RawTerm
  pub there : at_path t path ≡ Some end
  pub open_way : IsOpenWay M.signature true (way_of_place path c.take) t
  pub rule : c.by.now.rule ≡ true
  pub made : IsMade M 63 end c sides

-- t with the right side of the statement e, by values of its variables, in the place of the part
abbrev pub with_right : Module → RawTerm → List ℕ → Option (List ℕ) → Statement → List RawTerm → RawTerm
with_right M t path take e vs = replaced_at M.signature path take (normal_form M.signature (instance (meant M.signature (zip e.variables vs)) e.right)) t

-- it has more than 1,000 levels, or `s_` stands on the largest numeral in it
abbrev pub IsPast : Signature → RawTerm → Type 0
IsPast sig u = ((height u ≤ 1000) × (has_largest sig u ≡ false)) → ⊥

-- one step, by a rule, from t to u
pub record IsOneStep (M : Module) (t u : RawTerm) (d : Deduction) : Type 0 where
  pub over : d.over ≡ M
  pub rank : d.rank ≡ 63
  pub from : d.from ≡ t
  pub to : d.to ≡ u
  pub proves : Proves M 63 d.proof (nested M.signature t) (nested M.signature u)
  pub one : steps d.proof ≡ 1
  pub by_rule : rules d.proof ≡ 1

-- What comes of it: one step to u; or u is past the limits, and a step by a rule leads to a term that is too deep, or that is too large and not too deep.
abbrev pub IsStepTo : Module → RawTerm → RawTerm → OneStep → Type 0
IsStepTo M t u (Made d) = IsOneStep M t u d
IsStepTo M t u Deep = IsPast M.signature u × WouldBeTooDeep M 63 true (nested M.signature t)
IsStepTo M t u Nat = IsPast M.signature u × WouldBeTooLarge M 63 true (nested M.signature t)

-- u is what the rule of the choice leaves
abbrev pub IsStepBy : Module → RawTerm → List ℕ → Choice → OneStep → Type 0
IsStepBy M t path c s = (e : Statement) → IsStatement M c.by.now.number e → IsStepTo M t (with_right M t path c.take e c.values.items) s
