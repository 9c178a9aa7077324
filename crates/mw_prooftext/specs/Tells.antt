-- What a proof text means: the replacements that its items tell, one after another, from one canonical term to another.
use Rattle.std.specs.Prelude.{◌≡◌, ℕ, List, [], ◌∷◌, Bool, false, ⊤}
use Rattle.mw_logic.specs.Term.{RawTerm}
use Rattle.mw_logic.specs.Signature.{Signature}
use Rattle.mw_logic.specs.Substitution.{Substitution, instance}
use Rattle.mw_logic.specs.Parts.{nested, IsClean}
use Rattle.mw_logic.specs.NormalForm.{normal_form}
use Rattle.mw_logic.specs.Module.{Module, Statement, IsStatement, Row}
use Rattle.mw_deduction.specs.Runs.{Done, by_statement, by_row, Dones, run, Runs, another}
use Rattle.mw_deduction.specs.Runs as runs
use Rattle.mw_deduction.specs.Replay.{AreValuesOf, all_sides}
use Rattle.mw_redex.specs.Replaced.{ReplacesAt}
use Rattle.mw_items.specs.Items.{Spot, Item, step, built, Items, none, more, Groups, end, group}

-- The part of t at the place is the canonical form of w, and u is t with that of v in its stead. For a rule no argument on the way is frozen.
abbrev pub ReplacesSpot : Signature → Bool → RawTerm → RawTerm → Spot → RawTerm → RawTerm → Type 0
ReplacesSpot sig by_rule w v s t u = ReplacesAt sig by_rule (normal_form sig w) (normal_form sig v) s.path s.take t u

-- Statement k replaces there, by these values: it is executable, and the values are canonical.
pub record IsStep (M : Module) (owise : Bool) (k : ℕ) (s : Spot) (vs : List RawTerm) (t u : RawTerm) : Type 0 where
  pub statement : Statement
  pub is_there : IsStatement M k statement
  pub kind : owise ≡ statement.owise
  pub subst : Substitution
  pub values : AreValuesOf M.signature statement.variables vs subst
  pub replaces : ReplacesSpot M.signature statement.rule (instance subst statement.left) (instance subst statement.right) s t u

-- a row does, with any terms taken as normal
pub record IsBuilt (M : Module) (s : Spot) (t u : RawTerm) : Type 0 where
  pub form : RawTerm
  pub result : RawTerm
  pub row : Row M.signature (λ v. ⊤) form result
  pub clean : IsClean M.signature form
  pub replaces : ReplacesSpot M.signature false form result s t u

-- Items tell what is carried out from the canonical t to u: each replaces at its place, in the term that the one before it left. A group tells it of its
-- side, from the canonical instance on.
module _ (M : Module) where
  abbrev mutual
    pub Tells : Items → RawTerm → RawTerm → Dones → Type 0
    Tells none t u ds = (t ≡ u) × (ds ≡ runs.none)
    Tells (more i is) t u ds = (v : RawTerm) × (d : Done) × (es : Dones) × (ds ≡ runs.more d es) × TellsOne i t v d × Tells is v u es

    pub TellsOne : Item → RawTerm → RawTerm → Done → Type 0
    TellsOne (step owise k s vs gs) t u d =
        (h : IsStep M owise k s vs t u) × (rs : Runs) × (d ≡ by_statement k h.subst rs (nested M.signature t) (nested M.signature u)) × TellsSides gs h.subst (all_sides h.statement.fragments) rs
    TellsOne (built s) t u d = IsBuilt M s t u × (d ≡ by_row (nested M.signature t) (nested M.signature u))

    pub TellsSides : Groups → Substitution → List RawTerm → Runs → Type 0
    TellsSides end s [] rs = rs ≡ runs.end
    TellsSides end s (l ∷ ls) rs = ⊥
    TellsSides (group g gs) s [] rs = ⊥
    TellsSides (group g gs) s (l ∷ ls) rs =
        (u : RawTerm) × (ds : Dones) × (qs : Runs) × (rs ≡ another (run (nested M.signature (normal_form M.signature (instance s l))) (nested M.signature u) ds) qs)
        × Tells g (normal_form M.signature (instance s l)) u ds × TellsSides gs s ls qs
