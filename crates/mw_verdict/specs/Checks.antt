-- What a checker of proof texts sees of the items of a text, on flattened terms alone, by equations and normal forms. Each item passes tests in order: its
-- statement, its values, its part, its condition, and the limits of the next term. Rank n allows n conditions inside one another.
use Rattle.std.specs.Prelude.{◌≡◌, ℕ, suc, ◌+◌, List, [], ◌∷◌, take, drop, length, Bool, true, cond, IsTrue, ⊤}
use Rattle.mw_logic.specs.Term.{RawTerm}
use Rattle.mw_logic.specs.Signature.{Signature, IsRawTerm}
use Rattle.mw_logic.specs.Axioms.{EqualModulo}
use Rattle.mw_logic.specs.Substitution.{Substitution, instance, IsSubstitution}
use Rattle.mw_logic.specs.Parts.{nested, IsClean, IsAdmitted}
use Rattle.mw_logic.specs.NormalForm.{normal_form}
use Rattle.mw_logic.specs.Module.{Fragment, equal, matches, has_sort, is_true, Statement, Module, IsStatement, binds_statement, IsTruth}
use Rattle.mw_logic.specs.Judgements.{MeetsSort, IsNormal, IsPlain}
use Rattle.mw_deduction.specs.Runs.{Done, Dones, run, Runs, another}
use Rattle.mw_deduction.specs.Runs as runs
use Rattle.mw_deduction.specs.Replay.{AreValuesOf, sides_of, all_sides}
use Rattle.mw_items.specs.Items.{Spot, Item, step, built, Items, none, more, Groups, end, group}
use Rattle.mw_prooftext.specs.Tells.{ReplacesSpot}
use Rattle.mw_prooftext.specs.Passing.{TakesSome, IsRow}

-- The line names an executable statement, as `owise` exactly where it is one, with a canonical term for each of its variables.
pub record NamesStatement (M : Module) (owise : Bool) (k : ℕ) (vs : List RawTerm) : Type 0 where
  pub statement : Statement
  pub is_there : IsStatement M k statement
  pub kind : owise ≡ statement.owise
  pub subst : Substitution
  pub values : AreValuesOf M.signature statement.variables vs subst

-- a clean form of the canonical term w
pub record IsFormOf (sig : Signature) (w form : RawTerm) : Type 0 where
  pub raw : IsRawTerm sig form
  pub clean : IsClean sig form
  pub is : normal_form sig form ≡ w

-- The canonical ends of a fragment's sides meet it. Of a match the pattern's instance by the values of all variables is the end: nothing is searched.
abbrev pub Meets : Signature → Substitution → Fragment → List RawTerm → Type 0
Meets sig s (equal u v) (a ∷ b ∷ []) = EqualModulo sig (nested sig a) (nested sig b)
Meets sig s (is_true b) (a ∷ []) = IsTruth sig true (nested sig a)
Meets sig s (has_sort t S) (a ∷ []) = MeetsSort sig (nested sig a) S
Meets sig s (matches p t) (a ∷ []) = EqualModulo sig (instance s p) (nested sig a)
Meets sig s f xs = ⊥

-- those of all sides meet the fragments in turn
abbrev pub AreMet : Signature → Substitution → List Fragment → List RawTerm → Type 0
AreMet sig s [] xs = ⊤
AreMet sig s (f ∷ C) xs = Meets sig s f (take (length (sides_of f)) xs) × AreMet sig s C (drop (length (sides_of f)) xs)

module _ (M : Module) where
  abbrev sig : Signature
  sig = M.signature

  mutual
    -- From the canonical t items lead to u, by so many rules and so many replacements, those in braces counted too; and they do this.
    pub data Checks : ℕ → Items → RawTerm → RawTerm → ℕ → ℕ → Dones → Type 0 where
      nothing : {n : ℕ} {t : RawTerm} → Checks n none t t 0 0 runs.none
      then : {n q r c d : ℕ} {i : Item} {is : Items} {t v u : RawTerm} {x : Done} {ds : Dones} → ChecksOne n i t v q c x → IsAdmitted sig (nested sig v) → Checks n is v u r d ds
          → Checks n (more i is) t u (q + r) (c + d) (runs.more x ds)

    -- one item does, which passes all tests but that of the limits
    pub data ChecksOne : ℕ → Item → RawTerm → RawTerm → ℕ → ℕ → Done → Type 0 where
      by_statement : {n k c : ℕ} {owise : Bool} {at : Spot} {vs : List RawTerm} {gs : Groups} {t v : RawTerm} {rs : Runs} (h : NamesStatement M owise k vs)
          → IsSubstitution sig h.subst → IsTrue (binds_statement h.subst h.statement)
          → ReplacesSpot sig h.statement.rule (instance h.subst h.statement.left) (instance h.subst h.statement.right) at t v → TakesSome at t
          → (IsTrue h.statement.owise → IsPlain M n (instance h.subst h.statement.left)) → Shown n h.statement.fragments h.subst gs rs c
          → ChecksOne n (step owise k at vs gs) t v (cond h.statement.rule 1 0) (suc c) (runs.by_statement k h.subst rs (nested sig t) (nested sig v))
      by_row : {n : ℕ} {at : Spot} {t v : RawTerm} → IsRow M n at t v → TakesSome at t → ChecksOne n (built at) t v 0 1 (runs.by_row (nested sig t) (nested sig v))

    -- A side, from its instance on: it is admitted, and items lead by equations from its canonical form to a normal term.
    pub data Evaluated : ℕ → RawTerm → Items → RawTerm → ℕ → Dones → Type 0 where
      evaluated : {n c : ℕ} {l a : RawTerm} {g : Items} {ds : Dones} → IsRawTerm sig l → IsAdmitted sig l → Checks n g (normal_form sig l) a 0 c ds → IsNormal M n (nested sig a) → Evaluated n l g a c ds

    -- each of these sides has a group, which leads to an end
    pub data AreEvaluated : ℕ → Substitution → List RawTerm → Groups → List RawTerm → Runs → ℕ → Type 0 where
      no_side : {n : ℕ} {s : Substitution} → AreEvaluated n s [] end [] runs.end 0
      a_side : {n c d : ℕ} {s : Substitution} {l a : RawTerm} {ls xs : List RawTerm} {g : Items} {gs : Groups} {ds : Dones} {rs : Runs}
          → Evaluated n (instance s l) g a c ds → AreEvaluated n s ls gs xs rs d
          → AreEvaluated n s (l ∷ ls) (group g gs) (a ∷ xs) (another (run (nested sig (normal_form sig (instance s l))) (nested sig a) ds) rs) (c + d)

    -- The groups show the condition. Its sides are evaluated in the rank below, so rank 0 shows none.
    pub data Shown : ℕ → List Fragment → Substitution → Groups → Runs → ℕ → Type 0 where
      unconditional : {n : ℕ} {s : Substitution} → Shown n [] s end runs.end 0
      conditional : {n c : ℕ} {C : List Fragment} {s : Substitution} {gs : Groups} {xs : List RawTerm} {rs : Runs}
          → AreEvaluated n s (all_sides C) gs xs rs c → AreMet sig s C xs → Shown (suc n) C s gs rs c
