-- What is told of the two sides of a test; and terms that stand twice over.
use Rattle.std.specs.Prelude.{◌≡◌, ◌⊎◌, ℕ, List, [], ◌∷◌, Bool, ⊤}
use Rattle.mw_logic.specs.Term.{RawTerm, RawTerms, join}
use Rattle.mw_logic.specs.Parts.{nested}
use Rattle.mw_logic.specs.NormalForm.{arranged}
use Rattle.mw_logic.specs.Module.{Module}
use Rattle.mw_logic.specs.Judgements.{IsNormal}
use Rattle.mw_logic.specs.Confluence.{IsReducible}
use Rattle.mw_verdict.specs.Verdicts.{IsStopped}
use Rattle.mw_check.specs.declared.normal.Normal.{Normal}
use Rattle.mw_check.specs.declared.normal.Normal.TheVariants as normal

-- In rank n both terms are normal; or one is reducible; or a test of one stops.
abbrev pub AreTold : Module → ℕ → ℕ → RawTerm → RawTerm → Normal → Type 0
AreTold M most n a b normal.Yes = IsNormal M n (nested M.signature a) × IsNormal M n (nested M.signature b)
AreTold M most n a b normal.No = IsReducible M n (nested M.signature a) ⊎ IsReducible M n (nested M.signature b)
AreTold M most n a b normal.Stopped = IsStopped M most n (nested M.signature a) ⊎ IsStopped M most n (nested M.signature b)

-- The terms are some terms twice over: one behind the other or, where order doesn't count, all of them in order.
abbrev pub IsTwice : Bool → RawTerms → Type 0
IsTwice comm ts = (zs : RawTerms) × (arranged comm (join zs zs) ≡ ts)

-- each stands beside another one that is the same
abbrev pub ArePaired : List RawTerm → Type 0
ArePaired [] = ⊤
ArePaired (t ∷ []) = ⊥
ArePaired (t ∷ u ∷ ts) = (t ≡ u) × ArePaired ts
