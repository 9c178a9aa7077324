-- How texts are answered that were written of kept proofs: their items pass all tests but those of conditions.
use Rattle.std.specs.Prelude.{◌≡◌, ◌⊎◌, ℕ, [], false, ⊤, codes}
use Rattle.mw_logic.specs.Term.{RawTerm, binary}
use Rattle.mw_logic.specs.Axioms.{EqualModulo}
use Rattle.mw_logic.specs.Accepted.{IsAccepted}
use Rattle.mw_logic.specs.Module.{Statement, Module, IsStatement, IsPolymorphic}
use Rattle.mw_redex.specs.Replaced.{IsPartAt}
use Rattle.mw_items.specs.Items.{Item, step, built, Items, none, more, end}
use Rattle.mw_prooftext.specs.Passing.{Passes}
use Rattle.mw_verdict.specs.Checks.{IsFormOf}
use Rattle.mw_verdict.specs.Leads.{LeadsOne}
use Rattle.mw_verdict.specs.Verdicts.{Cause, IsYes, IsNo}
use Rattle.mw_verdict.specs.Exclusion.{HasOneRow, IsCertain}

-- Items that pass, in whichever rank, are answered no for a condition or a stop alone.
abbrev pub PassingAnswered : Type 0
PassingAnswered =
    (M : Module) → IsAccepted M.signature → HasOneRow M → (most n : ℕ) → (items : Items) (from to : RawTerm) → Passes M n items from to
    → (j : ℕ) (c : Cause) → IsCertain c → ¬ IsNo M most from to items j c

-- An item at t without evidence: by a statement without a condition, which isn't told to be an `owise` equation; or computed, where the part is no test of terms
-- that differ, as whichever form it is taken.
abbrev pub IsFree : Module → Item → RawTerm → Type 0
IsFree M (step owise k at vs gs) t = (owise ≡ false) × (gs ≡ end) × ((st : Statement) → IsStatement M k st → st.fragments ≡ [])
IsFree M (built at) t =
    (f : ℕ) (w a b : RawTerm) → IsPartAt M.signature at.path at.take t w → IsFormOf M.signature w (binary f a b)
    → IsPolymorphic M.signature f (codes "_==_") ⊎ IsPolymorphic M.signature f (codes "_=/=_") → EqualModulo M.signature a b

-- the same of items, each where those before it lead
abbrev pub AreFree : Module → Items → RawTerm → Type 0
AreFree M none t = ⊤
AreFree M (more i is) t = IsFree M i t × ((v : RawTerm) → LeadsOne M i t v → AreFree M is v)

-- Such items are answered yes; no is no answer to them.
abbrev pub FreeAnswered : Type 0
FreeAnswered =
    (M : Module) → IsAccepted M.signature → HasOneRow M → (most n : ℕ) → (items : Items) (from to : RawTerm) → Passes M n items from to → AreFree M items from
    → ((count : ℕ) × IsYes M most from to items count) × ((j : ℕ) (c : Cause) → ¬ IsNo M most from to items j c)
