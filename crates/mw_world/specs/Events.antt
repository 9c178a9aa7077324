-- What happens to a pool: a part is claimed, given back changed, or released.
use Rattle.std.specs.Prelude.{◌≡◌, ◌≢◌, ◌⊎◌, ◌≤◌, ◌<◌, ℕ, suc, pred, ◌+◌, ◌-◌, min, List, [], ◌∷◌, ◌++◌, Some, None, option_map, IsPermutation, ⊤}
use Rattle.mw_logic.specs.Signature.{Member}
use Rattle.mw_logic.specs.Substitution.{SameSolution}
use Rattle.mw_logic.specs.Proof.{rules, steps}
use Rattle.mw_canon.specs.Canonical.{meant}
use Rattle.mw_proof.specs.Deductions.{Deduction}
use Rattle.mw_multiset.specs.Together.{parts}
use Rattle.mw_world.specs.World.{Claim, Try, World, claim_at, IsClaim, IsReceipt, HasFailed, IsSound}

-- what no event changes
pub record IsSamePool (w v : World) : Type 0 where
  pub over : v.over ≡ w.over
  pub opening : v.opening ≡ w.opening
  pub operator : v.operator ≡ w.operator
  pub side : v.side ≡ w.side
  pub rules_bound : v.rules_bound ≡ w.rules_bound
  pub steps_bound : v.steps_bound ≡ w.steps_bound

-- every other claim is as it was
abbrev pub OthersStay : World → World → ℕ → Type 0
OthersStay w v number = (k : ℕ) → k ≢ number → claim_at v.claims k ≡ claim_at w.claims k

-- the rule was tried with the same solution
abbrev pub IsTried : World → Claim → Type 0
IsTried w c = (t : Try) × Member t w.tries × (t.rule ≡ c.rule) × SameSolution w.over.signature (meant w.over.signature t.subst) (meant w.over.signature c.subst)

-- A claim takes the elements of one solution of one rule, which wasn't tried, and grants one rule step and up to 1,000 steps.
pub record Claims (w v : World) (c : Claim) : Type 0 where
  pub rules_left : w.rules_left ≢ Some 0
  pub steps_left : 0 < w.steps_left
  pub was_free : claim_at w.claims c.number ≡ None
  pub is_open : claim_at v.claims c.number ≡ Some c
  pub others : OthersStay w v c.number
  pub is_claim : IsClaim w c
  pub not_tried : IsTried w c → ⊥
  pub granted : c.steps ≡ min 1000 w.steps_left
  pub taken : IsPermutation w.free (parts w.over.signature w.operator c.part ++ v.free)
  pub rules : v.rules_left ≡ option_map pred w.rules_left
  pub steps : v.steps_left ≡ w.steps_left - c.steps
  pub journal : v.journal ≡ w.journal
  pub tries : v.tries ≡ w.tries
  pub same : IsSamePool w v

-- A receipt closes its claim, and what its proof did not use of the grants goes back.
pub record Gives (w v : World) (c : Claim) (d : Deduction) : Type 0 where
  pub was_open : claim_at w.claims c.number ≡ Some c
  pub closed : claim_at v.claims c.number ≡ None
  pub others : OthersStay w v c.number
  pub from : d.from ≡ c.part
  pub receipt : IsReceipt w.over w.operator d
  pub one_rule : rules d.proof ≤ 1
  pub within : steps d.proof ≤ c.steps
  pub come : IsPermutation (parts w.over.signature w.operator d.to ++ w.free) v.free
  pub rules : v.rules_left ≡ option_map (λ n. n + (1 - rules d.proof)) w.rules_left
  pub steps : v.steps_left ≡ w.steps_left + (c.steps - steps d.proof)
  pub journal : v.journal ≡ w.journal ++ d ∷ []
  pub tries : v.tries ≡ w.tries
  pub same : IsSamePool w v

-- A release closes its claim: the part and the grants go back, and the try is noted, or not.
pub record Releases (w v : World) (c : Claim) : Type 0 where
  pub was_open : claim_at w.claims c.number ≡ Some c
  pub closed : claim_at v.claims c.number ≡ None
  pub others : OthersStay w v c.number
  pub back : IsPermutation (parts w.over.signature w.operator c.part ++ w.free) v.free
  pub rules : v.rules_left ≡ option_map suc w.rules_left
  pub steps : v.steps_left ≡ w.steps_left + c.steps
  pub journal : v.journal ≡ w.journal
  pub kept : (t : Try) → Member t w.tries → Member t v.tries
  pub tries : (t : Try) → Member t v.tries → Member t w.tries ⊎ ((t.rule ≡ c.rule) × (t.subst ≡ c.subst) × HasFailed w.over t)
  pub same : IsSamePool w v

abbrev pub Event : World → World → Type 0
Event w v = ((c : Claim) × Claims w v c) ⊎ (((c : Claim) × (d : Deduction) × Gives w v c d) ⊎ ((c : Claim) × Releases w v c))

-- each state follows from the one before by an event
abbrev pub IsRun : World → List World → Type 0
IsRun w [] = ⊤
IsRun w (v ∷ vs) = Event w v × IsRun v vs

abbrev pub AllSound : List World → Type 0
AllSound [] = ⊤
AllSound (w ∷ ws) = IsSound w × AllSound ws
