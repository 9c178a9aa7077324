-- Receipts that are given back one after another, and the same ones in another order.
use Rattle.std.specs.Prelude.{◌≡◌, ℕ, List, [], ◌∷◌, IsPermutation}
use Rattle.mw_proof.specs.Deductions.{Deduction}
use Rattle.mw_world.specs.World.{Claim, World, claim_at}
use Rattle.mw_world.specs.Events.{IsSamePool, Gives}

-- a claim, and the proof that is given for it
pub record Given : Type 0 where
  pub claim : Claim
  pub proof : Deduction

-- the pool after they are given back in this order
abbrev pub AfterAll : World → List Given → World → Type 0
AfterAll w [] v = v ≡ w
AfterAll w (g ∷ gs) v = (u : World) × Gives w u g.claim g.proof × AfterAll u gs v

-- the same ones in another order
pub data Reorders : List Given → List Given → Type 0 where
  no_more : Reorders [] []
  also : {g : Given} {gs hs : List Given} → Reorders gs hs → Reorders (g ∷ gs) (g ∷ hs)
  exchanged : {g h : Given} {gs : List Given} → Reorders (g ∷ h ∷ gs) (h ∷ g ∷ gs)
  afterwards : {gs hs is : List Given} → Reorders gs hs → Reorders hs is → Reorders gs is

-- Two pools that hold the same: the same elements are free, the same claims are open, the same is left of the grants.
pub record HoldTheSame (v u : World) : Type 0 where
  pub same : IsSamePool v u
  pub free : IsPermutation v.free u.free
  pub claims : (k : ℕ) → claim_at u.claims k ≡ claim_at v.claims k
  pub rules : u.rules_left ≡ v.rules_left
  pub steps : u.steps_left ≡ v.steps_left
