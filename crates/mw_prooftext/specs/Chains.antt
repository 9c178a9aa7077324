-- The proofs under way, one on another, each with what is told of it.
use Rattle.std.specs.Prelude.{◌≡◌, ℕ, suc, List, [], ◌∷◌, Bool, true, false}
use Rattle.mw_logic.specs.Term.{RawTerm}
use Rattle.mw_logic.specs.Substitution.{Substitution}
use Rattle.mw_logic.specs.Module.{Module}
use Rattle.mw_logic.specs.Proof.{replacement, row}
use Rattle.mw_deduction.specs.Runs.{by_statement, by_row}
use Rattle.mw_deduction.specs.Replay.{Move, into, among, out, begins, ends, applies, meets, Stand, into_argument, into_several, going_out, replacing, becomes, MayGoIn, MayGoAmong, MayApply, MayMeet, IsMove}
use Rattle.mw_deduction.specs.Stands.{IsStanding, AreStanding}
use Rattle.mw_deduction.specs.Standing.{Open}
use Rattle.mw_spot.specs.Walks.{IsAt}
use Rattle.mw_prooftext.specs.Told.{IsTold}
use Rattle.mw_prooftext.specs.declared.chains.Chain.{Chain}

-- the walk stands where the proof does, and what is told of it is this
pub record IsChain (M : Module) (head : List ℕ) (c : Chain) (S : Stand) : Type 0 where
  pub place : IsAt M.signature c.walk S
  pub told : IsTold M head c.outer c.text.items c.groups.items S

-- those of the proofs under way, one on another, each in the rank below: the outermost is told on lines behind the head, the sides without a head
abbrev pub AreChains : Module → List ℕ → List Chain → List Stand → Type 0
AreChains M head [] B = ⊥
AreChains M head (c ∷ []) [] = ⊥
AreChains M head (c ∷ []) (S ∷ []) = (c.outer ≡ true) × IsChain M head c S
AreChains M head (c ∷ []) (S ∷ Q ∷ B) = ⊥
AreChains M head (c ∷ d ∷ cs) [] = ⊥
AreChains M head (c ∷ d ∷ cs) (S ∷ []) = ⊥
AreChains M head (c ∷ d ∷ cs) (S ∷ Q ∷ B) = (c.outer ≡ false) × (Q.rank ≡ suc S.rank) × IsChain M [] c S × AreChains M head (d ∷ cs) (Q ∷ B)

-- d is what becomes of c where the proof goes from one stand to another
abbrev pub Goes : Module → Stand → Stand → Chain → Chain → Type 0
Goes M S T c d = (d.outer ≡ c.outer) × ((head : List ℕ) → IsChain M head c S → IsChain M head d T)

-- a move that neither begins a side nor ends one: it may be made, and where it leads
abbrev pub MayMove : Module → Move → Stand → Type 0
MayMove M (into i) S = MayGoIn M.signature i S.hand
MayMove M (among ks) S = MayGoAmong M.signature ks S.hand
MayMove M out S = (o : Open) × (os : List Open) × (S.opens ≡ o ∷ os)
MayMove M (begins t) S = ⊥
MayMove M ends S = ⊥
MayMove M (applies k r s vs) S = MayApply M k r s vs S
MayMove M (meets t) S = MayMeet M t S

abbrev pub moved : Module → Move → Stand → Stand
moved M (into i) S = into_argument M.signature i S.hand S
moved M (among ks) S = into_several M.signature ks S.hand S
moved M out S = going_out M.signature S.opens S
moved M (begins t) S = S
moved M ends S = S
moved M (applies k r s vs) S = replacing M.signature (replacement k r s S.read.ready) (by_statement k s S.sides) (becomes M k s S.hand) S
moved M (meets t) S = replacing M.signature row by_row t S

-- there are proofs under way in which the move may be made
pub record IsMadeSomewhere (M : Module) (m : Move) : Type 0 where
  pub stands : List Stand
  pub standing : AreStanding M stands
  pub may : IsMove M m stands

-- there is one in which the statement may be applied by these values
pub record IsAppliedSomewhere (M : Module) (k : ℕ) (vs : List RawTerm) : Type 0 where
  pub rule : Bool
  pub subst : Substitution
  pub stand : Stand
  pub standing : IsStanding M stand
  pub may : MayApply M k rule subst vs stand
