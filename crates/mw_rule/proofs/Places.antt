-- Into the parts of a normal whole.
use Rattle.std.specs.Prelude.{◌≡◌, ◌<◌, ℕ, List, [], Some, slice_get}
use Rattle.std.proofs.Common.{sym, subst, ap, ◌∙◌, arith, ⊎_elim}
use Rattle.std.proofs.lemmas.Option.{same_Some}
use Rattle.mw_logic.specs.Term.{RawTerm, apply}
use Rattle.mw_logic.specs.Terms.{list_of, args_of}
use Rattle.mw_logic.specs.Signature.{Signature, at_number}
use Rattle.mw_logic.specs.Parts.{IsFrozen}
use Rattle.mw_logic.specs.Judgements.{admitted_judgements}
use Rattle.mw_deduction.specs.Standing.{round}
use Rattle.mw_deduction.specs.Replay.{Move, Stand, whole}
use Rattle.mw_frames.specs.State.{Run, Data, Leads, IsRun}
use Rattle.mw_frames.specs.Steps.{IsEnd, IsAsked}
use Rattle.mw_frames.specs.Entered.{IsEntered}
use Rattle.mw_frames.proofs.FiringHere.{at_term}
use Rattle.mw_frames.proofs.Normals.{normal_has}
use Rattle.mw_frames.proofs.Turning.{same_head}
use Rattle.mw_redexes.specs.Spots.{AreWays}
use Rattle.mw_rule.specs.Stepped.{IsAt, IsAtPart}
use Rattle.mw_redexes.specs.declared.spots.Spot.{Spot}

-- a run that made these moves stands at one place
pub one_stand : (K : Run) (count : ℕ) (ms : List Move) (S T : Stand) → Leads K count ms S → Leads K count ms T → S ≡ T
one_stand K count ms S T a b = same_head (sym a.plays ∙ b.plays)

-- at a normal whole, where nothing is under way
pub at_end : (K : Run) (count : ℕ) (d : Data) (t : RawTerm) → IsEnd K count d t → (n : Data) → n ≡ record { frames = []; done = []; jobs = []; values = d.values; moves = d.moves } → IsAt K count n t t
at_end K count d t e n is =
    let here : Signature = K.over.signature in
    subst (λ x. IsAt K count x t t) (sym is) (record {
      holds = record { stand = e.stand; leads = e.leads; opened = e.closed; hand = e.hand; good = tt; job = e.normal };
      seen = tt;
      free = λ S l x.
          let y : IsFrozen here (round here e.stand.opens) = subst (λ (T : Stand). IsFrozen here (round here T.opens)) (one_stand K count d.moves S e.stand l e.leads) x in
          subst (λ os. IsFrozen here (round here os)) e.closed y;
      same = λ S l. ap (λ (T : Stand). whole here T.opens T.hand) (one_stand K count d.moves S e.stand l e.leads) ∙ ap (λ os. whole here os e.stand.hand) e.closed ∙ e.hand;
    })

-- the first part is the root
pub first_part : (K : Run) (count : ℕ) (d : Data) (root v : RawTerm) (spots : List Spot) (s : Spot) → AreWays K.over.signature root spots → slice_get spots 0 ≡ Some s → IsAt K count d root v → IsAtPart K count d spots 0 v
first_part K count d root v spots s ways is at =
    let z = (ways 0 s is).placed in (
      s,
      is,
      ⊎_elim
          (λ a. subst (λ t. IsAt K count d t v) (sym a.1) at)
          (λ (p, there, low, f, ts, is, number, o). absurd (omega (arith, low)))
          z,
    )

-- from a part into one of its arguments
pub next_part : (K : Run) (count : ℕ) (d n : Data) (root v : RawTerm) (spots : List Spot) (j : ℕ) (s p : Spot) → AreWays K.over.signature root spots → slice_get spots j ≡ Some s → 0 < j → slice_get spots s.parent ≡ Some p
    → IsAtPart K count d spots s.parent v → (u : RawTerm) → IsEntered K count d n p.term.now s.number u → IsAtPart K count n spots j v
next_part K count d n root v spots j s p ways is some parent (q, there, at) u e = (
  s,
  is,
  ⊎_elim
      (λ a. let z = a.0 in absurd (omega (arith, z, some)))
      (λ (r, here, low, f, ts, term, number, clear).
      let same : q ≡ p = same_Some q p (sym there ∙ parent) in
      let alike : r ≡ p = same_Some r p (sym here ∙ parent) in
      let is_term : p.term.now ≡ apply f ts = ap (λ (x : Spot). x.term.now) (sym alike) ∙ term in
      let argument : at_number (list_of ts) s.number ≡ Some u = subst (λ t. at_number (list_of (args_of t)) s.number ≡ Some u) is_term e.is in
      let arrived : u ≡ s.term.now = same_Some u s.term.now (sym argument ∙ number) in
      subst (λ t. IsAt K count n t v) arrived (record {
        holds = e.holds;
        seen = e.seen;
        free = e.free f ts is_term clear at.free;
        same = e.same v at.same;
      }))
      (ways j s is).placed,
)

-- what is normal may be asked
pub asked_there : (K : Run) (sig : Signature) → IsRun K sig → (count : ℕ) (d : Data) (t v : RawTerm) → IsAt K count d t v → IsAsked K count d t
asked_there K sig run count d t v at =
    let h = at.holds in
    let k = (at_term K sig run count d.moves h.stand t h.leads h.hand).canonical in
    record {
      holds = record { stand = h.stand; leads = h.leads; opened = h.opened; hand = h.hand; good = h.good; job = normal_has K.over run.accepted run.sorted (admitted_judgements K.over K.rank).Fails t k h.job };
      seen = at.seen;
    }
