-- The parts of a term, and the choices of rules at them.
use Rattle.std.specs.Prelude.{◌≡◌, List, true}
use Rattle.std.proofs.Common.{sym, subst, ◌∙◌, arith, ⊎_elim}
use Rattle.mw_logic.specs.Term.{RawTerm, Context}
use Rattle.mw_logic.specs.Signature.{Signature}
use Rattle.mw_logic.specs.Accepted.{IsAccepted}
use Rattle.mw_logic.specs.Parts.{nested, IsPart}
use Rattle.mw_logic.specs.CanonicalPart.{IsPartOf, IsOpen}
use Rattle.mw_trail.specs.Tracks.{Track}
use Rattle.mw_index.specs.declared.choices.Choice.{Choice}
use Rattle.mw_frames.specs.State.{Run}
use Rattle.mw_logic.specs.Module.{Module}
use Rattle.mw_logic.specs.Judgements.{admitted_judgements}
use Rattle.mw_canon.specs.Canonical.{IsAdmittedTerm}
use Rattle.mw_logic.proofs.CanonicalTerms.{fixed}
use Rattle.mw_logic.proofs.Frozen.{IsOpenContext}
use Rattle.mw_logic.proofs.PartsOfNormalForm.{part_found}
use Rattle.mw_deduction.specs.Tops.{IsNormalTerm}
use Rattle.mw_deduction.proofs.NormalParts.{part_admitted}
use Rattle.mw_least.specs.Workable.{IsWorkable}
use Rattle.mw_solving.specs.Values.{IsValue}
use Rattle.mw_solving.proofs.Admitted.{admitted_value}
use Rattle.mw_index.proofs.Staying.{top_value}
use Rattle.mw_reduce.specs.Attempts.{IsTriable, IsMade}
use Rattle.mw_redexes.specs.Spots.{IsReached, IsSpot, IsOpenTop, AreAllSpots}
use Rattle.mw_rule.specs.Stepped.{IsMadeAt, IsMadeOf}
use Rattle.mw_redexes.specs.Redexes.{AreValuesAt, IsFoundIn}
use Rattle.mw_redexes.specs.declared.spots.Spot.{Spot}
use Rattle.mw_redexes.specs.declared.spots.Wanted.{Wanted}
use Rattle.mw_redexes.specs.declared.redexes.Found.{Found}
use Rattle.mw_redexes.proofs.Everywhere.{value_reached}
use Rattle.mw_redexes.proofs.Passed.{member_place}
use Rattle.mw_redexes.proofs.Reaching.{reached_part, open_part_of, open_top}
use Rattle.mw_redexes.proofs.Standing.{values_listed, admitted_there}

-- the parts of a normal term, and the choices of rules at them
module _ (M : Module) (work : IsWorkable M) (t : RawTerm) (n : IsNormalTerm M (admitted_judgements M 63).Fails t) (wanted : Wanted) (spots : List Spot) (listed : AreAllSpots M.signature wanted t spots) where
  admitted_term : IsAdmittedTerm M.signature t
  admitted_term = record { raw = n.raw; canonical = n.canonical; admitted = n.normal.admitted }

  pub spots_values : AreValuesAt M spots
  spots_values = values_listed M work.signature.accepted t (admitted_value M.signature work.signature.accepted t admitted_term) wanted spots listed

  pub triable : (x : Found) → (h : IsFoundIn M spots x) → IsTriable M h.spot.term.now x.choice
  triable x h = record { choice = h.found.choice; sized = h.found.sized; admitted = admitted_there M work t admitted_term wanted spots listed x h }

-- a rule that was found, whose condition was shown, applies there
pub made_in : (M : Module) (K : Run) → K.over ≡ M → K.rank ≡ 63 → (t : RawTerm) (wanted : Wanted) (spots : List Spot) → AreAllSpots M.signature wanted t spots → (x : Found) (h : IsFoundIn M spots x)
    → (q : Choice) (sides : List Track) → q.by.now.rule ≡ x.choice.by.now.rule → q.take ≡ x.choice.take → IsMade M 63 h.spot.term.now q sides → IsMadeAt K spots t (record { at = x.at; choice = q }) sides
made_in M K here rank t wanted spots listed x h q sides rule take made = record {
  ways = λ j s a. subst (λ (N : Module). IsSpot N.signature t spots j s) (sym here) (listed.sound j s a);
  spot = h.spot;
  there = h.there;
  rule = rule ∙ h.found.rule;
  free = λ ks f ts a b. subst (λ (N : Module). IsOpen N.signature true f 1) (sym here) (h.found.free ks f ts (sym take ∙ a) b);
  made = subst (λ r. IsMade K.over r h.spot.term.now q sides) (sym rank) (subst (λ (N : Module). IsMade N 63 h.spot.term.now q sides) (sym here) made);
}

-- so at the whole, which is the first part
pub made_first : (K : Run) (t : RawTerm) (spots : List Spot) (x : Found) (sides : List Track) → x.at ≡ 0 → IsMadeAt K spots t x sides → IsMadeOf K t x.choice sides
made_first K t spots x sides first m =
    let same : m.spot.term.now ≡ t = ⊎_elim (λ a. a.1) (λ (p, there, low, f, ts, is, number, o). absurd (omega (arith, low, first))) (m.ways x.at m.spot m.there).placed in
    subst (λ u. IsMadeOf K u x.choice sides) same (record { rule = m.rule; free = m.free; made = m.made })
