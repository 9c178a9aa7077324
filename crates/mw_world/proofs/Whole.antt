-- The receipts of a sound pool are one proof, from the opening to the operator on all elements.
use Rattle.std.proofs.Common.{arith, ◌≡◌, ◌≤◌, ℕ, List, [], ◌∷◌, ◌++◌, length, ◌+◌, refl, sym, ◌∙◌, ap, subst}
use Rattle.mw_logic.specs.Term.{RawTerm}
use Rattle.mw_logic.specs.Signature.{Signature}
use Rattle.mw_logic.specs.Accepted.{IsAccepted}
use Rattle.mw_logic.specs.Module.{Module}
use Rattle.mw_canon.specs.Canonical.{IsAdmittedTerm}
use Rattle.mw_deduction.specs.Runs.{both}
use Rattle.mw_deduction.specs.Replay.{Stand, begun, plays, concluded}
use Rattle.mw_trail.specs.Tracks.{Track, moves}
use Rattle.mw_proof.specs.Deductions.{Deduction, IsKept, end_of}
use Rattle.mw_proof.specs.Deductions as kept
use Rattle.mw_multiset.specs.Together.{parts, together, IsOfMultisets, AllUnder}
use Rattle.mw_multiset.specs.Receipts.{Receipt, IsMade, run_of, Reaches, beside, all_beside, length_of, AreLow, AreOneProof}
use Rattle.mw_multiset.specs.Receipts as made
use Rattle.mw_multiset.proofs.Together.{alone_together}
use Rattle.mw_multiset.proofs.Members.{admitted_canonical, parts_members}
use Rattle.mw_multiset.proofs.Made.{made_concludes}
use Rattle.mw_multiset.proofs.Gathering.{gathered}
use Rattle.mw_world.specs.World.{World, all_elements, Leads, IsReceipt, AreReceipts, IsSound}
use Rattle.mw_world.specs.Whole.{runs_beside, moves_with, IsOneProof}

-- what is kept is made
pub made_of : (M : Module) (n : ℕ) (t u : RawTerm) (k : Track) → IsKept M n t u k → IsMade M n t u (moves M k)
made_of M n t u k h = record { low = h.low; begins = h.begins; made = h.made; last = h.last; stands = h.stands; closed = h.closed; used = h.used; reaches = h.reaches }

same_first : (B : List Stand) (S : Stand) → B ≡ S ∷ [] → kept.first_of B ≡ made.first_of B
same_first B S e = subst (λ C. kept.first_of C ≡ made.first_of C) (sym e) refl

same_run : (M : Module) (n : ℕ) (t u : RawTerm) (k : Track) → IsKept M n t u k → (end_of M n t k).run ≡ run_of M n t (moves M k)
same_run M n t u k h = ap (λ (S : Stand). S.run) (same_first (plays M (moves M k) (begun n t ∷ [])) h.last h.stands)

module _ (M : Module) (f : ℕ) where
  abbrev sig : Signature
  sig = M.signature

  -- a receipt with its moves
  abbrev pub as_made : (d : Deduction) → IsReceipt M f d → Receipt
  as_made d h = record { rank = d.rank; from = d.from; to = d.to; moves = moves M h.track }

  kept_here : (d : Deduction) (h : IsReceipt M f d) → IsKept M d.rank d.from d.to h.track
  kept_here d h = subst (λ X. IsKept X d.rank d.from d.to h.track) h.over h.kept

  pub run_here : (d : Deduction) (h : IsReceipt M f d) → d.run ≡ run_of M d.rank d.from (moves M h.track)
  run_here d h = ap (λ (x : Deduction). x.run) h.is ∙ ap (λ X. (end_of X d.rank d.from h.track).run) h.over ∙ same_run M d.rank d.from d.to h.track (kept_here d h)

  made_is : (d : Deduction) (h : IsReceipt M f d) → made.IsReceipt M f (as_made d h)
  made_is d h = record { made = made_of M d.rank d.from d.to h.track (kept_here d h); filled = h.filled; under = subst (AllUnder sig f) (run_here d h) h.under; shallow = h.shallow }

  abbrev pub all_made : (ds : List Deduction) → AreReceipts M f ds → List Receipt
  all_made [] h = []
  all_made (d ∷ ds) h = as_made d h.0 ∷ all_made ds h.1

  all_are : (ds : List Deduction) (h : AreReceipts M f ds) → made.AreReceipts M f (all_made ds h)
  all_are [] h = tt
  all_are (d ∷ ds) h = (made_is d h.0, all_are ds h.1)

  all_low : (ds : List Deduction) (h : AreReceipts M f ds) → AreLow 63 (all_made ds h)
  all_low [] h = tt
  all_low (d ∷ ds) h = (h.0.kept.low, all_low ds h.1)

  abbrev pub all_lead : (xs : List RawTerm) (ds : List Deduction) (h : AreReceipts M f ds) (ys : List RawTerm) → Leads sig f xs ds ys → Reaches sig f xs (all_made ds h) ys
  all_lead xs [] h ys l = l
  all_lead xs (d ∷ ds) h ys l = (l.0, l.1, all_lead (parts sig f d.to ++ l.0) ds h.1 ys l.2)

  -- what they carry out
  runs_same : (xs : List RawTerm) (ds : List Deduction) (h : AreReceipts M f ds) (ys : List RawTerm) (l : Leads sig f xs ds ys) → all_beside M f xs (all_made ds h) ys (all_lead xs ds h ys l) ≡ runs_beside sig f xs ds ys l
  runs_same xs [] h ys l = refl
  runs_same xs (d ∷ ds) h ys l =
      let zs : List RawTerm = parts sig f d.to ++ l.0 in
      ap (λ r. both (beside sig f l.0 r) (all_beside M f zs (all_made ds h.1) ys (all_lead zs ds h.1 ys l.2))) (sym (run_here d h.0))
      ∙ ap (both (beside sig f l.0 d.run)) (runs_same zs ds h.1 ys l.2)

  -- how many moves they have
  lengths_same : (ds : List Deduction) (h : AreReceipts M f ds) → length_of (all_made ds h) ≡ moves_with M f ds h
  lengths_same [] h = refl
  lengths_same (d ∷ ds) h = ap (λ n. 2 + length (moves M h.0.track) + n) (lengths_same ds h.1)

pub one_proof : (w : World) (h : IsSound w) → IsOneProof w h
one_proof w h =
    let M : Module = w.over in
    let sig : Signature = M.signature in
    let f : ℕ = w.operator in
    let of : IsOfMultisets M f = h.of in
    let xs : List RawTerm = parts sig f w.opening in
    let ys : List RawTerm = all_elements w in
    let ok : IsAccepted sig = of.well.accepted in
    let rs : List Receipt = all_made M f w.journal h.receipts in
    let whole : together sig f xs ≡ w.opening = alone_together sig ok f of.assoc of.comm w.opening (admitted_canonical sig ok f of.assoc w.opening h.opening) in
    let l : Reaches sig f xs rs ys = all_lead M f xs w.journal h.receipts ys h.reached in
    let g : AreOneProof M f 63 xs rs ys l =
    gathered M of.well f of.assoc of.comm of.free 63 (omega arith) xs rs ys l (parts_members sig ok f of.assoc w.opening h.opening h.shallow) (subst (IsAdmittedTerm sig) (sym whole) h.opening)
    (all_are M f w.journal h.receipts) (all_low M f w.journal h.receipts) in
    let m : IsMade M 63 w.opening (together sig f ys) g.moves = subst (λ t. IsMade M 63 t (together sig f ys) g.moves) whole g.made in
    let k = made_concludes M ok 63 w.opening (together sig f ys) g.moves m in
    record {
      proof = record { over = M; rank = 63; from = w.opening; to = together sig f ys; proof = concluded (made.first_of (plays M g.moves (begun 63 w.opening ∷ []))); run = run_of M 63 w.opening g.moves };
      is = record { low = omega arith; proves = k.proves; admitted = k.admitted; denotes = k.denotes; begins = h.opening; ends = k.ends };
      over = refl;
      rank = refl;
      from = refl;
      to = refl;
      moves = g.moves;
      made = m;
      run = ap (λ t. run_of M 63 t g.moves) (sym whole) ∙ g.run ∙ runs_same M f xs w.journal h.receipts ys h.reached;
      short = subst (λ n. length g.moves ≤ n) (lengths_same M f w.journal h.receipts) g.short;
      members = g.members;
    }
