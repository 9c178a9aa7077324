-- Why the machine stops where something would come for the term in hand.
use Rattle.std.specs.Prelude.{◌≡◌, ◌≤◌, ◌<◌, ◌+◌, ℕ, List, [], ◌∷◌, Bool, true, false, IsTrue}
use Rattle.std.proofs.Common.{sym, subst, ap, ◌∙◌}
use Rattle.std.proofs.lemmas.Bool.{both_ways}
use Rattle.mw_logic.specs.Term.{RawTerm, plug}
use Rattle.mw_logic.specs.Signature.{Signature, IsRawTerm, IsIdentity}
use Rattle.mw_logic.specs.Accepted.{IsAccepted}
use Rattle.mw_logic.specs.Axioms.{EqualModulo}
use Rattle.mw_logic.specs.Parts.{is_assoc, nested, IsClean, IsPart, IsFrozen}
use Rattle.mw_logic.specs.NormalForm.{identity_of, is_identity, normal_form, height, has_largest}
use Rattle.mw_logic.specs.Judgements.{admitted_judgements}
use Rattle.mw_logic.proofs.AxiomLaws.{trans, sym as back, in_context}
use Rattle.mw_logic.proofs.Invariance.{identity_found}
use Rattle.mw_logic.proofs.ContextLaws.{plug-append}
use Rattle.mw_logic.proofs.Soundness.{normal_form-sound}
use Rattle.mw_matching.specs.Matches.{evaluated}
use Rattle.mw_deduction.specs.Replay.{Move, whole}
use Rattle.mw_deduction.specs.Standing.{Open, context_at, round, AreClear, IsSeenBy, IsSeen}
use Rattle.mw_deduction.proofs.Clear.{IsBranch, Stands, branch_stands, one_clean}
use Rattle.mw_deduction.proofs.MoveStands.{whole_is}
use Rattle.mw_frames.specs.declared.job.Job.TheVariants.{Walk}
use Rattle.mw_frames.specs.State.{Run, Data, IsRun, InHand}
use Rattle.mw_frames.specs.Redex.{IsRedex, MayCome, IsSeenIn, hole_level}
use Rattle.mw_frames.specs.Fires.{Becomes, by_statement, Refuses}
use Rattle.mw_frames.proofs.Redexes.{made, made_comes, made_reached, shows_there}
use Rattle.mw_frames.proofs.RightSides.{right_is}
use Rattle.mw_frames.proofs.FiringHere.{at_it, seen_there, deep_here, large_here}

module _ (sig : Signature) (ok : IsAccepted sig) where
  -- any clean form of a term that is seen stands in its hole
  form_stands : (o : Open) (x t : RawTerm) → IsClean sig x → normal_form sig x ≡ t → IsSeenBy sig o t → Stands sig ok o.operator x
  form_stands o x t c e s = record {
    clean = c;
    not_identity = λ i is q. hidden i is q;
    not_numeral = λ n is q l. s.not_numeral n is (sym e ∙ ap (normal_form sig) q) l;
  }
    where
      hidden : (i : RawTerm) → IsIdentity sig o.operator i → x ≡ i → ⊥
      hidden i is q =
          let (a, r, z) = ok.identity o.operator is.operator is.identity is.is_there is.named in
          let h : is_assoc sig o.operator ≡ true = rw (is.is_there) a in
          let u : is_identity (identity_of sig o.operator) (normal_form sig i) ≡ true = identity_found sig ok o.operator i is in
          let v : normal_form sig i ≡ t = ap (normal_form sig) (sym q) ∙ e in
          both_ways _ (s.not_identity h) (subst (λ y. is_identity (identity_of sig o.operator) y ≡ true) v u)

  branch_clean : (os : List Open) (x : RawTerm) → AreClear sig os → IsBranch x → IsClean sig x → IsClean sig (plug (round sig os) x)
  branch_clean [] x c b k = k
  branch_clean (o ∷ os) x c b k = let (l, z) = one_clean sig ok o x c.0 (branch_stands sig ok o.operator x b k) in subst (IsClean sig) (sym (plug-append (context_at sig o) (round sig os) x)) (branch_clean os _ c.1 z l)

  form_clean : (os : List Open) (x t : RawTerm) → AreClear sig os → IsClean sig x → normal_form sig x ≡ t → IsSeen sig os t → IsClean sig (plug (round sig os) x)
  form_clean [] x t c k e s = k
  form_clean (o ∷ os) x t c k e s = let (l, z) = one_clean sig ok o x c.0 (form_stands o x t k e s) in subst (IsClean sig) (sym (plug-append (context_at sig o) (round sig os) x)) (branch_clean os _ c.1 z l)

module _ (K : Run) (sig : Signature) (run : IsRun K sig) (count : ℕ) (m : Data) (w : RawTerm) (h : InHand K count m (Walk w)) (seen : IsSeenIn K.over.signature m.frames w) where
  abbrev here : Signature
  here = K.over.signature

  abbrev os : List Open
  os = h.stand.opens

  -- what is in hand is a part of the whole, in each clean form
  pub is_part_there : (x t : RawTerm) → IsRawTerm here x → IsClean here x → normal_form here x ≡ w → t ≡ whole here os h.stand.hand → IsPart here (nested here t) (round here os) x
  is_part_there x t raw clean e q =
      let at = at_it K sig run count m w h in
      let i = whole_is K.over run.accepted (admitted_judgements K.over K.rank).Held (admitted_judgements K.over K.rank).Fails os w at in
      let z : t ≡ whole here os w = q ∙ ap (whole here os) h.hand in
      let s : EqualModulo here (nested here t) (plug (round here os) (nested here w)) = subst (λ u. EqualModulo here (nested here u) (plug (round here os) (nested here w))) (sym z) (trans (back i) at.is) in
      let y : EqualModulo here x (nested here w) = subst (λ u. EqualModulo here x (nested here u)) e (normal_form-sound here run.accepted raw) in
      record { clean = form_clean here run.accepted os x w at.clear clean e (seen_there K sig run count m w h seen); equal = trans s (in_context (round here os) (back y)) }

  module _ (b : Bool) (v t : RawTerm) (c : MayCome here w v) (becomes : Becomes K.over K.rank b (nested here t) (plug (round here os) v)) where
    pub refuses_deep : 1000 < hole_level here m.frames (normal_form here v) + height (normal_form here v) → Refuses K b true (nested here t)
    refuses_deep d = record { next = plug (round here os) v; becomes = becomes; deep = deep_here K sig run count m w h seen v c d }

    pub refuses_large : hole_level here m.frames (normal_form here v) + height (normal_form here v) ≤ 1000 → has_largest here (whole here os (normal_form here v)) ≡ true → Refuses K b false (nested here t)
    refuses_large l z = let (x, y) = large_here K sig run count m w h seen v c l z in record { next = plug (round here os) v; becomes = becomes; large = x; not_deep = y }

  -- by a statement
  module _ (number : ℕ) (ss : List Move) (vs : List RawTerm) (right : RawTerm) (r : IsRedex K.over K.rank number ss vs right w) (b : Bool) (kind : r.statement.rule ≡ b) (free : IsTrue b → ¬ IsFrozen here (round here os))
      (t : RawTerm) (q : t ≡ whole here os h.stand.hand) where
    abbrev v : RawTerm
    v = made K.over run.accepted run.sorted K.rank number ss vs right w r

    is_evaluated : evaluated here vs right ≡ normal_form here v
    is_evaluated = right_is K.over run.accepted run.sorted K.rank number ss vs right w r

    becomes_made : Becomes K.over K.rank b (nested here t) (plug (round here os) v)
    becomes_made =
        let at = at_it K sig run count m w h in
        let shown = shows_there K run.accepted run.sorted count number ss vs right w r m.moves h.stand run.start h.leads in
        subst (λ u. Becomes K.over K.rank b (nested here t) (plug (round here os) u)) (sym (made_reached K.over run.accepted run.sorted K.rank number ss vs right w r shown.evidence shown.holds))
        (by_statement (round here os) (nested here w) number r.statement r.solution r.reached shown.evidence
        (is_part_there (nested here w) t
        (Rattle.mw_logic.proofs.Inside.raw_inside here run.accepted (round here os) (nested here w) at.raw)
        (Rattle.mw_logic.proofs.CanonicalTerms.clean here run.accepted w at.canonical)
        (Rattle.mw_logic.proofs.CanonicalTerms.fixed here run.accepted w at.canonical) q)
        r.is_there kind free r.ordinary r.solves shown.holds)

    pub statement_deep : 1000 < hole_level here m.frames (evaluated here vs right) + height (evaluated here vs right) → Refuses K b true (nested here t)
    statement_deep d = refuses_deep b v t (made_comes K.over run.accepted run.sorted K.rank number ss vs right w r) becomes_made (subst (λ u. 1000 < hole_level here m.frames u + height u) is_evaluated d)

    pub statement_large : hole_level here m.frames (evaluated here vs right) + height (evaluated here vs right) ≤ 1000 → has_largest here (whole here os (evaluated here vs right)) ≡ true → Refuses K b false (nested here t)
    statement_large l z =
        refuses_large b v t (made_comes K.over run.accepted run.sorted K.rank number ss vs right w r) becomes_made (subst (λ u. hole_level here m.frames u + height u ≤ 1000) is_evaluated l)
        (ap (λ u. has_largest here (whole here os u)) (sym is_evaluated) ∙ z)
