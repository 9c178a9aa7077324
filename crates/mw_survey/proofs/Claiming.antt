-- What a survey lets be taken is a claim; and where a claim is made, not all is tried.
use Rattle.std.specs.Prelude.{◌≡◌, ℕ, [], ◌∷◌, ◌++◌, true, IsPermutation, refl}
use Rattle.std.proofs.Common.{sym, subst, ap, ◌∙◌, inl, inr, ⊎_elim}
use Rattle.mw_logic.specs.Term.{RawTerm}
use Rattle.mw_logic.specs.Signature.{Signature}
use Rattle.mw_logic.specs.Accepted.{IsAccepted}
use Rattle.mw_logic.specs.Parts.{nested, IsPart}
use Rattle.mw_logic.specs.CanonicalPart.{IsPartOf}
use Rattle.mw_logic.specs.Substitution.{IsSolution}
use Rattle.mw_logic.specs.Module.{IsStatement}
use Rattle.mw_logic.proofs.Frozen.{IsOpenContext, open_append}
use Rattle.mw_logic.proofs.PartsOfNormalForm.{part_found, part_from_replacing}
use Rattle.mw_logic.proofs.SameSolutions.{same_solution-sym}
use Rattle.mw_canon.specs.Canonical.{IsAdmittedTerm, meant}
use Rattle.mw_deduction.proofs.NormalParts.{part_within}
use Rattle.mw_redex.specs.Replaced.{IsPartAt, IsOpenWay, way_of_place, replaced_at}
use Rattle.mw_redex.proofs.Standing.{place_in_term}
use Rattle.mw_least.specs.Workable.{IsWorkable}
use Rattle.mw_multiset.specs.Together.{IsOfMultisets, parts, together}
use Rattle.mw_multiset.proofs.Members.{admitted_canonical}
use Rattle.mw_multiset.proofs.Together.{alone_together}
use Rattle.mw_world.specs.World.{Claim, World, IsClaim}
use Rattle.mw_world.specs.Events.{Claims}
use Rattle.mw_survey.specs.Surveys.{AreAllTried, IsExhausted}
use Rattle.mw_survey.specs.Runs.{IsGood}
use Rattle.mw_survey.specs.Takings.{named_values, IsTakenBy, IsClaimOf}
use Rattle.mw_survey.specs.declared.survey.Survey.{Survey}
use Rattle.mw_survey.specs.declared.taking.Taken.{Taken}
use Rattle.mw_survey.proofs.Permuted.{none_left}
use Rattle.mw_survey.proofs.Exhausted.{fewer_part}
use Rattle.mw_survey.proofs.Running.{free_members, free_admitted}
use Rattle.mw_survey.proofs.Again.{taken_there, named_there}

-- what is taken is a claim
pub is_claim : (w : World) → IsWorkable w.over → (s : Survey) (t : Taken) → IsTakenBy w.over w.operator s t → (c : Claim) → IsClaimOf w t c → IsClaim w c
is_claim w work s t h c e =
    let sig : Signature = w.over.signature in
    let r = h.redex in
    let q = r.found.choice in
    let place : IsPartAt sig t.path t.choice.take t.part q.part = record { end = r.part; there = r.there; taken = taken_there sig t.choice.take r.part q.part q.taken } in
    let solves : IsSolution sig q.statement.left (nested sig q.part) [] (meant sig (named_values w.over t.choice)) =
    subst (λ z. IsSolution sig q.statement.left (nested sig q.part) [] (meant sig z)) (sym (named_there w.over work r.part t.choice r.found)) q.solution in
    record {
      of_operator = e.operator;
      of_side = e.side;
      admitted = subst (IsAdmittedTerm sig) (sym e.part) h.admitted;
      filled = λ z. h.filled (ap (parts sig w.operator) (sym e.part) ∙ z);
      rule = q.statement;
      is_there = subst (λ n. IsStatement w.over n q.statement) (sym e.rule) q.is_there;
      is_rule = sym q.is.rule ∙ r.found.rule;
      at = q.part;
      place = subst (λ p. IsPartAt sig p c.take c.part q.part) (sym e.path) (subst (λ o. IsPartAt sig t.path o c.part q.part) (sym e.take) (subst (λ u. IsPartAt sig t.path t.choice.take u q.part) (sym e.part) place));
      open_way = subst (λ p. IsOpenWay sig true (way_of_place p c.take) c.part) (sym e.path)
          (subst (λ o. IsOpenWay sig true (way_of_place t.path o) c.part) (sym e.take) (subst (λ u. IsOpenWay sig true (way_of_place t.path t.choice.take) u) (sym e.part) r.open_way));
      solves = subst (λ z. IsSolution sig q.statement.left (nested sig q.part) [] (meant sig z)) (sym e.values) solves;
      alone = ⊎_elim (λ a. inl (e.path ∙ a.0, e.take ∙ a.1)) (λ b. inr (subst (λ u. parts sig w.operator u ≡ u ∷ []) (sym e.part) b)) h.alone;
    }

module _ (w v : World) (c : Claim) (good : IsGood w) (e : Claims w v c) where
  abbrev sig : Signature
  sig = w.over.signature

  abbrev ok : IsAccepted sig
  ok = good.work.signature.accepted

  abbrev f : ℕ
  f = w.operator

  abbrev op : IsOfMultisets w.over f
  op = good.sound.of

  abbrev k : IsClaim w c
  k = e.is_claim

  abbrev t : RawTerm
  t = together sig f w.free

  some_free : w.free ≡ [] → ⊥
  some_free z = k.filled (none_left (parts sig f c.part) v.free (subst (λ xs. IsPermutation xs (parts sig f c.part ++ v.free)) z e.taken))

  whole : IsAdmittedTerm sig t
  whole = free_admitted w good some_free

  -- the claim's part is a part of the free elements
  part_of_free : IsPartOf sig true t c.part
  part_of_free =
      subst (IsPartOf sig true t) (alone_together sig ok f op.assoc op.comm c.part (admitted_canonical sig ok f op.assoc c.part k.admitted))
      (fewer_part w.over good.work f op.assoc op.comm op.free w.free (parts sig f c.part) v.free (free_members w good) e.taken k.filled)

  part_of_part : IsPartOf sig true c.part k.at
  part_of_part = part_from_replacing (place_in_term sig ok true k.at k.at c.part (replaced_at sig c.path c.take k.at c.part) c.path c.take k.admitted.canonical (record { part = k.place; open_way = k.open_way; becomes = refl }))

  not_all : AreAllTried w.over w.tries t → ⊥
  not_all all =
      let (C, o, p) = part_found sig ok {by_rule = true} {t = nested sig t} c.part whole.raw (subst (λ y. IsPartOf sig true y c.part) (sym whole.canonical) part_of_free) in
      let (D, u, q) = part_found sig ok {by_rule = true} {t = nested sig c.part} k.at k.admitted.raw (subst (λ y. IsPartOf sig true y k.at) (sym k.admitted.canonical) part_of_part) in
      let inside : IsPart sig (nested sig t) (D ++ C) (nested sig k.at) = part_within sig ok C D (nested sig c.part) (nested sig k.at) whole.raw p q in
      let open_there : IsOpenContext sig true (D ++ C) = open_append sig true D C u o in
      let (x, m, n, same) = all (D ++ C) (nested sig k.at) (record { part = inside; not_frozen = open_there refl }) c.rule k.rule k.is_there k.is_rule (meant sig c.subst) k.solves in
      e.not_tried (x, m, n, same_solution-sym sig (meant sig c.subst) (meant sig x.subst) same)

  -- something was left to claim
  pub not_nothing : IsExhausted w.over w.operator w.tries w.free → ⊥
  not_nothing h = ⊎_elim some_free not_all h
