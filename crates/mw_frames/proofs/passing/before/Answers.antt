use Rattle.std.proofs.Common.{subst, ◌≡◌, ℕ, drop, Bool, true, false, refl, arith}
use Rattle.std.proofs.lemmas.List.{length-drop}
use Rattle.mw_logic.specs.Term.{RawTerm, RawTerms}
use Rattle.mw_logic.specs.Parts.{number_of_terms}
use Rattle.mw_logic.specs.NormalForm.{is_comm}
use Rattle.mw_stack.specs.Own.{own}
use Rattle.mw_stack.specs.Places.{IsPlace}
use Rattle.mw_stack.proofs.Piles.{number-terms_of}
use Rattle.mw_frames.specs.Jobs.{term_of}
use Rattle.mw_frames.specs.Machines.{IsCutAt}
use Rattle.mw_frames.proofs.CutPlaces.{is_cut}
use Rattle.mw_frames.proofs.passing.before.Goals as goal

pub returns-in-Some : goal.returns-in-Some
returns-in-Some c = λ vs h o.
    let f = c.args.top in
    let ds = c.args.done.now in
    let t : c.in-Some.term.now ≡ term_of c.args.facts.now vs c.args.job.now = c.in-Some.ensures c.args.facts.now vs in
    let n = number-terms_of (drop f.from ds) in
    let b = c.place_of.ensures.bound in
    subst (λ x. IsCutAt c.args.facts.now f.op (own f.from ds) x c.place_of.result) t
    (is_cut c.args.facts.now f.op (own f.from ds) c.in-Some.term.now c.place_of.result (omega (arith, n, b)) (c.place_of.ensures.place o) o)

pub returns-in-None : goal.returns-in-None
returns-in-None c = λ vs h o.
    let f = c.args.top in
    let ds = c.args.done.now in
    let n = number-terms_of (drop f.from ds) in
    let l = length-drop f.from ds in
    let e = c.saturating_sub.ensures in
    let at_end : c.saturating_sub.result ≡ number_of_terms (own f.from ds) = omega (arith, n, l, e) in
    is_cut c.args.facts.now f.op (own f.from ds) (term_of c.args.facts.now vs c.args.job.now) c.saturating_sub.result (omega (arith, at_end))
    (by_comm (own f.from ds) (term_of c.args.facts.now vs c.args.job.now) c.saturating_sub.result (is_comm c.args.facts.now f.op) (λ z. absurd (c.in-None.ensures (h z))) at_end) o
  where
    by_comm : (ts : RawTerms) (x : RawTerm) (i : ℕ) (b : Bool) → (b ≡ true → ⊥) → i ≡ number_of_terms ts → IsPlace b ts x i
    by_comm ts x i false z e = e
    by_comm ts x i true z e = absurd (z refl)
