-- One list of replacements and then another; and a list under operators.
use Rattle.std.specs.Prelude.{◌≡◌, ◌+◌, List, [], ◌∷◌, ◌++◌, map, refl}
use Rattle.std.proofs.Common.{sym, subst, ap, ◌∙◌, arith, append-nil}
use Rattle.mw_logic.specs.Term.{RawTerm, Context, plug}
use Rattle.mw_logic.specs.Substitution.{Substitution}
use Rattle.mw_logic.specs.Module.{Fragment, Module}
use Rattle.mw_logic.specs.Proof.{Proof, Proofs, rules, steps, count}
use Rattle.mw_logic.specs.Judgements.{StepTest, Leads}
use Rattle.mw_logic.proofs.AxiomLaws.{in_context}
use Rattle.mw_logic.proofs.Building.{in_frames, in_frames_leads}
use Rattle.mw_deduction.specs.Places.{Place, place_of, around, around_all}
use Rattle.mw_deduction.specs.Chains.{Replacement, proof_of, within}
use Rattle.mw_deduction.proofs.PlaceLaws.{in_frames_is, step_at-counts}

around_all-append : (ls ks : Place) (p : Proof) → around_all (ls ++ ks) p ≡ around_all ks (around_all ls p)
around_all-append [] ks p = refl
around_all-append (l ∷ ls) ks p = around_all-append ls ks (around l p)

module _ (M : Module) (Step : StepTest) (H : List Fragment → Substitution → Proofs → Substitution → Type 0) (F : List Fragment → Substitution → Type 0) where
  pub leads_then : (rs qs : List Replacement) (t u v : RawTerm) → Leads M Step H F [] (proof_of rs) t u → Leads M Step H F [] (proof_of qs) u v → Leads M Step H F [] (proof_of (rs ++ qs)) t v
  leads_then [] qs t u v a b = subst (λ x. Leads M Step H F [] (proof_of qs) x v) (sym a) b
  leads_then (r ∷ rs) qs t u v (m, a, b) c = (m, a, leads_then rs qs m u v b c)

  -- what leads in a context leads round it, by the same replacements further inside
  pub leads_within : (D : Context) (rs : List Replacement) (t u : RawTerm) → Leads M Step H F D (proof_of rs) t u → Leads M Step H F [] (proof_of (map (within (place_of D)) rs)) (plug D t) (plug D u)
  leads_within D [] t u a = ap (plug D) a
  leads_within D (r ∷ rs) t u (m, (x, e, (y, l, f)), rest) =
      let k : in_frames D (around_all r.place r.step) ≡ around_all (r.place ++ place_of D) r.step = in_frames_is D (around_all r.place r.step) ∙ sym (around_all-append r.place (place_of D) r.step) in
      let P : Context → Type 0 = λ E. Leads M Step H F E (around_all r.place r.step) x y in
      let z : Leads M Step H F [] (in_frames D (around_all r.place r.step)) (plug D x) (plug D y) = in_frames_leads M Step H F D [] (around_all r.place r.step) x y (subst P (sym (append-nil D)) l) in
      (plug D m, (plug D x, in_context D e, (plug D y, subst (λ q. Leads M Step H F [] q (plug D x) (plug D y)) k z, in_context D f)), leads_within D rs m u rest)

-- what a list of replacements counts
pub counts-append : (rs qs : List Replacement) → (rules (proof_of (rs ++ qs)) ≡ rules (proof_of rs) + rules (proof_of qs)) × (steps (proof_of (rs ++ qs)) ≡ steps (proof_of rs) + steps (proof_of qs)) × (count (proof_of (rs ++ qs)) ≡ count (proof_of rs) + count (proof_of qs))
counts-append [] qs = (omega arith, omega arith, omega arith)
counts-append (r ∷ rs) qs = let (a, b, c) = counts-append rs qs in (omega (arith, a), omega (arith, b), omega (arith, c))

pub counts-within : (ls : Place) (rs : List Replacement) → (rules (proof_of (map (within ls) rs)) ≡ rules (proof_of rs)) × (steps (proof_of (map (within ls) rs)) ≡ steps (proof_of rs)) × (count (proof_of (map (within ls) rs)) ≡ count (proof_of rs))
counts-within ls [] = (refl, refl, refl)
counts-within ls (r ∷ rs) =
    let (a, b, c) = counts-within ls rs in
    let (d, e, f) = step_at-counts (r.place ++ ls) r.step in
    let (x, y, z) = step_at-counts r.place r.step in (omega (arith, a, d, x), omega (arith, b, e, y), omega (arith, c, f, z))
