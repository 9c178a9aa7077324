-- Proofs are built: under an operator, in a context, by a statement or a row at a part. What they count is what their one replacement counts.
use Rattle.std.specs.Prelude.{◌≡◌, ℕ, zero, suc, List, [], ◌∷◌, ◌++◌, Bool, false, refl}
use Rattle.std.proofs.Common.{arith, subst, sym, ◌∙◌, append-nil}
use Rattle.mw_logic.specs.Term.{RawTerm, RawTerms, nil, cons, join, Frame, Context, plug}
use Rattle.mw_logic.specs.Axioms.{done}
use Rattle.mw_logic.specs.Substitution.{Substitution}
use Rattle.mw_logic.specs.Parts.{IsClean, ReplacesPart}
use Rattle.mw_logic.specs.Module.{Fragment, Module, Row}
use Rattle.mw_logic.specs.Proof.{Proof, reflexivity, equality, congruence, transitivity, replacement, row, Proofs, rules, rules_of, steps, steps_of, count, count_of}
use Rattle.mw_logic.specs.Proof as proof
use Rattle.mw_logic.specs.Judgements.{StepTest, Replaces, Leads, LeadsIn, Proves, Held, Fails, IsNormal, IsNormalBy, judgements_with}
use Rattle.mw_logic.proofs.AxiomLaws.{trans, sym as back, in_context}
use Rattle.mw_logic.proofs.SortLaws.{join-nil, join_assoc}

-- nothing is done in a list of arguments
abbrev pub untouched : RawTerms → Proofs
untouched nil = proof.nil
untouched (cons t ts) = proof.cons reflexivity (untouched ts)

-- p in the argument behind those of `before`, and nothing in the others
abbrev pub beside : RawTerms → Proof → RawTerms → Proofs
beside nil p after = proof.cons p (untouched after)
beside (cons t before) p after = proof.cons reflexivity (beside before p after)

-- p under one operator, and p in a context
abbrev pub under_frame : Frame → Proof → Proof
under_frame c p = congruence (beside c.before p c.after)

abbrev pub in_frames : Context → Proof → Proof
in_frames [] p = p
in_frames (c ∷ C) p = in_frames C (under_frame c p)

module _ (M : Module) (Step : StepTest) (H : List Fragment → Substitution → Proofs → Substitution → Type 0) (F : List Fragment → Substitution → Type 0) where
  untouched_leads : (C : Context) (f : ℕ) (finished ts : RawTerms) → LeadsIn M Step H F C f finished (untouched ts) ts ts
  untouched_leads C f finished nil = (refl, refl)
  untouched_leads C f finished (cons t ts) = (t, t, ts, ts, refl, refl, refl, untouched_leads C f (join finished (cons t nil)) ts)

  beside_leads : (C : Context) (f : ℕ) (finished before : RawTerms) (p : Proof) (t u : RawTerm) (after : RawTerms) →
      Leads M Step H F (record { operator = f; before = join finished before; after = after } ∷ C) p t u →
      LeadsIn M Step H F C f finished (beside before p after) (join before (cons t after)) (join before (cons u after))
  beside_leads C f finished nil p t u after l =
      (t, u, after, after, refl, refl, subst (λ b. Leads M Step H F (record { operator = f; before = b; after = after } ∷ C) p t u) (join-nil finished) l, untouched_leads C f (join finished (cons u nil)) after)
  beside_leads C f finished (cons b before) p t u after l = (
    b,
    b,
    join before (cons t after),
    join before (cons u after),
    refl,
    refl,
    refl,
    beside_leads C f (join finished (cons b nil)) before p t u after (subst (λ d. Leads M Step H F (record { operator = f; before = d; after = after } ∷ C) p t u) (sym (join_assoc finished (cons b nil) before)) l),
  )

  -- a proof with one more frame round it leads from the frame with its first term to the frame with its last
  pub under_frame_leads : (c : Frame) (C : Context) (p : Proof) (t u : RawTerm) → Leads M Step H F (c ∷ C) p t u → Leads M Step H F C (under_frame c p) (plug (c ∷ []) t) (plug (c ∷ []) u)
  under_frame_leads c C p t u l = (c.operator, join c.before (cons t c.after), join c.before (cons u c.after), refl, refl, beside_leads C c.operator nil c.before p t u c.after l)

  -- and with more frames
  pub in_frames_leads : (C D : Context) (p : Proof) (t u : RawTerm) → Leads M Step H F (C ++ D) p t u → Leads M Step H F D (in_frames C p) (plug C t) (plug C u)
  in_frames_leads [] D p t u l = l
  in_frames_leads (c ∷ C) D p t u l = in_frames_leads C D (under_frame c p) (plug (c ∷ []) t) (plug (c ∷ []) u) (under_frame_leads c (C ++ D) p t u l)

-- what two proofs count is the same: replacements by rules, replacements, and replacements with those in evidence
abbrev pub CountTheSame : Proof → Proof → Type 0
CountTheSame p q = (rules p ≡ rules q) × (steps p ≡ steps q) × (count p ≡ count q)

untouched-counts : (ts : RawTerms) → (rules_of (untouched ts) ≡ 0) × (steps_of (untouched ts) ≡ 0) × (count_of (untouched ts) ≡ 0)
untouched-counts nil = (refl, refl, refl)
untouched-counts (cons t ts) = let (a, b, c) = untouched-counts ts in (omega (arith, a), omega (arith, b), omega (arith, c))

beside-counts : (before : RawTerms) (p : Proof) (after : RawTerms) → (rules_of (beside before p after) ≡ rules p) × (steps_of (beside before p after) ≡ steps p) × (count_of (beside before p after) ≡ count p)
beside-counts nil p after = let (a, b, c) = untouched-counts after in (omega (arith, a), omega (arith, b), omega (arith, c))
beside-counts (cons t before) p after = let (a, b, c) = beside-counts before p after in (omega (arith, a), omega (arith, b), omega (arith, c))

-- a proof in a context counts what it counts alone
pub in_frames-counts : (C : Context) (p : Proof) → CountTheSame (in_frames C p) p
in_frames-counts [] p = (refl, refl, refl)
in_frames-counts (c ∷ C) p = let (a, b, d) = beside-counts c.before p c.after in let (e, f, g) = in_frames-counts C (under_frame c p) in (e ∙ a, f ∙ b, g ∙ d)

-- a replacement or a row at a place, with equality modulo the axioms before and after
abbrev pub at_place : Context → Proof → Proof
at_place C p = transitivity equality (transitivity (in_frames C p) equality)

-- it counts what it counts at the top
pub at_place-counts : (C : Context) (p : Proof) → CountTheSame (at_place C p) p
at_place-counts C p = let (a, b, c) = in_frames-counts C p in (omega (arith, a), omega (arith, b), omega (arith, c))

module _ (M : Module) (H : List Fragment → Substitution → Proofs → Substitution → Type 0) (F : List Fragment → Substitution → Type 0) where
  -- a step at the place where a part is replaced
  stepped : (by_rule : Bool) {t w v u : RawTerm} (r : ReplacesPart M.signature by_rule t w v u) → ReplacesPart M.signature by_rule (plug r.place w) w v (plug r.place v)
  stepped by_rule r = record {
    place = r.place;
    part = r.part;
    for_rules = r.for_rules;
    is_part = record { clean = r.is_part.clean; equal = in_context r.place r.same };
    same = r.same;
    becomes = done;
  }

  around : (by_rule : Bool) (p : Proof) {t w v u : RawTerm} (r : ReplacesPart M.signature by_rule t w v u) →
      Leads M (ReplacesPart M.signature) H F (r.place ++ []) p w v → Leads M (ReplacesPart M.signature) H F [] (at_place r.place p) t u
  around by_rule p {t} {w} {v} {u} r l =
      (plug r.place w, trans r.is_part.equal (in_context r.place (back r.same)), (plug r.place v, in_frames_leads M (ReplacesPart M.signature) H F r.place [] p w v l, r.becomes))

  pub replaces_leads : (k : ℕ) (by_rule : Bool) (s : Substitution) (es : Proofs) {t w v u : RawTerm} (r : ReplacesPart M.signature by_rule t w v u) →
      Replaces M H F k by_rule s es w v → Leads M (ReplacesPart M.signature) H F [] (at_place r.place (replacement k by_rule s es)) t u
  replaces_leads k by_rule s es {w = w} {v = v} r x =
      around by_rule (replacement k by_rule s es) r (subst (λ C. Leads M (ReplacesPart M.signature) H F C (replacement k by_rule s es) w v) (sym (append-nil r.place)) (x, stepped by_rule r))

  pub row_leads : {t w v u : RawTerm} (r : ReplacesPart M.signature false t w v u) → Row M.signature (IsNormalBy M F) w v → IsClean M.signature w → Leads M (ReplacesPart M.signature) H F [] (at_place r.place row) t u
  row_leads {w = w} {v = v} r x c = around false row r (subst (λ C. Leads M (ReplacesPart M.signature) H F C row w v) (sym (append-nil r.place)) (x, c, stepped false r))

-- a statement that replaces a part of t proves what it makes of t
pub Proves-replacement : (M : Module) (n k : ℕ) (by_rule : Bool) (s : Substitution) (es : Proofs) {t w v u : RawTerm} (r : ReplacesPart M.signature by_rule t w v u) →
    Replaces M (Held M n) (Fails M n) k by_rule s es w v → Proves M n (at_place r.place (replacement k by_rule s es)) t u
unfolding judgements_with
Proves-replacement M zero k by_rule s es r x = replaces_leads M (Held M 0) (Fails M 0) k by_rule s es r x
Proves-replacement M (suc n) k by_rule s es r x = replaces_leads M (Held M (suc n)) (Fails M (suc n)) k by_rule s es r x

-- and so does a row of the schemata
pub Proves-row : (M : Module) (n : ℕ) {t w v u : RawTerm} (r : ReplacesPart M.signature false t w v u) → Row M.signature (IsNormal M n) w v → IsClean M.signature w → Proves M n (at_place r.place row) t u
unfolding judgements_with
Proves-row M zero r x c = row_leads M (Held M 0) (Fails M 0) r x c
Proves-row M (suc n) r x c = row_leads M (Held M (suc n)) (Fails M (suc n)) r x c
