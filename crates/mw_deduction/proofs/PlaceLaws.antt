-- A hole's context has the levels that its numbers give; and a proof at a place is a proof in the context.
use Rattle.std.specs.Prelude.{◌≡◌, ℕ, zero, suc, [], ◌∷◌, ◌++◌, Bool, true, false, refl}
use Rattle.std.proofs.Common.{sym, ap, ◌∙◌, arith}
use Rattle.mw_logic.specs.Term.{RawTerm, RawTerms, nil, cons, join, Frame, Context, plug}
use Rattle.mw_logic.specs.Parts.{number_of_terms, nest}
use Rattle.mw_logic.specs.Proof.{Proof, reflexivity, congruence, Proofs, rules, rules_of, steps, steps_of, count, count_of}
use Rattle.mw_logic.specs.Proof as proof
use Rattle.mw_logic.proofs.ContextLaws.{plug-append}
use Rattle.mw_logic.proofs.Building.{untouched, beside, under_frame, in_frames}
use Rattle.mw_deduction.specs.Places.{Level, Place, level, levels_of, frame, context_of, place_of, unchanged, around, around_all, step_at}

pub place_of-append : (C D : Context) → place_of (C ++ D) ≡ place_of C ++ place_of D
place_of-append [] D = refl
place_of-append (c ∷ C) D = ap (λ ls. level (number_of_terms c.before) (number_of_terms c.after) ∷ ls) (place_of-append C D)

pub place_of-context : (m : Bool) (f : ℕ) (b a : RawTerms) → place_of (context_of m f b a) ≡ levels_of m (number_of_terms b) (number_of_terms a)
place_of-context false f b a = refl
place_of-context true f nil nil = refl
place_of-context true f nil (cons t ts) = refl
place_of-context true f (cons b bs) a = place_of-append (context_of true f bs a) (frame f (cons b nil) nil ∷ []) ∙ ap (λ ls. ls ++ level 1 0 ∷ []) (place_of-context true f bs a)

-- the term in the hole, in its list nested to the right
pub context_of-plug : (m : Bool) (f : ℕ) (b a : RawTerms) (Z : RawTerm) → nest m f (join b (cons Z a)) ≡ plug (context_of m f b a) Z
context_of-plug false f b a Z = refl
context_of-plug true f nil nil Z = refl
context_of-plug true f nil (cons t ts) Z = refl
context_of-plug true f (cons b bs) a Z = first bs ∙ ap (λ t. Rattle.mw_logic.specs.Term.binary f b t) (context_of-plug true f bs a Z) ∙ sym (plug-append (context_of true f bs a) (frame f (cons b nil) nil ∷ []) Z)
  where
    first : (bs : RawTerms) → nest true f (cons b (join bs (cons Z a))) ≡ Rattle.mw_logic.specs.Term.binary f b (nest true f (join bs (cons Z a)))
    first nil = refl
    first (cons u us) = refl

untouched_is : (ts : RawTerms) → untouched ts ≡ unchanged (number_of_terms ts) proof.nil
untouched_is nil = refl
untouched_is (cons t ts) = ap (proof.cons reflexivity) (untouched_is ts)

beside_is : (b : RawTerms) (p : Proof) (a : RawTerms) → beside b p a ≡ unchanged (number_of_terms b) (proof.cons p (unchanged (number_of_terms a) proof.nil))
beside_is nil p a = ap (proof.cons p) (untouched_is a)
beside_is (cons t b) p a = ap (proof.cons reflexivity) (beside_is b p a)

pub in_frames_is : (C : Context) (p : Proof) → in_frames C p ≡ around_all (place_of C) p
in_frames_is [] p = refl
in_frames_is (c ∷ C) p = in_frames_is C (under_frame c p) ∙ ap (λ q. around_all (place_of C) (congruence q)) (beside_is c.before p c.after)

-- what it counts is what the proof counts
unchanged-counts : (n : ℕ) (ps : Proofs) → (rules_of (unchanged n ps) ≡ rules_of ps) × (steps_of (unchanged n ps) ≡ steps_of ps) × (count_of (unchanged n ps) ≡ count_of ps)
unchanged-counts zero ps = (refl, refl, refl)
unchanged-counts (suc n) ps = let (a, b, c) = unchanged-counts n ps in (omega (arith, a), omega (arith, b), omega (arith, c))

around-counts : (l : Level) (p : Proof) → (rules (around l p) ≡ rules p) × (steps (around l p) ≡ steps p) × (count (around l p) ≡ count p)
around-counts l p =
    let (a, b, c) = unchanged-counts l.before (proof.cons p (unchanged l.after proof.nil)) in
    let (d, e, f) = unchanged-counts l.after proof.nil in (omega (arith, a, d), omega (arith, b, e), omega (arith, c, f))

pub around_all-counts : (ls : Place) (p : Proof) → (rules (around_all ls p) ≡ rules p) × (steps (around_all ls p) ≡ steps p) × (count (around_all ls p) ≡ count p)
around_all-counts [] p = (refl, refl, refl)
around_all-counts (l ∷ ls) p = let (a, b, c) = around_all-counts ls (around l p) in let (d, e, f) = around-counts l p in (a ∙ d, b ∙ e, c ∙ f)

pub step_at-counts : (ls : Place) (p : Proof) → (rules (step_at ls p) ≡ rules p) × (steps (step_at ls p) ≡ steps p) × (count (step_at ls p) ≡ count p)
step_at-counts ls p = let (a, b, c) = around_all-counts ls p in (omega (arith, a), omega (arith, b), omega (arith, c))
