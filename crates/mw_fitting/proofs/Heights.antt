-- How high the whole is, and what it is, where a replacement is made under open operators.
use Rattle.std.specs.Prelude.{◌≡◌, ◌≤◌, ◌<◌, ◌+◌, ℕ, max, List, [], ◌∷◌, length, Bool, true, false, cond, nat_eq, Option, IsFalse, refl}
use Rattle.std.proofs.Common.{arith, sym, subst, ap, ◌∙◌}
use Rattle.mw_logic.specs.Term.{RawTerm, numeral, quoted, variable, apply, RawTerms, nil, cons, join, Context, plug}
use Rattle.mw_logic.specs.Signature.{Signature, Identity, constant_of, numeral_of, identity_term, IsRawTerm}
use Rattle.mw_logic.specs.Accepted.{IsAccepted}
use Rattle.mw_logic.specs.Axioms.{done}
use Rattle.mw_logic.specs.Substitution.{Substitution}
use Rattle.mw_logic.specs.Parts.{is_assoc, nested, all_nested, depth, continues}
use Rattle.mw_logic.specs.NormalForm.{identity_of, is_identity, own_arguments, elements, normal_form, height, highest}
use Rattle.mw_logic.specs.Module.{Fragment, Module}
use Rattle.mw_logic.specs.Proof.{Proofs}
use Rattle.mw_logic.specs.Judgements.{admitted_judgements}
use Rattle.mw_logic.proofs.AxiomLaws.{trans, sym as back}
use Rattle.mw_logic.proofs.ContextLaws.{plug-append}
use Rattle.mw_logic.proofs.Canonical.{Each, IsCanonical}
use Rattle.mw_logic.proofs.CanonicalTerms.{fixed}
use Rattle.mw_logic.proofs.CleanForms.{clean_depth, keeps_top, not_named}
use Rattle.mw_logic.proofs.Invariance.{normal_form-kept}
use Rattle.mw_logic.proofs.Inside.{raw_inside}
use Rattle.mw_logic.proofs.Soundness.{IsLong}
use Rattle.mw_deduction.specs.Places.{context_of, frame}
use Rattle.mw_deduction.specs.Reading.{Reading}
use Rattle.mw_deduction.specs.Standing.{Open, filled, context_at, round, IsClear, AreClear, IsSeen, At}
use Rattle.mw_deduction.specs.Replay.{Stand, whole}
use Rattle.mw_deduction.specs.Stands.{IsStanding}
use Rattle.mw_deduction.proofs.Clear.{IsBranch, clear_clean}
use Rattle.mw_deduction.proofs.Depths.{level_in, level_above}
use Rattle.mw_deduction.proofs.Heights.{height_within, canonical_depth}
use Rattle.mw_deduction.proofs.MoveStands.{whole_is}
use Rattle.mw_deduction.proofs.Standing.{goes_out}
use Rattle.mw_fitting.proofs.Levels.{level_at}
use Rattle.mw_multiset.specs.Together.{IsShallow}

one_at_most : (b : Bool) → cond {A = ℕ} b 0 1 ≤ 1
one_at_most true = omega arith
one_at_most false = omega arith

-- a level for each operator, at most
pub levels_most : (sig : Signature) (os : List Open) (t : RawTerm) → AreClear sig os → level_in sig (round sig os) t ≤ length os
levels_most sig [] t c = omega arith
levels_most sig (o ∷ os) t c =
    let a = level_at sig o os t c.0 in
    let b = one_at_most (continues sig o.operator t) in
    let d = levels_most sig os (apply o.operator nil) c.1 in
    omega (arith, a, b, d)

each_low : (n : ℕ) (ts : RawTerms) → highest ts ≤ n → Each (λ x. height x ≤ n) ts
each_low n nil h = tt
each_low n (cons t ts) h = (omega (arith, h), each_low n ts (omega (arith, h)))

elements_low : (e : Option Identity) (f : ℕ) (t : RawTerm) → highest (elements e f t) ≤ height t
elements_low e f t = by_test (is_identity e t) t
  where
    own : (t : RawTerm) → highest (own_arguments f t) ≤ height t
    own (numeral n) = omega arith
    own (quoted q) = omega arith
    own (variable x) = omega arith
    own (apply g nil) = omega arith
    own (apply g (cons u us)) = by_same (nat_eq f g)
      where
        by_same : (b : Bool) → highest (cond b (cons u us) (cons (apply g (cons u us)) nil)) ≤ height (apply g (cons u us))
        by_same true = omega arith
        by_same false = omega arith

    by_test : (b : Bool) (t : RawTerm) → highest (cond b nil (own_arguments f t)) ≤ height t
    by_test true t = omega arith
    by_test false t = own t

-- what isn't higher than 999 has no element that is
pub low_shallow : (sig : Signature) (f : ℕ) (t : RawTerm) → height t ≤ 999 → IsShallow sig f t
low_shallow sig f t h = let k = elements_low (identity_of sig f) f t in each_low 999 (elements (identity_of sig f) f t) (omega (arith, h, k))

-- a term with operators round it is an operator on arguments
branch_join : (f : ℕ) (b : RawTerms) (x : RawTerm) (a : RawTerms) → IsBranch (apply f (join b (cons x a)))
branch_join f nil x a = tt
branch_join f (cons t b) x a = tt

branch_plug : (C : Context) (x : RawTerm) → IsBranch x → IsBranch (plug C x)
branch_plug [] x b = b
branch_plug (c ∷ C) x b = branch_plug C (apply c.operator (join c.before (cons x c.after))) (branch_join c.operator c.before x c.after)

branch_one : (sig : Signature) (o : Open) (x : RawTerm) → IsClear sig o → IsBranch (plug (context_at sig o) x)
branch_one sig o x c = by_assoc (is_assoc sig o.operator) refl
  where
    of_list : (f : ℕ) (b a : RawTerms) → IsLong (join b a) → IsBranch (plug (context_of true f (all_nested sig b) (all_nested sig a)) x)
    of_list f nil nil l = elim l [ ]
    of_list f nil (cons t ts) l = tt
    of_list f (cons t ts) a l =
        let C : Context = context_of true f (all_nested sig ts) (all_nested sig a) in
        subst IsBranch (sym (plug-append C (frame f (cons (nested sig t) nil) nil ∷ []) x)) tt

    by_assoc : (m : Bool) → is_assoc sig o.operator ≡ m → IsBranch (plug (context_of m o.operator (all_nested sig o.before) (all_nested sig o.after)) x)
    by_assoc true h = of_list o.operator o.before o.after (c.others h)
    by_assoc false h = branch_join o.operator (all_nested sig o.before) x (all_nested sig o.after)

branch_round : (sig : Signature) (o : Open) (os : List Open) (x : RawTerm) → AreClear sig (o ∷ os) → IsBranch (plug (round sig (o ∷ os)) x)
branch_round sig o os x c = subst IsBranch (sym (plug-append (context_at sig o) (round sig os) x)) (branch_plug (round sig os) (plug (context_at sig o) x) (branch_one sig o x c.0))

module _ (M : Module) (ok : IsAccepted M.signature) where
  abbrev sig : Signature
  sig = M.signature

  whole_canonical : (H : List Fragment → Substitution → Proofs → Substitution → Type 0) (F : List Fragment → Substitution → Type 0) {t0 : RawTerm} {R : Reading} (os : List Open) (t : RawTerm) → At M H F t0 R os t → IsCanonical sig (whole sig os t)
  whole_canonical H F [] t h = h.canonical
  whole_canonical H F (o ∷ os) t h = whole_canonical H F os (filled sig o t) (goes_out M ok H F o t h)

  pub stand_canonical : (S : Stand) → IsStanding M S → IsCanonical sig (whole sig S.opens S.hand)
  stand_canonical S h = whole_canonical (admitted_judgements M S.rank).Held (admitted_judgements M S.rank).Fails S.opens S.hand h.at

  -- the whole is what the place holds
  pub whole_form : (S : Stand) → IsStanding M S → normal_form sig (plug (round sig S.opens) (nested sig S.hand)) ≡ whole sig S.opens S.hand
  whole_form S h =
      normal_form-kept sig ok (trans (back h.at.is) (whole_is M ok (admitted_judgements M S.rank).Held (admitted_judgements M S.rank).Fails S.opens S.hand h.at))
      ∙ fixed sig ok (whole sig S.opens S.hand) (stand_canonical S h)

  -- under an operator the whole isn't an identity
  pub not_identity_under : (f : ℕ) (S : Stand) → IsStanding M S → IsSeen sig S.opens S.hand → 0 < length S.opens → IsFalse (is_identity (identity_of sig f) (normal_form sig (nested sig (whole sig S.opens S.hand))))
  not_identity_under f S h seen n =
      let form : normal_form sig (nested sig (whole sig S.opens S.hand)) ≡ normal_form sig (plug (round sig S.opens) (nested sig S.hand)) = fixed sig ok (whole sig S.opens S.hand) (stand_canonical S h) ∙ sym (whole_form S h) in
      ap (is_identity (identity_of sig f)) form
      ∙ not_named sig ok f (plug (round sig S.opens) (nested sig S.hand)) (λ e is q. leaf is.identity (plug (round sig S.opens) (nested sig S.hand)) (branch S.opens h.at.clear n) (q ∙ is.is))
      (keeps_top sig ok h.at.raw (clear_clean sig ok S.opens S.hand h.at.clear h.at.canonical seen))
    where
      leaf : (i : Identity) (x : RawTerm) → IsBranch x → x ≡ identity_term i → ⊥
      leaf (constant_of c) x b k = subst IsBranch k b
      leaf (numeral_of m) x b k = subst IsBranch k b

      branch : (os : List Open) → AreClear sig os → 0 < length os → IsBranch (plug (round sig os) (nested sig S.hand))
      branch [] c l = absurd (omega (arith, l))
      branch (o ∷ os) c l = branch_round sig o os (nested sig S.hand) c

  -- Where v comes for the term in hand, which is seen, the whole is no higher than it was, or than v and a level for each operator.
  pub whole_low : (S Q : Stand) (v : RawTerm) → IsStanding M S → IsStanding M Q → Q.opens ≡ S.opens → Q.hand ≡ normal_form sig v → IsSeen sig S.opens S.hand → IsRawTerm sig v
      → height (whole sig S.opens Q.hand) ≤ max (height (whole sig S.opens S.hand)) (length S.opens + height Q.hand)
  whole_low S Q v h g o e seen rv =
      let C : Context = round sig S.opens in
      let u : RawTerm = Q.hand in
      let there : IsRawTerm sig (plug C (nested sig u)) = subst (λ os. IsRawTerm sig (plug (round sig os) (nested sig u))) o g.at.raw in
      let after : normal_form sig (plug C (nested sig u)) ≡ whole sig S.opens u = subst (λ os. normal_form sig (plug (round sig os) (nested sig u)) ≡ whole sig os u) o (whole_form Q g) in
      let z = height_within sig ok (plug C (nested sig u)) there in
      let w = level_above sig C (nested sig S.hand) (nested sig u) in
      let d : depth sig (plug C (nested sig S.hand)) ≡ height (normal_form sig (plug C (nested sig S.hand))) = clean_depth sig ok h.at.raw (record { clean = clear_clean sig ok S.opens S.hand h.at.clear h.at.canonical seen; equal = done }) in
      let b : height (normal_form sig (plug C (nested sig S.hand))) ≡ height (whole sig S.opens S.hand) = ap height (whole_form S h) in
      let k : depth sig (nested sig u) ≡ height u = canonical_depth sig ok u g.at.canonical (raw_inside sig ok C (nested sig u) there) in
      let l = levels_most sig S.opens (nested sig u) h.at.clear in
      let a : height (normal_form sig (plug C (nested sig u))) ≡ height (whole sig S.opens u) = ap height after in
      omega (arith, z, w, d, b, k, l, a)
