-- Which terms are normal, and which arguments.
use Rattle.std.specs.Prelude.{◌≡◌, ◌⊎◌, ◌<◌, ◌^◌, ◌&&◌, nat_lt, cond, ℕ, suc, List, [], ◌∷◌, Bool, true, false, refl, Option, Some, None, IsFalse, ⊤}
use Rattle.std.proofs.Common.{sym, subst, inl, inr, ⊎_elim, true≢false, arith}
use Rattle.std.proofs.lemmas.Bool.{lt-ltb}
use Rattle.mw_logic.specs.Term.{RawTerm, RawTerms, numeral, quoted, variable, apply, nil, cons, join, Context, plug}
use Rattle.mw_logic.specs.Signature.{Signature, Identity, constant_of, numeral_of, IsRawTerm, IsSuccessor}
use Rattle.mw_logic.specs.Kinds.{is_successor}
use Rattle.mw_logic.specs.CanonicalPart.{AreSeveral}
use Rattle.mw_logic.specs.Axioms.{done}
use Rattle.mw_logic.specs.Accepted.{IsAccepted, IsWellSorted}
use Rattle.mw_logic.specs.Substitution.{Substitution}
use Rattle.mw_logic.specs.Parts.{is_assoc, nested, number_of_terms, IsClean, IsPart, IsAdmitted}
use Rattle.mw_logic.specs.NormalForm.{is_comm, identity_of, is_identity, identity_or_empty, own_arguments, rebuilt, arranged, counted, applied_in, normal_form}
use Rattle.mw_logic.specs.CanonicalPart.{IsPartOf}
use Rattle.mw_logic.specs.CanonicalPart as part
use Rattle.mw_logic.specs.Module.{Fragment, Module}
use Rattle.mw_logic.specs.Proof.{Proofs}
use Rattle.mw_logic.specs.Judgements.{IsNormalBy}
use Rattle.mw_logic.proofs.Canonical.{Each, IsElement, IsCanonical, AreCanonical, Each-arranged, arranged-nil, arranged-one, same_operator, flattened-elements, elements_are}
use Rattle.mw_logic.proofs.Soundness.{normal_form-sound, several-arranged}
use Rattle.mw_logic.proofs.Successor.{is_successor-true}
use Rattle.mw_logic.proofs.RawKept.{raw_kept}
use Rattle.mw_logic.proofs.Inside.{raw_inside, clean_inside}
use Rattle.mw_logic.proofs.PartsOfNormalForm.{part_kept}
use Rattle.mw_logic.proofs.SolutionLaws.{solution_kept}
use Rattle.mw_logic.proofs.CanonicalTerms.{fixed, not_successor}
use Rattle.mw_deduction.specs.Tops.{IsTop, NothingAtTops, IsNormalTerm}
use Rattle.mw_deduction.specs.Tops as top
use Rattle.mw_deduction.specs.Reading.{Reading}
use Rattle.mw_deduction.specs.Standing.{Open, round, IsSeenBy, IsSeen, At}
use Rattle.mw_deduction.proofs.Clear.{clear_clean}
use Rattle.mw_deduction.proofs.NormalParts.{part_admitted}
use Rattle.mw_deduction.proofs.NormalBuilt.{normal_built, part_normal}
use Rattle.mw_stack.specs.Own.{spread}
use Rattle.mw_frames.specs.Fair.{Stays, IsFair}
use Rattle.mw_stack.specs.Hidden.{IsHiddenNumeral}

-- no operator stands on top
abbrev pub IsLeafTerm : RawTerm → Type 0
IsLeafTerm (numeral n) = ⊤
IsLeafTerm (quoted q) = ⊤
IsLeafTerm (variable x) = ⊤
IsLeafTerm (apply f ts) = ⊥

-- what stays under f is seen there
pub stays_seen : (sig : Signature) (o : Open) (t : RawTerm) → Stays sig o.operator t → IsSeenBy sig o t
stays_seen sig o t s = record {
  not_identity = λ h. named (is_identity (identity_of sig o.operator) t) refl (s.element h);
  not_numeral = λ n is e l. s.seen (record { number = n; is = e; successor = is; folds = l });
}
  where
    named : (b : Bool) → is_identity (identity_of sig o.operator) t ≡ b → cond b nil (own_arguments o.operator t) ≡ cons t nil → IsFalse (is_identity (identity_of sig o.operator) t)
    named false e k = e
    named true e k = cc

module _ (M : Module) (ok : IsAccepted M.signature) (sorted : IsWellSorted M.signature) (F : List Fragment → Substitution → Type 0) where
  abbrev sig : Signature
  sig = M.signature

  abbrev Normal : RawTerm → Type 0
  Normal t = IsNormalTerm M F t

  abbrev HasNormal : RawTerm → Type 0
  HasNormal t = (f : ℕ) (ts : RawTerms) → t ≡ apply f ts → Each Normal ts

  top_only : (v t w : RawTerm) → v ≡ t → IsLeafTerm t → IsPartOf sig false v w → IsTop sig t w
  top_only v t w e l part.whole = subst (λ x. IsTop sig t x) (sym e) top.whole
  top_only v t w e l (part.argument g b u a o p) = absurd (subst IsLeafTerm (sym e) l)
  top_only v t w e l (part.several A o m c) = absurd (subst IsLeafTerm (sym e) l)

  -- a leaf at which nothing applies is normal
  normal_leaf : (t : RawTerm) → IsLeafTerm t → IsRawTerm sig (nested sig t) → normal_form sig (nested sig t) ≡ t → IsAdmitted sig (nested sig t) → NothingAtTops M F t → IsNormalBy M F (nested sig t)
  normal_leaf t l raw canonical admitted tops = record {
    admitted = admitted;
    no_equation = λ C w p k e is eq s sol. tops.no_equation (normal_form sig w) (at C w p) k e is eq s (solution_kept sig ok sorted done (normal_form-sound sig ok (raw_at C w p)) sol);
    no_row = λ C w p m. tops.no_row w (raw_at C w p) (clean_at C w p) (at C w p) m;
    no_pair = λ C w p m. tops.no_pair w (raw_at C w p) (clean_at C w p) (at C w p) m;
  }
    where
      at : (C : Context) (w : RawTerm) → IsPart sig (nested sig t) C w → IsTop sig t (normal_form sig w)
      at C w p = top_only _ t (normal_form sig w) canonical l (part_kept sig ok C w (λ h. absurd (true≢false (sym h))) raw p)

      raw_at : (C : Context) (w : RawTerm) → IsPart sig (nested sig t) C w → IsRawTerm sig w
      raw_at C w p = raw_inside sig ok C w ((raw_kept sig ok p.equal).0 raw)

      clean_at : (C : Context) (w : RawTerm) → IsPart sig (nested sig t) C w → IsClean sig w
      clean_at C w p = clean_inside sig ok C w p.clean

  -- a term in hand that is seen, over normal arguments, at whose top parts nothing applies, is normal
  pub ends_normal : (H : List Fragment → Substitution → Proofs → Substitution → Type 0) {t0 : RawTerm} {R : Reading} {os : List Open} (t : RawTerm) → At M H F t0 R os t → IsSeen sig os t → HasNormal t → NothingAtTops M F t → Normal t
  ends_normal H {t0} {R} {os} t h seen n tops =
      let raw : IsRawTerm sig (nested sig t) = raw_inside sig ok (round sig os) (nested sig t) h.raw in
      let p : IsPart sig (plug (round sig os) (nested sig t)) (round sig os) (nested sig t) = record { clean = clear_clean sig ok os t h.clear h.canonical seen; equal = done } in
      let a : IsAdmitted sig (nested sig t) = part_admitted sig ok (round sig os) (nested sig t) h.raw h.admitted p in
      let k : normal_form sig (nested sig t) ≡ t = fixed sig ok t h.canonical in
      record { raw = raw; canonical = k; normal = by_shape t raw k a n tops }
    where
      by_shape : (t : RawTerm) → IsRawTerm sig (nested sig t) → normal_form sig (nested sig t) ≡ t → IsAdmitted sig (nested sig t) → HasNormal t → NothingAtTops M F t → IsNormalBy M F (nested sig t)
      by_shape (numeral m) r k a n tops = normal_leaf (numeral m) tt r k a tops
      by_shape (quoted q) r k a n tops = normal_leaf (quoted q) tt r k a tops
      by_shape (variable x) r k a n tops = normal_leaf (variable x) tt r k a tops
      by_shape (apply f ts) r k a n tops = normal_built M ok sorted F f ts r k a (n f ts refl) tops

  arguments_normal : (f : ℕ) (b ts : RawTerms) → IsCanonical sig (apply f (join b ts)) → Normal (apply f (join b ts)) → AreCanonical sig ts → Each Normal ts
  arguments_normal f b nil k n ks = tt
  arguments_normal f b (cons t ts) k n ks =
      let e : join (join b (cons t nil)) ts ≡ join b (cons t ts) = Rattle.mw_logic.proofs.SortLaws.join_assoc b (cons t nil) ts in (
        part_normal M ok sorted F (apply f (join b (cons t ts))) t n (fixed sig ok t ks.0) (part.argument f b t ts (λ h. absurd (true≢false (sym h))) part.whole),
        arguments_normal f (join b (cons t nil)) ts (subst (λ x. IsCanonical sig (apply f x)) (sym e) k) (subst (λ x. Normal (apply f x)) (sym e) n) ks.1,
      )

  -- the arguments of a normal term are normal
  pub normal_has : (t : RawTerm) → IsCanonical sig t → Normal t → HasNormal t
  normal_has t k n f ts e = let c : IsCanonical sig (apply f ts) = subst (IsCanonical sig) e k in arguments_normal f nil ts c (subst Normal e n) c.0

  own_normal : (f : ℕ) (t : RawTerm) → HasNormal t → own_arguments f t ≡ cons t nil ⊎ Each Normal (own_arguments f t)
  own_normal f (numeral m) n = inl refl
  own_normal f (quoted q) n = inl refl
  own_normal f (variable x) n = inl refl
  own_normal f (apply g nil) n = inl refl
  own_normal f (apply g (cons t ts)) n = by_test (Rattle.std.specs.Prelude.nat_eq f g)
    where
      by_test : (b : Bool) → (cond b (cons t ts) (cons (apply g (cons t ts)) nil) ≡ cons (apply g (cons t ts)) nil) ⊎ Each Normal (cond b (cons t ts) (cons (apply g (cons t ts)) nil))
      by_test true = inr (n g (cons t ts) refl)
      by_test false = inl refl

  -- an argument that is done
  abbrev Done : ℕ → RawTerm → Type 0
  Done f t = Normal t ⊎ IsHiddenNumeral sig f t

  as_done : (f : ℕ) (ts : RawTerms) → Each Normal ts → Each (Done f) ts
  as_done f nil n = tt
  as_done f (cons t ts) n = (inl n.0, as_done f ts n.1)

  -- what a term is under f, where its arguments are normal, and it is normal itself or does not stay there
  pub spread_done : (f : ℕ) (t : RawTerm) → HasNormal t → Normal t ⊎ (¬ Stays sig f t) → (is_assoc sig f ≡ false → Done f t) → Each (Done f) (spread sig f t)
  spread_done f t n d m = by_assoc (is_assoc sig f) refl
    where
      listed : is_assoc sig f ≡ true → Normal t ⊎ (¬ Stays sig f t) → (b : Bool) → is_identity (identity_of sig f) t ≡ b → (own_arguments f t ≡ cons t nil) ⊎ Each Normal (own_arguments f t) → Each (Done f) (cond b nil (own_arguments f t))
      listed h d true i o = tt
      listed h d false i (inr o) = as_done f _ o
      listed h (inl x) false i (inl o) = rw o (inl x, tt)
      listed h (inr x) false i (inl o) = absurd (x (record { element = λ q. rw i o; seen = λ z. not_successor sig ok f h z.successor }))

      by_assoc : (b : Bool) → is_assoc sig f ≡ b → Each (Done f) (spread sig f t)
      by_assoc true h = rw h (listed h d _ refl (own_normal f t n))
      by_assoc false h = rw h (m h, tt)

  -- What an operator gives over arguments that are done has normal arguments.
  pub closed : (f : ℕ) (ts : RawTerms) → IsFair sig f ts → Each (Done f) ts → HasNormal (applied_in sig f ts)
  closed f ts fair d = by_assoc (is_assoc sig f) refl
    where
      shown : is_assoc sig f ≡ true → (ts : RawTerms) → Each (Done f) ts → Each Normal ts
      shown h nil d = tt
      shown h (cons t ts) d = (⊎_elim (λ n. n) (λ z. absurd (not_successor sig ok f h z.successor)) d.0, shown h ts d.1)

      of_identity : (e : Option Identity) → HasNormal (identity_or_empty e f)
      of_identity None g us e = let k : us ≡ nil = cc in rw k tt
      of_identity (Some (constant_of c)) g us e = let k : us ≡ nil = cc in rw k tt
      of_identity (Some (numeral_of m)) g us e = cc

      of_list : (us : RawTerms) → AreCanonical sig us → Each Normal us → HasNormal (rebuilt (identity_of sig f) f us)
      of_list nil k n = of_identity (identity_of sig f)
      of_list (cons t nil) k n = normal_has t k.0 n.0
      of_list (cons t (cons u us)) k n = λ g ws e. let z : ws ≡ cons t (cons u us) = cc in rw z n

      by_assoc : (b : Bool) → is_assoc sig f ≡ b → HasNormal (applied_in sig f ts)
      by_assoc true h =
          let z = flattened-elements (identity_of sig f) f ts (fair.elements h) in
          let c : AreCanonical sig (arranged (is_comm sig f) ts) = Rattle.mw_logic.proofs.Canonical.all_canonical sig _ (Each-arranged (IsCanonical sig) (is_comm sig f) ts (Rattle.mw_logic.proofs.Canonical.each_canonical sig ts fair.canonical)) in
          rw (h, z) (of_list (arranged (is_comm sig f) ts) c (Each-arranged Normal (is_comm sig f) ts (shown h ts d)))
      by_assoc false h = rw h (over h ts fair d)
        where
          s : Bool
          s = is_successor sig f

          folded : (m : ℕ) → Done f (numeral m) → HasNormal (cond (s && nat_lt (suc m) (2 ^ 128)) (numeral (suc m)) (apply f (cons (numeral m) nil)))
          folded m (inl n) = by_test (s && nat_lt (suc m) (2 ^ 128))
            where
              by_test : (b : Bool) → HasNormal (cond b (numeral (suc m)) (apply f (cons (numeral m) nil)))
              by_test true = λ g us e. cc
              by_test false = λ g us e. let k : us ≡ cons (numeral m) nil = cc in rw k (n, tt)
          folded m (inr z) =
              let e : m ≡ z.number = cc in
              let l : nat_lt (suc m) (2 ^ 128) ≡ true = lt-ltb (suc m) (2 ^ 128) (subst (λ x. suc x < 2 ^ 128) (sym e) z.folds) in
              λ g us e. absurd (at_true (s && nat_lt (suc m) (2 ^ 128)) (rw (is_successor-true sig f z.successor, l) refl) g us e)
            where
              at_true : (b : Bool) → b ≡ true → (g : ℕ) (us : RawTerms) → cond b (numeral (suc m)) (apply f (cons (numeral m) nil)) ≡ apply g us → ⊥
              at_true true k g us e = cc
              at_true false k g us e = cc

          alone : (t : RawTerm) → Done f t → HasNormal (counted s f (cons t nil))
          alone (numeral m) d = folded m d
          alone (quoted q) (inl n) = λ g us e. let k : us ≡ cons (quoted q) nil = cc in rw k (n, tt)
          alone (quoted q) (inr z) = absurd (let e = z.is in cc)
          alone (variable x) (inl n) = λ g us e. let k : us ≡ cons (variable x) nil = cc in rw k (n, tt)
          alone (variable x) (inr z) = absurd (let e = z.is in cc)
          alone (apply g ws) (inl n) = λ h us e. let k : us ≡ cons (apply g ws) nil = cc in rw k (n, tt)
          alone (apply g ws) (inr z) = absurd (let e = z.is in cc)

          two_not : (t u : RawTerm) (us : RawTerms) → number_of_terms (cons t (cons u us)) ≡ 1 → ⊥
          two_not t u us e = omega (arith, e)

          seen : (t u : RawTerm) (us : RawTerms) → (IsSuccessor sig f → number_of_terms (cons t (cons u us)) ≡ 1) → (ws : RawTerms) → Each (Done f) ws → Each Normal ws
          seen t u us r nil d = tt
          seen t u us r (cons w ws) d = (⊎_elim (λ n. n) (λ z. absurd (two_not t u us (r z.successor))) d.0, seen t u us r ws d.1)

          several : (us : RawTerms) → AreSeveral us → Each Normal us → HasNormal (counted s f us)
          several nil l n = elim l [ ]
          several (cons t nil) l n = elim l [ ]
          several (cons t (cons u us)) l n = λ g ws e. let z : ws ≡ cons t (cons u us) = cc in rw z n

          over : is_assoc sig f ≡ false → (ts : RawTerms) → IsFair sig f ts → Each (Done f) ts → HasNormal (counted s f (arranged (is_comm sig f) ts))
          over h nil fair d = rw (arranged-nil (is_comm sig f)) (λ g us e. let k : us ≡ nil = cc in rw k tt)
          over h (cons t nil) fair d = rw (arranged-one (is_comm sig f) t) (alone t d.0)
          over h (cons t (cons u us)) fair d =
              let n : Each Normal (cons t (cons u us)) = seen t u us fair.alone (cons t (cons u us)) d in
              several (arranged (is_comm sig f) (cons t (cons u us))) (several-arranged (is_comm sig f) (cons t (cons u us)) tt) (Each-arranged Normal (is_comm sig f) (cons t (cons u us)) n)
