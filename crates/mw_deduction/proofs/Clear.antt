-- Open operators round a term that is seen are a clean context.
use Rattle.std.specs.Prelude.{◌≡◌, ℕ, suc, ◌<◌, ◌^◌, List, [], ◌∷◌, ◌++◌, Bool, true, false, refl, ⊤}
use Rattle.std.proofs.Common.{sym, subst, ap, ◌∙◌, inl, inr, true≢false}
use Rattle.std.proofs.lemmas.Bool.{both_ways}
use Rattle.mw_logic.specs.Term.{RawTerm, RawTerms, numeral, quoted, variable, apply, nil, cons, join, binary, Context, plug}
use Rattle.mw_logic.specs.Signature.{Signature, Identity, constant_of, numeral_of, identity_term, IsIdentity, IsSuccessor}
use Rattle.mw_logic.specs.Accepted.{IsAccepted}
use Rattle.mw_logic.specs.Parts.{is_assoc, nested, all_nested, chain, number_of_terms, Among, IsClean, AreClean}
use Rattle.mw_logic.specs.NormalForm.{identity_of, is_identity, normal_form}
use Rattle.mw_logic.proofs.ContextLaws.{plug-append}
use Rattle.mw_logic.proofs.Canonical.{Each, IsElement, IsCanonical, AreCanonical}
use Rattle.mw_logic.proofs.Invariance.{identity_found}
use Rattle.mw_logic.proofs.Soundness.{IsLong}
use Rattle.mw_logic.proofs.CanonicalTerms.{fixed, clean, all_clean, element_not_identity, not_successor}
use Rattle.mw_deduction.specs.Places.{frame, context_of, place_of, levels_of}
use Rattle.mw_deduction.specs.Reading.{flat}
use Rattle.mw_deduction.specs.Standing.{Open, context_at, round, entered_of, IsClear, AreClear, IsSeenBy, IsSeen}
use Rattle.mw_deduction.proofs.PlaceLaws.{place_of-append, place_of-context}

-- an operator on arguments stands on top
abbrev pub IsBranch : RawTerm → Type 0
IsBranch (numeral n) = ⊥
IsBranch (quoted q) = ⊥
IsBranch (variable x) = ⊥
IsBranch (apply f nil) = ⊥
IsBranch (apply f (cons t ts)) = ⊤

nested-number : (sig : Signature) (ts : RawTerms) → number_of_terms (all_nested sig ts) ≡ number_of_terms ts
nested-number sig nil = refl
nested-number sig (cons t ts) = ap suc (nested-number sig ts)

-- the levels that were entered are those of the context
pub place_of-round : (sig : Signature) (os : List Open) → flat (entered_of sig os) ≡ place_of (round sig os)
place_of-round sig [] = refl
place_of-round sig (o ∷ os) =
    let a : place_of (context_at sig o) ≡ levels_of (is_assoc sig o.operator) (number_of_terms o.before) (number_of_terms o.after) =
    place_of-context (is_assoc sig o.operator) o.operator (all_nested sig o.before) (all_nested sig o.after) ∙ rw (nested-number sig o.before, nested-number sig o.after) refl in
    sym (place_of-append (context_at sig o) (round sig os) ∙ rw (a, place_of-round sig os) refl)

module _ (sig : Signature) (ok : IsAccepted sig) where
  -- x may stand under f in a clean term
  pub record Stands (f : ℕ) (x : RawTerm) : Type 0 where
    pub clean : IsClean sig x
    pub not_identity : (e : RawTerm) → IsIdentity sig f e → x ≡ e → ⊥
    pub not_numeral : (n : ℕ) → IsSuccessor sig f → x ≡ numeral n → suc n < 2 ^ 128 → ⊥

  pub branch_stands : (f : ℕ) (x : RawTerm) → IsBranch x → IsClean sig x → Stands f x
  branch_stands f x b c = record {
    clean = c;
    not_identity = λ e is k. leaf (is.identity) x b (k ∙ is.is);
    not_numeral = λ n is k l. subst IsBranch k b;
  }
    where
      leaf : (i : Identity) (x : RawTerm) → IsBranch x → x ≡ identity_term i → ⊥
      leaf (constant_of c) x b k = subst IsBranch k b
      leaf (numeral_of n) x b k = subst IsBranch k b

  binary_clean : (f : ℕ) → is_assoc sig f ≡ true → (x y : RawTerm) → Stands f x → Stands f y → IsClean sig (binary f x y)
  binary_clean f h x y p q = ((p.clean, (q.clean, tt)), beside, λ n is e l. not_successor sig ok f h is)
    where
      beside : (e : RawTerm) → IsIdentity sig f e → Among (cons x (cons y nil)) e → ⊥
      beside e is (inl k) = p.not_identity e is k
      beside e is (inr (inl k)) = q.not_identity e is k
      beside e is (inr (inr k)) = k

  pub binary_stands : (f : ℕ) → is_assoc sig f ≡ true → (x y : RawTerm) → Stands f x → Stands f y → Stands f (binary f x y)
  binary_stands f h x y p q = branch_stands f (binary f x y) tt (binary_clean f h x y p q)

  -- elements of f stand under it
  pub element_stands : (f : ℕ) → is_assoc sig f ≡ true → (t : RawTerm) → IsCanonical sig t → IsElement (identity_of sig f) f t → Stands f (nested sig t)
  element_stands f h t k p = record {
    clean = clean sig ok t k;
    not_identity = λ e is. element_not_identity sig ok f e t is p (fixed sig ok t k);
    not_numeral = λ n is e l. not_successor sig ok f h is;
  }

  chain_stands : (f : ℕ) → is_assoc sig f ≡ true → (t : RawTerm) (us : RawTerms) → IsCanonical sig t → IsElement (identity_of sig f) f t → AreCanonical sig us → Each (IsElement (identity_of sig f) f) us → Stands f (chain f (nested sig t) (all_nested sig us))
  chain_stands f h t nil k p ks ps = element_stands f h t k p
  chain_stands f h t (cons u us) k p ks ps = binary_stands f h _ _ (element_stands f h t k p) (chain_stands f h u us ks.0 ps.0 ks.1 ps.1)

  -- a term that stands under f, in a list of f's elements: it is clean, and where there are others an operator on arguments
  in_list : (f : ℕ) → is_assoc sig f ≡ true → (b a : RawTerms) (x : RawTerm) → AreCanonical sig b → Each (IsElement (identity_of sig f) f) b → AreCanonical sig a → Each (IsElement (identity_of sig f) f) a → Stands f x
      → Stands f (plug (context_of true f (all_nested sig b) (all_nested sig a)) x) × (IsLong (join b a) → IsBranch (plug (context_of true f (all_nested sig b) (all_nested sig a)) x))
  in_list f h nil nil x kb pb ka pa s = (s, λ l. elim l [ ])
  in_list f h nil (cons t ts) x kb pb ka pa s = (binary_stands f h x _ s (chain_stands f h t ts ka.0 pa.0 ka.1 pa.1), λ l. tt)
  in_list f h (cons b bs) a x kb pb ka pa s =
      let (r, z) = in_list f h bs a x kb.1 pb.1 ka pa s in
      let C : Context = context_of true f (all_nested sig bs) (all_nested sig a) in
      let e : plug (C ++ (frame f (cons (nested sig b) nil) nil ∷ [])) x ≡ binary f (nested sig b) (plug C x) = plug-append C (frame f (cons (nested sig b) nil) nil ∷ []) x in
      (subst (Stands f) (sym e) (binary_stands f h _ _ (element_stands f h b kb.0 pb.0) r), λ l. subst IsBranch (sym e) tt)

  clean_join : (ts us : RawTerms) → AreClean sig ts → AreClean sig us → AreClean sig (join ts us)
  clean_join nil us p q = q
  clean_join (cons t ts) us p q = (p.0, clean_join ts us p.1 q)

  branch_join : (f : ℕ) (b : RawTerms) (x : RawTerm) (a : RawTerms) → IsBranch (apply f (join b (cons x a)))
  branch_join f nil x a = tt
  branch_join f (cons t b) x a = tt

  alone_is : (b : RawTerms) (x : RawTerm) (a : RawTerms) (n : ℕ) → join b (cons x a) ≡ cons (numeral n) nil → x ≡ numeral n
  alone_is nil x a n e = cc
  alone_is (cons t nil) x a n e = cc
  alone_is (cons t (cons u b)) x a n e = cc

  identity_assoc : (f : ℕ) (e : RawTerm) → is_assoc sig f ≡ false → IsIdentity sig f e → ⊥
  identity_assoc f e h is = let (a, r, k) = ok.identity f is.operator is.identity is.is_there is.named in let l : is_assoc sig f ≡ true = rw (is.is_there) a in true≢false (sym l ∙ h)

  pub one_clean : (o : Open) (x : RawTerm) → IsClear sig o → Stands o.operator x → IsClean sig (plug (context_at sig o) x) × IsBranch (plug (context_at sig o) x)
  one_clean o x c s = by_assoc (is_assoc sig o.operator) refl
    where
      by_assoc : (m : Bool) → is_assoc sig o.operator ≡ m → IsClean sig (plug (context_of m o.operator (all_nested sig o.before) (all_nested sig o.after)) x) × IsBranch (plug (context_of m o.operator (all_nested sig o.before) (all_nested sig o.after)) x)
      by_assoc true h =
          let (r, z) = in_list o.operator h o.before o.after x c.before (c.before_elements h) c.after (c.after_elements h) s in (r.clean, z (c.others h))
      by_assoc false h = (
        (
          clean_join (all_nested sig o.before) (cons x (all_nested sig o.after)) (all_clean sig ok o.before c.before) (s.clean, all_clean sig ok o.after c.after),
          (λ e is m. identity_assoc o.operator e h is),
          (λ n is e l. s.not_numeral n is (alone_is (all_nested sig o.before) x (all_nested sig o.after) n e) l),
        ),
        branch_join o.operator (all_nested sig o.before) x (all_nested sig o.after),
      )

  clean_round : (os : List Open) (x : RawTerm) → AreClear sig os → IsBranch x → IsClean sig x → IsClean sig (plug (round sig os) x)
  clean_round [] x c b k = k
  clean_round (o ∷ os) x c b k = let (l, z) = one_clean o x c.0 (branch_stands o.operator x b k) in subst (IsClean sig) (sym (plug-append (context_at sig o) (round sig os) x)) (clean_round os _ c.1 z l)

  seen_stands : (o : Open) (t : RawTerm) → IsCanonical sig t → IsSeenBy sig o t → Stands o.operator (nested sig t)
  seen_stands o t k s = record {
    clean = clean sig ok t k;
    not_identity = λ e is q. hidden e is q;
    not_numeral = λ n is q l. s.not_numeral n is (sym (fixed sig ok t k) ∙ ap (normal_form sig) q) l;
  }
    where
      hidden : (e : RawTerm) → IsIdentity sig o.operator e → nested sig t ≡ e → ⊥
      hidden e is q =
          let (a, r, z) = ok.identity o.operator is.operator is.identity is.is_there is.named in
          let h : is_assoc sig o.operator ≡ true = rw (is.is_there) a in
          let u : is_identity (identity_of sig o.operator) (normal_form sig e) ≡ true = identity_found sig ok o.operator e is in
          let v : normal_form sig e ≡ t = ap (normal_form sig) (sym q) ∙ fixed sig ok t k in
          both_ways _ (s.not_identity h) (subst (λ x. is_identity (identity_of sig o.operator) x ≡ true) v u)

  -- the whole round a term that is seen is clean
  pub clear_clean : (os : List Open) (t : RawTerm) → AreClear sig os → IsCanonical sig t → IsSeen sig os t → IsClean sig (plug (round sig os) (nested sig t))
  clear_clean [] t c k s = clean sig ok t k
  clear_clean (o ∷ os) t c k s = let (l, z) = one_clean o (nested sig t) c.0 (seen_stands o t k s) in subst (IsClean sig) (sym (plug-append (context_at sig o) (round sig os) (nested sig t))) (clean_round os _ c.1 z l)
