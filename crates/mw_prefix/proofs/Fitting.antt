-- Terms whose operators take their arguments, by tests of what stands on top of these: they are those that the definition of forms asks for.
use Rattle.std.specs.Prelude.{◌≡◌, ◌<◌, ◌≤◌, ◌^◌, ◌&&◌, ℕ, List, [], ◌∷◌, Bool, true, false, nat_le, Option, Some, None, IsTrue, ⊤, if◌then◌else◌, refl, codes}
use Rattle.std.proofs.Common.{sym, subst, ◌∙◌, arith}
use Rattle.std.proofs.lemmas.Bool.{and_parts, and_from, leb-true, le-leb, eq-eqb, eqb-true}
use Rattle.mw_lex.specs.Texts.{IsProper}
use Rattle.mw_logic.specs.Term.{RawTerm, numeral, quoted, variable, apply, RawTerms, nil, cons}
use Rattle.mw_logic.specs.Signature.{Signature, Operator, at_number, IsOperator, same, HasKind, of_numeral, of_quoted, of_operator, IsRawTerm, a_numeral, a_quoted, an_operator, AreRawTerms, end, next}
use Rattle.mw_logic.specs.Accepted.{IsAccepted}
use Rattle.mw_logic.specs.Parts.{is_assoc, nested, all_nested, chain, number_of_terms}
use Rattle.mw_logic.proofs.Canonical.{Each, assoc_operator}
use Rattle.mw_logic.proofs.KindLaws.{SameKind-sym, kind_number-same, kind_number-sound}
use Rattle.mw_logic.proofs.RawArguments.{IsTermOf}
use Rattle.mw_logic.proofs.RawKept.{raw_pair, pair_raw}
use Rattle.mw_logic.proofs.Soundness.{HasKind-same}
use Rattle.mw_text.specs.Mixfix.{IsIdentifier}
use Rattle.mw_print.specs.PrefixLaws.{IsTold, AreTold}
use Rattle.mw_prefix.specs.Forms.{HasSeveral, HaveSeveral}
use Rattle.mw_prefix.specs.Taking.{gives, is_of_kind, are_of_kind, are_of_kinds, operator_takes, takes}
use Rattle.mw_prefix.proofs.KindTests.{named_kind, kind_named}

module _ (sig : Signature) where
  abbrev mutual
    pub Fits : RawTerm → Type 0
    Fits (numeral n) = IsTrue sig.nat × (n < 2 ^ 128)
    Fits (quoted q) = IsTrue sig.qid × IsIdentifier q × IsProper q
    Fits (variable x) = ⊥
    Fits (apply f ts) = (takes sig f ts ≡ true) × (f < 2 ^ 128) × AllFit ts

    pub AllFit : RawTerms → Type 0
    AllFit nil = ⊤
    AllFit (cons t ts) = Fits t × AllFit ts

  mutual
    pub fit_told : (t : RawTerm) → Fits t → IsTold t
    fit_told (numeral n) w = w.1
    fit_told (quoted q) w = (w.1, w.2)
    fit_told (variable x) w = w
    fit_told (apply f ts) w = (w.1, fits_told ts w.2)

    fits_told : (ts : RawTerms) → AllFit ts → AreTold ts
    fits_told nil w = tt
    fits_told (cons t ts) w = (fit_told t w.0, fits_told ts w.1)

  -- what an operator that takes arguments is, and what these are
  pub data Takes (f : ℕ) (ts : RawTerms) : Type 0 where
    associative : (o : Operator) → IsOperator sig f o → o.assoc ≡ true → 2 ≤ number_of_terms ts → are_of_kind sig o.result ts ≡ true → Takes f ts
    plain : (o : Operator) → IsOperator sig f o → o.assoc ≡ false → are_of_kinds sig o.args ts ≡ true → Takes f ts

  pub taken_so : (f : ℕ) (ts : RawTerms) → takes sig f ts ≡ true → Takes f ts
  taken_so f ts h = of (at_number sig.operators f) refl h
    where
      by_axiom : (o : Operator) → IsOperator sig f o → (b : Bool) → o.assoc ≡ b → (if b then nat_le 2 (number_of_terms ts) && are_of_kind sig o.result ts else are_of_kinds sig o.args ts) ≡ true → Takes f ts
      by_axiom o is true e h = let p = and_parts (nat_le 2 (number_of_terms ts)) (are_of_kind sig o.result ts) h in associative o is e (leb-true 2 (number_of_terms ts) p.0) p.1
      by_axiom o is false e h = plain o is e h

      of : (o : Option Operator) → at_number sig.operators f ≡ o → operator_takes sig o ts ≡ true → Takes f ts
      of None e h = cc
      of (Some o) e h = by_axiom o e o.assoc refl h

  so_taken : (f : ℕ) (ts : RawTerms) → Takes f ts → takes sig f ts ≡ true
  so_taken f ts (associative o is a n k) = rw (is, a) (and_from _ _ (le-leb 2 (number_of_terms ts) n) k)
  so_taken f ts (plain o is a k) = rw (is, a) k

  pub assoc_is : (f : ℕ) (o : Operator) → IsOperator sig f o → is_assoc sig f ≡ o.assoc
  assoc_is f o is = rw is refl

  -- operators that are associative take two or more
  takes_several : (f : ℕ) (ts : RawTerms) → Takes f ts → is_assoc sig f ≡ true → 2 ≤ number_of_terms ts
  takes_several f ts (associative o is a n k) h = n
  takes_several f ts (plain o is a k) h = cc (assoc_is f o is)

  mutual
    pub fit_several : (t : RawTerm) → Fits t → HasSeveral sig t
    fit_several (numeral n) w = tt
    fit_several (quoted q) w = tt
    fit_several (variable x) w = tt
    fit_several (apply f ts) w = (takes_several f ts (taken_so f ts w.0), fits_several ts w.2)

    fits_several : (ts : RawTerms) → AllFit ts → HaveSeveral sig ts
    fits_several nil w = tt
    fits_several (cons t ts) w = (fit_several t w.0, fits_several ts w.1)

  -- an operator stays on top of its arguments, nested
  nested_top : (f : ℕ) (ts : RawTerms) → (is_assoc sig f ≡ true → 2 ≤ number_of_terms ts) → (us : RawTerms) × (nested sig (apply f ts) ≡ apply f us)
  nested_top f ts h = of (is_assoc sig f) refl
    where
      of_several : (ts : RawTerms) → is_assoc sig f ≡ true → 2 ≤ number_of_terms ts → (us : RawTerms) × (nested sig (apply f ts) ≡ apply f us)
      of_several nil e n = absurd (omega (arith, n))
      of_several (cons t nil) e n = absurd (omega (arith, n))
      of_several (cons t (cons u us)) e n = (cons (nested sig t) (cons (chain f (nested sig u) (all_nested sig us)) nil), rw e refl)

      of : (b : Bool) → is_assoc sig f ≡ b → (us : RawTerms) × (nested sig (apply f ts) ≡ apply f us)
      of false e = (all_nested sig ts, rw e refl)
      of true e = of_several ts e (h e)

  -- its kind is that of its top
  kind_shown : (t : RawTerm) (K : ℕ) → HasSeveral sig t → is_of_kind sig K t ≡ true → HasKind sig (nested sig t) K
  kind_shown (numeral n) K s h = let (b, S, at, k) = named_kind sig sig.nat (codes "Nat") K h in of_numeral S at b k
  kind_shown (quoted q) K s h = let (b, S, at, k) = named_kind sig sig.qid (codes "Qid") K h in of_quoted S at b k
  kind_shown (variable x) K s h = cc
  kind_shown (apply f ts) K s h = of (at_number sig.operators f) refl h
    where
      of : (o : Option Operator) → at_number sig.operators f ≡ o → gives sig K o ≡ true → HasKind sig (nested sig (apply f ts)) K
      of None e h = cc
      of (Some o) e h = let (us, is) = nested_top f ts s.0 in subst (λ t. HasKind sig t K) (sym is) (of_operator o e (kind_number-sound sig o.result K (eqb-true _ _ h)))

  top_seen : (f : ℕ) (us : RawTerms) (K : ℕ) → HasKind sig (apply f us) K → gives sig K (at_number sig.operators f) ≡ true
  top_seen f us K (of_operator o e k) = rw e (eq-eqb _ _ (kind_number-same k))

  kind_seen : (t : RawTerm) (K : ℕ) → IsTold t → HasSeveral sig t → HasKind sig (nested sig t) K → is_of_kind sig K t ≡ true
  kind_seen (numeral n) K w s (of_numeral S at b k) = kind_named sig sig.nat (codes "Nat") S K b at k
  kind_seen (quoted q) K w s (of_quoted S at b k) = kind_named sig sig.qid (codes "Qid") S K b at k
  kind_seen (variable x) K w s k = absurd w
  kind_seen (apply f ts) K w s k = let (us, is) = nested_top f ts s.0 in top_seen f us K (subst (λ t. HasKind sig t K) is k)

module _ (sig : Signature) (ok : IsAccepted sig) where
  -- The arguments of an associative operator are of its kind, nested and side by side.
  module _ (f : ℕ) (o : Operator) (is : IsOperator sig f o) (a : o.assoc ≡ true) where
    chain_raw : (t : RawTerm) (ts : RawTerms) → Each (IsTermOf sig o.result) (cons t ts) → IsRawTerm sig (chain f (nested sig t) (all_nested sig ts)) × HasKind sig (chain f (nested sig t) (all_nested sig ts)) o.result
    chain_raw t nil p = p.0
    chain_raw t (cons u us) p =
        let (K, L, e, x, y) = ok.assoc f o is a in
        let (r, k) = chain_raw u us p.1 in
        (pair_raw sig ok f o K L (nested sig t) (chain f (nested sig u) (all_nested sig us)) is e p.0.0 (HasKind-same p.0.1 (SameKind-sym x)) r (HasKind-same k (SameKind-sym y)), of_operator o is same)

    pub raw_chain : (t : RawTerm) (ts : RawTerms) → (IsRawTerm sig (chain f (nested sig t) (all_nested sig ts)) × HasKind sig (chain f (nested sig t) (all_nested sig ts)) o.result) → Each (IsTermOf sig o.result) (cons t ts)
    raw_chain t nil r = (r, tt)
    raw_chain t (cons u us) r =
        let (K, L, e, x, y) = ok.assoc f o is a in
        let (rt, kt, ru, ku) = raw_pair sig ok f o K L (nested sig t) (chain f (nested sig u) (all_nested sig us)) is e r.0 in
        ((rt, HasKind-same kt x), raw_chain u us (ru, HasKind-same ku y))

    pub nested_chain : (t u : RawTerm) (us : RawTerms) → nested sig (apply f (cons t (cons u us))) ≡ chain f (nested sig t) (all_nested sig (cons u us))
    nested_chain t u us = let e = assoc_is sig f o is ∙ a in rw e refl

  pub nested_plain : (f : ℕ) (ts : RawTerms) → is_assoc sig f ≡ false → nested sig (apply f ts) ≡ apply f (all_nested sig ts)
  nested_plain f ts e = rw e refl

  -- What fits is a raw term.
  abbrev IsGood : RawTerm → Type 0
  IsGood t = IsRawTerm sig (nested sig t) × HasSeveral sig t

  all_raw : (Ks : List ℕ) (ts : RawTerms) → are_of_kinds sig Ks ts ≡ true → Each IsGood ts → AreRawTerms sig (all_nested sig ts) Ks
  all_raw [] nil h g = end
  all_raw [] (cons t ts) h g = cc
  all_raw (K ∷ Ks) nil h g = cc
  all_raw (K ∷ Ks) (cons t ts) h g =
      let p = and_parts (is_of_kind sig K t) (are_of_kinds sig Ks ts) h in
      next g.0.0 (kind_shown sig t K g.0.1 p.0) (all_raw Ks ts p.1 g.1)

  each_raw : (K : ℕ) (ts : RawTerms) → are_of_kind sig K ts ≡ true → Each IsGood ts → Each (IsTermOf sig K) ts
  each_raw K nil h g = tt
  each_raw K (cons t ts) h g =
      let p = and_parts (is_of_kind sig K t) (are_of_kind sig K ts) h in
      ((g.0.0, kind_shown sig t K g.0.1 p.0), each_raw K ts p.1 g.1)

  chained_raw : (f : ℕ) (o : Operator) → IsOperator sig f o → o.assoc ≡ true → (ts : RawTerms) → 2 ≤ number_of_terms ts → Each (IsTermOf sig o.result) ts → IsRawTerm sig (nested sig (apply f ts))
  chained_raw f o is a nil n g = absurd (omega (arith, n))
  chained_raw f o is a (cons t nil) n g = absurd (omega (arith, n))
  chained_raw f o is a (cons t (cons u us)) n g = subst (IsRawTerm sig) (sym (nested_chain f o is a t u us)) (chain_raw f o is a t (cons u us) g).0

  applied_raw : (f : ℕ) (ts : RawTerms) → Takes sig f ts → Each IsGood ts → IsRawTerm sig (nested sig (apply f ts))
  applied_raw f ts (associative o is a n k) g = chained_raw f o is a ts n (each_raw o.result ts k g)
  applied_raw f ts (plain o is a k) g = subst (IsRawTerm sig) (sym (nested_plain f ts (assoc_is sig f o is ∙ a))) (an_operator o is (all_raw o.args ts k g))

  mutual
    pub fit_raw : (t : RawTerm) → Fits sig t → IsRawTerm sig (nested sig t)
    fit_raw (numeral n) w = a_numeral w.0 w.1
    fit_raw (quoted q) w = a_quoted w.0
    fit_raw (variable x) w = absurd w
    fit_raw (apply f ts) w = applied_raw f ts (taken_so sig f ts w.0) (fits_raw ts w.2)

    fits_raw : (ts : RawTerms) → AllFit sig ts → Each IsGood ts
    fits_raw nil w = tt
    fits_raw (cons t ts) w = ((fit_raw t w.0, fit_several sig t w.0), fits_raw ts w.1)

  -- And what is one, fits.
  abbrev pub AreRaw : RawTerms → Type 0
  AreRaw ts = Each (λ t. IsRawTerm sig (nested sig t)) ts

  kinds_seen : (Ks : List ℕ) (ts : RawTerms) → AreTold ts → HaveSeveral sig ts → AreRawTerms sig (all_nested sig ts) Ks → (are_of_kinds sig Ks ts ≡ true) × AreRaw ts
  kinds_seen Ks nil w s end = (refl, tt)
  kinds_seen Ks (cons t ts) w s (next {K} {Ks = Ls} r k rest) =
      let p = kinds_seen Ls ts w.1 s.1 rest in
      (and_from _ _ (kind_seen sig t K w.0 s.0 k) p.0, (r, p.1))

  kind_seen_all : (K : ℕ) (ts : RawTerms) → AreTold ts → HaveSeveral sig ts → Each (IsTermOf sig K) ts → (are_of_kind sig K ts ≡ true) × AreRaw ts
  kind_seen_all K nil w s g = (refl, tt)
  kind_seen_all K (cons t ts) w s g =
      let p = kind_seen_all K ts w.1 s.1 g.1 in
      (and_from _ _ (kind_seen sig t K w.0 s.0 g.0.1) p.0, (g.0.0, p.1))

  chained_seen : (f : ℕ) (o : Operator) → IsOperator sig f o → o.assoc ≡ true → (ts : RawTerms) → 2 ≤ number_of_terms ts → AreTold ts → HaveSeveral sig ts → IsRawTerm sig (nested sig (apply f ts)) → Takes sig f ts × AreRaw ts
  chained_seen f o is a nil n w s r = absurd (omega (arith, n))
  chained_seen f o is a (cons t nil) n w s r = absurd (omega (arith, n))
  chained_seen f o is a (cons t (cons u us)) n w s r =
      let each = raw_chain f o is a t (cons u us) (subst (IsRawTerm sig) (nested_chain f o is a t u us) r, of_operator o is same) in
      let p = kind_seen_all o.result (cons t (cons u us)) w s each in
      (associative o is a n p.0, p.1)

  plain_seen : (f : ℕ) (ts : RawTerms) → is_assoc sig f ≡ false → AreTold ts → HaveSeveral sig ts → IsRawTerm sig (apply f (all_nested sig ts)) → Takes sig f ts × AreRaw ts
  plain_seen f ts e w s (an_operator o is args) = let p = kinds_seen o.args ts w s args in (plain o is (sym (assoc_is sig f o is) ∙ e) p.0, p.1)

  applied_seen : (f : ℕ) (ts : RawTerms) → HasSeveral sig (apply f ts) → AreTold ts → IsRawTerm sig (nested sig (apply f ts)) → Takes sig f ts × AreRaw ts
  applied_seen f ts s w r = of (is_assoc sig f) refl
    where
      of : (b : Bool) → is_assoc sig f ≡ b → Takes sig f ts × AreRaw ts
      of true e = let (o, is, a) = assoc_operator sig f e in chained_seen f o is a ts (s.0 e) w s.1 r
      of false e = plain_seen f ts e w s.1 (subst (IsRawTerm sig) (nested_plain f ts e) r)

  mutual
    pub raw_fit : (t : RawTerm) → IsTold t → HasSeveral sig t → IsRawTerm sig (nested sig t) → Fits sig t
    raw_fit (numeral n) w s (a_numeral b l) = (b, l)
    raw_fit (quoted q) w s (a_quoted b) = (b, w.0, w.1)
    raw_fit (variable x) w s r = absurd w
    raw_fit (apply f ts) w s r = let p = applied_seen f ts s w.1 r in (so_taken sig f ts p.0, w.0, raws_fit ts w.1 s.1 p.1)

    raws_fit : (ts : RawTerms) → AreTold ts → HaveSeveral sig ts → AreRaw ts → AllFit sig ts
    raws_fit nil w s r = tt
    raws_fit (cons t ts) w s r = (raw_fit t w.0 s.0 r.0, raws_fit ts w.1 s.1 r.1)
