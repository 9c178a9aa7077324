-- The computed sorts of an operator's arguments, one after another, and of an associative operator over them.
use Rattle.std.proofs.Common.{◌≡◌, ◌∙◌, ℕ, zero, suc, ◌<◌, ◌≤◌, List, [], ◌∷◌, ◌++◌, length, take, drop, refl, ap, sym, subst, arith}
use Rattle.std.specs.Prelude.{slice_get, Option, Some, None, Bool, true, false, cond}
use Rattle.std.proofs.lemmas.Bool.{eq-eqb}
use Rattle.std.proofs.lemmas.List.{take_all}
use Rattle.mw_logic.specs.Term.{RawTerm, RawTerms, apply, nil, cons}
use Rattle.mw_logic.specs.Terms.{terms_of}
use Rattle.mw_logic.specs.Signature.{Signature, Sorted, Operator, IsOperator, at_number, HasKind, of_operator, same, IsRawTerm, an_operator, AreRawTerms, end, next}
use Rattle.mw_logic.specs.Accepted.{IsAccepted}
use Rattle.mw_logic.specs.Parts.{is_assoc, nested, all_nested}
use Rattle.mw_logic.proofs.Canonical.{Each}
use Rattle.mw_logic.proofs.RawArguments.{IsTermOf, operator_of, own_terms}
use Rattle.mw_logic.proofs.Soundness.{is_associative}
use Rattle.mw_term.specs.declared.signature.Sorted.{Sorted as SortedHeld}
use Rattle.mw_sorting.specs.ComputedSorts.{ComputedSort, ComputedSorts, no_sorts, more_sorts, Folds, last, before, IsResultOn}
use Rattle.mw_sorting.specs.PreregularModulo.{IsOfKind, IsPreregularModulo}
use Rattle.mw_sorting.proofs.Forms.{sort_kind}
use Rattle.mw_sorting.proofs.Results.{result_kind}
use Rattle.mw_sorts.specs.Diagrams.{Level, LeadsTo, EndsIn}
use Rattle.mw_sorts.proofs.Getting.{get-none, take-get, drop-get}
use Rattle.mw_sorts.proofs.Looking.{IsLed, IsNext, led-more, led-end, all_dropped}

-- raw terms of these kinds have one at each place
pub record IsArgumentAt (sig : Signature) (t : RawTerm) (Ks : List ℕ) (i : ℕ) : Type 0 where
  pub kind : ℕ
  pub at : slice_get Ks i ≡ Some kind
  pub term : IsTermOf sig kind t

pub argument-at : (sig : Signature) (ts : List RawTerm) (Ks : List ℕ) (i : ℕ) (t : RawTerm) → AreRawTerms sig (all_nested sig (terms_of ts)) Ks → slice_get ts i ≡ Some t → IsArgumentAt sig t Ks i
argument-at sig [] Ks i t r e = absurd (get-none e)
argument-at sig (u ∷ us) Ks zero t (next {K = K} raw k rest) e = let q : u ≡ t = cc in record { kind = K; at = refl; term = subst (IsTermOf sig K) q (raw, k) }
argument-at sig (u ∷ us) Ks (suc i) t (next {Ks = Ls} raw k rest) e = let a = argument-at sig us Ls i t rest e in record { kind = a.kind; at = a.at; term = a.term }

-- as many as the kinds
pub raw-length : (sig : Signature) (ts : List RawTerm) (Ks : List ℕ) → AreRawTerms sig (all_nested sig (terms_of ts)) Ks → length ts ≡ length Ks
raw-length sig [] Ks end = refl
raw-length sig (u ∷ us) Ks (next {Ks = Ls} raw k rest) = ap suc (raw-length sig us Ls rest)

computed-more : (sig : Signature) (ts : List RawTerm) (t : RawTerm) (Ss : List Sorted) (S : Sorted) → ComputedSorts sig (terms_of ts) Ss → ComputedSort sig t S → ComputedSorts sig (terms_of (ts ++ t ∷ [])) (Ss ++ S ∷ [])
computed-more sig [] t Ss S no_sorts s = more_sorts s no_sorts
computed-more sig (u ∷ us) t Ss S (more_sorts {S = R} {Ss = Rs} r rs) s = more_sorts r (computed-more sig us t Rs S rs s)

module _ (sig : Signature) (ok : IsPreregularModulo sig) (places : List ℕ) (levels : List Level) (ends : List SortedHeld) (o : Operator) (args : List RawTerm) where
  -- the first arguments have these sorts, which lead to row q
  pub record IsWalked (i q : ℕ) : Type 0 where
    pub sorted : List Sorted
    pub computed : ComputedSorts sig (terms_of (take i args)) sorted
    pub led : IsLed sig places levels ends o sorted i q

  pub walk-start : LeadsTo sig places levels 0 o.args (EndsIn sig o ends) → IsWalked 0 0
  walk-start h = record { sorted = []; computed = no_sorts; led = h }

  -- what one argument more leads to
  pub walk-more : (i q : ℕ) (t : RawTerm) (S : Sorted) (w : IsWalked i q) → AreRawTerms sig (all_nested sig (terms_of args)) o.args → slice_get args i ≡ Some t → ComputedSort sig t S
      → (n : ℕ) × IsNext sig places levels ends o w.sorted i q S n × IsWalked (suc i) n
  walk-more i q t S w raw e s =
      let a = argument-at sig args o.args i t raw e in
      let (n, g) = led-more sig places levels ends o w.sorted i q a.kind S a.at (sort_kind sig ok.accepted ok.well_sorted a.kind t S a.term s) w.led in (
        n,
        g,
        record {
          sorted = w.sorted ++ S ∷ [];
          computed = subst (λ ts. ComputedSorts sig (terms_of ts) (w.sorted ++ S ∷ [])) (sym (take-get args i t e)) (computed-more sig (take i args) t w.sorted S w.computed s);
          led = g.led;
        },
      )

  pub walk-end : (i q : ℕ) → length args ≤ i → AreRawTerms sig (all_nested sig (terms_of args)) o.args → (w : IsWalked i q) → ComputedSorts sig (terms_of args) w.sorted × EndsIn sig o ends w.sorted q
  walk-end i q l raw w =
      let m = raw-length sig args o.args raw in
      (subst (λ ts. ComputedSorts sig (terms_of ts) w.sorted) (take_all i args l) w.computed, led-end sig places levels ends o w.sorted i q (omega (arith, l, m)) w.led)

each-at : (P : RawTerm → Type 0) (ts : List RawTerm) (i : ℕ) (t : RawTerm) → Each P (terms_of ts) → slice_get ts i ≡ Some t → P t
each-at P [] i t p e = absurd (get-none e)
each-at P (u ∷ us) zero t p e = let q : u ≡ t = cc in subst P q p.0
each-at P (u ∷ us) (suc i) t p e = each-at P us i t p.1 e

-- whether an operator is associative, as the signature has it
pub assoc-is : (sig : Signature) (f : ℕ) (o : Operator) (b : Bool) → IsOperator sig f o → o.assoc ≡ b → is_assoc sig f ≡ b
assoc-is sig f o b is e = rw is e

-- the operator of a flattened term is there
pub operator-there : (sig : Signature) (f : ℕ) (ts : RawTerms) → IsRawTerm sig (nested sig (apply f ts)) → (o : Operator) × IsOperator sig f o
operator-there sig f ts raw = by_case (at_number sig.operators f) refl
  where
    none_there : at_number sig.operators f ≡ None → IsRawTerm sig (apply f (all_nested sig ts)) → ⊥
    none_there e (an_operator o is args) = get-none (sym e ∙ is)

    by_case : (x : Option Operator) → at_number sig.operators f ≡ x → (o : Operator) × IsOperator sig f o
    by_case (Some o) e = (o, e)
    by_case None e =
        let h : is_assoc sig f ≡ false = rw e refl in
        let n : nested sig (apply f ts) ≡ apply f (all_nested sig ts) = rw h refl in
        absurd (none_there e (subst (IsRawTerm sig) n raw))

-- the arguments of one that isn't associative are raw, and of its kinds
pub plain-arguments : (sig : Signature) (f : ℕ) (o : Operator) → IsOperator sig f o → is_assoc sig f ≡ false → (ts : RawTerms) → IsRawTerm sig (nested sig (apply f ts)) → AreRawTerms sig (all_nested sig ts) o.args
plain-arguments sig f o is h ts raw =
    let n : nested sig (apply f ts) ≡ apply f (all_nested sig ts) = rw h refl in
    of (subst (IsRawTerm sig) n raw)
  where
    of : IsRawTerm sig (apply f (all_nested sig ts)) → AreRawTerms sig (all_nested sig ts) o.args
    of (an_operator p there args) = operator_of sig f (λ (q : Operator). AreRawTerms sig (all_nested sig ts) q.args) is there args

-- Those of an associative one are raw; and if they are two or more, they are of its kind.
pub chained : (sig : Signature) → IsAccepted sig → (f : ℕ) (o : Operator) → IsOperator sig f o → is_assoc sig f ≡ true → (ts : List RawTerm) → IsRawTerm sig (nested sig (apply f (terms_of ts))) → 1 < length ts → Each (IsTermOf sig o.result) (terms_of ts)
chained sig ok f o is h [] raw l = tt
chained sig ok f o is h (t ∷ []) raw l = absurd (omega (arith, l))
chained sig ok f o is h (t ∷ u ∷ us) raw l =
    let k : HasKind sig (nested sig (apply f (terms_of (t ∷ u ∷ us)))) o.result = rw h (of_operator o is same) in
    let own = own_terms sig ok f o is h (apply f (terms_of (t ∷ u ∷ us))) (raw, k) in
    subst (λ b. Each (IsTermOf sig o.result) (cond b (terms_of (t ∷ u ∷ us)) (cons (apply f (terms_of (t ∷ u ∷ us))) nil))) (eq-eqb f f refl) own

pub chained-raw : (sig : Signature) → IsAccepted sig → (f : ℕ) (o : Operator) → IsOperator sig f o → is_assoc sig f ≡ true → (ts : List RawTerm) → IsRawTerm sig (nested sig (apply f (terms_of ts))) → (i : ℕ) (t : RawTerm) → slice_get ts i ≡ Some t → IsRawTerm sig (nested sig t)
chained-raw sig ok f o is h [] raw i t e = absurd (get-none e)
chained-raw sig ok f o is h (u ∷ []) raw zero t e =
    let q : u ≡ t = cc in
    let n : nested sig (apply f (terms_of (u ∷ []))) ≡ nested sig u = rw h refl in
    subst (IsRawTerm sig) (n ∙ ap (nested sig) q) raw
chained-raw sig ok f o is h (u ∷ []) raw (suc i) t e = absurd (get-none e)
chained-raw sig ok f o is h (u ∷ v ∷ vs) raw i t e = (each-at (IsTermOf sig o.result) (u ∷ v ∷ vs) i t (chained sig ok f o is h (u ∷ v ∷ vs) raw (omega arith)) e).0

-- an associative operator stands on one argument at least
pub chained-some : (sig : Signature) → IsAccepted sig → (f : ℕ) (o : Operator) → IsOperator sig f o → is_assoc sig f ≡ true → IsRawTerm sig (nested sig (apply f nil)) → ⊥
chained-some sig ok f o is h raw =
    let (K, L, e, k, l) = ok.assoc f o is (is_associative sig ok f o is h) in
    let n : nested sig (apply f nil) ≡ apply f nil = rw h refl in
    of K L e (subst (IsRawTerm sig) n raw)
  where
    two : {K L : ℕ} → AreRawTerms sig nil (K ∷ L ∷ []) → ⊥
    two r = elim r [ ]

    of : (K L : ℕ) → o.args ≡ K ∷ L ∷ [] → IsRawTerm sig (apply f nil) → ⊥
    of K L e (an_operator p there args) = two (subst (AreRawTerms sig nil) e (operator_of sig f (λ (q : Operator). AreRawTerms sig nil q.args) is there args))

-- the fold of the arguments from number i on
pub record IsFolded (sig : Signature) (o : Operator) (args : List RawTerm) (i : ℕ) (S : Sorted) : Type 0 where
  pub folds : Folds sig o (terms_of (drop i args)) S
  pub of_kind : 1 < length args → IsOfKind sig o.result S

module _ (sig : Signature) (ok : IsPreregularModulo sig) (f : ℕ) (o : Operator) (is : IsOperator sig f o) (h : is_assoc sig f ≡ true) (args : List RawTerm) (raw : IsRawTerm sig (nested sig (apply f (terms_of args)))) where
  pub argument-kind : (i : ℕ) (t : RawTerm) (S : Sorted) → slice_get args i ≡ Some t → ComputedSort sig t S → 1 < length args → IsOfKind sig o.result S
  argument-kind i t S e s l = sort_kind sig ok.accepted ok.well_sorted o.result t S (each-at (IsTermOf sig o.result) args i t (chained sig ok.accepted f o is h args raw l) e) s

  pub folded-last : (i : ℕ) (t : RawTerm) (S : Sorted) → length args ≡ suc i → slice_get args i ≡ Some t → ComputedSort sig t S → IsFolded sig o args i S
  folded-last i t S n e s = record {
    folds = subst (λ ts. Folds sig o (terms_of ts) S) (sym (drop-get args i t e ∙ ap (λ us. t ∷ us) (all_dropped args (suc i) (omega (arith, n))))) (last s);
    of_kind = argument-kind i t S e s;
  }

  pub folded-more : (i : ℕ) (t : RawTerm) (S Q R : Sorted) → slice_get args i ≡ Some t → ComputedSort sig t S → IsFolded sig o args (suc i) Q → IsResultOn sig o (S ∷ Q ∷ []) R → IsFolded sig o args i R
  folded-more i t S Q R e s g r = record {
    folds = subst (λ ts. Folds sig o (terms_of ts) R) (sym (drop-get args i t e)) (of (drop (suc i) args) g.folds);
    of_kind = λ l. result_kind sig ok.well_sorted f o is (S ∷ Q ∷ []) R r;
  }
    where
      of : (us : List RawTerm) → Folds sig o (terms_of us) Q → Folds sig o (terms_of (t ∷ us)) R
      of [] q = elim q [ ]
      of (u ∷ us) q = before s q r
