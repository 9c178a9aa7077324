-- In a well-formed module a proof leads a raw term to a raw term of its kinds.
use Rattle.std.specs.Prelude.{◌≡◌, ◌⊎◌, ℕ, zero, suc, ◌+◌, ◌-◌, ◌*◌, ◌/◌, ◌%◌, ◌^◌, ◌<◌, min, max, List, [], ◌∷◌, Bool, true, false, nat_lt, cond, refl, codes}
use Rattle.std.proofs.Common.{inl, inr, arith, ap, subst, sym, ◌∙◌}
use Rattle.std.proofs.lemmas.Bool.{ltb-true}
use Rattle.std.proofs.lemmas.Nat.{div_below, mod_below}
use Rattle.mw_logic.specs.Term.{RawTerm, numeral, apply, RawTerms, cons, constant, binary, Context}
use Rattle.mw_logic.specs.Term as term
use Rattle.mw_logic.specs.Signature.{Signature, Operator, IsOperator, SameKind, HasKind, of_numeral, of_operator, IsRawTerm, a_numeral, an_operator, AreRawTerms, end, next}
use Rattle.mw_logic.specs.Substitution.{Substitution, instance}
use Rattle.mw_logic.specs.Module.{Module, Fragment, BuiltIn, result_of, Result, number, truth, nothing, too_big, sort_of_result, IsBuiltIn, IsTruth, IsPolymorphic, Row, AreKindsOf}
use Rattle.mw_logic.specs.Module as schema
use Rattle.mw_logic.specs.Proof.{Proof, reflexivity, equality, congruence, transitivity, replacement, row, Proofs}
use Rattle.mw_logic.specs.Proof as proof
use Rattle.mw_logic.specs.Judgements.{StepTest, Replaces, Leads, LeadsIn, Proves, judgements_with}
use Rattle.mw_logic.specs.Parts.{ReplacesPart}
use Rattle.mw_logic.specs.WellFormed.{IsWellFormed}
use Rattle.mw_logic.proofs.KindLaws.{SameKind-trans, SameKind-sym, SameKind-equal}
use Rattle.mw_logic.proofs.Canonical.{same_operator}
use Rattle.mw_logic.proofs.Soundness.{HasKind-same}
use Rattle.mw_logic.proofs.RawKept.{kind_unique, AreRawAlike, raw_kept}
use Rattle.mw_logic.proofs.InstanceLaws.{instance_kind}
use Rattle.mw_logic.proofs.SolutionLaws.{substitution_kinds, instance_raw}

-- a number that the table gives of numerals is one
bounded_number : (n k : ℕ) → schema.bounded n ≡ number k → k < 2 ^ 128
bounded_number n k e = by_test (nat_lt n (2 ^ 128)) refl e
  where
    inj : {n k : ℕ} → number n ≡ number k → n ≡ k
    inj e = cc

    by_test : (b : Bool) → nat_lt n (2 ^ 128) ≡ b → cond b (number n) too_big ≡ number k → k < 2 ^ 128
    by_test true h e = let i : n ≡ k = inj e in let l : n < 2 ^ 128 = ltb-true _ _ h in omega (arith, i, l)
    by_test false h e = cc

number_inj : {n k : ℕ} → number n ≡ number k → n ≡ k
number_inj e = cc

table_number : (b : BuiltIn) (m n k : ℕ) → m < 2 ^ 128 → n < 2 ^ 128 → result_of b m n ≡ number k → k < 2 ^ 128
table_number BuiltIn.plus m n k l r e = bounded_number (m + n) k e
table_number BuiltIn.times m n k l r e = bounded_number (m * n) k e
table_number BuiltIn.difference m n k l r e = let i : max m n - min m n ≡ k = number_inj e in omega (arith, i, l, r)
table_number BuiltIn.quotient m zero k l r e = cc
table_number BuiltIn.quotient m (suc n) k l r e = let i : m / suc n ≡ k = number_inj e in let d : m / suc n < 2 ^ 128 = div_below m (suc n) (2 ^ 128) (omega arith) (omega (arith, l)) in omega (arith, i, d)
table_number BuiltIn.remainder m zero k l r e = cc
table_number BuiltIn.remainder m (suc n) k l r e = let i : m % suc n ≡ k = number_inj e in let d : m % suc n < suc n = mod_below m (suc n) (omega arith) in omega (arith, i, d, r)
table_number BuiltIn.least m n k l r e = let i : min m n ≡ k = number_inj e in omega (arith, i, l)
table_number BuiltIn.greatest m n k l r e = let i : max m n ≡ k = number_inj e in omega (arith, i, l, r)
table_number BuiltIn.less_than m n k l r e = cc
table_number BuiltIn.at_most m n k l r e = cc
table_number BuiltIn.more_than m n k l r e = cc
table_number BuiltIn.at_least m n k l r e = cc

table_sort : (b : BuiltIn) (m n k : ℕ) → result_of b m n ≡ number k → sort_of_result b ≡ codes "Nat"
table_sort BuiltIn.plus m n k e = refl
table_sort BuiltIn.times m n k e = refl
table_sort BuiltIn.difference m n k e = refl
table_sort BuiltIn.quotient m n k e = refl
table_sort BuiltIn.remainder m n k e = refl
table_sort BuiltIn.least m n k e = refl
table_sort BuiltIn.greatest m n k e = refl
table_sort BuiltIn.less_than m n k e = cc
table_sort BuiltIn.at_most m n k e = cc
table_sort BuiltIn.more_than m n k e = cc
table_sort BuiltIn.at_least m n k e = cc

no_truth : (n : ℕ) (c : Bool) → schema.bounded n ≡ truth c → ⊥
no_truth n c e = by_test (nat_lt n (2 ^ 128)) e
  where
    by_test : (b : Bool) → cond b (number n) too_big ≡ truth c → ⊥
    by_test true e = cc
    by_test false e = cc

table_truth : (b : BuiltIn) (m n : ℕ) (c : Bool) → result_of b m n ≡ truth c → sort_of_result b ≡ codes "Bool"
table_truth BuiltIn.plus m n c e = absurd (no_truth (m + n) c e)
table_truth BuiltIn.times m n c e = absurd (no_truth (m * n) c e)
table_truth BuiltIn.difference m n c e = cc
table_truth BuiltIn.quotient m zero c e = cc
table_truth BuiltIn.quotient m (suc n) c e = cc
table_truth BuiltIn.remainder m zero c e = cc
table_truth BuiltIn.remainder m (suc n) c e = cc
table_truth BuiltIn.least m n c e = cc
table_truth BuiltIn.greatest m n c e = cc
table_truth BuiltIn.less_than m n c e = refl
table_truth BuiltIn.at_most m n c e = refl
table_truth BuiltIn.more_than m n c e = refl
table_truth BuiltIn.at_least m n c e = refl

module _ (M : Module) (well : IsWellFormed M) where
  sig : Signature
  sig = M.signature

  -- two operators that give kinds of one name give one kind
  same_result : (S T K : ℕ) (name : List ℕ) → AreKindsOf M.signature (S ∷ []) (name ∷ []) → AreKindsOf M.signature (T ∷ []) (name ∷ []) → SameKind M.signature T K → SameKind M.signature S K
  same_result S T K name (A, n, p, e) (B, m, q, d) k =
      SameKind-trans (SameKind-sym p) (SameKind-trans (SameKind-equal (well.accepted.sorts_differ A B name n m)) (SameKind-trans q k))

  -- a truth value, in place of what gives one
  truth_alike : (b : Bool) (f : ℕ) (o : Operator) (ts : RawTerms) (r : RawTerm) → IsOperator M.signature f o → AreKindsOf M.signature (o.result ∷ []) (codes "Bool" ∷ []) → IsTruth M.signature b r →
      AreRawAlike M.signature well.accepted (apply f ts) r
  truth_alike b f o ts r there gives (c, e, named) =
      subst (λ r. AreRawAlike M.signature well.accepted (apply f ts) r) (sym e)
      ((λ raw. an_operator named.operator named.is_there (no_arguments named.operator.args named.of_kinds)), kind)
    where
      no_arguments : (Ks : List ℕ) → AreKindsOf M.signature Ks [] → AreRawTerms M.signature term.nil Ks
      no_arguments [] a = end
      no_arguments (K ∷ Ks) a = elim a [ ]

      kind : (K : ℕ) → HasKind M.signature (apply f ts) K → HasKind M.signature (constant c) K
      kind K (of_operator p found k) =
          of_operator named.operator named.is_there
          (same_result named.operator.result o.result K (codes "Bool") named.gives gives (subst (λ (p : Operator). SameKind M.signature p.result K) (same_operator M.signature f p o found there) k))

  arithmetic_alike : (b : BuiltIn) (f m n : ℕ) (r : RawTerm) → IsBuiltIn M.signature f b → schema.Denotes M.signature (result_of b m n) r → AreRawAlike M.signature well.accepted (binary f (numeral m) (numeral n)) r
  arithmetic_alike b f m n r (nat, named) d = by_result (result_of b m n) refl d
    where
      numerals : IsRawTerm M.signature (binary f (numeral m) (numeral n)) → (m < 2 ^ 128) × (n < 2 ^ 128)
      numerals (an_operator o e (next (a_numeral c l) j (next (a_numeral d r) k end))) = (l, r)

      kind : (k : ℕ) → sort_of_result b ≡ codes "Nat" → (K : ℕ) → HasKind M.signature (binary f (numeral m) (numeral n)) K → HasKind M.signature (numeral k) K
      kind k s K (of_operator p found q) =
          let (A, n, t, u) = subst (λ name. AreKindsOf M.signature (named.operator.result ∷ []) (name ∷ [])) s named.gives in
          of_numeral A n nat (SameKind-trans t (subst (λ (p : Operator). SameKind M.signature p.result K) (same_operator M.signature f p named.operator found named.is_there) q))

      by_result : (res : Result) → result_of b m n ≡ res → schema.Denotes M.signature res r → AreRawAlike M.signature well.accepted (binary f (numeral m) (numeral n)) r
      by_result (number k) e d =
          subst (λ r. AreRawAlike M.signature well.accepted (binary f (numeral m) (numeral n)) r) (sym d)
          ((λ raw. let (l, r) = numerals raw in a_numeral nat (table_number b m n k l r e)), (λ K h. kind k (table_sort b m n k e) K h))
      by_result (truth c) e d = truth_alike c f named.operator (cons (numeral m) (cons (numeral n) term.nil)) r named.is_there (subst (λ name. AreKindsOf M.signature (named.operator.result ∷ []) (name ∷ [])) (table_truth b m n c e) named.gives) d
      by_result nothing e d = absurd d
      by_result too_big e d = absurd d

  test_gives : (f : ℕ) (o : Operator) → IsOperator M.signature f o → (name : List ℕ) (p : IsPolymorphic M.signature f name) → (name ≡ codes "_==_") ⊎ (name ≡ codes "_=/=_") → AreKindsOf M.signature (p.0.result ∷ []) (codes "Bool" ∷ [])
  test_gives f o there name (p, found, spelled, built) w = well.tests f p found built (elim w [ inl e ↦ inl (spelled ∙ e) | inr e ↦ inr (spelled ∙ e) ])

  -- from a raw term to a raw term of its kinds
  abbrev pub LedRaw : RawTerm → RawTerm → Type 0
  LedRaw t u = IsRawTerm M.signature t → IsRawTerm M.signature u × ((K : ℕ) → HasKind M.signature t K → HasKind M.signature u K)

  led_alike : (t u : RawTerm) → AreRawAlike M.signature well.accepted t u → LedRaw t u
  led_alike t u a r = (a.0 r, a.1)

  choice_led : (f : ℕ) (c u v : RawTerm) → IsPolymorphic M.signature f (codes "if_then_else_fi") → LedRaw (apply f (cons c (cons u (cons v term.nil)))) u × LedRaw (apply f (cons c (cons u (cons v term.nil)))) v
  choice_led f c u v (o, found, spelled, built) = ((λ r. let (a, b, d, e) = both r in (a, b)), (λ r. let (a, b, d, e) = both r in (d, e)))
    where
      T : RawTerm
      T = apply f (cons c (cons u (cons v term.nil)))

      three : {B K L : ℕ} → AreRawTerms M.signature (cons c (cons u (cons v term.nil))) (B ∷ K ∷ L ∷ []) → IsRawTerm M.signature u × HasKind M.signature u K × IsRawTerm M.signature v × HasKind M.signature v L
      three (next a h (next b j (next d k end))) = (b, j, d, k)

      result_kind : (K : ℕ) → HasKind M.signature T K → SameKind M.signature o.result K
      result_kind K (of_operator p there k) = subst (λ (p : Operator). SameKind M.signature p.result K) (same_operator M.signature f p o there found) k

      both : IsRawTerm M.signature T → IsRawTerm M.signature u × ((K : ℕ) → HasKind M.signature T K → HasKind M.signature u K) × IsRawTerm M.signature v × ((K : ℕ) → HasKind M.signature T K → HasKind M.signature v K)
      both (an_operator p there args) =
          let (B, K, L, e, q, r) = well.choices f o found built spelled in
          let (a, b, d, g) = three (subst (λ Ks. AreRawTerms M.signature (cons c (cons u (cons v term.nil))) Ks) (ap (λ (o : Operator). o.args) (same_operator M.signature f p o there found) ∙ e) args) in
          (a, (λ N k. HasKind-same b (SameKind-trans q (result_kind N k))), d, (λ N k. HasKind-same g (SameKind-trans r (result_kind N k))))

  row_led : {N : RawTerm → Type 0} (t u : RawTerm) → Row M.signature N t u → LedRaw t u
  row_led t u (schema.arithmetic {f} {m} {n} b is d) = led_alike t u (arithmetic_alike b f m n u is d)
  row_led t u (schema.equal_terms {f} p e d) = led_alike t u (truth_alike true f p.0 _ u p.1 (test_gives f p.0 p.1 _ p (inl refl)) d)
  row_led t u (schema.unequal_terms {f} p n m e d) = led_alike t u (truth_alike false f p.0 _ u p.1 (test_gives f p.0 p.1 _ p (inl refl)) d)
  row_led t u (schema.not_different {f} p e d) = led_alike t u (truth_alike false f p.0 _ u p.1 (test_gives f p.0 p.1 _ p (inr refl)) d)
  row_led t u (schema.different {f} p n m e d) = led_alike t u (truth_alike true f p.0 _ u p.1 (test_gives f p.0 p.1 _ p (inr refl)) d)
  row_led t u (schema.if_true {f} {c} {u = a} {v = b} p d) = (choice_led f c a b p).0
  row_led t u (schema.if_false {f} {c} {u = a} {v = b} p d) = (choice_led f c a b p).1

  module _ (Step : StepTest) (H : List Fragment → Substitution → Proofs → Substitution → Type 0) (F : List Fragment → Substitution → Type 0) where
    replacement_led : (k : ℕ) (r : Bool) (s : Substitution) (es : Proofs) (t u : RawTerm) → Replaces M H F k r s es t u → LedRaw t u
    replacement_led k r s es t u x raw =
        let (l, g, K, a, b) = well.statements k x.statement x.is_there in
        let kinds : _ = substitution_kinds M.signature well.accepted well.sorted s x.substitution in (
          subst (IsRawTerm M.signature) (sym x.to) (instance_raw M.signature well.accepted well.sorted s x.substitution g),
          (λ L h.
              let left : HasKind M.signature (instance s x.statement.left) K = instance_kind M.signature s kinds a in
              let same : SameKind M.signature K L = kind_unique M.signature well.accepted left (subst (λ t. HasKind M.signature t L) x.from h) in
              subst (λ u. HasKind M.signature u L) (sym x.to) (HasKind-same (instance_kind M.signature s kinds b) same)),
        )

    mutual
      -- a proof leads a raw term to a raw term of its kinds
      pub leads_raw : (p : Proof) (C : Context) (t u : RawTerm) → Leads M Step H F C p t u → LedRaw t u
      leads_raw reflexivity C t u l raw = subst (λ u. IsRawTerm M.signature u × ((K : ℕ) → HasKind M.signature t K → HasKind M.signature u K)) l (raw, λ K k. k)
      leads_raw equality C t u l raw = let a : _ = raw_kept M.signature well.accepted l in (a.0 raw, a.1)
      leads_raw (transitivity p q) C t u (m, a, b) raw = let (r, k) = leads_raw p C t m a raw in let (s, l) = leads_raw q C m u b r in (s, λ K h. l K (k K h))
      leads_raw (congruence ps) C t u (f, ts, us, a, b, l) raw =
          subst (λ u. IsRawTerm M.signature u × ((K : ℕ) → HasKind M.signature t K → HasKind M.signature u K)) (sym b)
          (subst (λ t. IsRawTerm M.signature (apply f us) × ((K : ℕ) → HasKind M.signature t K → HasKind M.signature (apply f us) K)) (sym a)
          (under f ts us (λ Ks. arguments_raw ps C f term.nil ts us l) (subst (IsRawTerm M.signature) a raw), kind f ts us))
        where
          under : (f : ℕ) (ts us : RawTerms) → ((Ks : List ℕ) → AreRawTerms M.signature ts Ks → AreRawTerms M.signature us Ks) → IsRawTerm M.signature (apply f ts) → IsRawTerm M.signature (apply f us)
          under f ts us h (an_operator o e args) = an_operator o e (h o.args args)

          kind : (f : ℕ) (ts us : RawTerms) (K : ℕ) → HasKind M.signature (apply f ts) K → HasKind M.signature (apply f us) K
          kind f ts us K (of_operator o e k) = of_operator o e k
      leads_raw (replacement k r s es) C t u (x, step) raw = replacement_led k r s es t u x raw
      leads_raw row C t u (x, c, step) raw = row_led t u x raw

      arguments_raw : (ps : Proofs) (C : Context) (f : ℕ) (finished ts us : RawTerms) → LeadsIn M Step H F C f finished ps ts us → {Ks : List ℕ} → AreRawTerms M.signature ts Ks → AreRawTerms M.signature us Ks
      arguments_raw proof.nil C f finished ts us (a, b) {Ks} raw = subst (λ us. AreRawTerms M.signature us Ks) (sym b) (subst (λ ts. AreRawTerms M.signature ts Ks) a raw)
      arguments_raw (proof.cons p ps) C f finished ts us (t, u, ts', us', a, b, l, more) {Ks} raw =
          subst (λ us. AreRawTerms M.signature us Ks) (sym b) (step (subst (λ ts. AreRawTerms M.signature ts Ks) a raw) (leads_raw p _ t u l) (λ Ls r. arguments_raw ps C f _ ts' us' more {Ks = Ls} r))
        where
          step : {Ks : List ℕ} → AreRawTerms M.signature (cons t ts') Ks → LedRaw t u → ((Ls : List ℕ) → AreRawTerms M.signature ts' Ls → AreRawTerms M.signature us' Ls) → AreRawTerms M.signature (cons u us') Ks
          step (next {K} {Ks = Ls} r k rest) h g = let (s, l) = h r in next s (l K k) (g Ls rest)

-- so what a raw term is proved to become is raw, at each rank
pub Proves-raw : (M : Module) → IsWellFormed M → (n : ℕ) (p : Proof) (t u : RawTerm) → Proves M n p t u → IsRawTerm M.signature t → IsRawTerm M.signature u × ((K : ℕ) → HasKind M.signature t K → HasKind M.signature u K)
unfolding judgements_with
Proves-raw M well zero p t u l raw = leads_raw M well (ReplacesPart M.signature) _ _ p [] t u l raw
Proves-raw M well (suc n) p t u l raw = leads_raw M well (ReplacesPart M.signature) _ _ p [] t u l raw
