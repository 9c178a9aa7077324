-- Sets, the module SET: E below S, constants a and b of E and mt of S, and an operator on S with assoc, comm and id: mt. And SETR, with the rule mt => a.
use Rattle.std.specs.Prelude.{◌≡◌, ℕ, zero, suc, ◌+◌, ◌<◌, ◌≤◌, List, [], ◌∷◌, Bool, true, false, Some, None, is_some, cond, ◌||◌, codes, refl}
use Rattle.std.proofs.Common.{inl, inr, arith, ap, subst, sym, ◌∙◌}
use Rattle.std.proofs.lemmas.Bool.{false≢true, both_ways}
use Rattle.mw_logic.specs.Term.{Variable, RawTerm, variable, apply, RawTerms, nil, cons, join, constant, binary, Context}
use Rattle.mw_logic.specs.Signature.{Signature, Operator, at_number, sort, SameKind, HasKind, of_operator, IsRawTerm, an_operator, AreRawTerms as arguments, IsAssociative, IsIdentity, constant_of}
use Rattle.mw_logic.specs.Axioms.{EqualModulo, done, then, forward, backward, assoc, id_right}
use Rattle.mw_logic.specs.Accepted.{IsAccepted}
use Rattle.mw_logic.specs.Sorts.{DeclaredSort, DeclaredSorts, HasSort, AtOrBelow}
use Rattle.mw_logic.specs.Substitution.{Substitution, instance, IsSolution, same_variable}
use Rattle.mw_logic.specs.Parts.{IsPart, IsClean, ReplacesPart, IsAdmitted, number_of_terms, depth}
use Rattle.mw_logic.specs.Module.{Module, Statement, Fragment, IsStatement}
use Rattle.mw_logic.specs.Proof.{Proof, replacement}
use Rattle.mw_logic.specs.Proof as proof
use Rattle.mw_logic.specs.Judgements.{Proves, IsNormal, IsNormalBy, judgements_with}
use Rattle.mw_logic.specs.Ends.{IsFinal}
use Rattle.mw_logic.specs.TermOrder.{stands_after, insert_term, sorted_terms}
use Rattle.mw_logic.specs.Kinds.{is_successor}
use Rattle.mw_logic.specs.NormalForm.{normal_form, elements, rebuilt}
use Rattle.mw_logic.specs.CanonicalPart.{IsPartOf, whole, argument, several}
use Rattle.mw_logic.proofs.PartsOfNormalForm.{part_kept}
use Rattle.mw_logic.proofs.RowsKit as kit
use Rattle.mw_logic.proofs.AcceptedTest.{is_accepted-sound}
use Rattle.mw_logic.proofs.Invariance.{normal_form-kept}
use Rattle.mw_logic.proofs.Admitted.{admitted-iff}
use Rattle.mw_logic.proofs.FreeSignature.{IsBareSignature, is_bare-sound, bare_meets_no_row, bare_no_pair}

abbrev pub sig : Signature
sig = record {
  sorts = codes "E" ∷ codes "S" ∷ [];
  pairs = (1, 2) ∷ [];
  operators =
      kit.an_operator (codes "a") [] (sort 1) ∷ kit.an_operator (codes "b") [] (sort 1) ∷ kit.an_operator (codes "mt") [] (sort 2)
      ∷ kit.with_axioms true (Some (constant_of 3)) (kit.an_operator (codes "__") (sort 2 ∷ sort 2 ∷ []) (sort 2)) ∷ [];
  nat = false;
  qid = false;
}

abbrev pub a : RawTerm
a = constant 1

abbrev pub b : RawTerm
b = constant 2

abbrev pub mt : RawTerm
mt = constant 3

abbrev pub f : RawTerm → RawTerm → RawTerm
f t u = binary 4 t u

abbrev X : Variable
X = kit.a_variable (codes "X") 2

abbrev Y : Variable
Y = kit.a_variable (codes "Y") 2

accepted : IsAccepted sig
accepted = is_accepted-sound sig refl

is_assoc : IsAssociative sig 4
is_assoc = record { operator = _; is_there = refl; assoc = refl }

abbrev mt_is_identity : IsIdentity sig 4 mt
mt_is_identity = record { operator = _; is_there = refl; identity = constant_of 3; named = refl; is = refl }

-- a (a b) and (a a) b are equal modulo the axioms, by one use of associativity; b (mt a) b is a b b in normal form.
regrouped : EqualModulo sig (f a (f a b)) (f (f a a) b)
regrouped = then (backward (assoc is_assoc)) done

normal_abb : normal_form sig (f b (f (f mt a) b)) ≡ apply 4 (cons a (cons b (cons b nil)))
unfolding stands_after is_successor
normal_abb = refl

normal_aa : normal_form sig (f a a) ≡ apply 4 (cons a (cons a nil))
unfolding stands_after is_successor
normal_aa = refl

normal_ab : normal_form sig (f a b) ≡ apply 4 (cons a (cons b nil))
unfolding stands_after is_successor
normal_ab = refl

constants_differ : (c d : ℕ) → c < d → constant c ≡ constant d → ⊥
constants_differ c d l e = let k : c ≡ d = inj e in omega (arith, k, l)
  where
    inj : {c d : ℕ} → constant c ≡ constant d → c ≡ d
    inj e = cc

-- a a and a b are not equal.
aa_ab_apart : EqualModulo sig (f a a) (f a b) → ⊥
aa_ab_apart p = apart (sym normal_aa ∙ normal_form-kept sig accepted p ∙ normal_ab)
  where
    apart : apply 4 (cons a (cons a nil)) ≡ apply 4 (cons a (cons b nil)) → ⊥
    apart e = let k : a ≡ b = cc in constants_differ 1 2 (omega arith) k

-- a a b has flattened depth 2, and a mt is not clean.
flat : depth sig (f (f a a) b) ≡ 2
flat = refl

not_clean : IsClean sig (f a mt) → ⊥
not_clean c = c.1 mt mt_is_identity (inr (inl refl))

-- Sorts: a has sort E, so a mt has it too; a b has sort S.
e_below_s : AtOrBelow sig.pairs 1 2
e_below_s = AtOrBelow.above (inl refl) AtOrBelow.same

a_sort : DeclaredSort sig a (sort 1)
a_sort = kit.declared_sort _ refl refl DeclaredSorts.end tt

b_sort : DeclaredSort sig b (sort 1)
b_sort = kit.declared_sort _ refl refl DeclaredSorts.end tt

ab_sort : DeclaredSort sig (f a b) (sort 2)
ab_sort = kit.declared_sort _ refl refl (DeclaredSorts.next a_sort (DeclaredSorts.next b_sort DeclaredSorts.end)) (e_below_s, (e_below_s, tt))

a_mt : HasSort sig (f a mt) (sort 1)
a_mt = record { form = a; equal = then (forward (id_right mt_is_identity (of_operator _ refl SameKind.same))) done; declared = sort 1; is_declared = a_sort; below = AtOrBelow.same }

-- Solutions: X = a and Y = a b is one of X Y for a a b.
a_raw : IsRawTerm sig a
a_raw = an_operator _ refl arguments.end

b_raw : IsRawTerm sig b
b_raw = an_operator _ refl arguments.end

pair_raw : (t u : RawTerm) → IsRawTerm sig t → HasKind sig t 1 → IsRawTerm sig u → HasKind sig u 1 → IsRawTerm sig (f t u)
pair_raw t u r k s l = an_operator _ refl (arguments.next r k (arguments.next s l arguments.end))

ab_raw : IsRawTerm sig (f a b)
ab_raw = pair_raw a b a_raw (of_operator _ refl SameKind.same) b_raw (of_operator _ refl SameKind.same)

two_bound : (t u : RawTerm) (p q : Bool) → is_some (cond p (Some t) (cond q (Some u) None)) ≡ (p || (q || false))
two_bound t u true q = refl
two_bound t u false true = refl
two_bound t u false false = refl

a_and_ab : IsSolution sig (f (variable X) (variable Y)) (f (f a a) b) [] ((X, a) ∷ (Y, f a b) ∷ [])
a_and_ab = record {
  substitution = (
    refl,
    refl,
    a_raw,
    record { form = a; equal = done; declared = sort 1; is_declared = a_sort; below = e_below_s },
    (refl, refl, ab_raw, kit.has_declared ab_sort, tt),
  );
  extends = λ x t e. cc;
  variables = λ x. two_bound a (f a b) (same_variable X x) (same_variable Y x);
  matches = regrouped;
}

-- X = a and Y = a is none of X Y for a b.
not_a_and_a : IsSolution sig (f (variable X) (variable Y)) (f a b) [] ((X, a) ∷ (Y, a) ∷ []) → ⊥
not_a_and_a h = aa_ab_apart h.matches

-- X X has no solution for a b: whatever X is, it has as many a as b.
number_of_terms-insert : (t : RawTerm) (us : RawTerms) → number_of_terms (insert_term t us) ≡ suc (number_of_terms us)
number_of_terms-insert t nil = refl
number_of_terms-insert t (cons u us) = by_test (stands_after t u) (number_of_terms-insert t us)
  where
    by_test : (b : Bool) → number_of_terms (insert_term t us) ≡ suc (number_of_terms us) → number_of_terms (cond b (cons u (insert_term t us)) (cons t (cons u us))) ≡ suc (suc (number_of_terms us))
    by_test true e = ap suc e
    by_test false e = refl

number_of_terms-sorted : (ts : RawTerms) → number_of_terms (sorted_terms ts) ≡ number_of_terms ts
number_of_terms-sorted nil = refl
number_of_terms-sorted (cons t ts) = number_of_terms-insert t (sorted_terms ts) ∙ ap suc (number_of_terms-sorted ts)

number_of_terms-join : (ts us : RawTerms) → number_of_terms (join ts us) ≡ number_of_terms ts + number_of_terms us
number_of_terms-join nil us = omega arith
number_of_terms-join (cons t ts) us = let e : _ = number_of_terms-join ts us in omega (arith, e)

twice_is_even : (E : RawTerms) → rebuilt (Some (constant_of 3)) 4 (sorted_terms (join E (join E nil))) ≡ apply 4 (cons a (cons b nil)) → ⊥
twice_is_even nil e = cc
twice_is_even (cons t nil) e = by_test (stands_after t t) e
  where
    same : apply 4 (cons t (cons t nil)) ≡ apply 4 (cons a (cons b nil)) → ⊥
    same e = let k : a ≡ b = cc in constants_differ 1 2 (omega arith) k

    by_test : (c : Bool) → rebuilt (Some (constant_of 3)) 4 (cond c (cons t (cons t nil)) (cons t (cons t nil))) ≡ apply 4 (cons a (cons b nil)) → ⊥
    by_test true e = same e
    by_test false e = same e
twice_is_even (cons t (cons u us)) e = by_shape (sorted_terms ts) (omega (arith, number_of_terms-sorted ts, number_of_terms-join us (cons t (cons u (join us nil))))) e
  where
    ts : RawTerms
    ts = cons t (cons u (join us (cons t (cons u (join us nil)))))

    two : (zs : RawTerms) → apply 4 zs ≡ apply 4 (cons a (cons b nil)) → number_of_terms zs ≡ 2
    two zs e = let k : zs ≡ cons a (cons b nil) = cc in ap number_of_terms k

    by_shape : (zs : RawTerms) → 3 ≤ number_of_terms zs → rebuilt (Some (constant_of 3)) 4 zs ≡ apply 4 (cons a (cons b nil)) → ⊥
    by_shape nil l e = omega (arith, l)
    by_shape (cons x nil) l e = omega (arith, l)
    by_shape (cons x (cons y zs)) l e = let k : number_of_terms (cons x (cons y zs)) ≡ 2 = two (cons x (cons y zs)) e in omega (arith, k, l)

X_X_not_ab : (s : Substitution) → IsSolution sig (f (variable X) (variable X)) (f a b) [] s → ⊥
X_X_not_ab s h =
    let v : RawTerm = instance s (variable X) in
    let E : RawTerms = elements (Some (constant_of 3)) 4 (normal_form sig v) in
    let e : normal_form sig (f v v) ≡ apply 4 (cons a (cons b nil)) = normal_form-kept sig accepted h.matches ∙ normal_ab in
    twice_is_even E e

-- The identity is not hidden everywhere: it is no part of b, so nothing comes in its place.
only_constant : {by_rule : Bool} {v w : RawTerm} → IsPartOf sig by_rule v w → v ≡ b → w ≡ b
only_constant whole e = e
only_constant (argument f before t after o p) e = absurd (none before e)
  where
    none : (before : RawTerms) → apply f (join before (cons t after)) ≡ b → ⊥
    none nil e = cc
    none (cons x xs) e = cc
only_constant (several {f = g} A o l cut) e = absurd (constant_not_assoc g A (operator_of e))
  where
    operator_of : {g : ℕ} {ts : RawTerms} → apply g ts ≡ b → g ≡ 2
    operator_of e = cc

    constant_not_assoc : (g : ℕ) → IsAssociative sig g → g ≡ 2 → ⊥
    constant_not_assoc g A e = both_ways _ (of_b A.operator (subst (λ g. at_number sig.operators g ≡ Some A.operator) e A.is_there)) A.assoc
      where
        of_b : (o : Operator) → at_number sig.operators 2 ≡ Some o → o.assoc ≡ false
        of_b o e = let k : kit.an_operator (codes "b") [] (sort 1) ≡ o = cc in ap (λ (o : Operator). o.assoc) (sym k)

part_of_b : (C : Context) (w : RawTerm) → IsPart sig b C w → normal_form sig w ≡ b
part_of_b C w p = only_constant (part_kept sig accepted {by_rule = false} C w (λ h. absurd (false≢true h)) b_raw p) refl

no_mt_in_b : (by_rule : Bool) (v u : RawTerm) → ReplacesPart sig by_rule b mt v u → ⊥
no_mt_in_b r v u p = constants_differ 2 3 (omega arith) (sym (part_of_b p.place p.part p.is_part) ∙ sym (normal_form-kept sig accepted p.same))

-- So in SETR, where mt => a, b is final; mt becomes a by one rule, and is not final.
abbrev mt_to_a : Statement
mt_to_a = kit.a_rule mt a []

abbrev SETR : Module
SETR = record { signature = sig; statements = mt_to_a ∷ [] }

bare : IsBareSignature sig
bare = is_bare-sound sig refl

only_rule : (k : ℕ) (st : Statement) → IsStatement SETR k st → mt_to_a ≡ st
only_rule zero st is = let h : None ≡ Some st = is.is_there in cc
only_rule (suc zero) st is = let h : Some mt_to_a ≡ Some st = is.is_there in cc
only_rule (suc (suc k)) st is = let h : None ≡ Some st = is.is_there in cc

b_admitted : IsAdmitted sig b
unfolding is_successor
b_admitted = (admitted-iff sig accepted b_raw).1 (refl, omega arith, refl)

b_normal_by : (F : List Fragment → Substitution → Type 0) → IsNormalBy SETR F b
b_normal_by F = record {
  admitted = b_admitted;
  no_equation = λ C w p k e is eq s sol. absurd (both_ways _ eq (subst (λ (e : Statement). e.rule ≡ true) (only_rule k e is) refl));
  no_row = λ C w p. bare_meets_no_row sig bare w;
  no_pair = λ C w p. bare_no_pair sig bare w;
}

b_normal : (n : ℕ) → IsNormal SETR n b
unfolding judgements_with
b_normal zero = b_normal_by _
b_normal (suc n) = b_normal_by _

b_final : IsFinal SETR b
b_final = record { normal = b_normal 63; no_rule = λ C w p k r is rule s sol. absurd (at_part C w p.part (subst (λ (r : Statement). IsSolution sig r.left w [] s) (sym (only_rule k r is)) sol)) }
  where
    at_part : (C : Context) (w : RawTerm) → IsPart sig b C w → {s : Substitution} → IsSolution sig mt w [] s → ⊥
    at_part C w p sol = constants_differ 2 3 (omega arith) (sym (part_of_b C w p) ∙ sym (normal_form-kept sig accepted sol.matches))

mt_clean : IsClean sig mt
mt_clean = (tt, (λ e is m. m), (λ n is e l. false≢true is.nat))

mt_becomes_a : ReplacesPart sig true mt mt a a
mt_becomes_a = record { place = []; part = mt; for_rules = λ h x. x; is_part = record { clean = mt_clean; equal = done }; same = done; becomes = done }

one_rule : (n : ℕ) → Proves SETR n (replacement 1 true [] proof.nil) mt a
unfolding judgements_with
one_rule zero = (record { statement = mt_to_a; is_there = record { is_there = refl; executable = refl }; rule = refl; substitution = tt; all_bound = refl; condition = (refl, refl); plain = λ h. absurd (false≢true h); from = refl; to = refl }, mt_becomes_a)
one_rule (suc n) = (record { statement = mt_to_a; is_there = record { is_there = refl; executable = refl }; rule = refl; substitution = tt; all_bound = refl; condition = (refl, refl); plain = λ h. absurd (false≢true h); from = refl; to = refl }, mt_becomes_a)

mt_not_final : IsFinal SETR mt → ⊥
unfolding judgements_with
mt_not_final h =
    h.no_rule [] mt (record { part = record { clean = mt_clean; equal = done }; not_frozen = λ x. x }) 1 mt_to_a (record { is_there = refl; executable = refl }) refl [] (record { substitution = tt; extends = λ x t e. e; variables = λ x. refl; matches = done })
