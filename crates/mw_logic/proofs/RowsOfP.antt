-- Peano numbers, the module P: z, s and plus, with plus(z, Y) = Y and plus(s(X), Y) = s(plus(X, Y)). What it proves, and what it doesn't.
use Rattle.std.specs.Prelude.{◌≡◌, ℕ, zero, suc, List, [], ◌∷◌, false, Some, None, codes, refl, IsTrue}
use Rattle.std.proofs.Common.{ap, arith, sym, subst, ◌∙◌}
use Rattle.std.proofs.lemmas.Bool.{false≢true}
use Rattle.mw_logic.specs.Term.{Variable, RawTerm, numeral, variable, apply, RawTerms, constant, unary, binary, Context, plug}
use Rattle.mw_logic.specs.Term as term
use Rattle.mw_logic.specs.Signature.{Signature, Operator, IsOperator, sort, IsRawTerm, a_numeral, an_operator, HasKind, SameKind}
use Rattle.mw_logic.specs.Signature.{AreRawTerms as arguments}
use Rattle.mw_logic.specs.Axioms.{done}
use Rattle.mw_logic.specs.Sorts.{DeclaredSort, end, next, same, HasSort}
use Rattle.mw_logic.specs.Substitution.{Substitution, instance, instances, IsSubstitution, IsSolution}
use Rattle.mw_logic.specs.Parts.{ReplacesPart}
use Rattle.mw_logic.specs.Module.{Module, Statement, Fragment, IsStatement, binds_statement}
use Rattle.mw_logic.specs.Proof.{Proof, Proofs, transitivity, replacement, congruence, steps, rules, count}
use Rattle.mw_logic.specs.Proof as proof
use Rattle.mw_logic.specs.Judgements.{Proves, Leads, Replaces, IsNormal, IsNormalBy, judgements_with}
use Rattle.mw_logic.specs.Ends.{IsFinal}
use Rattle.mw_logic.specs.Free.{IsFreeSignature}
use Rattle.mw_logic.proofs.RowsKit as kit
use Rattle.mw_logic.proofs.FreeSignature.{bare_from_free, is_free-sound, free_part, free_part-is, free_replaces, free_solution, free_admitted, bare_meets_no_row, bare_no_pair, no_operator_inside}

abbrev pub P_signature : Signature
P_signature = record {
  sorts = codes "N" ∷ [];
  pairs = [];
  operators = kit.an_operator (codes "z") [] (sort 1) ∷ kit.an_operator (codes "s") (sort 1 ∷ []) (sort 1) ∷ kit.an_operator (codes "plus") (sort 1 ∷ sort 1 ∷ []) (sort 1) ∷ [];
  nat = false;
  qid = false;
}

abbrev pub z : RawTerm
z = constant 1

abbrev pub s : RawTerm → RawTerm
s t = unary 2 t

abbrev pub plus : RawTerm → RawTerm → RawTerm
plus t u = binary 3 t u

abbrev pub X : Variable
X = kit.a_variable (codes "X") 1

abbrev pub Y : Variable
Y = kit.a_variable (codes "Y") 1

abbrev pub first : Statement
first = kit.an_equation (plus z (variable Y)) (variable Y) [] (Y ∷ [])

abbrev pub second : Statement
second = kit.an_equation (plus (s (variable X)) (variable Y)) (s (plus (variable X) (variable Y))) [] (X ∷ Y ∷ [])

abbrev pub P : Module
P = record { signature = P_signature; statements = first ∷ second ∷ [] }

free : IsFreeSignature P_signature
free = is_free-sound P_signature refl

-- The sorts: z, and s(t) with t, have sort N.
z_sort : DeclaredSort P_signature z (sort 1)
z_sort = kit.declared_sort _ refl refl end tt

s_sort : (t : RawTerm) → DeclaredSort P_signature t (sort 1) → DeclaredSort P_signature (s t) (sort 1)
s_sort t d = kit.declared_sort _ refl refl (next d end) (same, tt)

two_sort : HasSort P_signature (s (s z)) (sort 1)
two_sort = kit.has_declared (s_sort _ (s_sort _ z_sort))

z_raw : IsRawTerm P_signature z
z_raw = an_operator _ refl arguments.end

s_raw : (t : RawTerm) → IsRawTerm P_signature t → HasKind P_signature t 1 → IsRawTerm P_signature (s t)
s_raw t r k = an_operator _ refl (arguments.next r k arguments.end)

sz_raw : IsRawTerm P_signature (s z)
sz_raw = s_raw z z_raw (HasKind.of_operator _ refl SameKind.same)

-- s without its argument is no term, and no numeral is one.
s_alone : IsRawTerm P_signature (constant 2) → ⊥
s_alone (an_operator o e args) = without (subst (λ Ks. arguments P_signature term.nil Ks) (one o e) args)
  where
    one : (o : Operator) → IsOperator P_signature 2 o → o.args ≡ 1 ∷ []
    one o e = let k : Some (kit.an_operator (codes "s") (sort 1 ∷ []) (sort 1)) ≡ Some o = e in cc

    without : arguments P_signature term.nil (1 ∷ []) → ⊥
    without a = elim a [ ]

no_numeral : (n : ℕ) → IsRawTerm P_signature (numeral n) → ⊥
no_numeral n (a_numeral b l) = false≢true b

-- plus(s(z), s(z)) becomes s(s(z)) by two steps, at each rank.
abbrev two_steps : Proof
two_steps =
    transitivity (replacement 2 false ((X, z) ∷ (Y, s z) ∷ []) proof.nil)
    (congruence (proof.cons (replacement 1 false ((Y, s z) ∷ []) proof.nil) proof.nil))

by_two : IsSubstitution P_signature ((X, z) ∷ (Y, s z) ∷ [])
by_two = (refl, refl, z_raw, kit.has_declared z_sort, (refl, refl, sz_raw, kit.has_declared (s_sort z z_sort), tt))

by_one : IsSubstitution P_signature ((Y, s z) ∷ [])
by_one = (refl, refl, sz_raw, kit.has_declared (s_sort z z_sort), tt)

not_by_rule : IsTrue false → ⊥
not_by_rule h = false≢true h

module _ (H : List Fragment → Substitution → Proofs → Substitution → Type 0) (F : List Fragment → Substitution → Type 0) (h : (r : Substitution) → H [] r proof.nil r) where
  by_second : Replaces P H F 2 false ((X, z) ∷ (Y, s z) ∷ []) proof.nil (plus (s z) (s z)) (s (plus z (s z)))
  by_second = record { statement = second; is_there = record { is_there = refl; executable = refl }; rule = refl; substitution = by_two; all_bound = refl; condition = h _; plain = λ h. absurd (false≢true h); from = refl; to = refl }

  by_first : Replaces P H F 1 false ((Y, s z) ∷ []) proof.nil (plus z (s z)) (s z)
  by_first = record { statement = first; is_there = record { is_there = refl; executable = refl }; rule = refl; substitution = by_one; all_bound = refl; condition = h _; plain = λ h. absurd (false≢true h); from = refl; to = refl }

  leads : Leads P (ReplacesPart P_signature) H F [] two_steps (plus (s z) (s z)) (s (s z))
  leads =
      let under_s : Context = record { operator = 2; before = term.nil; after = term.nil } ∷ [] in (
        s (plus z (s z)),
        (by_second, free_replaces P_signature free false [] (plus (s z) (s z)) (s (plus z (s z))) (λ h. absurd (not_by_rule h))),
        (
          2,
          term.cons (plus z (s z)) term.nil,
          term.cons (s z) term.nil,
          refl,
          refl,
          (plus z (s z), s z, term.nil, term.nil, refl, refl, (by_first, free_replaces P_signature free false under_s (plus z (s z)) (s z) (λ h. absurd (not_by_rule h))), (refl, refl)),
        ),
      )

two : (n : ℕ) → Proves P n two_steps (plus (s z) (s z)) (s (s z))
unfolding judgements_with
two zero = leads _ _ (λ r. (refl, refl))
two (suc n) = leads _ _ (λ r. (refl, refl))

-- These are two steps, none by a rule and none in evidence.
counts : (steps two_steps ≡ 2) × (rules two_steps ≡ 0) × (count two_steps ≡ 2)
counts = (refl, refl, refl)

-- The same tree does not lead to z.
module _ (H : List Fragment → Substitution → Proofs → Substitution → Type 0) (F : List Fragment → Substitution → Type 0) where
  not_z_by : Leads P (ReplacesPart P_signature) H F [] two_steps (plus (s z) (s z)) z → ⊥
  not_z_by l = let e : z ≡ apply l.2.0 l.2.2 = l.2.4 in let k : l.2.2 ≡ term.cons (l.2.5).1 (l.2.5).3 = (l.2.5).5 in cc

not_z : (n : ℕ) → Proves P n two_steps (plus (s z) (s z)) z → ⊥
unfolding judgements_with
not_z zero l = not_z_by _ _ l
not_z (suc n) l = not_z_by _ _ l

-- A statement that is not there proves nothing, nor one whose variable Y has no value.
module _ (H : List Fragment → Substitution → Proofs → Substitution → Type 0) (F : List Fragment → Substitution → Type 0) where
  no_third_by : (s : Substitution) (es : Proofs) (t u : RawTerm) → Leads P (ReplacesPart P_signature) H F [] (replacement 3 false s es) t u → ⊥
  no_third_by s es t u l = none l.0.is_there.is_there
    where
      none : {st : Statement} → None ≡ Some st → ⊥
      none e = cc

  no_value_by : (es : Proofs) (t u : RawTerm) → Leads P (ReplacesPart P_signature) H F [] (replacement 1 false [] es) t u → ⊥
  no_value_by es t u l = let e : Some first ≡ Some l.0.statement = l.0.is_there.is_there in let k : first ≡ l.0.statement = cc in unbound l.0.statement k l.0.all_bound
    where
      unbound : (st : Statement) → first ≡ st → IsTrue (binds_statement [] st) → ⊥
      unbound st e h = false≢true (subst (λ st. IsTrue (binds_statement [] st)) (sym e) h)

no_third : (n : ℕ) (s : Substitution) (es : Proofs) (t u : RawTerm) → Proves P n (replacement 3 false s es) t u → ⊥
unfolding judgements_with
no_third zero s es t u l = no_third_by _ _ s es t u l
no_third (suc n) s es t u l = no_third_by _ _ s es t u l

no_value : (n : ℕ) (es : Proofs) (t u : RawTerm) → Proves P n (replacement 1 false [] es) t u → ⊥
unfolding judgements_with
no_value zero es t u l = no_value_by _ _ es t u l
no_value (suc n) es t u l = no_value_by _ _ es t u l

-- s(s(z)) is normal at each rank, since no subterm of it has plus on top; and it is final, as no statement at all applies.
nothing_at : (st : Statement) → (ts : RawTerms) → st.left ≡ apply 3 ts → (C : Context) (w : RawTerm) → s (s z) ≡ plug C w → (r : Substitution) → IsSolution P_signature st.left w [] r → ⊥
nothing_at st ts e C w p r sol =
    no_operator_inside 3 C (instances r ts) (s (s z)) refl (p ∙ sym (ap (plug C) (sym (ap (instance r) e) ∙ free_solution P_signature free sol)))

no_statement_at : (k : ℕ) (st : Statement) → IsStatement P k st → (C : Context) (w : RawTerm) → s (s z) ≡ plug C w → (r : Substitution) → IsSolution P_signature st.left w [] r → ⊥
no_statement_at zero st is C w p r sol = let h : None ≡ Some st = is.is_there in cc
no_statement_at (suc zero) st is C w p r sol = let h : Some first ≡ Some st = is.is_there in let e : first ≡ st = cc in nothing_at st _ (sym (ap (λ (st : Statement). st.left) e)) C w p r sol
no_statement_at (suc (suc zero)) st is C w p r sol = let h : Some second ≡ Some st = is.is_there in let e : second ≡ st = cc in nothing_at st _ (sym (ap (λ (st : Statement). st.left) e)) C w p r sol
no_statement_at (suc (suc (suc k))) st is C w p r sol = let h : None ≡ Some st = is.is_there in cc

normal_by : (F : List Fragment → Substitution → Type 0) → IsNormalBy P F (s (s z))
normal_by F = record {
  admitted = free_admitted P_signature free (s (s z)) refl (omega arith);
  no_equation = λ C w p k e is eq r sol. absurd (no_statement_at k e is C w (free_part-is P_signature free C w p) r sol);
  no_row = λ C w p. bare_meets_no_row P_signature (bare_from_free P_signature free) w;
  no_pair = λ C w p. bare_no_pair P_signature (bare_from_free P_signature free) w;
}

two_normal : (n : ℕ) → IsNormal P n (s (s z))
unfolding judgements_with
two_normal zero = normal_by _
two_normal (suc n) = normal_by _

two_final : IsFinal P (s (s z))
two_final = record { normal = two_normal 63; no_rule = λ C w p k r is rule q sol. absurd (no_statement_at k r is C w (free_part-is P_signature free C w p.part) q sol) }

-- plus(z, z) is not normal: the first equation has a solution at the whole, and no condition that could fail.
z_for_Y : IsSolution P_signature (plus z (variable Y)) (plus z z) [] ((Y, z) ∷ [])
z_for_Y = record { substitution = (refl, refl, z_raw, kit.has_declared z_sort, tt); extends = λ x t e. cc; variables = λ x. kit.one_bound Y z x; matches = done }

plus_not_normal : (n : ℕ) → IsNormal P n (plus z z) → ⊥
unfolding judgements_with
plus_not_normal zero h = h.no_equation [] (plus z z) (free_part P_signature free [] (plus z z)) 1 first (record { is_there = refl; executable = refl }) refl ((Y, z) ∷ []) z_for_Y
plus_not_normal (suc n) h = h.no_equation [] (plus z z) (free_part P_signature free [] (plus z z)) 1 first (record { is_there = refl; executable = refl }) refl ((Y, z) ∷ []) z_for_Y
