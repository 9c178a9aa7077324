-- Conditions. The module CE has a, b and f, with f(X) = a if X = b; the module CY has c and f, with f(X) = c if f(X) = c.
use Rattle.std.specs.Prelude.{◌<◌, ◌≡◌, ℕ, zero, suc, List, [], ◌∷◌, false, Bool, Some, None, codes, refl}
use Rattle.std.proofs.Common.{inl, inr, arith, ap, subst, sym, ◌∙◌, true≢false}
use Rattle.mw_logic.specs.Term.{Variable, RawTerm, variable, constant, unary, Context, plug}
use Rattle.mw_logic.specs.Signature.{Signature, sort, IsRawTerm, an_operator, end}
use Rattle.mw_logic.specs.Sorts.{DeclaredSort, DeclaredSorts}
use Rattle.mw_logic.specs.Axioms.{EqualModulo, done}
use Rattle.mw_logic.specs.Parts.{ReplacesPart}
use Rattle.mw_logic.specs.Substitution.{Substitution, instance, IsSolution}
use Rattle.mw_logic.specs.Module.{Module, Statement, Fragment, equal, IsStatement}
use Rattle.mw_logic.specs.Proof.{Proof, reflexivity}
use Rattle.mw_logic.specs.Proof as proof
use Rattle.mw_logic.specs.Judgements.{Held, Fails, IsNormal, judgements, judgements_with, Evaluates, IsNormalBy, Proves, Judgements, Leads, Replaces}
use Rattle.mw_logic.specs.Ends.{Stops, StopsBy, Limits, Tries, Reason, of_side, by_nest, by_condition}
use Rattle.mw_logic.specs.Free.{IsFreeSignature}
use Rattle.mw_logic.proofs.RowsKit as kit
use Rattle.mw_logic.proofs.Stuck.{led_to_equal}
use Rattle.mw_logic.proofs.Judging.{Proves-reflexivity}
use Rattle.mw_logic.proofs.FreeSignature.{bare_from_free, is_free-sound, free_equal, free_part, free_part-is, free_replaces-is, bare_no_row, free_solution, free_admitted, bare_meets_no_row, bare_no_pair, has_operator, no_operator_inside}

abbrev sig : Signature
sig = record {
  sorts = codes "T" ∷ [];
  pairs = [];
  operators = kit.an_operator (codes "a") [] (sort 1) ∷ kit.an_operator (codes "b") [] (sort 1) ∷ kit.an_operator (codes "f") (sort 1 ∷ []) (sort 1) ∷ [];
  nat = false;
  qid = false;
}

abbrev a : RawTerm
a = constant 1

abbrev b : RawTerm
b = constant 2

abbrev X : Variable
X = kit.a_variable (codes "X") 1

abbrev f : RawTerm → RawTerm
f t = unary 3 t

abbrev X_is_b : List Fragment
X_is_b = equal (variable X) b ∷ []

abbrev the_equation : Statement
the_equation = kit.an_equation (f (variable X)) a X_is_b (X ∷ [])

abbrev CE : Module
CE = record { signature = sig; statements = the_equation ∷ [] }

free : IsFreeSignature sig
free = is_free-sound sig refl

nothing_at : (c : ℕ) (C : Context) (w : RawTerm) → has_operator 3 (constant c) ≡ false → constant c ≡ plug C w → (k : ℕ) (e : Statement) → IsStatement CE k e → (s : Substitution) → IsSolution sig e.left w [] s → ⊥
nothing_at c C w h p zero e is s sol = let h : None ≡ Some e = is.is_there in cc
nothing_at c C w h p (suc zero) e is s sol =
    let k : Some the_equation ≡ Some e = is.is_there in
    let q : the_equation ≡ e = cc in
    no_operator_inside 3 C _ (constant c) h (p ∙ sym (ap (plug C) (ap (λ (e : Statement). instance s e.left) q ∙ free_solution sig free sol)))
nothing_at c C w h p (suc (suc k)) e is s sol = let h : None ≡ Some e = is.is_there in cc

-- a and b are normal at each rank.
normal_by : (F : List Fragment → Substitution → Type 0) (c : ℕ) → has_operator 3 (constant c) ≡ false → IsNormalBy CE F (constant c)
normal_by F c h = record {
  admitted = free_admitted sig free (constant c) refl (omega arith);
  no_equation = λ C w p k e is eq s sol. absurd (nothing_at c C w h (free_part-is sig free C w p) k e is s sol);
  no_row = λ C w p. bare_meets_no_row sig (bare_from_free sig free) w;
  no_pair = λ C w p. bare_no_pair sig (bare_from_free sig free) w;
}

normal : (n c : ℕ) → has_operator 3 (constant c) ≡ false → IsNormal CE n (constant c)
unfolding judgements_with
normal zero c h = normal_by _ c h
normal (suc n) c h = normal_by _ c h

evaluates : (n c : ℕ) → has_operator 3 (constant c) ≡ false → Evaluates (judgements CE n) (constant c) reflexivity (constant c)
evaluates n c h = record { proves = Proves-reflexivity CE n (constant c); equational = refl; normal = normal n c h }

-- With b for X the condition holds at each rank above 0, and with a it fails; at rank 0 it neither holds nor fails.
holds : (n : ℕ) → Held CE (suc n) X_is_b ((X, b) ∷ []) (proof.cons reflexivity (proof.cons reflexivity proof.nil)) ((X, b) ∷ [])
unfolding judgements_with
holds n = (reflexivity, reflexivity, proof.nil, b, b, refl, evaluates n 2 refl, evaluates n 2 refl, done, (refl, refl))

a_is_not_b : a ≡ b → ⊥
a_is_not_b e = one_two 1 2 refl refl (constant_inj e)
  where
    constant_inj : {c d : ℕ} → constant c ≡ constant d → c ≡ d
    constant_inj e = cc

    one_two : (c d : ℕ) → c ≡ 1 → d ≡ 2 → c ≡ d → ⊥
    one_two c d h k e = omega arith

fails : (n : ℕ) → Fails CE (suc n) X_is_b ((X, a) ∷ [])
unfolding judgements_with
fails n = (reflexivity, reflexivity, a, b, evaluates n 1 refl, evaluates n 2 refl, inl (λ e. a_is_not_b (free_equal sig free e)))

holds_not_at_zero : (s r : Substitution) (es : proof.Proofs) → Held CE 0 X_is_b s es r → ⊥
unfolding judgements_with
holds_not_at_zero s r es h = h

fails_not_at_zero : (s : Substitution) → Fails CE 0 X_is_b s → ⊥
unfolding judgements_with
fails_not_at_zero s h = h

-- From b nothing leads on: so with b for X the condition fails at no rank, and f(b) is not normal.
module _ (H : List Fragment → Substitution → proof.Proofs → Substitution → Type 0) (F : List Fragment → Substitution → Type 0) where
  no_replacement : (k : ℕ) (r : Bool) (s : Substitution) (es : proof.Proofs) (t w v u : RawTerm) → b ≡ t → Replaces CE H F k r s es w v → ReplacesPart sig r t w v u → ⊥
  no_replacement k r s es t w v u e x p =
      let (C, q, d, o) = free_replaces-is sig free r p in
      by_statement k x.statement x.is_there C (e ∙ q ∙ ap (plug C) x.from)
    where
      by_statement : (k : ℕ) (st : Statement) → IsStatement CE k st → (C : Context) → b ≡ plug C (instance s st.left) → ⊥
      by_statement zero st is C e = let k : None ≡ Some st = is.is_there in cc
      by_statement (suc zero) st is C e =
          let k : Some the_equation ≡ Some st = is.is_there in let q : the_equation ≡ st = cc in
          no_operator_inside 3 C _ b refl (e ∙ ap (λ (st : Statement). plug C (instance s st.left)) (sym q))
      by_statement (suc (suc k)) st is C e = let k : None ≡ Some st = is.is_there in cc

  from_b : (p : Proof) (u : RawTerm) → Leads CE (ReplacesPart sig) H F [] p b u → b ≡ u
  from_b p u l =
      free_equal sig free
      (led_to_equal CE (ReplacesPart sig) H F (λ t. b ≡ t) (λ t u e q. q ∙ free_equal sig free e) no_replacement (λ t w v u q r c p. bare_no_row sig (bare_from_free sig free) r) p [] b u refl l)

b_evaluates : (n : ℕ) (p : Proof) (u : RawTerm) → Proves CE n p b u → b ≡ u
unfolding judgements_with
b_evaluates zero p u l = from_b _ _ p u l
b_evaluates (suc n) p u l = from_b _ _ p u l

not_fails : (n : ℕ) → Fails CE (suc n) X_is_b ((X, b) ∷ []) → ⊥
unfolding judgements_with
not_fails n (p, q, c, d, x, y, h) =
    elim h [ inl k ↦ k (subst (λ d. EqualModulo sig c d) (sym (b_evaluates n p c x.proves) ∙ b_evaluates n q d y.proves) done) | inr k ↦ k ]

b_raw : IsRawTerm sig b
b_raw = an_operator _ refl end

b_sort : DeclaredSort sig b (sort 1)
b_sort = kit.declared_sort _ refl refl DeclaredSorts.end tt

b_for_X : IsSolution sig (f (variable X)) (f b) [] ((X, b) ∷ [])
b_for_X = record { substitution = (refl, refl, b_raw, kit.has_declared b_sort, tt); extends = λ x t e. cc; variables = λ x. kit.one_bound X b x; matches = done }

f_b_not_normal : (n : ℕ) → IsNormal CE (suc n) (f b) → ⊥
unfolding judgements_with
f_b_not_normal n h = not_fails n (h.no_equation [] (f b) (free_part sig free [] (f b)) 1 the_equation (record { is_there = refl; executable = refl }) refl ((X, b) ∷ []) b_for_X)

-- The module CY: from f(c) on each condition asks again what f(c) becomes. So it stops: at rank 0 by the depth of conditions inside one another, and at each
-- rank above by a condition that stopped.
abbrev CY_signature : Signature
CY_signature = record {
  sorts = codes "T" ∷ [];
  pairs = [];
  operators = kit.an_operator (codes "c") [] (sort 1) ∷ kit.an_operator (codes "f") (sort 1 ∷ []) (sort 1) ∷ [];
  nat = false;
  qid = false;
}

abbrev c : RawTerm
c = constant 1

abbrev g : RawTerm → RawTerm
g t = unary 2 t

abbrev cycle : Statement
cycle = kit.an_equation (g (variable X)) c (equal (g (variable X)) c ∷ []) (X ∷ [])

abbrev CY : Module
CY = record { signature = CY_signature; statements = cycle ∷ [] }

CY_free : IsFreeSignature CY_signature
CY_free = is_free-sound CY_signature refl

c_for_X : IsSolution CY_signature (g (variable X)) (g c) [] ((X, c) ∷ [])
c_for_X = record {
  substitution = (refl, refl, an_operator _ refl end, kit.has_declared (kit.declared_sort _ refl refl DeclaredSorts.end tt), tt);
  extends = λ x t e. cc;
  variables = λ x. kit.one_bound X c x;
  matches = done;
}

tried : (J : Judgements) (limits : Limits) → Tries CY J limits reflexivity (g c) [] cycle ((X, c) ∷ [])
tried J limits = record {
  part = g c;
  is_part = free_part CY_signature CY_free [] (g c);
  number = 1;
  is_there = record { is_there = refl; executable = refl };
  solution = c_for_X;
  may = inl (refl, λ o. absurd (true≢false (sym o)));
}

-- why f(c) stops at a rank
abbrev why : ℕ → Reason
why zero = by_nest
why (suc n) = by_condition

cycle_stops : (n : ℕ) (limits : Limits) → 0 < limits.most → 0 < limits.most_of_sides → Stops CY n limits (g c) reflexivity (g c) (why n)
unfolding Stops judgements_with
cycle_stops zero limits l m = StopsBy.nest [] cycle ((X, c) ∷ []) (refl, l) tt (tried _ limits) (λ e. cc)
cycle_stops (suc n) limits l m =
    StopsBy.condition [] cycle ((X, c) ∷ []) ((X, c) ∷ []) [] [] (equal (g (variable X)) c) proof.nil (g (variable X)) (refl, l) (tried _ limits) refl (refl, refl) (inl refl)
    (reflexivity, g c, why n, inr (free_admitted CY_signature CY_free (g c) refl (omega arith), refl, cycle_stops n (of_side limits) m m))

f_c_stops : (limits : Limits) → 0 < limits.most → 0 < limits.most_of_sides → Stops CY 63 limits (g c) reflexivity (g c) by_condition
f_c_stops limits l m = cycle_stops 63 limits l m
