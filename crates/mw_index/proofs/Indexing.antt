-- The index of a module, statement by statement.
use Rattle.std.specs.Prelude.{◌≡◌, ◌<◌, ◌≤◌, ◌+◌, ◌⊎◌, ℕ, zero, suc, [], ◌∷◌, ◌++◌, length, take, get_or, true, not, Option, Some, None, IsTrue, IsFalse, slice_get, refl}
use Rattle.std.proofs.Common.{sym, ap, subst, ◌∙◌, arith, inl, inr, ⊎_elim, length-take-le}
use Rattle.std.proofs.lemmas.Bool.{both_ways}
use Rattle.std.proofs.lemmas.List.{take_all}
use Rattle.mw_logic.specs.Term.{RawTerm}
use Rattle.mw_logic.specs.Signature.{Member, at_number}
use Rattle.mw_logic.specs.Module.{Module, Statement, IsStatement}
use Rattle.mw_logic.specs.NormalForm.{normal_form}
use Rattle.mw_logic.specs.Parts.{nested}
use Rattle.mw_logic.specs.Substitution.{Substitution, IsSolution}
use Rattle.mw_pattern.proofs.Lists.{got}
use Rattle.mw_logic.proofs.Members.{member-left}
use Rattle.mw_poset.proofs.Members.{member-last, member-push}
use Rattle.mw_index.proofs.Listed.{more, get_last, old_or_last, one_more}
use Rattle.mw_least.specs.Workable.{IsWorkable}
use Rattle.mw_solving.specs.Values.{IsValue}
use Rattle.mw_deduction.specs.Tops.{IsTop}
use Rattle.mw_index.specs.Oriented.{IsOriented}
use Rattle.mw_index.specs.Index.{Asks, asked, operator_of, IsOf, IsRuleOf, AreRulesOf, IsIndexOf}
use Rattle.mw_index.specs.Sections.{IsSectionOf, Puts, PutsRule, IsIndexUpTo}
use Rattle.mw_index.specs.declared.oriented.Oriented.{Oriented}
use Rattle.mw_index.specs.declared.index.Rule.{Rule}
use Rattle.mw_index.specs.declared.index.Index.{Index}
use Rattle.mw_index.specs.declared.index.Section.{Section}
use Rattle.mw_index.specs.declared.index.Section.TheVariants.{Operator, Any, Leaves}
use Rattle.mw_index.proofs.Staying.{top_operator, top_value, section_asked}

abbrev upto : Module → ℕ → Module
upto M n = record M { statements = take n M.statements }

no_number : (e : Statement) (k : ℕ) → at_number [] k ≡ Some e → ⊥
no_number e zero h = cc
no_number e (suc k) h = cc

pub index_none : (M : Module) (m : Index) → ((top : Option ℕ) → asked m top ≡ []) → m.rules.items ≡ [] → IsIndexUpTo M 0 m
index_none M m h q = record {
  sound = λ top st k. absurd (subst (Member st) (h top) k);
  complete = λ k e is r t w v d s sol. absurd (no_number e k is.is_there);
  rules = subst (AreRulesOf (upto M 0)) (sym q) (record { sound = λ r k. absurd k; complete = λ k e is r. absurd (no_number e k is.is_there) });
}

pub index_all : (M : Module) (n : ℕ) (m : Index) → length M.statements ≤ n → IsIndexUpTo M n m → IsIndexOf M m
index_all M n m l h = subst (λ ss. IsIndexOf (record M { statements = ss }) m) (take_all n M.statements l) h

module _ (M : Module) (n : ℕ) (e : Statement) (l : n < length M.statements) (is : e ≡ get_or M.statements n e) where
  next_is : take (n + 1) M.statements ≡ take n M.statements ++ e ∷ []
  next_is = one_more M.statements n e l is

  -- a statement of the first ones is one of those with one more
  still : (k : ℕ) (d : Statement) → IsStatement (upto M n) k d → IsStatement (upto M (n + 1)) k d
  still k d s = record { is_there = ap (λ ss. at_number ss k) next_is ∙ more (take n M.statements) e k d s.is_there; executable = s.executable }

  still_of : (top : Option ℕ) (st : Oriented) → IsOf (upto M n) top st → IsOf (upto M (n + 1)) top st
  still_of top st o = record { statement = o.statement; is_there = still st.number o.statement o.is_there; is = o.is }

  still_rule : (r : Rule) → IsRuleOf (upto M n) r → IsRuleOf (upto M (n + 1)) r
  still_rule r o = record { of = λ top a. still_of top r.by (o.of top a); rule = o.rule }

  -- and each other one is that one
  is_new : (k : ℕ) (d : Statement) → IsStatement (upto M (n + 1)) k d → IsStatement (upto M n) k d ⊎ ((k ≡ suc n) × (e ≡ d))
  is_new zero d s = absurd (nothing s.is_there)
    where
      nothing : at_number (take (n + 1) M.statements) zero ≡ Some d → ⊥
      nothing h = cc
  is_new (suc k) d s =
      let c : length (take n M.statements) ≡ n = length-take-le n M.statements (omega (arith, l)) in
      ⊎_elim
      (λ a. inl (record { is_there = a; executable = s.executable }))
      (λ a. inr (ap suc (a.0 ∙ c), a.1))
      (old_or_last (take n M.statements) e k d (ap (λ ss. slice_get ss k) (sym next_is) ∙ s.is_there))

  -- it isn't executable
  pub index_past : (m : Index) → not e.executable ≡ true → IsIndexUpTo M n m → IsIndexUpTo M (n + 1) m
  index_past m h old = record {
    sound = λ top st k. let z = old.sound top st k in (still_of top st z.0, z.1);
    complete = λ k d s r t w v p a sol. ⊎_elim (λ s. old.complete k d s r t w v p a sol) (λ j. absurd (passed j.1 s.executable)) (is_new k d s);
    rules = record {
      sound = λ r k. still_rule r (old.rules.sound r k);
      complete = λ k d s r. ⊎_elim (λ s. old.rules.complete k d s r) (λ j. absurd (passed j.1 s.executable)) (is_new k d s);
    };
  }
    where
      passed : {d : Statement} → e ≡ d → IsTrue d.executable → ⊥
      passed {d} q x = both_ways _ (rw (subst (λ (d : Statement). IsTrue d.executable) (sym q) x) refl) h

  module _ (ok : IsWorkable M) (q : Section) (st : Oriented) (x : IsTrue e.executable) (section : IsSectionOf M.signature (normal_form M.signature e.left) q) (number : st.number ≡ n + 1)
      (are : (top : Option ℕ) → Asks q top → IsOriented M.signature top e st) where
    here : IsStatement (upto M (n + 1)) st.number e
    here =
        let a : at_number M.statements (suc n) ≡ Some e = got M.statements n e l is in
        let c : length (take n M.statements) ≡ n = length-take-le n M.statements (omega (arith, l)) in
        let b : st.number ≡ suc (length (take n M.statements)) = omega (arith, number, c) in
        record { is_there = ap (λ ss. at_number ss st.number) next_is ∙ ap (at_number (take n M.statements ++ e ∷ [])) b ∙ get_last (take n M.statements) e; executable = x }

    of_it : (top : Option ℕ) → Asks q top → IsOf (upto M (n + 1)) top st
    of_it top a = record { statement = e; is_there = here; is = are top a }

    asked_where : (t w : RawTerm) → IsValue M.signature t → IsTop M.signature t w → (s : Substitution) → IsSolution M.signature e.left (nested M.signature w) [] s → Asks q (operator_of t)
    asked_where t w v top s sol =
        let raw = (ok.sides (suc n) e (got M.statements n e l is)).left in
        let asks : Asks q (operator_of w) = section_asked M.signature ok.signature.accepted ok.signature.well_sorted e.left raw w (top_value M.signature ok.signature.accepted t w top v) s sol q section in
        subst (Asks q) (top_operator M.signature t w top) asks

    -- an equation is listed
    pub index_more : (old new : Index) → IsFalse e.rule → Puts q st old new → IsIndexUpTo M n old → IsIndexUpTo M (n + 1) new
    index_more old new r p h = record {
      sound = λ top s k. ⊎_elim
          (λ j. let z = h.sound top s j in (still_of top s z.0, z.1))
          (λ j. (subst (IsOf (upto M (n + 1)) top) j.1 (of_it top j.0), ap (λ (s : Oriented). s.rule) (sym j.1) ∙ (are top j.0).rule ∙ r))
          (p.only top s k);
      complete = λ k d is_there f t w v d_top s sol. ⊎_elim
          (λ a. let (z, j, c) = h.complete k d a f t w v d_top s sol in (z, p.kept (operator_of t) z j, c))
          (λ a.
          let sol' : IsSolution M.signature e.left (nested M.signature w) [] s = subst (λ (d : Statement). IsSolution M.signature d.left (nested M.signature w) [] s) (sym a.1) sol in
          (st, p.put (operator_of t) (asked_where t w v d_top s sol'), number ∙ omega (arith, a.0)))
          (is_new k d is_there);
      rules = subst (AreRulesOf (upto M (n + 1))) (sym p.rules) (record {
        sound = λ s k. still_rule s (h.rules.sound s k);
        complete = λ k d s f. ⊎_elim (λ a. h.rules.complete k d a f) (λ a. absurd (both_ways _ (ap (λ (d : Statement). d.rule) (sym a.1) ∙ r) f)) (is_new k d s);
      });
    }

    -- a rule is listed
    pub index_rule : (old new : Index) → IsTrue e.rule → PutsRule (record { section = q; by = st }) old new → IsIndexUpTo M n old → IsIndexUpTo M (n + 1) new
    index_rule old new r p h = record {
      sound = λ top s k. let z = h.sound top s (subst (Member s) (p.equations top) k) in (still_of top s z.0, z.1);
      complete = λ k d s f t w v d_top z sol. ⊎_elim
          (λ a. let (i, j, c) = h.complete k d a f t w v d_top z sol in (i, subst (Member i) (sym (p.equations (operator_of t))) j, c))
          (λ a. absurd (both_ways _ f (ap (λ (d : Statement). d.rule) (sym a.1) ∙ r)))
          (is_new k d s);
      rules = subst (AreRulesOf (upto M (n + 1))) (sym p.rules) (record { sound = sound; complete = complete });
    }
      where
        new_rule : Rule
        new_rule = record { section = q; by = st }

        is_rule : IsRuleOf (upto M (n + 1)) new_rule
        is_rule = record { of = of_it; rule = flag q refl }
          where
            flag : (s : Section) → q ≡ s → st.rule ≡ true
            flag (Operator f) z = (are (Some f) (subst (λ s. Asks s (Some f)) (sym z) refl)).rule ∙ r
            flag Any z = (are None (subst (λ s. Asks s None) (sym z) tt)).rule ∙ r
            flag Leaves z = (are None (subst (λ s. Asks s None) (sym z) refl)).rule ∙ r

        sound : (s : Rule) → Member s (old.rules.items ++ new_rule ∷ []) → IsRuleOf (upto M (n + 1)) s
        sound s k = ⊎_elim (λ j. still_rule s (h.rules.sound s j)) (λ z. subst (IsRuleOf (upto M (n + 1))) z is_rule) (member-push s new_rule old.rules.items k)

        complete : (k : ℕ) (d : Statement) → IsStatement (upto M (n + 1)) k d → IsTrue d.rule
            → (s : Rule) × Member s (old.rules.items ++ new_rule ∷ []) × (s.by.number ≡ k) × ((t w : RawTerm) → IsValue M.signature t → IsTop M.signature t w
            → (z : Substitution) → IsSolution M.signature d.left (nested M.signature w) [] z → Asks s.section (operator_of t))
        complete k d i f = ⊎_elim
            (λ a. let (s, j, c, asks) = h.rules.complete k d a f in (s, member-left s old.rules.items (new_rule ∷ []) j, c, asks))
            (λ a. (
              new_rule,
              member-last new_rule old.rules.items,
              number ∙ omega (arith, a.0),
              λ t w v top z sol. asked_where t w v top z (subst (λ (d : Statement). IsSolution M.signature d.left (nested M.signature w) [] z) (sym a.1) sol),
            ))
            (is_new k d i)
