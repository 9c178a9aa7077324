-- Where no row is met at the top of a canonical term.
use Rattle.std.specs.Prelude.{◌≡◌, ℕ, [], ◌∷◌, Bool, true, false, refl}
use Rattle.std.proofs.Common.{ap, sym, subst, ◌∙◌}
use Rattle.std.proofs.lemmas.Bool.{both_ways}
use Rattle.mw_logic.specs.Term.{RawTerm, numeral, apply, RawTerms, nil, cons, binary}
use Rattle.mw_logic.specs.Signature.{Signature, Operator, IsOperator, IsAssociative, IsRawTerm}
use Rattle.mw_logic.specs.Accepted.{IsAccepted}
use Rattle.mw_logic.specs.Parts.{is_assoc, IsClean}
use Rattle.mw_logic.specs.NormalForm.{is_comm, arranged, normal_form, normal_forms}
use Rattle.mw_logic.specs.CanonicalPart.{IsCut}
use Rattle.mw_logic.specs.Module.{BuiltIn, plus, times, difference, quotient, remainder, least, greatest, less_than, at_most, more_than, at_least, result_of, IsTruth, IsBuiltIn, Row, arithmetic, equal_terms, unequal_terms, not_different, different, if_true, if_false, MeetsRow, by_row, an_equality, an_inequality}
use Rattle.mw_logic.proofs.Canonical.{arranged-twice, same_operator, comm_operator, not_assoc}
use Rattle.mw_logic.proofs.CleanForms.{keeps_top, plain_form}
use Rattle.mw_logic.proofs.Inside.{tops}
use Rattle.mw_logic.proofs.SortLaws.{join-nil}
use Rattle.mw_deduction.specs.Tops.{IsTop, whole, several}
use Rattle.mw_deduction.proofs.Rows.{pair_form}
use Rattle.mw_builtin.specs.Results.{IsBarren, HasNoPair}
use Rattle.mw_builtin.specs.Schemata.{Computes, IsSchemaOf, on_numbers}
use Rattle.mw_builtin.specs.Steps.{HasNoRow}
use Rattle.mw_builtin.specs.declared.schema.BuiltIn.{BuiltIn as OnNumbers}
use Rattle.mw_builtin.specs.declared.schema.BuiltIn.TheVariants.{Plus, Times, Difference, Quotient, Remainder, Least, Greatest, LessThan, AtMost, MoreThan, AtLeast}
use Rattle.mw_builtin.specs.declared.schema.Schema.{Schema}
use Rattle.mw_builtin.specs.declared.schema.Schema.TheVariants.{Nothing, Number, Equality, Inequality, Choice, Truth}
use Rattle.mw_builtin.proofs.Giving.{kept_truth}

-- the schema of an operator on numbers
number_schema : (b : BuiltIn) → (s : OnNumbers) × (on_numbers s ≡ b)
number_schema plus = (Plus, refl)
number_schema times = (Times, refl)
number_schema difference = (Difference, refl)
number_schema quotient = (Quotient, refl)
number_schema remainder = (Remainder, refl)
number_schema least = (Least, refl)
number_schema greatest = (Greatest, refl)
number_schema less_than = (LessThan, refl)
number_schema at_most = (AtMost, refl)
number_schema more_than = (MoreThan, refl)
number_schema at_least = (AtLeast, refl)

-- whether rows begin with operators of the schema
abbrev pub works : Schema → Bool
works Nothing = false
works (Number b) = true
works Equality = true
works Inequality = true
works Choice = true
works (Truth b) = false

-- the operator on top of what meets a row, with its schema
record Working (sig : Signature) (w : RawTerm) : Type 0 where
  operator : ℕ
  args : RawTerms
  schema : Schema
  is : w ≡ apply operator args
  computes : Computes sig operator schema
  does : works schema ≡ true

of_numbers : (sig : Signature) (f m n : ℕ) (b : BuiltIn) → IsBuiltIn sig f b → Working sig (binary f (numeral m) (numeral n))
of_numbers sig f m n b is = let (s, e) = number_schema b in record { operator = f; args = cons (numeral m) (cons (numeral n) nil); schema = Number s; is = refl; computes = subst (IsBuiltIn sig f) (sym e) is; does = refl }

of_row : (sig : Signature) (N : RawTerm → Type 0) (t u : RawTerm) → Row sig N t u → Working sig t
of_row sig N t u (arithmetic {f} {m} {n} b is d) = of_numbers sig f m n b is
of_row sig N t r (equal_terms {f} {u} {v} p e d) = record { operator = f; args = cons u (cons v nil); schema = Equality; is = refl; computes = p; does = refl }
of_row sig N t r (unequal_terms {f} {u} {v} p a b e d) = record { operator = f; args = cons u (cons v nil); schema = Equality; is = refl; computes = p; does = refl }
of_row sig N t r (not_different {f} {u} {v} p e d) = record { operator = f; args = cons u (cons v nil); schema = Inequality; is = refl; computes = p; does = refl }
of_row sig N t r (different {f} {u} {v} p a b e d) = record { operator = f; args = cons u (cons v nil); schema = Inequality; is = refl; computes = p; does = refl }
of_row sig N t r (if_true {f} {c} {u = u} {v = v} p d) = record { operator = f; args = cons c (cons u (cons v nil)); schema = Choice; is = refl; computes = p; does = refl }
of_row sig N t r (if_false {f} {c} {u = u} {v = v} p d) = record { operator = f; args = cons c (cons u (cons v nil)); schema = Choice; is = refl; computes = p; does = refl }

of_meeting : (sig : Signature) (t : RawTerm) → MeetsRow sig t → Working sig t
of_meeting sig t (by_row {u = u} r) = of_row sig (λ v. ⊥) t u r
of_meeting sig t (an_equality {f} {u} {v} p) = record { operator = f; args = cons u (cons v nil); schema = Equality; is = refl; computes = p; does = refl }
of_meeting sig t (an_inequality {f} {u} {v} p) = record { operator = f; args = cons u (cons v nil); schema = Inequality; is = refl; computes = p; does = refl }

top_operator : {sig : Signature} {f : ℕ} {ts : RawTerms} {v : RawTerm} → IsTop sig (apply f ts) v → (us : RawTerms) × (v ≡ apply f us)
top_operator {ts = ts} whole = (ts, refl)
top_operator (several {us = us} a s c) = (us, refl)

same_top : {f g : ℕ} {ts us : RawTerms} → apply f ts ≡ apply g us → (f ≡ g) × (ts ≡ us)
same_top e = (cc, cc)

-- a clean term's operator stands on top of its normal form
keeps_operator : (sig : Signature) → IsAccepted sig → (g : ℕ) (ws : RawTerms) → IsRawTerm sig (apply g ws) → IsClean sig (apply g ws) → (us : RawTerms) × (normal_form sig (apply g ws) ≡ apply g us)
keeps_operator sig ok g nil r c = (nil, keeps_top sig ok r c)
keeps_operator sig ok g (cons w ws) r c = let (us, l, e) = keeps_top sig ok r c in (us, e)

module _ (sig : Signature) (ok : IsAccepted sig) (f : ℕ) (ts : RawTerms) where
  -- a clean form of a top part has the same operator on top
  on_top : (w : RawTerm) → IsRawTerm sig w → IsClean sig w → IsTop sig (apply f ts) (normal_form sig w) → (g : ℕ) (ws : RawTerms) → w ≡ apply g ws → g ≡ f
  on_top w r c top g ws e =
      let (us, h) = keeps_operator sig ok g ws (subst (IsRawTerm sig) e r) (subst (IsClean sig) e c) in
      let (vs, k) = top_operator top in
      (same_top (sym h ∙ ap (normal_form sig) (sym e) ∙ k)).0

  only_schema : (s : Schema) → IsSchemaOf sig f s → (g : ℕ) → g ≡ f → (other : Schema) → Computes sig g other → other ≡ s
  only_schema s h g e other k = h.only other (subst (λ j. Computes sig j other) e k)

  -- so what has another schema on top isn't one
  other_schema : {X : Type 0} (s : Schema) → IsSchemaOf sig f s → (w : RawTerm) → IsRawTerm sig w → IsClean sig w → IsTop sig (apply f ts) (normal_form sig w) → (g : ℕ) (ws : RawTerms) → w ≡ apply g ws → (other : Schema) → Computes sig g other → (other ≡ s → ⊥) → X
  other_schema s h w raw clean top g ws e other k differs = absurd (differs (only_schema s h g (on_top w raw clean top g ws e) other k))

  -- no row begins with an operator without a schema, or with a truth value
  pub idle : (s : Schema) → IsSchemaOf sig f s → works s ≡ false → HasNoRow sig (apply f ts)
  idle s h none = record {
    no_row = λ w raw clean top m. none_at w raw clean top (of_meeting sig w m);
    no_pair = λ w raw clean top p. none_at w raw clean top (subst (Working sig) (sym p.is) (of_numbers sig p.operator p.m p.n p.schema p.is_built_in));
  }
    where
      none_at : (w : RawTerm) → IsRawTerm sig w → IsClean sig w → IsTop sig (apply f ts) (normal_form sig w) → Working sig w → ⊥
      none_at w raw clean top k =
          let e = on_top w raw clean top k.operator k.args k.is in
          both_ways _ none (ap works (sym (only_schema s h k.operator e k.schema k.computes)) ∙ k.does)

  -- what a form of a pair says of the arguments
  cut_of : (us : RawTerms) → IsTop sig (apply f ts) (apply f (arranged (is_comm sig f) us)) → IsCut (is_comm sig f) ts (arranged (is_comm sig f) us)
  cut_of us top = by_top top refl
    where
      at_whole : ts ≡ arranged (is_comm sig f) us → IsCut (is_comm sig f) ts (arranged (is_comm sig f) us)
      at_whole e = record { before = nil; after = nil; whole = ap (arranged (is_comm sig f)) (join-nil (arranged (is_comm sig f) us)) ∙ arranged-twice (is_comm sig f) us ∙ sym e; in_order = arranged-twice (is_comm sig f) us }

      by_top : {v : RawTerm} → IsTop sig (apply f ts) v → v ≡ apply f (arranged (is_comm sig f) us) → IsCut (is_comm sig f) ts (arranged (is_comm sig f) us)
      by_top whole e = at_whole (same_top e).1
      by_top (several a s c) e = subst (IsCut (is_comm sig f) ts) (same_top e).1 c

  number_inj : {a b : OnNumbers} → Number a ≡ Number b → a ≡ b
  number_inj e = cc

  -- no two numerals give anything
  pub no_numbers : (b : OnNumbers) → IsSchemaOf sig f (Number b) → HasNoPair sig (on_numbers b) (is_comm sig f) ts → HasNoRow sig (apply f ts)
  no_numbers b h none = record { no_row = rows; no_pair = λ w raw clean top p. (barren w raw clean top p.operator p.m p.n p.schema p.is p.is_built_in).not_big p.too_big }
    where
      barren : (w : RawTerm) → IsRawTerm sig w → IsClean sig w → IsTop sig (apply f ts) (normal_form sig w) → (g m n : ℕ) (c : BuiltIn) → w ≡ binary g (numeral m) (numeral n) → IsBuiltIn sig g c → IsBarren sig (result_of c m n)
      barren w raw clean top g m n c e is =
          let same : g ≡ f = on_top w raw clean top g _ e in
          let (s, q) = number_schema c in
          let schema : on_numbers b ≡ c = ap on_numbers (number_inj (sym (only_schema (Number b) h g same (Number s) (subst (IsBuiltIn sig g) (sym q) is)))) ∙ q in
          let w_is : w ≡ binary f (numeral m) (numeral n) = e ∙ ap (λ j. binary j (numeral m) (numeral n)) same in
          let form = pair_form sig ok f m n (subst (IsRawTerm sig) w_is raw) (subst (IsClean sig) w_is clean) in
          subst (λ c. IsBarren sig (result_of c m n)) schema (none m n (cut_of (cons (numeral m) (cons (numeral n) nil)) (subst (IsTop sig (apply f ts)) (ap (normal_form sig) w_is ∙ form) top)))

      by_rows : (w r : RawTerm) → IsRawTerm sig w → IsClean sig w → IsTop sig (apply f ts) (normal_form sig w) → Row sig (λ v. ⊥) w r → ⊥
      by_rows w r raw clean top (arithmetic {f = g} {m} {n} c is d) = (barren w raw clean top g m n c refl is).no_term r d
      by_rows w r raw clean top (equal_terms {f = g} p e d) = other_schema (Number b) h w raw clean top g _ refl Equality p (λ q. cc)
      by_rows w r raw clean top (unequal_terms {f = g} p a b e d) = absurd a
      by_rows w r raw clean top (not_different {f = g} p e d) = other_schema (Number b) h w raw clean top g _ refl Inequality p (λ q. cc)
      by_rows w r raw clean top (different {f = g} p a b e d) = absurd a
      by_rows w r raw clean top (if_true {f = g} p d) = other_schema (Number b) h w raw clean top g _ refl Choice p (λ q. cc)
      by_rows w r raw clean top (if_false {f = g} p d) = other_schema (Number b) h w raw clean top g _ refl Choice p (λ q. cc)

      rows : (w : RawTerm) → IsRawTerm sig w → IsClean sig w → IsTop sig (apply f ts) (normal_form sig w) → ¬ MeetsRow sig w
      rows w raw clean top (by_row {u = r} row) = by_rows w r raw clean top row
      rows w raw clean top (an_equality {f = g} p) = other_schema (Number b) h w raw clean top g _ refl Equality p (λ q. cc)
      rows w raw clean top (an_inequality {f = g} p) = other_schema (Number b) h w raw clean top g _ refl Inequality p (λ q. cc)

  first_same : {x y : RawTerm} {xs ys : RawTerms} → cons x xs ≡ cons y ys → x ≡ y
  first_same e = cc

  -- no truth value stands where a choice asks for it
  pub no_choice : (o : Operator) → IsOperator sig f o → (B K L : ℕ) → o.args ≡ B ∷ K ∷ L ∷ [] → IsSchemaOf sig f Choice → (t : RawTerm) (rest : RawTerms) → ts ≡ cons t rest → ((b : Bool) → IsTruth sig b t → ⊥) → HasNoRow sig (apply f ts)
  no_choice o is B K L three h t rest first none = record {
    no_row = rows;
    no_pair = λ w raw clean top p. let (s, q) = number_schema p.schema in other_schema Choice h w raw clean top p.operator _ p.is (Number s) (subst (IsBuiltIn sig p.operator) (sym q) p.is_built_in) (λ e. cc);
  }
    where
      not_two : {A C : ℕ} → B ∷ K ∷ L ∷ [] ≡ A ∷ C ∷ [] → ⊥
      not_two e = cc

      no_assoc : IsAssociative sig f → ⊥
      no_assoc a = let p = ok.assoc f a.operator a.is_there a.assoc in not_two (sym three ∙ ap (λ (o : Operator). o.args) (same_operator sig f o a.operator is a.is_there) ∙ p.2)

      plain : is_assoc sig f ≡ false
      plain = not_assoc sig ok f o is (λ A C e. not_two (sym three ∙ e))

      in_turn : (c : Bool) → is_comm sig f ≡ c → is_comm sig f ≡ false
      in_turn false e = e
      in_turn true e = let (p, there, q) = comm_operator sig f e in let r = ok.comm f p there q in absurd (not_two (sym three ∙ ap (λ (o : Operator). o.args) (same_operator sig f o p is there) ∙ r.2))

      at_whole : {v : RawTerm} → IsTop sig (apply f ts) v → v ≡ apply f ts
      at_whole whole = refl
      at_whole (several a s c) = absurd (no_assoc a)

      choices : (w : RawTerm) → IsRawTerm sig w → IsClean sig w → IsTop sig (apply f ts) (normal_form sig w) → (g : ℕ) (c : RawTerm) (ws : RawTerms) → w ≡ apply g (cons c ws) → (b : Bool) → IsTruth sig b c → ⊥
      choices w raw clean top g c ws e b (d, q, named) =
          let same : g ≡ f = on_top w raw clean top g _ e in
          let w_is : w ≡ apply f (cons c ws) = e ∙ ap (λ j. apply j (cons c ws)) same in
          let r : IsRawTerm sig (apply f (cons c ws)) = subst (IsRawTerm sig) w_is raw in
          let l : IsClean sig (apply f (cons c ws)) = subst (IsClean sig) w_is clean in
          let form = plain_form sig ok f plain (cons c ws) l (tops sig ok f (cons c ws) r l) in
          let form_is : normal_form sig (apply f (cons c ws)) ≡ apply f (normal_forms sig (cons c ws)) = form ∙ ap (λ i. apply f (arranged i (normal_forms sig (cons c ws)))) (in_turn (is_comm sig f) refl) in
          let all : normal_forms sig (cons c ws) ≡ ts = (same_top (sym form_is ∙ ap (normal_form sig) (sym w_is) ∙ at_whole top)).1 in
          let one : normal_form sig c ≡ t = first_same (all ∙ first) in
          none b (d, sym one ∙ ap (normal_form sig) q ∙ kept_truth sig ok b d named, named)

      by_rows : (w r : RawTerm) → IsRawTerm sig w → IsClean sig w → IsTop sig (apply f ts) (normal_form sig w) → Row sig (λ v. ⊥) w r → ⊥
      by_rows w r raw clean top (arithmetic {f = g} b is d) = let (s, q) = number_schema b in other_schema Choice h w raw clean top g _ refl (Number s) (subst (IsBuiltIn sig g) (sym q) is) (λ e. cc)
      by_rows w r raw clean top (equal_terms {f = g} p e d) = other_schema Choice h w raw clean top g _ refl Equality p (λ q. cc)
      by_rows w r raw clean top (unequal_terms {f = g} p a b e d) = absurd a
      by_rows w r raw clean top (not_different {f = g} p e d) = other_schema Choice h w raw clean top g _ refl Inequality p (λ q. cc)
      by_rows w r raw clean top (different {f = g} p a b e d) = absurd a
      by_rows w r raw clean top (if_true {f = g} {c} {u = x} {v = y} p d) = choices w raw clean top g c (cons x (cons y nil)) refl true d
      by_rows w r raw clean top (if_false {f = g} {c} {u = x} {v = y} p d) = choices w raw clean top g c (cons x (cons y nil)) refl false d

      rows : (w : RawTerm) → IsRawTerm sig w → IsClean sig w → IsTop sig (apply f ts) (normal_form sig w) → ¬ MeetsRow sig w
      rows w raw clean top (by_row {u = r} row) = by_rows w r raw clean top row
      rows w raw clean top (an_equality {f = g} p) = other_schema Choice h w raw clean top g _ refl Equality p (λ q. cc)
      rows w raw clean top (an_inequality {f = g} p) = other_schema Choice h w raw clean top g _ refl Inequality p (λ q. cc)

-- a term without an operator on top meets no row, and is no pair
pub leaf_has_no_row : (sig : Signature) → IsAccepted sig → (t : RawTerm) → ((f : ℕ) (ts : RawTerms) → t ≡ apply f ts → ⊥) → HasNoRow sig t
leaf_has_no_row sig ok t leaf = record {
  no_row = λ w raw clean top m. let h = of_meeting sig w m in at_leaf w raw clean top h.operator h.args h.is;
  no_pair = λ w raw clean top p. at_leaf w raw clean top p.operator _ p.is;
}
  where
    only_whole : {u v : RawTerm} → IsTop sig u v → ((f : ℕ) (ts : RawTerms) → u ≡ apply f ts → ⊥) → v ≡ u
    only_whole whole h = refl
    only_whole (several {f} {ts} a s c) h = absurd (h f ts refl)

    at_leaf : (w : RawTerm) → IsRawTerm sig w → IsClean sig w → IsTop sig t (normal_form sig w) → (g : ℕ) (ws : RawTerms) → w ≡ apply g ws → ⊥
    at_leaf w raw clean top g ws e =
        let (us, h) = keeps_operator sig ok g ws (subst (IsRawTerm sig) e raw) (subst (IsClean sig) e clean) in
        leaf g us (sym (only_whole top leaf) ∙ ap (normal_form sig) e ∙ h)
