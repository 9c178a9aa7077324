-- Two neighbours among the arguments of a canonical term as a part of it, and clean forms of that.
use Rattle.std.specs.Prelude.{◌≡◌, ◌⊎◌, ◌<◌, ◌≤◌, ◌+◌, ◌-◌, ◌++◌, ℕ, suc, List, [], ◌∷◌, length, take, drop, Bool, true, false, Option, Some, None, refl}
use Rattle.std.proofs.Common.{inl, inr, arith, ap, sym, subst, ◌∙◌}
use Rattle.std.proofs.lemmas.Bool.{both_ways, cases_eq}
use Rattle.std.proofs.lemmas.List.{length-drop, length-take-le, take-append-drop}
use Rattle.mw_logic.specs.Term.{RawTerm, apply, RawTerms, nil, cons, join, binary}
use Rattle.mw_logic.specs.Terms.{terms_of}
use Rattle.mw_logic.specs.Signature.{Signature, Operator, IsOperator, IsRawTerm, an_operator, AreRawTerms, end, next}
use Rattle.mw_logic.specs.Accepted.{IsAccepted}
use Rattle.mw_logic.specs.Axioms.{EqualModulo, done, then, forward, comm}
use Rattle.mw_logic.specs.Parts.{is_assoc, nested, all_nested, nest, IsClean, Among, number_of_terms}
use Rattle.mw_logic.specs.TermOrder.{stands_after}
use Rattle.mw_logic.specs.NormalForm.{is_comm, identity_of, rebuilt, arranged, counted, normal_form, height}
use Rattle.mw_logic.specs.Kinds.{is_successor}
use Rattle.mw_logic.specs.CanonicalPart.{AreSeveral, IsCut, IsPartOf, several}
use Rattle.mw_logic.proofs.Canonical.{Each, IsCanonical, IsElement, same_operator, arranged-one, flattened-elements, each_canonical}
use Rattle.mw_logic.proofs.CanonicalTerms.{fixed, clean}
use Rattle.mw_logic.proofs.Holes.{Each-parts}
use Rattle.mw_logic.proofs.Inside.{associative, raw_inside}
use Rattle.mw_logic.proofs.Invariance.{normal_form-kept}
use Rattle.mw_logic.proofs.PartsOfNormalForm.{part_found}
use Rattle.mw_logic.proofs.RawKept.{raw_kept}
use Rattle.mw_logic.proofs.Soundness.{is_commutative, several-arranged}
use Rattle.mw_logic.proofs.SortedLists.{Climbs, climbs}
use Rattle.mw_arguments.specs.Places.{Takes, chosen}
use Rattle.mw_arguments.proofs.Arguments.{args_in_order, rebuilt_again}
use Rattle.mw_arguments.proofs.ListPieces.{number_join}
use Rattle.mw_arguments.proofs.Middles.{chosen-middle}
use Rattle.mw_builtin.specs.Steps.{IsTaken, IsFormOf, AreNeighbours}

-- as many arguments as kinds
pub as_many : {sig : Signature} {ts : RawTerms} {Ks : List ℕ} → AreRawTerms sig ts Ks → number_of_terms ts ≡ length Ks
as_many end = refl
as_many (next r k rest) = ap suc (as_many rest)

pub nested_number : (sig : Signature) (ts : RawTerms) → number_of_terms (all_nested sig ts) ≡ number_of_terms ts
nested_number sig nil = refl
nested_number sig (cons t ts) = ap suc (nested_number sig ts)

pub listed_number : (ts : List RawTerm) → number_of_terms (terms_of ts) ≡ length ts
listed_number [] = refl
listed_number (t ∷ ts) = ap suc (listed_number ts)

terms_join : (xs ys : List RawTerm) → terms_of (xs ++ ys) ≡ join (terms_of xs) (terms_of ys)
terms_join [] ys = refl
terms_join (x ∷ xs) ys = ap (cons x) (terms_join xs ys)

raw_of : {sig : Signature} {f : ℕ} {ts : RawTerms} (o : Operator) → IsOperator sig f o → IsRawTerm sig (apply f ts) → AreRawTerms sig ts o.args
raw_of {sig} {f} {ts} o is (an_operator p there args) = subst (λ (q : Operator). AreRawTerms sig ts q.args) (same_operator sig f p o there is) args

same_arguments : {f : ℕ} {ts us : RawTerms} → apply f ts ≡ apply f us → ts ≡ us
same_arguments e = cc

climbs_at : (before : RawTerms) (x y : RawTerm) (after : RawTerms) → Climbs (join before (cons x (cons y after))) → stands_after x y ≡ false
climbs_at nil x y after h = h.0.0
climbs_at (cons t before) x y after h = climbs_at before x y after h.1

-- in order a pair is its own arrangement
pub pair_in_order : (c : Bool) (x y : RawTerm) → (c ≡ true → stands_after x y ≡ false) → arranged c (cons x (cons y nil)) ≡ cons x (cons y nil)
pair_in_order false x y h = refl
pair_in_order true x y h = rw (h refl) refl

-- no canonical term is an associative operator on one argument
pub not_alone : (sig : Signature) (f : ℕ) (t : RawTerm) → is_assoc sig f ≡ true → IsCanonical sig (apply f (cons t nil)) → ⊥
not_alone sig f t h k =
    let alone : rebuilt (identity_of sig f) f (arranged (is_comm sig f) (cons t nil)) ≡ t = rw (arranged-one (is_comm sig f) t) refl in
    let e : t ≡ apply f (cons t nil) = sym (rw (h, flattened-elements (identity_of sig f) f (cons t nil) (k.2 h)) alone) ∙ k.1 in
    let high : height t ≡ height (apply f (cons t nil)) = ap height e in
    omega (arith, high)

module _ (sig : Signature) (ok : IsAccepted sig) (f : ℕ) (ts : RawTerms) (k : IsCanonical sig (apply f ts)) (raw : IsRawTerm sig (nested sig (apply f ts))) where
  -- without associativity there are as many arguments as the operator takes
  pub plain_number : (o : Operator) → IsOperator sig f o → is_assoc sig f ≡ false → number_of_terms ts ≡ length o.args
  plain_number o is h =
      let e : nested sig (apply f ts) ≡ apply f (all_nested sig ts) = rw h refl in
      sym (nested_number sig ts) ∙ as_many (raw_of o is (subst (IsRawTerm sig) e raw))

  -- an operator on two kinds has two arguments or more
  pub are_several : (o : Operator) (K L : ℕ) → IsOperator sig f o → o.args ≡ K ∷ L ∷ [] → AreSeveral ts
  are_several o K L is two = by_assoc (is_assoc sig f) refl
    where
      by_number : (us : RawTerms) → number_of_terms us ≡ 2 → AreSeveral us
      by_number nil e = cc
      by_number (cons t nil) e = cc
      by_number (cons t (cons u us)) e = tt

      none : is_assoc sig f ≡ true → ts ≡ nil → ⊥
      none h e =
          let n : nested sig (apply f ts) ≡ apply f nil = rw (h, e) refl in
          let m = as_many (raw_of o is (subst (IsRawTerm sig) n raw)) ∙ ap length two in
          cc

      by_shape : is_assoc sig f ≡ true → (us : RawTerms) → ts ≡ us → AreSeveral us
      by_shape h nil e = absurd (none h e)
      by_shape h (cons t nil) e = absurd (not_alone sig f t h (subst (λ us. IsCanonical sig (apply f us)) e k))
      by_shape h (cons t (cons u us)) e = tt

      by_assoc : (b : Bool) → is_assoc sig f ≡ b → AreSeveral ts
      by_assoc false h = by_number ts (plain_number o is h ∙ ap length two)
      by_assoc true h = by_shape h ts refl

  -- several arguments of a canonical term are in order
  pub in_order : AreSeveral ts → arranged (is_comm sig f) ts ≡ ts
  in_order s = by_assoc (is_assoc sig f) refl
    where
      counted_several : (s : Bool) (us : RawTerms) → AreSeveral us → counted s f us ≡ apply f us
      counted_several s nil h = elim h [ ]
      counted_several s (cons t nil) h = elim h [ ]
      counted_several s (cons t (cons u us)) h = refl

      by_assoc : (b : Bool) → is_assoc sig f ≡ b → arranged (is_comm sig f) ts ≡ ts
      by_assoc true h = args_in_order sig ok f h ts k
      by_assoc false h =
          let e : counted (is_successor sig f) f (arranged (is_comm sig f) ts) ≡ apply f ts = rw h at k.1 in
          same_arguments (sym (counted_several (is_successor sig f) (arranged (is_comm sig f) ts) (several-arranged (is_comm sig f) ts s)) ∙ e)

  -- two neighbours as a part
  pub record IsPair (x y : RawTerm) : Type 0 where
    pub stands : IsCanonical sig (apply f (cons x (cons y nil)))
    pub is_raw : IsRawTerm sig (nested sig (apply f (cons x (cons y nil))))

  module _ (before : RawTerms) (x y : RawTerm) (after : RawTerms) (whole : ts ≡ join before (cons x (cons y after))) where
    some : AreSeveral ts
    some = subst AreSeveral (sym whole) (behind before)
      where
        behind : (us : RawTerms) → AreSeveral (join us (cons x (cons y after)))
        behind nil = tt
        behind (cons t nil) = tt
        behind (cons t (cons u us)) = tt

    pub ordered : arranged (is_comm sig f) (cons x (cons y nil)) ≡ cons x (cons y nil)
    ordered = pair_in_order (is_comm sig f) x y (λ h. climbs_at before x y after (subst Climbs whole (climbs ts (subst (λ c. arranged c ts ≡ ts) h (in_order some)))))

    pub assoc_pair : is_assoc sig f ≡ true → IsPair x y
    assoc_pair h =
        let w : RawTerm = apply f (cons x (cons y nil)) in
        let es : Each (IsElement (identity_of sig f) f) (join before (cons x (cons y after))) = subst (Each (IsElement (identity_of sig f) f)) whole (k.2 h) in
        let cs : Each (IsCanonical sig) (join before (cons x (cons y after))) = subst (Each (IsCanonical sig)) whole (each_canonical sig ts k.0) in
        let (eb, e) = Each-parts (IsElement (identity_of sig f) f) before (cons x (cons y after)) es in
        let (cb, c) = Each-parts (IsCanonical sig) before (cons x (cons y after)) cs in
        let cut : IsCut (is_comm sig f) ts (cons x (cons y nil)) = record { before = before; after = after; whole = ap (arranged (is_comm sig f)) (sym whole) ∙ in_order some; in_order = ordered } in
        let part : IsPartOf sig false (apply f ts) w = several (associative sig ok f h) (λ h. absurd (both_ways _ refl h)) tt cut in
        let (C, o, is) = part_found sig ok w raw (subst (λ t. IsPartOf sig false t w) (sym (fixed sig ok (apply f ts) k)) part) in
        record {
          stands = rebuilt_again sig ok f h (cons x (cons y nil)) ordered (e.0, (e.1.0, tt)) (c.0, (c.1.0, tt));
          is_raw = raw_inside sig ok C (nested sig w) ((raw_kept sig ok is.equal).0 raw);
        }

    pub plain_pair : ts ≡ cons x (cons y nil) → IsPair x y
    plain_pair e = record { stands = subst (λ us. IsCanonical sig (apply f us)) e k; is_raw = subst (λ us. IsRawTerm sig (nested sig (apply f us))) e raw }

-- two arguments and no others
only_two : (b : RawTerms) (x y : RawTerm) (a : RawTerms) → number_of_terms (join b (cons x (cons y a))) ≡ 2 → join b (cons x (cons y a)) ≡ cons x (cons y nil)
only_two nil x y nil e = refl
only_two nil x y (cons z a) e = cc
only_two (cons z b) x y a e = let l = number_join b (cons x (cons y a)) in absurd (omega (arith, e, l))

-- a pair as it is nested
pub nested_two : (sig : Signature) (f : ℕ) (x y : RawTerm) → nested sig (apply f (cons x (cons y nil))) ≡ binary f (nested sig x) (nested sig y)
nested_two sig f x y = by_assoc (is_assoc sig f)
  where
    by_assoc : (b : Bool) → nest b f (cons (nested sig x) (cons (nested sig y) nil)) ≡ binary f (nested sig x) (nested sig y)
    by_assoc true = refl
    by_assoc false = refl

-- neighbours by the index of the second, as what their numbers take
module _ (sig : Signature) (ok : IsAccepted sig) (f : ℕ) (xs : List RawTerm) (k : IsCanonical sig (apply f (terms_of xs))) (raw : IsRawTerm sig (nested sig (apply f (terms_of xs)))) (o : Operator) (is : IsOperator sig f o) (K L : ℕ) (two : o.args ≡ K ∷ L ∷ [])
    (i : ℕ) (x y : RawTerm) (rest : List RawTerm) (positive : 1 ≤ i) (there : drop (i - 1) xs ≡ x ∷ y ∷ rest) (taking : Option (List ℕ)) (neighbours : AreNeighbours (length xs) i taking) where
  abbrev before : RawTerms
  before = terms_of (take (i - 1) xs)

  whole : terms_of xs ≡ join before (cons x (cons y (terms_of rest)))
  whole = ap terms_of (sym (take-append-drop (i - 1) xs)) ∙ terms_join (take (i - 1) xs) (drop (i - 1) xs) ∙ ap (λ zs. join before (terms_of zs)) there

  long : length xs - (i - 1) ≡ 2 + length rest
  long = let h : length (drop (i - 1) xs) ≡ length xs - (i - 1) = length-drop (i - 1) xs in let m : length (drop (i - 1) xs) ≡ length (x ∷ y ∷ rest) = ap length there in omega (arith, h, m)

  size : i ≡ 1 + number_of_terms before
  size = let l : length (take (i - 1) xs) ≡ i - 1 = length-take-le (i - 1) xs (let h = long in omega (arith, h)) in let m = listed_number (take (i - 1) xs) in omega (arith, l, m, positive)

  all : number_of_terms (terms_of xs) ≡ length xs
  all = listed_number xs

  pub pair : IsPair sig ok f (terms_of xs) k raw x y
  pair = by_assoc (is_assoc sig f) refl
    where
      by_assoc : (b : Bool) → is_assoc sig f ≡ b → IsPair sig ok f (terms_of xs) k raw x y
      by_assoc true h = assoc_pair sig ok f (terms_of xs) k raw before x y (terms_of rest) whole h
      by_assoc false h =
          let n : number_of_terms (terms_of xs) ≡ 2 = plain_number sig ok f (terms_of xs) k raw o is h ∙ ap length two in
          plain_pair sig ok f (terms_of xs) k raw before x y (terms_of rest) whole (whole ∙ only_two before x y (terms_of rest) (ap number_of_terms (sym whole) ∙ n))

  picked : chosen 1 (i ∷ (i + 1) ∷ []) (terms_of xs) ≡ cons x (cons y nil)
  picked =
      let next : i + 1 ≡ suc i + number_of_terms nil = omega arith in
      ap (chosen 1 (i ∷ (i + 1) ∷ [])) whole ∙ chosen-middle 1 i ((i + 1) ∷ []) before x (cons y (terms_of rest)) size ∙ ap (cons x) (chosen-middle (suc i) (i + 1) [] nil y (terms_of rest) next)

  is_taken : (t : Option (List ℕ)) → AreNeighbours (length xs) i t → IsTaken sig t (apply f (terms_of xs)) (apply f (cons x (cons y nil)))
  is_taken None e = ap (apply f) (sym (whole ∙ only_two before x y (terms_of rest) (ap number_of_terms (sym whole) ∙ all ∙ e)))
  is_taken (Some ks) (e, differs) =
      subst (λ (js : List ℕ). Takes sig js (apply f (terms_of xs)) (apply f (cons x (cons y nil))) × ((g : ℕ) (us : RawTerms) → apply f (terms_of xs) ≡ apply g us → length js < number_of_terms us)) (sym e) (takes, fewer)
    where
      associates : (b : Bool) → is_assoc sig f ≡ b → is_assoc sig f ≡ true
      associates true h = h
      associates false h = absurd (differs (sym all ∙ plain_number sig ok f (terms_of xs) k raw o is h ∙ ap length two))

      takes : Takes sig (i ∷ (i + 1) ∷ []) (apply f (terms_of xs)) (apply f (cons x (cons y nil)))
      takes =
          let h = long in
          let n = all in
          record {
            operator = f;
            args = terms_of xs;
            term = refl;
            assoc = associative sig ok f (associates (is_assoc sig f) refl);
            rise = (positive, omega (arith, h, n, positive), (omega arith, omega (arith, h, n, positive), tt));
            several = subst AreSeveral (sym picked) tt;
            follow = λ _. (omega arith, tt);
            part = ap (apply f) (sym picked);
          }

      fewer : (g : ℕ) (us : RawTerms) → apply f (terms_of xs) ≡ apply g us → 2 < number_of_terms us
      fewer g us q =
          let same : terms_of xs ≡ us = cc in
          let m : number_of_terms us ≡ length xs = ap number_of_terms (sym same) ∙ all in
          let h = long in
          let d : 2 ≤ length xs = omega (arith, h) in
          above d m
        where
          above : 2 ≤ length xs → number_of_terms us ≡ length xs → 2 < number_of_terms us
          above d m = by_case (cases_eq (length xs) 2)
            where
              by_case : (length xs ≡ 2) ⊎ (length xs ≡ 2 → ⊥) → 2 < number_of_terms us
              by_case (inl e) = absurd (differs e)
              by_case (inr n) = omega (arith, n, d, m)

  -- the pair as a form of it, and under a commutative operator turned round
  pub form : IsFormOf sig taking (apply f (terms_of xs)) (binary f (nested sig x) (nested sig y))
  form = record {
    part = apply f (cons x (cons y nil));
    taken = is_taken taking neighbours;
    raw = subst (IsRawTerm sig) (nested_two sig f x y) pair.is_raw;
    clean = subst (IsClean sig) (nested_two sig f x y) (clean sig ok (apply f (cons x (cons y nil))) pair.stands);
    is = ap (normal_form sig) (sym (nested_two sig f x y)) ∙ fixed sig ok (apply f (cons x (cons y nil))) pair.stands;
  }

  pub turned : is_comm sig f ≡ true → IsFormOf sig taking (apply f (terms_of xs)) (binary f (nested sig y) (nested sig x))
  unfolding form
  turned h =
      let e : EqualModulo sig (binary f (nested sig x) (nested sig y)) (binary f (nested sig y) (nested sig x)) = then (forward (comm (is_commutative sig ok f h))) done in
      record {
        part = apply f (cons x (cons y nil));
        taken = is_taken taking neighbours;
        raw = (raw_kept sig ok e).0 form.raw;
        clean = swapped form.clean;
        is = sym (normal_form-kept sig ok e) ∙ form.is;
      }
    where
      other : {u v e : RawTerm} → Among (cons u (cons v nil)) e → Among (cons v (cons u nil)) e
      other (inl p) = inr (inl p)
      other (inr (inl p)) = inl p
      other (inr (inr p)) = absurd p

      swapped : {u v : RawTerm} → IsClean sig (binary f u v) → IsClean sig (binary f v u)
      swapped c = ((c.0.1.0, (c.0.0, tt)), λ e i m. c.1 e i (other m), λ n i e l. cc)
