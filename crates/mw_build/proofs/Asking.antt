-- Ends of texts in the form of sort tests: a text has one at most, and what stands there tells it.
use Rattle.std.proofs.Common.{◌≡◌, ◌≢◌, ◌∙◌, ◌++◌, ◌-◌, ℕ, List, [], ◌∷◌, Bool, true, false, length, get_or, take, drop, codes, append_assoc, length-append, arith, refl, sym, ap, subst}
use Rattle.std.proofs.lemmas.Bool.{and_parts, and_from, false_from_ne_true, both_ways}
use Rattle.std.proofs.lemmas.List.{map-append, length-map, length-drop, take-append-drop}
use Rattle.std.proofs.lemmas.Slice.Eq.{bytes_eq-Decides}
use Rattle.std.specs.Prelude.{◌&&◌, not}
use Rattle.mw_lex.specs.declared.token.Token.{Token}
use Rattle.mw_logic.specs.Signature.{Signature, Sorted, IsSortNamed}
use Rattle.mw_logic.specs.Accepted.{IsAccepted}
use Rattle.mw_module.specs.Words.{is, texts}
use Rattle.mw_build.specs.Fragments.{ending, Asks, asked_for, IsTest, IsNoTest}
use Rattle.mw_build.specs.Endings.{is_sort_end, is_kind_end, AsksNothing}

-- lists that are one, with ends of one length, have one front and one end
same_ends : {X : Type 0} (xs ys e f : List X) → length e ≡ length f → xs ++ e ≡ ys ++ f → (xs ≡ ys) × (e ≡ f)
same_ends [] [] e f l h = (refl, h)
same_ends [] (y ∷ ys) e f l h = let n = ap length h in let k = length-append ys f in absurd (omega (arith, l, n, k))
same_ends (x ∷ xs) [] e f l h = let n = ap length h in let k = length-append xs e in absurd (omega (arith, l, n, k))
same_ends (x ∷ xs) (y ∷ ys) e f l h =
    let head : x ≡ y = cc in
    let tail : xs ++ e ≡ ys ++ f = cc in
    let rest = same_ends xs ys e f l tail in
    (ap (λ z. z ∷ xs) head ∙ ap (λ zs. y ∷ zs) rest.0, rest.1)

-- a name in brackets isn't one that stands alone
not_both : (t u : List (List ℕ)) (m n : List ℕ) → n ≢ codes "]" → t ++ ending true m ≡ u ++ ending false n → ⊥
not_both t u m n alone e =
    let s = same_ends (t ++ codes ":" ∷ codes "[" ∷ []) u (m ∷ codes "]" ∷ []) (ending false n) refl (append_assoc t (codes ":" ∷ codes "[" ∷ []) (m ∷ codes "]" ∷ []) ∙ e) in
    let last : m ∷ codes "]" ∷ [] ≡ codes ":" ∷ n ∷ [] = s.1 in
    let name : codes "]" ≡ n = second m (codes "]") (codes ":") n last in
    alone (sym name)
  where
    second : (a b c d : List ℕ) → a ∷ b ∷ [] ≡ c ∷ d ∷ [] → b ≡ d
    second a b c d h = cc

pub asks_one : (text t u : List (List ℕ)) (a b : Bool) (m n : List ℕ) → Asks text t a m → Asks text u b n → (t ≡ u) × (a ≡ b) × (m ≡ n)
asks_one text t u false false m n p q = let s = same_ends t u (ending false m) (ending false n) refl (sym p.whole ∙ q.whole) in (s.0, refl, name s.1)
  where
    name : ending false m ≡ ending false n → m ≡ n
    name h = cc
asks_one text t u true true m n p q = let s = same_ends t u (ending true m) (ending true n) refl (sym p.whole ∙ q.whole) in (s.0, refl, name s.1)
  where
    name : ending true m ≡ ending true n → m ≡ n
    name h = cc
asks_one text t u true false m n p q = absurd (not_both t u m n (q.alone refl) (sym p.whole ∙ q.whole))
asks_one text t u false true m n p q = absurd (not_both u t n m (p.alone refl) (sym q.whole ∙ p.whole))

-- a text is one test at most
pub test_one : (sig : Signature) → IsAccepted sig → (text t u : List (List ℕ)) (S T : Sorted) → IsTest sig text t S → IsTest sig text u T → (t ≡ u) × (S ≡ T)
test_one sig ok text t u S T p q =
    let (front, brackets, names) = asks_one text t u p.bracketed q.bracketed p.name q.name p.asks q.asks in
    let number : p.number ≡ q.number = ok.sorts_differ p.number q.number q.name (subst (IsSortNamed sig p.number) names p.named) q.named in
    (front, p.is ∙ ap (λ b. asked_for b p.number) brackets ∙ ap (asked_for q.bracketed) number ∙ sym q.is)

-- and none where no such end stands, or no sort has the name that does
pub no_test : (sig : Signature) (text : List (List ℕ)) → AsksNothing text → IsNoTest sig text
no_test sig text h term S p = h term p.bracketed p.name p.asks

pub no_sort : (sig : Signature) (text term : List (List ℕ)) (bracketed : Bool) (name : List ℕ) → Asks text term bracketed name → ((S : ℕ) → ¬ IsSortNamed sig S name) → IsNoTest sig text
no_sort sig text term bracketed name asks none other S p =
    let (front, brackets, names) = asks_one text other term p.bracketed bracketed p.name name p.asks asks in
    none p.number (subst (IsSortNamed sig p.number) names p.named)

-- texts that are a word, and the other way round
word_is : (word : List ℕ) (t : Token) → is word t ≡ true → t.text ≡ word
word_is word t h = (bytes_eq-Decides t.text word).0 h

is_word : (word : List ℕ) (t : Token) → t.text ≡ word → is word t ≡ true
is_word word t h = (bytes_eq-Decides t.text word).1 h

not_word : (word : List ℕ) (t : Token) → (t.text ≡ word → ⊥) → is word t ≡ false
not_word word t h = false_from_ne_true (is word t) (λ e. h (word_is word t e))

-- what an end tells
sort_end : (end : List Token) (name : Token) → name ≡ get_or end 1 name → is_sort_end end ≡ true → (texts end ≡ ending false name.text) × (name.text ≢ codes "]")
sort_end [] name at h = absurd (both_ways _ refl h)
sort_end (a ∷ []) name at h = absurd (both_ways _ refl h)
sort_end (a ∷ b ∷ []) name at h =
    let parts = and_parts (is (codes ":") a) (not (is (codes "]") b)) h in
    let colon = word_is (codes ":") a parts.0 in (
      ap (λ c. c ∷ b.text ∷ []) colon ∙ ap (λ (t : Token). ending false t.text) (sym at),
      λ e. alone parts.1 (ap (λ (t : Token). t.text) (sym at) ∙ e),
    )
  where
    alone : not (is (codes "]") b) ≡ true → b.text ≡ codes "]" → ⊥
    alone n e = both_ways _ (ap not (is_word (codes "]") b e)) n
sort_end (a ∷ b ∷ c ∷ rest) name at h = absurd (both_ways _ refl h)

kind_end : (end : List Token) (name : Token) → name ≡ get_or end 2 name → is_kind_end end ≡ true → texts end ≡ ending true name.text
kind_end [] name at h = absurd (both_ways _ refl h)
kind_end (a ∷ []) name at h = absurd (both_ways _ refl h)
kind_end (a ∷ b ∷ []) name at h = absurd (both_ways _ refl h)
kind_end (a ∷ b ∷ c ∷ []) name at h = absurd (both_ways _ refl h)
kind_end (a ∷ b ∷ c ∷ d ∷ []) name at h =
    let (colon, opening, closing) = three (is (codes ":") a) (is (codes "[") b) (is (codes "]") d) h in
    ap (λ x. x ∷ b.text ∷ c.text ∷ d.text ∷ []) (word_is (codes ":") a colon) ∙ ap (λ x. codes ":" ∷ x ∷ c.text ∷ d.text ∷ []) (word_is (codes "[") b opening)
    ∙ ap (λ x. codes ":" ∷ codes "[" ∷ c.text ∷ x ∷ []) (word_is (codes "]") d closing) ∙ ap (λ (t : Token). ending true t.text) (sym at)
  where
    three : (x y z : Bool) → (x && y && z) ≡ true → (x ≡ true) × (y ≡ true) × (z ≡ true)
    three true true true e = (refl, refl, refl)
    three true true false e = absurd (both_ways _ refl e)
    three true false z e = absurd (both_ways _ refl e)
    three false y z e = absurd (both_ways _ refl e)
kind_end (a ∷ b ∷ c ∷ d ∷ e ∷ rest) name at h = absurd (both_ways _ refl h)

-- the ends are recognized
sort_end_is : (end : List Token) (name : List ℕ) → texts end ≡ ending false name → name ≢ codes "]" → is_sort_end end ≡ true
sort_end_is [] name e alone = cc
sort_end_is (a ∷ []) name e alone = cc
sort_end_is (a ∷ b ∷ []) name e alone =
    let colon : a.text ≡ codes ":" = first a.text b.text (codes ":") name e in
    let same : b.text ≡ name = second a.text b.text (codes ":") name e in
    and_from (is (codes ":") a) (not (is (codes "]") b)) (is_word (codes ":") a colon) (ap not (not_word (codes "]") b (λ h. alone (sym same ∙ h))))
  where
    first : (a b c d : List ℕ) → a ∷ b ∷ [] ≡ c ∷ d ∷ [] → a ≡ c
    first a b c d h = cc

    second : (a b c d : List ℕ) → a ∷ b ∷ [] ≡ c ∷ d ∷ [] → b ≡ d
    second a b c d h = cc
sort_end_is (a ∷ b ∷ c ∷ rest) name e alone = let n : length (texts (a ∷ b ∷ c ∷ rest)) ≡ 2 = ap length e in absurd (omega (arith, n))

kind_end_is : (end : List Token) (name : List ℕ) → texts end ≡ ending true name → is_kind_end end ≡ true
kind_end_is [] name e = cc
kind_end_is (a ∷ []) name e = let n : length (texts (a ∷ [])) ≡ 4 = ap length e in absurd (omega (arith, n))
kind_end_is (a ∷ b ∷ []) name e = let n : length (texts (a ∷ b ∷ [])) ≡ 4 = ap length e in absurd (omega (arith, n))
kind_end_is (a ∷ b ∷ c ∷ []) name e = let n : length (texts (a ∷ b ∷ c ∷ [])) ≡ 4 = ap length e in absurd (omega (arith, n))
kind_end_is (a ∷ b ∷ c ∷ d ∷ []) name e =
    let (colon, opening, closing) = of_four a.text b.text c.text d.text e in
    three (is (codes ":") a) (is (codes "[") b) (is (codes "]") d) (is_word (codes ":") a colon) (is_word (codes "[") b opening) (is_word (codes "]") d closing)
  where
    of_four : (x y z w : List ℕ) → x ∷ y ∷ z ∷ w ∷ [] ≡ ending true name → (x ≡ codes ":") × (y ≡ codes "[") × (w ≡ codes "]")
    of_four x y z w h = (cc, cc, cc)

    three : (x y z : Bool) → x ≡ true → y ≡ true → z ≡ true → (x && y && z) ≡ true
    three x y z p q r = rw (p, q, r) refl
kind_end_is (a ∷ b ∷ c ∷ d ∷ e ∷ rest) name h = let n : length (texts (a ∷ b ∷ c ∷ d ∷ e ∷ rest)) ≡ 4 = ap length h in absurd (omega (arith, n))

module _ (ts : List Token) where
  -- a text in two parts
  parts : (k : ℕ) → texts ts ≡ texts (take k ts) ++ texts (drop k ts)
  parts k = ap texts (sym (take-append-drop k ts)) ∙ map-append (λ (t : Token). t.text) (take k ts) (drop k ts)

  -- its end is what is known of its texts
  end_is : (n : ℕ) (term end : List (List ℕ)) → length end ≡ n → texts ts ≡ term ++ end → texts (drop (length ts - n) ts) ≡ end
  end_is n term end l e =
      let count : length (texts ts) ≡ length ts = length-map ts (λ (t : Token). t.text) in
      let whole : length (texts ts) ≡ length (term ++ end) = ap length e in
      let sum = length-append term end in
      let a = length-map (drop (length ts - n) ts) (λ (t : Token). t.text) in
      let b = length-drop (length ts - n) ts in
      let long : length (texts (drop (length ts - n) ts)) ≡ length end = omega (arith, count, whole, sum, l, a, b) in
      (same_ends (texts (take (length ts - n) ts)) term (texts (drop (length ts - n) ts)) end long (sym (parts (length ts - n)) ∙ e)).1

  pub asks_kind : (term end : List Token) (name : Token) → term ≡ take (length ts - 4) ts → end ≡ drop (length ts - 4) ts → name ≡ get_or end 2 name → is_kind_end end ≡ true
      → Asks (texts ts) (texts term) true name.text
  asks_kind term end name t e at h = record {
    whole = parts (length ts - 4) ∙ ap (λ xs. texts xs ++ texts (drop (length ts - 4) ts)) (sym t) ∙ ap (λ xs. texts term ++ texts xs) (sym e) ∙ ap (λ xs. texts term ++ xs) (kind_end end name at h);
    alone = λ n. absurd (both_ways _ n refl);
  }

  pub asks_sort : (term end : List Token) (name : Token) → term ≡ take (length ts - 2) ts → end ≡ drop (length ts - 2) ts → name ≡ get_or end 1 name → is_sort_end end ≡ true
      → Asks (texts ts) (texts term) false name.text
  asks_sort term end name t e at h =
      let told = sort_end end name at h in
      record {
        whole = parts (length ts - 2) ∙ ap (λ xs. texts xs ++ texts (drop (length ts - 2) ts)) (sym t) ∙ ap (λ xs. texts term ++ texts xs) (sym e) ∙ ap (λ xs. texts term ++ xs) told.0;
        alone = λ n. told.1;
      }

  pub asks_nothing : (four two : List Token) → four ≡ drop (length ts - 4) ts → two ≡ drop (length ts - 2) ts → is_kind_end four ≡ false → is_sort_end two ≡ false → AsksNothing (texts ts)
  asks_nothing four two f t no_kind no_sort term false name p =
      both_ways _ no_sort (sort_end_is two name (ap texts t ∙ end_is 2 term (ending false name) refl p.whole) (p.alone refl))
  asks_nothing four two f t no_kind no_sort term true name p =
      both_ways _ no_kind (kind_end_is four name (ap texts f ∙ end_is 4 term (ending true name) refl p.whole))
