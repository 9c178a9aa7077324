-- Sorts listed by names, one after another.
use Rattle.std.proofs.Common.{ℕ, zero, suc, ◌≡◌, ◌≢◌, ◌∙◌, ◌<◌, ◌≤◌, ◌+◌, ◌⊎◌, max, List, [], ◌∷◌, ◌++◌, length, bytes_eq, take, Some, refl, sym, ap, subst, inl, inr, arith, length-append}
use Rattle.std.specs.Prelude.{◌↔◌}
use Rattle.std.specs.List.{slice_get}
use Rattle.std.specs.Global.{Global}
use Rattle.std.specs.declared.vec.Vec.{Vec}
use Rattle.std.proofs.lemmas.Bool.{cases_Bool, true≢false}
use Rattle.std.proofs.lemmas.Slice.Eq.{bytes_eq-Decides}
use Rattle.mw_logic.specs.Term.{Variable}
use Rattle.mw_logic.specs.Signature.{Member, at_number}
use Rattle.mw_chart.specs.Listed.{inner}
use Rattle.mw_chart.proofs.Covered.{inner_far}
use Rattle.mw_text.specs.Interned.{number_of}
use Rattle.mw_text.proofs.Joined.{Member-cases, Member-left, Member-right}
use Rattle.mw_grammar.specs.Compiled.{Extends}
use Rattle.mw_grammar.specs.Leaves.{IsDeclared, IsNamed, IsOfOne}
use Rattle.mw_grammar.specs.Listing.{IsListed, AreLists, Lists, OneMore}
use Rattle.mw_grammar.proofs.Numbers.{number_there, number_kept, number_new, number_within}
use Rattle.mw_grammar.proofs.Tokens.{length-take-got}

abbrev Name : Type 0
Name = List ℕ

-- names that are added change no list
pub lists_grow : (ns ms : List Name) (lists : List (Vec ℕ Global)) → Extends ns ms → AreLists ns lists → AreLists ms lists
lists_grow ns ms lists (zs, e) h = record {
  none = h.none;
  count = (let l = ap length e ∙ length-append ns zs in let c = h.count in omega (arith, l, c));
}

listed_same : (ns ms : List Name) (lists : List (Vec ℕ Global)) → Extends ns ms → AreLists ns lists → (n : Name) → inner lists (number_of ms n) ≡ inner lists (number_of ns n)
listed_same ns ms lists (zs, e) h n = ap (λ (m : List Name). inner lists (number_of m n)) e ∙ by_number (number_of ns n) refl
  where
    far : (number_of (ns ++ zs) n ≡ 0) ⊎ (length ns < number_of (ns ++ zs) n) → inner lists (number_of (ns ++ zs) n) ≡ []
    far (inl q) = ap (inner lists) q ∙ h.none
    far (inr q) = inner_far lists (number_of (ns ++ zs) n) (let c = h.count in omega (arith, q, c))

    by_number : (x : ℕ) → number_of ns n ≡ x → inner lists (number_of (ns ++ zs) n) ≡ inner lists (number_of ns n)
    by_number zero q = far (number_new ns zs n q) ∙ sym (ap (inner lists) q ∙ h.none)
    by_number (suc x) q = ap (inner lists) (number_kept ns zs n (omega (arith, q)))

pub listing_grows : (ns ms : List Name) (lists : List (Vec ℕ Global)) (Own : Name → ℕ → Type 0) → Extends ns ms → Lists ns lists Own → Lists ms lists Own
listing_grows ns ms lists Own e h = record {
  are = lists_grow ns ms lists e h.are;
  own = λ n S. subst (λ (Ss : List ℕ). Member S Ss ↔ Own n S) (sym (listed_same ns ms lists e h.are n)) (h.own n S);
}

not_same : (n m : Name) → (n ≡ m) ⊎ (n ≢ m)
not_same n m = elim (cases_Bool (bytes_eq n m)) [ inl e ↦ inl ((bytes_eq-Decides n m).0 e) | inr e ↦ inr (λ q. true≢false (sym ((bytes_eq-Decides n m).1 q) ∙ e)) ]

-- two names that are there have two numbers
numbers_differ : (ns : List Name) (n m : Name) → n ≢ m → 0 < number_of ns m → number_of ns n ≢ number_of ns m
numbers_differ ns n m differ high e = by_number (number_of ns m) refl
  where
    by_number : (x : ℕ) → number_of ns m ≡ x → ⊥
    by_number zero q = omega (arith, high, q)
    by_number (suc i) q =
        let a = number_there ns m i q in
        let b = number_there ns n i (e ∙ q) in
        let c : Some n ≡ Some m = sym b ∙ a in
        differ (cc)

-- A sort is listed by a name, which has the number k among these.
module _ (first more : List Name) (name : Name) (lists room put : List (Vec ℕ Global)) (k T : ℕ) (grows : Extends first more) (is : k ≡ number_of more name) (high : 0 < number_of more name)
    (are : AreLists first lists) (size : length room ≡ max (length lists) (k + 1)) (same : (i : ℕ) → inner room i ≡ inner lists i) (kept : length put ≡ length room)
    (here : inner put k ≡ inner room k ++ T ∷ []) (others : (i : ℕ) → i ≢ k → inner put i ≡ inner room i) where
  its_list : inner put (number_of more name) ≡ inner lists (number_of first name) ++ T ∷ []
  its_list = ap (inner put) (sym is) ∙ here ∙ ap (λ ks. ks ++ T ∷ []) (same k ∙ ap (inner lists) is ∙ listed_same first more lists grows are name)

  other_list : (m : Name) → m ≢ name → inner put (number_of more m) ≡ inner lists (number_of first m)
  other_list m differ =
      others (number_of more m) (λ q. numbers_differ more m name differ high (q ∙ is)) ∙ same (number_of more m) ∙ listed_same first more lists grows are m

  listed_put : (m : Name) (S : ℕ) → IsListed more put m S ↔ OneMore first lists name T m S
  listed_put m S = elim (not_same m name) [
    | inl q ↦ subst (λ (n : Name). IsListed more put n S ↔ OneMore first lists name T n S) (sym q) itself
    | inr differ ↦ (
      (λ h. inl (subst (Member S) (other_list m differ) h)),
      (λ h. elim h [ inl j ↦ subst (Member S) (sym (other_list m differ)) j | inr (q, j) ↦ absurd (differ q) ]),
    )
  ]
    where
      itself : IsListed more put name S ↔ OneMore first lists name T name S
      itself = (
        (λ h. elim (Member-cases S (inner lists (number_of first name)) (T ∷ []) (subst (Member S) its_list h)) [ inl j ↦ inl j | inr (inl j) ↦ inr (refl, sym j) | inr (inr none) ↦ absurd none ]),
        (λ h. subst (Member S) (sym its_list) (elim h [
          | inl j ↦ Member-left S (inner lists (number_of first name)) (T ∷ []) j
          | inr (q, j) ↦ Member-right S (inner lists (number_of first name)) (T ∷ []) (inl (sym j))
        ])),
      )

  pub put_listed : Lists more put (OneMore first lists name T)
  put_listed = record {
    are = record {
      none = others 0 (λ q. (let h = high in omega (arith, q, is, h))) ∙ same 0 ∙ are.none;
      count = (let c = (lists_grow first more lists grows are).count in let w = number_within more name in omega (arith, c, w, is, size, kept));
    };
    own = listed_put;
  }

pub lists_none : (ns : List Name) (lists : List (Vec ℕ Global)) (Own : Name → ℕ → Type 0) → lists ≡ [] → ((n : Name) (S : ℕ) → Own n S → ⊥) → Lists ns lists Own
lists_none ns lists Own e none = record {
  are = record { none = ap (λ (ls : List (Vec ℕ Global)). inner ls 0) e; count = (let l = ap length e in omega (arith, l)) };
  own = λ n S. ((λ h. absurd (subst (λ (ls : List (Vec ℕ Global)). Member S (inner ls (number_of ns n))) e h)), (λ h. absurd (none n S h)));
}

-- the sorts so far, and one more, are the next ones
pub listed_next : (first more : List Name) (lists put : List (Vec ℕ Global)) (name : Name) (T : ℕ) (Own Next : Name → ℕ → Type 0) → Lists first lists Own
    → Lists more put (OneMore first lists name T) → ((n : Name) (S : ℕ) → (Own n S ⊎ ((n ≡ name) × (S ≡ T))) ↔ Next n S) → Lists more put Next
listed_next first more lists put name T Own Next a b next = record {
  are = b.are;
  own = λ n S. (
    (λ h. (next n S).0 (elim ((b.own n S).0 h) [ inl k ↦ inl ((a.own n S).0 k) | inr k ↦ inr k ])),
    (λ h. (b.own n S).1 (elim ((next n S).1 h) [ inl k ↦ inl ((a.own n S).1 k) | inr k ↦ inr k ])),
  );
}

-- one more of the first
take-got : {A : Type 0} (xs : List A) (n : ℕ) (x : A) → slice_get xs n ≡ Some x → take (n + 1) xs ≡ take n xs ++ x ∷ []
take-got [] n x e = let bad : ⊥ = (cc) in absurd bad
take-got (y ∷ xs) zero x e = let same : y ≡ x = (cc) in ap (λ m. m ∷ []) same
take-got (y ∷ xs) (suc n) x e =
    let move : suc n + 1 ≡ suc (n + 1) = omega arith in
    ap (λ (m : ℕ). take m (y ∷ xs)) move ∙ ap (λ m. y ∷ m) (take-got xs n x e)

at_back : {A : Type 0} (ys : List A) (n S : A) (k : ℕ) → at_number (ys ++ n ∷ []) k ≡ Some S → (at_number ys k ≡ Some S) ⊎ ((k ≡ suc (length ys)) × (n ≡ S))
at_back ys n S zero e = inl e
at_back [] n S (suc zero) e = inr (refl, (cc))
at_back [] n S (suc (suc k)) e = let bad : ⊥ = (cc) in absurd bad
at_back (y ∷ ys) n S (suc zero) e = inl e
at_back (y ∷ ys) n S (suc (suc k)) e = elim (at_back ys n S (suc k) e) [ inl p ↦ inl p | inr (p, q) ↦ inr (ap suc p, q) ]

at_front : {A : Type 0} (ys : List A) (n S : A) (k : ℕ) → at_number ys k ≡ Some S → at_number (ys ++ n ∷ []) k ≡ Some S
at_front ys n S zero e = e
at_front [] n S (suc k) e = let bad : ⊥ = (cc) in absurd bad
at_front (y ∷ ys) n S (suc zero) e = e
at_front (y ∷ ys) n S (suc (suc k)) e = at_front ys n S (suc k) e

at_last : {A : Type 0} (ys : List A) (n : A) → at_number (ys ++ n ∷ []) (suc (length ys)) ≡ Some n
at_last [] n = refl
at_last (y ∷ ys) n = at_last ys n

-- of sorts in order
pub next_sort : (xs : List Name) (i : ℕ) (x : Name) → slice_get xs i ≡ Some x → (n : Name) (S : ℕ) → (IsNamed (take i xs) n S ⊎ ((n ≡ x) × (S ≡ i + 1))) ↔ IsNamed (take (i + 1) xs) n S
next_sort xs i x e n S =
    let more = take-got xs i x e in
    let l = length-take-got xs i x e in (
      (λ h. subst (λ (ys : List Name). at_number ys S ≡ Some n) (sym more) (elim h [
        | inl k ↦ at_front (take i xs) x n S k
        | inr (a, b) ↦ (let place : suc (length (take i xs)) ≡ S = omega (arith, l, b) in subst (λ (k : ℕ). at_number (take i xs ++ x ∷ []) k ≡ Some n) place (at_last (take i xs) x ∙ ap (λ m. Some m) (sym a)))
      ])),
      (λ h. elim (at_back (take i xs) x n S (subst (λ (ys : List Name). at_number ys S ≡ Some n) more h)) [ inl k ↦ inl k | inr (a, b) ↦ inr (sym b, omega (arith, a, l)) ]),
    )

-- of variables in order
pub next_variable : (xs : List Variable) (i : ℕ) (x : Variable) → slice_get xs i ≡ Some x → (n : Name) (S : ℕ)
    → (Member (record { name = n; sort = S }) (take i xs) ⊎ ((n ≡ x.name) × (S ≡ x.sort))) ↔ Member (record { name = n; sort = S }) (take (i + 1) xs)
next_variable xs i x e n S =
    let more = take-got xs i x e in
    let y : Variable = record { name = n; sort = S } in (
      (λ h. subst (Member y) (sym more) (elim h [
        | inl k ↦ Member-left y (take i xs) (x ∷ []) k
        | inr (a, b) ↦ Member-right y (take i xs) (x ∷ []) (inl (ap (λ (m : Name). record { name = m; sort = x.sort }) (sym a) ∙ ap (λ (m : ℕ). record { name = n; sort = m }) (sym b)))
      ])),
      (λ h. elim (Member-cases y (take i xs) (x ∷ []) (subst (Member y) more h)) [
        | inl k ↦ inl k
        | inr (inl k) ↦ inr (sym (ap (λ (v : Variable). v.name) k), sym (ap (λ (v : Variable). v.sort) k))
        | inr (inr none) ↦ absurd none
      ]),
    )

pub whole : {A : Type 0} (xs : List A) (i : ℕ) → length xs ≤ i → take i xs ≡ xs
whole [] zero h = refl
whole [] (suc i) h = refl
whole (x ∷ xs) zero h = absurd (omega arith)
whole (x ∷ xs) (suc i) h = ap (λ ys. x ∷ ys) (whole xs i (omega arith))

-- variables of one name, by their sorts
pub of_one_to : (Ss : List ℕ) (i S : ℕ) (name : Name) → slice_get Ss i ≡ Some S → (x : Variable) → IsOfOne (take i Ss) name x ⊎ (x ≡ record { name = name; sort = S }) → IsOfOne (take (i + 1) Ss) name x
of_one_to Ss i S name e x (inl (a, m)) = (a, subst (Member x.sort) (sym (take-got Ss i S e)) (Member-left x.sort (take i Ss) (S ∷ []) m))
of_one_to Ss i S name e x (inr q) =
    (ap (λ (v : Variable). v.name) q, subst (Member x.sort) (sym (take-got Ss i S e)) (Member-right x.sort (take i Ss) (S ∷ []) (inl (sym (ap (λ (v : Variable). v.sort) q)))))

pub of_one_from : (Ss : List ℕ) (i S : ℕ) (name : Name) → slice_get Ss i ≡ Some S → (x : Variable) → IsOfOne (take (i + 1) Ss) name x → IsOfOne (take i Ss) name x ⊎ (x ≡ record { name = name; sort = S })
of_one_from Ss i S name e x (a, m) = elim (Member-cases x.sort (take i Ss) (S ∷ []) (subst (Member x.sort) (take-got Ss i S e) m)) [
  | inl k ↦ inl (a, k)
  | inr (inl k) ↦ inr (ap (λ (n : Name). record { name = n; sort = x.sort }) a ∙ ap (λ (n : ℕ). record { name = name; sort = n }) (sym k))
  | inr (inr none) ↦ absurd none
]

-- declared variables, by their sorts
module _ (vs : List Variable) (Ss : List ℕ) (token : Name) (own : (S : ℕ) → Member S Ss ↔ Member (record { name = token; sort = S }) vs) where
  pub declared_to : (x : Variable) → IsOfOne Ss token x → IsDeclared vs token x
  declared_to x (a, m) = (subst (λ (n : Name). Member (record { name = n; sort = x.sort }) vs) (sym a) ((own x.sort).0 m), sym a)

  pub declared_from : (x : Variable) → IsDeclared vs token x → IsOfOne Ss token x
  declared_from x (m, a) = (sym a, (own x.sort).1 (subst (λ (n : Name). Member (record { name = n; sort = x.sort }) vs) (sym a) m))
