-- The rows, levels and ends of a diagram, one entry after another.
use Rattle.std.proofs.Common.{◌≡◌, ◌∙◌, ◌⊎◌, ◌↔◌, ℕ, ◌<◌, ◌+◌, List, [], ◌∷◌, ◌++◌, length, ap, sym, subst, inl, inr, arith, length-append}
use Rattle.std.specs.Prelude.{slice_get, Option, Some}
use Rattle.std.proofs.lemmas.Bool.{cases_eq}
use Rattle.mw_logic.specs.Signature.{Signature, Sorted, Declaration, Operator, Member}
use Rattle.mw_logic.proofs.Members.{member-left}
use Rattle.mw_poset.proofs.Members.{member-last, member-push}
use Rattle.mw_sorts.specs.Diagrams.{Row, Level}
use Rattle.mw_sorts.specs.States.{ways, AreNumbersOf, AreStatesOf, AreKept, Narrows, IsRowOf, IsLevelOf, ComeFrom, IsStart, IsEndOf, AreEndsOf}
use Rattle.mw_sorts.proofs.Getting.{get-none, get-left, get-last, get-within, get-there, get-same}

-- below n, or n
pub less_or_at : (p n : ℕ) → p < n + 1 → (p < n) ⊎ (p ≡ n)
less_or_at p n l = elim (cases_eq p n) [ inl e ↦ inr e | inr d ↦ inl (omega arith) ]

-- a row for the first n entries
pub record IsRowSoFar (sig : Signature) (ds : List Declaration) (i : ℕ) (entries : List Sorted) (n : ℕ) (alive : List ℕ) (old new : List (List ℕ)) (row : Row) : Type 0 where
  pub size : length row ≡ n
  pub next : (p : ℕ) (S : Sorted) → p < n → slice_get entries p ≡ Some S
      → (q : ℕ) × (narrowed : List ℕ) × (slice_get row p ≡ Some q) × (slice_get new q ≡ Some narrowed) × Narrows sig ds i S alive narrowed
  pub states : AreStatesOf ds new
  pub kept : AreKept old new
  pub come : ComeFrom sig ds i entries alive old new

-- narrowed numbers are numbers too
pub narrows-numbers : (sig : Signature) (ds : List Declaration) (i : ℕ) (S : Sorted) (alive narrowed : List ℕ) → AreNumbersOf ds alive → Narrows sig ds i S alive narrowed → AreNumbersOf ds narrowed
narrows-numbers sig ds i S alive narrowed a n j m = a j ((n j).0 m).0

-- one entry more
pub row-more : (sig : Signature) (ds : List Declaration) (i : ℕ) (entries : List Sorted) (n : ℕ) (alive : List ℕ) (old now new : List (List ℕ)) (row row' : Row) (S : Sorted) (q : ℕ) (narrowed : List ℕ)
    → IsRowSoFar sig ds i entries n alive old now row → AreNumbersOf ds alive → slice_get entries n ≡ Some S → Narrows sig ds i S alive narrowed
    → AreKept now new → slice_get new q ≡ Some narrowed → ((r : ℕ) (l : List ℕ) → slice_get new r ≡ Some l → (slice_get now r ≡ Some l) ⊎ (l ≡ narrowed))
    → ((es : List Declaration) → AreStatesOf es now → AreNumbersOf es narrowed → AreStatesOf es new) → row' ≡ row ++ q ∷ []
    → IsRowSoFar sig ds i entries (n + 1) alive old new row'
row-more sig ds i entries n alive old now new row row' S q narrowed h a e w k g only s x = subst (λ (r : Row). IsRowSoFar sig ds i entries (n + 1) alive old new r) (sym x) more
  where
    more : IsRowSoFar sig ds i entries (n + 1) alive old new (row ++ q ∷ [])
    more = record {
      size = let u = length-append row (q ∷ []) in let m = h.size in omega arith;
      next = λ p T l f. elim (less_or_at p n l) [
        | inl low ↦ let r = h.next p T low f in (r.0, r.1, get-left row (q ∷ []) p r.0 r.2, k r.0 r.1 r.3, r.4)
        | inr at ↦
            let one : S ≡ T = get-same entries n S T e (subst (λ (y : ℕ). slice_get entries y ≡ Some T) at f) in
            let place : length row ≡ p = h.size ∙ sym at in
            (q, narrowed, subst (λ (y : ℕ). slice_get (row ++ q ∷ []) y ≡ Some q) place (get-last row q), g, subst (λ (U : Sorted). Narrows sig ds i U alive narrowed) one w)
      ];
      states = s ds h.states (narrows-numbers sig ds i S alive narrowed a w);
      kept = λ r l f. k r l (h.kept r l f);
      come = λ r l f. elim (only r l f) [
        | inl o ↦ h.come r l o
        | inr o ↦ inr (n, S, e, subst (λ (ys : List ℕ). Narrows sig ds i S alive ys) (sym o) w)
      ];
    }

pub row-done : (sig : Signature) (ds : List Declaration) (i : ℕ) (entries : List Sorted) (n : ℕ) (alive : List ℕ) (old new : List (List ℕ)) (row : Row) → length entries ≡ n → IsRowSoFar sig ds i entries n alive old new row → IsRowOf sig ds i entries alive new row
row-done sig ds i entries n alive old new row e h = record {
  size = h.size ∙ sym e;
  next = λ p S g. h.next p S (let l = get-within entries p S g in omega arith) g;
}

-- rows for the first n states
pub record IsLevelSoFar (sig : Signature) (ds : List Declaration) (i : ℕ) (entries : List Sorted) (n : ℕ) (states new : List (List ℕ)) (level : Level) : Type 0 where
  pub size : length level ≡ n
  pub rows : (q : ℕ) (alive : List ℕ) → q < n → slice_get states q ≡ Some alive → (row : Row) × (slice_get level q ≡ Some row) × IsRowOf sig ds i entries alive new row
  pub come : (q : ℕ) (narrowed : List ℕ) → slice_get new q ≡ Some narrowed
      → (r : ℕ) × (alive : List ℕ) × (p : ℕ) × (S : Sorted) × (slice_get states r ≡ Some alive) × (slice_get entries p ≡ Some S) × Narrows sig ds i S alive narrowed
  pub numbers : AreStatesOf ds new

-- the ends of the first n states
pub record AreEndsSoFar (sig : Signature) (o : Operator) (n : ℕ) (states : List (List ℕ)) (ends : List (Option Sorted)) : Type 0 where
  pub size : length ends ≡ n
  pub end : (q : ℕ) (alive : List ℕ) → q < n → slice_get states q ≡ Some alive → (e : Option Sorted) × (slice_get ends q ≡ Some e) × IsEndOf sig (ways o) o.result alive e

-- a row stays one where states are added
row-kept : (sig : Signature) (ds : List Declaration) (i : ℕ) (entries : List Sorted) (alive : List ℕ) (now new : List (List ℕ)) (row : Row) → AreKept now new → IsRowOf sig ds i entries alive now row → IsRowOf sig ds i entries alive new row
row-kept sig ds i entries alive now new row k h = record {
  size = h.size;
  next = λ p S g. let r = h.next p S g in (r.0, r.1, r.2, k r.0 r.1 r.3, r.4);
}

-- the row of one state more
pub level-more : (sig : Signature) (ds : List Declaration) (i : ℕ) (entries : List Sorted) (n : ℕ) (states now new : List (List ℕ)) (level level' : Level) (alive : List ℕ) (row : Row)
    → IsLevelSoFar sig ds i entries n states now level → slice_get states n ≡ Some alive → AreKept now new → AreStatesOf ds new → ComeFrom sig ds i entries alive now new → IsRowOf sig ds i entries alive new row → level' ≡ level ++ row ∷ []
    → IsLevelSoFar sig ds i entries (n + 1) states new level'
level-more sig ds i entries n states now new level level' alive row h e k s c r x = subst (λ (l : Level). IsLevelSoFar sig ds i entries (n + 1) states new l) (sym x) more
  where
    more : IsLevelSoFar sig ds i entries (n + 1) states new (level ++ row ∷ [])
    more = record {
      size = let u = length-append level (row ∷ []) in let m = h.size in omega arith;
      rows = λ q l b g. elim (less_or_at q n b) [
        | inl low ↦ let o = h.rows q l low g in (o.0, get-left level (row ∷ []) q o.0 o.1, row-kept sig ds i entries l now new o.0 k o.2)
        | inr at ↦
            let one : alive ≡ l = get-same states n alive l e (subst (λ (y : ℕ). slice_get states y ≡ Some l) at g) in
            let place : length level ≡ q = h.size ∙ sym at in
            (row, subst (λ (y : ℕ). slice_get (level ++ row ∷ []) y ≡ Some row) place (get-last level row), subst (λ (ys : List ℕ). IsRowOf sig ds i entries ys new row) one r)
      ];
      come = λ q l g. elim (c q l g) [
        | inl o ↦ h.come q l o
        | inr o ↦ (n, alive, o.0, o.1, e, o.2, o.3)
      ];
      numbers = s;
    }

pub level-done : (sig : Signature) (ds : List Declaration) (i : ℕ) (entries : List Sorted) (n : ℕ) (states new : List (List ℕ)) (level : Level) → length states ≡ n → IsLevelSoFar sig ds i entries n states new level → IsLevelOf sig ds i entries states new level
level-done sig ds i entries n states new level e h = record {
  size = h.size ∙ sym e;
  rows = λ q l g. h.rows q l (let u = get-within states q l g in omega arith) g;
  come = h.come;
}

pub ends-more : (sig : Signature) (o : Operator) (n : ℕ) (states : List (List ℕ)) (ends ends' : List (Option Sorted)) (alive : List ℕ) (x : Option Sorted) → AreEndsSoFar sig o n states ends → slice_get states n ≡ Some alive
    → IsEndOf sig (ways o) o.result alive x → ends' ≡ ends ++ x ∷ [] → AreEndsSoFar sig o (n + 1) states ends'
ends-more sig o n states ends ends' alive x h e is y = subst (λ (es : List (Option Sorted)). AreEndsSoFar sig o (n + 1) states es) (sym y) more
  where
    more : AreEndsSoFar sig o (n + 1) states (ends ++ x ∷ [])
    more = record {
      size = let u = length-append ends (x ∷ []) in let m = h.size in omega arith;
      end = λ q l b g. elim (less_or_at q n b) [
        | inl low ↦ let r = h.end q l low g in (r.0, get-left ends (x ∷ []) q r.0 r.1, r.2)
        | inr at ↦
            let one : alive ≡ l = get-same states n alive l e (subst (λ (y : ℕ). slice_get states y ≡ Some l) at g) in
            let place : length ends ≡ q = h.size ∙ sym at in
            (x, subst (λ (y : ℕ). slice_get (ends ++ x ∷ []) y ≡ Some x) place (get-last ends x), subst (λ (ys : List ℕ). IsEndOf sig (ways o) o.result ys x) one is)
      ];
    }

pub ends-done : (sig : Signature) (o : Operator) (n : ℕ) (states : List (List ℕ)) (ends : List (Option Sorted)) → length states ≡ n → AreEndsSoFar sig o n states ends → AreEndsOf sig o states ends
ends-done sig o n states ends e h = record {
  size = h.size ∙ sym e;
  end = λ q l g. h.end q l (let u = get-within states q l g in omega arith) g;
}

-- one number more
pub numbers-more : (n : ℕ) (all new : List ℕ) → ((j : ℕ) → Member j all ↔ (j < n)) → new ≡ all ++ n ∷ [] → (j : ℕ) → Member j new ↔ (j < n + 1)
numbers-more n all new h e j = subst (λ (xs : List ℕ). Member j xs ↔ (j < n + 1)) (sym e) (to, from)
  where
    to : Member j (all ++ n ∷ []) → j < n + 1
    to m = elim (member-push j n all m) [ inl k ↦ let l = (h j).0 k in omega arith | inr q ↦ omega arith ]

    from : j < n + 1 → Member j (all ++ n ∷ [])
    from l = elim (less_or_at j n l) [ inl k ↦ member-left j all (n ∷ []) ((h j).1 k) | inr q ↦ subst (λ (x : ℕ). Member x (all ++ n ∷ [])) (sym q) (member-last n all) ]

-- all numbers, as the first state
pub start-is : (ds : List Declaration) (n q : ℕ) (old new : List (List ℕ)) (all : List ℕ) → n ≡ length ds → ((j : ℕ) → Member j all ↔ (j < n)) → old ≡ [] → slice_get new q ≡ Some all
    → ((r : ℕ) (l : List ℕ) → slice_get new r ≡ Some l → (slice_get old r ≡ Some l) ⊎ (l ≡ all)) → IsStart ds new
start-is ds n q old new all e h o g only =
    let u = get-within new q all g in
    let f = get-there new 0 (omega arith) in
    (all, f.1 ∙ ap Some (one 0 f.0 f.1), one, λ j. subst (λ (m : ℕ). Member j all ↔ (j < m)) e (h j))
  where
    one : (r : ℕ) (l : List ℕ) → slice_get new r ≡ Some l → l ≡ all
    one r l k = elim (only r l k) [ inl a ↦ absurd (get-none (subst (λ (xs : List (List ℕ)). slice_get xs r ≡ Some l) o a)) | inr b ↦ b ]
