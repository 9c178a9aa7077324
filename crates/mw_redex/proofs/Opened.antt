-- Whether an argument is frozen is seen in its operator's list.
use Rattle.std.specs.Prelude.{◌≡◌, ◌↔◌, ◌-◌, ◌≤◌, ℕ, List, [], take, drop, length, get_or, ◌∷◌, Bool, true, false, not, cond, ◌||◌, nat_eq, Some, None, IsTrue, refl}
use Rattle.std.specs.List.{list_any}
use Rattle.std.proofs.Common.{ap, sym, subst, ◌∙◌, inl, inr}
use Rattle.std.proofs.lemmas.Bool.{both_ways, eqb-true, eq-eqb, or_left, or_right}
use Rattle.mw_logic.specs.Term.{RawTerm, apply}
use Rattle.mw_logic.specs.Terms.{terms_of, list_of}
use Rattle.mw_term.proofs.Terms.{list_of-terms_of}
use Rattle.mw_logic.specs.Signature.{Signature, Operator, Member, IsOperator, at_number}
use Rattle.mw_logic.specs.Parts.{is_assoc}
use Rattle.mw_logic.specs.NormalForm.{is_comm}
use Rattle.mw_logic.specs.CanonicalPart.{IsOpen}
use Rattle.mw_logic.proofs.Canonical.{same_operator}
use Rattle.mw_redex.specs.Replaced.{asked, IsOpenWay}
use Rattle.mw_redex.proofs.Exchanged.{first_and_rest}

-- a number stands in a list where the test finds it
found_there : (n : ℕ) (ns : List ℕ) → list_any (λ m. nat_eq m n) ns ≡ true → Member n ns
found_there n [] h = cc
found_there n (m ∷ ns) h = by_test (nat_eq m n) refl h (found_there n ns)
  where
    by_test : (b : Bool) → nat_eq m n ≡ b → (b || list_any (λ m. nat_eq m n) ns) ≡ true → (list_any (λ m. nat_eq m n) ns ≡ true → Member n ns) → Member n (m ∷ ns)
    by_test true e h r = inl (eqb-true m n e)
    by_test false e h r = inr (r h)

there_found : (n : ℕ) (ns : List ℕ) → Member n ns → list_any (λ m. nat_eq m n) ns ≡ true
there_found n [] h = absurd h
there_found n (m ∷ ns) (inl e) = or_left _ _ (eq-eqb m n e)
there_found n (m ∷ ns) (inr h) = or_right _ _ (there_found n ns h)

pub open_by_list : (sig : Signature) (f : ℕ) (o : Operator) (i : ℕ) → IsOperator sig f o → (b : Bool) → b ≡ list_any (λ m. nat_eq m (asked o i)) o.frozen → (IsTrue (not b) ↔ IsOpen sig true f i)
open_by_list sig f o i is b e = (there b e, back b e)
  where
    same : cond (is_assoc sig f || is_comm sig f) 1 i ≡ asked o i
    same = rw is refl

    there : (b : Bool) → b ≡ list_any (λ m. nat_eq m (asked o i)) o.frozen → IsTrue (not b) → IsOpen sig true f i
    there true e h = λ t k. both_ways _ refl h
    there false e h = λ t (p, q, m). both_ways _ (sym e) (there_found (asked o i) o.frozen (subst (λ n. Member n o.frozen) same (subst (λ (p : Operator). Member (cond (is_assoc sig f || is_comm sig f) 1 i) p.frozen) (same_operator sig f p o q is) m)))

    back : (b : Bool) → b ≡ list_any (λ m. nat_eq m (asked o i)) o.frozen → IsOpen sig true f i → IsTrue (not b)
    back false e h = refl
    back true e h = absurd (h refl (o, is, subst (λ n. Member n o.frozen) (sym same) (found_there (asked o i) o.frozen (sym e))))

-- what is no operator has no frozen argument
pub open_without : (sig : Signature) (f i : ℕ) → at_number sig.operators f ≡ None → IsOpen sig true f i
open_without sig f i e = λ t (o, is, m). nothing (sym e ∙ is)
  where
    nothing : {o : Operator} → None ≡ Some o → ⊥
    nothing e = cc

-- The way goes on from an argument.
goes_on : (sig : Signature) (n : ℕ) (rest : List ℕ) (f : ℕ) (args : List RawTerm) (u : RawTerm) → IsOpen sig true f n → Some u ≡ at_number args n → (b : Bool) → (IsTrue b ↔ IsOpenWay sig true rest u)
    → (IsTrue b ↔ IsOpenWay sig true (n ∷ rest) (apply f (terms_of args)))
goes_on sig n rest f args u o m b k =
    let l : at_number (list_of (terms_of args)) n ≡ at_number args n = ap (λ ts. at_number ts n) (list_of-terms_of args) in
    (λ h. (o, λ v e. subst (IsOpenWay sig true rest) (same_some (m ∙ sym l ∙ e)) (k.0 h)), λ w. k.1 (w.1 u (l ∙ sym m)))
  where
    same_some : {x y : RawTerm} → Some x ≡ Some y → x ≡ y
    same_some e = cc

pub way_goes_on : (sig : Signature) (path : List ℕ) (t : RawTerm) (f : ℕ) (args : List RawTerm) (u : RawTerm) → 1 ≤ length path → t ≡ apply f (terms_of args) → IsOpen sig true f (get_or path 0 0)
    → Some u ≡ at_number args (get_or path 0 0) → (b : Bool) → (IsTrue b ↔ IsOpenWay sig true (take (length path - 1) (drop 1 path)) u) → (IsTrue b ↔ IsOpenWay sig true path t)
way_goes_on sig path t f args u l e o m b k =
    subst (λ p. IsTrue b ↔ IsOpenWay sig true p t) (sym (first_and_rest path l))
    (subst (λ t. IsTrue b ↔ IsOpenWay sig true (get_or path 0 0 ∷ take (length path - 1) (drop 1 path)) t) (sym e) (goes_on sig (get_or path 0 0) (take (length path - 1) (drop 1 path)) f args u o m b k))

-- or it leads nowhere
pub way_ends : (sig : Signature) (path : List ℕ) (t : RawTerm) (f : ℕ) (args : List RawTerm) → 1 ≤ length path → t ≡ apply f (terms_of args) → IsOpen sig true f (get_or path 0 0)
    → None ≡ at_number args (get_or path 0 0) → (IsTrue true ↔ IsOpenWay sig true path t)
way_ends sig path t f args l e o m =
    subst (λ p. IsTrue true ↔ IsOpenWay sig true p t) (sym (first_and_rest path l))
    (subst (λ t. IsTrue true ↔ IsOpenWay sig true (get_or path 0 0 ∷ take (length path - 1) (drop 1 path)) t) (sym e) ((λ h. (o, λ v k. absurd (none v k)), λ w. refl)))
  where
    none : (v : RawTerm) → at_number (list_of (terms_of args)) (get_or path 0 0) ≡ Some v → ⊥
    none v k = nothing (m ∙ sym (ap (λ ts. at_number ts (get_or path 0 0)) (list_of-terms_of args)) ∙ k)
      where
        nothing : {x : RawTerm} → None ≡ Some x → ⊥
        nothing e = cc
