-- Kinds, each by its least sort, and the kinds of what is built in.
use Rattle.std.proofs.Common.{◌≡◌, ◌≢◌, ◌∙◌, ◌+◌, ◌-◌, ◌<◌, ◌≤◌, ◌&&◌, ℕ, zero, suc, List, [], ◌∷◌, length, Bool, true, false, nat_eq, Some, None, All, if◌then◌else◌, refl, sym, ap, subst, inl, inr, arith}
use Rattle.std.specs.Prelude.{codes}
use Rattle.std.proofs.lemmas.Bool.{and_parts, both_ways, eqb-true, eq-eqb}
use Rattle.std.proofs.lemmas.List.Elements.{All-nil, All-cons}
use Rattle.std.proofs.lemmas.Option.{same_Some}
use Rattle.mw_logic.specs.Signature.{Signature, Member, same, at_number}
use Rattle.mw_logic.proofs.KindLaws.{SameKind-trans}
use Rattle.mw_poset.specs.Order.{IsSort, ArePairsOf}
use Rattle.mw_module.specs.Units.{SeenLined}
use Rattle.mw_declare.specs.declared.built.Truth.{Truth}
use Rattle.mw_declare.specs.declared.built.Reached.{Reached}
use Rattle.mw_declare.specs.Meaning.{is_among, number_of}
use Rattle.mw_declare.specs.Hierarchy.{Hierarchy, hierarchy_of, kind_of}
use Rattle.mw_declare.specs.Built.{has_truths, has_numbers, kind_named, truth_of, numbers_in, built_in, kinds_from}
use Rattle.mw_declare.specs.Operators.{IsNumbered}
use Rattle.mw_declare.specs.Declarations.{unknown_in_all}
use Rattle.mw_declare.proofs.Declaring.{value_known, arg_known}
use Rattle.mw_declare.proofs.LeastKinds.{kind_there, kind_same, kind_least}
use Rattle.mw_declare.proofs.SortNames.{sorts_differ}
use Rattle.mw_declare.proofs.Unknown.{number_there, named_number}

-- the sort is there, and the least of its kind
abbrev pub NamesKind : Hierarchy → ℕ → Type 0
NamesKind h K = IsSort (length h.names) K × (kind_of h K ≡ K)

module _ (h : Hierarchy) where
  -- each of the kinds names itself
  kinds_all : (P : ℕ → Type 0) (left S : ℕ) → ((K : ℕ) → S ≤ K → K < S + left → kind_of h K ≡ K → P K) → All P (kinds_from h left S)
  kinds_all P zero S each = All-nil P
  kinds_all P (suc left) S each = of (nat_eq (kind_of h S) S) refl (kinds_all P left (suc S) (λ K low high e. each K (omega (arith, low)) (omega (arith, high)) e))
    where
      of : (b : Bool) → nat_eq (kind_of h S) S ≡ b → All P (kinds_from h left (suc S)) → All P (if b then S ∷ kinds_from h left (suc S) else kinds_from h left (suc S))
      of true e more = All-cons P S (kinds_from h left (suc S)) (each S (omega arith) (omega arith) (eqb-true (kind_of h S) S e)) more
      of false e more = more

  pub kinds_named : All (NamesKind h) (kinds_from h (length h.names) 1)
  kinds_named = kinds_all (NamesKind h) (length h.names) 1 (λ K low high e. ((low, omega (arith, high)), e))

  -- each sort that names its kind is among the kinds
  kind_among : (left S K : ℕ) → S ≤ K → K < S + left → kind_of h K ≡ K → Member K (kinds_from h left S)
  kind_among zero S K low high e = absurd (omega (arith, low, high))
  kind_among (suc left) S K low high e =
      of (nat_eq (kind_of h S) S) refl (nat_eq S K) refl (λ other. kind_among left (suc S) K (omega (arith, low, other)) (omega (arith, high)) e)
    where
      of : (b : Bool) → nat_eq (kind_of h S) S ≡ b → (c : Bool) → nat_eq S K ≡ c → (S ≢ K → Member K (kinds_from h left (suc S)))
          → Member K (if b then S ∷ kinds_from h left (suc S) else kinds_from h left (suc S))
      of true p true q more = inl (eqb-true S K q)
      of true p false q more = inr (more (λ same. both_ways (nat_eq S K) q (eq-eqb S K same)))
      of false p true q more =
          let same : S ≡ K = eqb-true S K q in
          absurd (both_ways (nat_eq (kind_of h S) S) p (eq-eqb (kind_of h S) S (ap (kind_of h) same ∙ e ∙ sym same)))
      of false p false q more = more (λ same. both_ways (nat_eq S K) q (eq-eqb S K same))

  pub kind_member : (K : ℕ) → NamesKind h K → Member K (kinds_from h (length h.names) 1)
  kind_member K n = kind_among (length h.names) 1 K n.0.0 (omega (arith, n.0.1)) n.1

  -- the kind of a sort names itself
  pub kind_again : ArePairsOf (length h.names) h.pairs → (S : ℕ) → IsSort (length h.names) S → NamesKind h (kind_of h S)
  kind_again within S there =
      let sig : Signature = record { sorts = []; pairs = h.pairs; operators = []; nat = false; qid = false } in
      let K = kind_of h S in
      let here = kind_there h S there in
      let low = kind_least h K here within sig refl K same in
      let high = kind_least h S there within sig refl (kind_of h K) (SameKind-trans (kind_same h S there sig refl) (kind_same h K here sig refl)) in
      (here, omega (arith, low, high))

  -- one sort more
  module _ (n place : ℕ) (low : place < n) where
    abbrev rest : List ℕ
    rest = kinds_from h (n - (place + 1)) (place + 1 + 1)

    step : kinds_from h (n - place) (place + 1) ≡ (if nat_eq (kind_of h (place + 1)) (place + 1) then (place + 1) ∷ rest else rest)
    step =
        let left : n - place ≡ suc (n - (place + 1)) = omega (arith, low) in
        let next : suc (place + 1) ≡ place + 1 + 1 = omega arith in
        ap (λ (k : ℕ). kinds_from h k (place + 1)) left
        ∙ ap (λ (S : ℕ). if nat_eq (kind_of h (place + 1)) (place + 1) then (place + 1) ∷ kinds_from h (n - (place + 1)) S else kinds_from h (n - (place + 1)) S) next

    pub step_in : nat_eq (kind_of h (place + 1)) (place + 1) ≡ true → kinds_from h (n - place) (place + 1) ≡ (place + 1) ∷ rest
    step_in e = step ∙ ap (λ b. if b then (place + 1) ∷ rest else rest) e

    pub step_out : nat_eq (kind_of h (place + 1)) (place + 1) ≡ false → kinds_from h (n - place) (place + 1) ≡ rest
    step_out e = step ∙ ap (λ b. if b then (place + 1) ∷ rest else rest) e

-- the sort Bool and its kind
pub record IsTruthOf (h : Hierarchy) (t : Truth) : Type 0 where
  pub there : IsSort (length h.names) t.sort
  pub named : at_number h.names t.sort ≡ Some (codes "Bool")
  pub kind_is : t.kind ≡ kind_of h t.sort

module _ (ss : List SeenLined) (known : unknown_in_all ss ≡ None) where
  abbrev h : Hierarchy
  h = hierarchy_of ss

  pub truths_declared : (t : Truth) → truth_of h ss ≡ Some t → has_truths ss ≡ true
  truths_declared t e = of (has_truths ss) e
    where
      of : (b : Bool) → (if b then Some (record { sort = number_of h.names (codes "Bool"); kind = kind_named h (codes "Bool") }) else None) ≡ Some t → b ≡ true
      of true k = refl
      of false k = cc

  pub truth_is : (t : Truth) → truth_of h ss ≡ Some t → t ≡ record { sort = number_of h.names (codes "Bool"); kind = kind_named h (codes "Bool") }
  truth_is t e = of (has_truths ss) e
    where
      of : (b : Bool) → (if b then Some (record { sort = number_of h.names (codes "Bool"); kind = kind_named h (codes "Bool") }) else None) ≡ Some t
          → t ≡ record { sort = number_of h.names (codes "Bool"); kind = kind_named h (codes "Bool") }
      of true k = sym (same_Some _ t k)
      of false k = cc

  pub truth_held : (t : Truth) → truth_of h ss ≡ Some t → IsTruthOf h t
  truth_held t e =
      let bool = value_known (codes "true") None (codes "Bool") ss (and_parts _ _ (truths_declared t e)).0 h.names known in
      let there = number_there h.names (codes "Bool") bool in
      let here : Truth = record { sort = number_of h.names (codes "Bool"); kind = kind_named h (codes "Bool") } in
      let held : IsTruthOf h here = record { there = there; named = named_number h.names (codes "Bool") there.0; kind_is = refl } in
      subst (IsTruthOf h) (sym (truth_is t e)) held

  pub numbers_are : (r : Bool) (N : ℕ) → numbers_in r h ss ≡ Some N → (r ≡ true) × (has_numbers h ss ≡ true) × (N ≡ kind_named h (codes "Nat"))
  numbers_are r N e = of r (has_numbers h ss) e
    where
      of : (a b : Bool) → (if a && b then Some (kind_named h (codes "Nat")) else None) ≡ Some N → (a ≡ true) × (b ≡ true) × (N ≡ kind_named h (codes "Nat"))
      of true true k = (refl, refl, sym (same_Some _ N k))
      of true false k = cc
      of false b k = cc

  pub nat_known : has_numbers h ss ≡ true → is_among h.names (codes "Nat") ≡ true
  nat_known e =
      arg_known (codes "s_") (Some (codes "Nat")) (codes "NzNat") ss (and_parts _ _ e).0 h.names known (codes "Nat") refl

  pub numbered : (r : Reached) → IsNumbered h (built_in r h ss)
  numbered r = record {
    differ = sorts_differ ss;
    nat = λ N e.
        let are = numbers_are r.nat N e in
        let there = number_there h.names (codes "Nat") (nat_known are.1) in
        (number_of h.names (codes "Nat"), named_number h.names (codes "Nat") there.0, there, are.2);
  }
