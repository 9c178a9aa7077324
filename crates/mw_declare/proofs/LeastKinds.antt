-- The kind of a sort that is found by going through the sorts is the least of its kind, so the one that a poset gives.
use Rattle.std.proofs.Common.{◌≡◌, ◌≢◌, ◌∙◌, ◌+◌, ◌<◌, ◌≤◌, ℕ, zero, suc, List, [], length, Bool, true, false, if◌then◌else◌, refl, sym, ap, subst, arith}
use Rattle.std.proofs.lemmas.Bool.{both_ways, eqb-true, eq-eqb}
use Rattle.mw_logic.specs.Signature.{Signature, SameKind, same, up, down}
use Rattle.mw_logic.proofs.KindLaws.{kind_number-same, kind_number-sound}
use Rattle.mw_poset.specs.Order.{IsSort, ArePairsOf, IsKindOf}
use Rattle.mw_poset.proofs.Members.{member-all}
use Rattle.mw_poset.specs.SortOrder.{SortOrder}
use Rattle.mw_declare.specs.Meaning.{Name, is_among, number_of}
use Rattle.mw_declare.specs.Hierarchy.{Hierarchy, first_from, are_connected, kind_of, order_of, IsHeld}
use Rattle.mw_declare.proofs.Unknown.{number_there}

-- K is the least number that passes the test, of those from T on
record IsFirst (test : ℕ → Bool) (T K : ℕ) : Type 0 where
  passes : test K ≡ true
  from : T ≤ K
  least : (U : ℕ) → T ≤ U → test U ≡ true → K ≤ U

-- where one of the numbers passes the test, the first is found
first_is : (test : ℕ → Bool) (left T S : ℕ) → T ≤ S → S < T + left → test S ≡ true → IsFirst test T (first_from test left T)
first_is test zero T S low high e = absurd (omega arith)
first_is test (suc left) T S low high e = of (test T) refl (λ low. first_is test left (suc T) S low (omega (arith, high)) e)
  where
    of : (b : Bool) → test T ≡ b → (suc T ≤ S → IsFirst test (suc T) (first_from test left (suc T))) → IsFirst test T (if b then T else first_from test left (suc T))
    of true k more = record { passes = k; from = omega arith; least = λ U h p. h }
    of false k more =
        let later : (U : ℕ) → T ≤ U → test U ≡ true → suc T ≤ U = λ U h p. let other : T ≢ U = λ same. both_ways (test T) k (ap test same ∙ p) in omega (arith, h, other) in
        let rest = more (later S low e) in
        record { passes = rest.passes; from = omega (arith, rest.from); least = λ U h p. rest.least U (later U h p) p }

-- a signature with these pairs alone
abbrev bare : List (ℕ × ℕ) → Signature
bare pairs = record { sorts = []; pairs = pairs; operators = []; nat = false; qid = false }

-- a sort that is connected with one of the sorts is one of them
stays_within : (sig : Signature) (n : ℕ) → ArePairsOf n sig.pairs → {S T : ℕ} → SameKind sig S T → 1 ≤ S → 1 ≤ T
stays_within sig n within same h = h
stays_within sig n within (up {S} {T} m k) h = stays_within sig n within k (member-all (λ p. IsSort n p.0 × IsSort n p.1) sig.pairs within (S, T) m).1.0
stays_within sig n within (down {S} {T} m k) h = stays_within sig n within k (member-all (λ p. IsSort n p.0 × IsSort n p.1) sig.pairs within (T, S) m).0.0

module _ (h : Hierarchy) (S : ℕ) (there : IsSort (length h.names) S) where
  first : IsFirst (are_connected h.pairs S) 1 (kind_of h S)
  unfolding kind_of
  first = first_is (are_connected h.pairs S) (length h.names) 1 S there.0 (omega (arith, there.1)) (eq-eqb _ _ refl)

  -- a kind is named by one of the sorts
  pub kind_there : IsSort (length h.names) (kind_of h S)
  kind_there = let low = first.least S there.0 (eq-eqb _ _ refl) in (first.from, omega (arith, low, there.1))

  pub kind_same : (sig : Signature) → sig.pairs ≡ h.pairs → SameKind sig S (kind_of h S)
  kind_same sig e =
      let number : are_connected sig.pairs S (kind_of h S) ≡ true = subst (λ ps. are_connected ps S (kind_of h S) ≡ true) (sym e) first.passes in
      kind_number-sound sig S (kind_of h S) (eqb-true _ _ number)

  pub kind_least : ArePairsOf (length h.names) h.pairs → (sig : Signature) → sig.pairs ≡ h.pairs → (T : ℕ) → SameKind sig S T → kind_of h S ≤ T
  kind_least within sig e T k =
      let low = stays_within sig (length h.names) (subst (ArePairsOf (length h.names)) (sym e) within) k there.0 in
      let number : are_connected h.pairs S T ≡ true = subst (λ ps. are_connected ps S T ≡ true) e (eq-eqb _ _ (kind_number-same k)) in
      first.least T low number

  pub is_kind : ArePairsOf (length h.names) h.pairs → IsKindOf h.pairs S (kind_of h S)
  is_kind within = record { same = kind_same; least = kind_least within }

  -- what a poset gives is that
  pub one_kind : ArePairsOf (length h.names) h.pairs → (K : ℕ) → IsKindOf h.pairs S K → K ≡ kind_of h S
  one_kind within K k =
      let a = k.least (bare h.pairs) refl (kind_of h S) (kind_same (bare h.pairs) refl) in
      let b = kind_least within (bare h.pairs) refl K (k.same (bare h.pairs) refl) in
      omega (arith, a, b)

-- the kind that a poset gives, where a hierarchy holds h
pub kind_here : (h held : Hierarchy) → held ≡ h → (order : SortOrder) → IsHeld held order → (sort K : ℕ) → IsSort (length h.names) sort → IsKindOf order.pairs sort K → K ≡ kind_of h sort
kind_here h held is order keeps sort K there k =
    let ordered : order ≡ order_of h = keeps.same ∙ ap order_of is in
    let within = subst (λ (k : Hierarchy). ArePairsOf (length k.names) k.pairs) is keeps.within in
    one_kind h sort there within K (subst (λ ps. IsKindOf ps sort K) (ap (λ (o : SortOrder). o.pairs) ordered) k)

-- a sort that is looked up by its name, where a hierarchy holds h
module _ (h held : Hierarchy) (is : held ≡ h) (order : SortOrder) (keeps : IsHeld held order) (name text : Name) (spelled : text ≡ name) (known : is_among h.names name ≡ true)
    (sort : ℕ) (number : sort ≡ number_of held.names text) where
  numbered : sort ≡ number_of h.names name
  numbered = number ∙ ap (λ (k : Hierarchy). number_of k.names text) is ∙ ap (number_of h.names) spelled

  there_in : IsSort (length h.names) sort
  there_in = subst (IsSort (length h.names)) (sym numbered) (number_there h.names name known)

  ordered : order ≡ order_of h
  ordered = keeps.same ∙ ap order_of is

  pub sort_there : IsSort order.sorts sort
  sort_there = subst (λ n. IsSort n sort) (sym (ap (λ (o : SortOrder). o.sorts) ordered)) there_in

  pub kind_found : (K : ℕ) → IsKindOf order.pairs sort K → K ≡ kind_of h (number_of h.names name)
  kind_found K k =
      kind_here h held is order keeps sort K there_in k ∙ ap (kind_of h) numbered
