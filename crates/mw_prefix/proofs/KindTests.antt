-- Kinds by tests, and by the numbers that an order of sorts gives them.
use Rattle.std.specs.Prelude.{◌≡◌, ℕ, zero, suc, List, Bool, true, false, nat_eq, Option, Some, None, IsTrue, refl}
use Rattle.std.proofs.Common.{sym, ap, subst, ◌∙◌, arith}
use Rattle.std.proofs.lemmas.Bool.{eqb-true, eq-eqb, and_parts, and_from, false_from_ne_true, both_ways}
use Rattle.mw_logic.specs.Signature.{Signature, Operator, at_number, SameKind, IsSortNamed}
use Rattle.mw_logic.specs.Preregular.{HasItsSorts}
use Rattle.mw_logic.specs.Kinds.{kind_number, some_sort}
use Rattle.mw_logic.specs.Accepted.{IsAccepted, is_same_kind}
use Rattle.mw_logic.proofs.KindLaws.{kind_number-same, kind_number-sound}
use Rattle.mw_logic.proofs.Successor.{some_sort-from, some_sort-true}
use Rattle.mw_poset.specs.SortOrder.{SortOrder, order_of}
use Rattle.mw_poset.specs.Order.{IsSort, IsKindOf}
use Rattle.mw_poset.proofs.Reading.{kinds_agree, kinds_same}
use Rattle.mw_canon.proofs.Reading.{sort_there}
use Rattle.mw_prefix.specs.Leaves.{IsKindNamed}
use Rattle.mw_prefix.specs.Taking.{is_kind_named}

-- two tests that are passed together
pub passed_together : (a b : Bool) → (a ≡ true → b ≡ true) → (b ≡ true → a ≡ true) → a ≡ b
passed_together true b to from = sym (to refl)
passed_together false b to from = sym (false_from_ne_true b (λ h. both_ways false refl (from h)))

-- what an order says of kinds, said of the signature's pairs
pub kind_in : (sig : Signature) (order : SortOrder) (S K : ℕ) → order ≡ order_of sig → IsKindOf order.pairs S K → IsKindOf sig.pairs S K
kind_in sig order S K e k = subst (λ (o : SortOrder). IsKindOf o.pairs S K) e k

-- two sorts are of one kind where their kinds have one number
pub same_number : (sig : Signature) (S T K L : ℕ) → IsKindOf sig.pairs S K → IsKindOf sig.pairs T L → nat_eq K L ≡ is_same_kind sig S T
same_number sig S T K L k l =
    passed_together (nat_eq K L) (is_same_kind sig S T)
    (λ h. eq-eqb _ _ (kind_number-same (kinds_agree sig.pairs S T L (subst (IsKindOf sig.pairs S) (eqb-true K L h) k) l sig refl)))
    (λ h. eq-eqb K L (kinds_same sig.pairs sig S T K L k l refl (kind_number-sound sig S T (eqb-true _ _ h))))

-- a sort of the name that is of K's kind
pub named_kind : (sig : Signature) (there : Bool) (name : List ℕ) (K : ℕ) → is_kind_named sig there name K ≡ true → IsTrue there × (S : ℕ) × IsSortNamed sig S name × SameKind sig S K
named_kind sig there name K h =
    let p = and_parts there (some_sort sig name (kind_number sig K) 1 sig.sorts) h in
    let (j, at, k) = some_sort-true sig name (kind_number sig K) 1 sig.sorts p.1 in
    (p.0, suc j, at, kind_number-sound sig (suc j) K (ap (kind_number sig) (omega arith) ∙ k))

pub kind_named : (sig : Signature) (there : Bool) (name : List ℕ) (S K : ℕ) → IsTrue there → IsSortNamed sig S name → SameKind sig S K → is_kind_named sig there name K ≡ true
kind_named sig there name zero K b at k = cc
kind_named sig there name (suc j) K b at k = and_from _ _ b (some_sort-from sig name (kind_number sig K) 1 sig.sorts j at (ap (kind_number sig) (omega arith) ∙ kind_number-same k))

-- a kind is that of the name where it has the number
pub kind_is : (sig : Signature) → IsAccepted sig → (there : Bool) (name : List ℕ) (found : Option ℕ) (N K L : ℕ) → IsKindNamed sig there name found → found ≡ Some N → IsKindOf sig.pairs K L → nat_eq N L ≡ is_kind_named sig there name K
kind_is sig ok there name found N K L h is l =
    let (b, S, at, n) = subst (IsKindNamed sig there name) is h in
    passed_together (nat_eq N L) (is_kind_named sig there name K)
    (λ e. kind_named sig there name S K b at (kinds_agree sig.pairs S K L (subst (IsKindOf sig.pairs S) (eqb-true N L e) n) l sig refl))
    (λ e.
    let (c, T, there, k) = named_kind sig there name K e in
    eq-eqb N L (kinds_same sig.pairs sig S K N L n l refl (subst (λ U. SameKind sig U K) (ok.sorts_differ T S name there at) k)))

-- and no kind is, where there is none
pub no_kind : (sig : Signature) (there : Bool) (name : List ℕ) (found : Option ℕ) (K : ℕ) → IsKindNamed sig there name found → found ≡ None → false ≡ is_kind_named sig there name K
no_kind sig there name found K h is = sym (false_from_ne_true _ (λ e. let (b, S, at, k) = named_kind sig there name K e in subst (IsKindNamed sig there name) is h b S at))

-- a kind that an operator takes or gives is there
pub result_there : (sig : Signature) (order : SortOrder) → HasItsSorts sig → order ≡ order_of sig → (f : ℕ) (o : Operator) → at_number sig.operators f ≡ Some o → IsSort order.sorts o.result
result_there sig order h e f o is = sort_there sig order o.result e (h.results f o is)
