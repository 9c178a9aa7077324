-- The kinds and sorts of the operators that statements declare whose sorts are all known.
use Rattle.std.proofs.Common.{◌≡◌, ◌&&◌, ℕ, List, [], ◌∷◌, map, Bool, true, false, nat_eq, None, All, bytes_eq, if◌then◌else◌, refl, sym, subst, inl, inr}
use Rattle.std.specs.Prelude.{codes}
use Rattle.std.proofs.lemmas.Bool.{and_parts, eqb-true}
use Rattle.std.proofs.lemmas.List.Elements.{All-nil, All-cons, All-head, All-append}
use Rattle.std.proofs.lemmas.Slice.Eq.{bytes_eq-Decides}
use Rattle.mw_logic.specs.Signature.{Signature, Declaration, Sorted, sort, kind, Member, SameKind, same}
use Rattle.mw_logic.specs.Accepted.{number_of_sort}
use Rattle.mw_logic.specs.Preregular.{IsSortOf, AreOfKinds}
use Rattle.mw_logic.proofs.KindLaws.{SameKind-sym}
use Rattle.mw_module.specs.Attributes.{Attributes}
use Rattle.mw_module.specs.Forms.{Shape, Sorts, Subsorts, Operators, Variables, Statement, Import, Class}
use Rattle.mw_module.specs.Sortings.{WrittenSort}
use Rattle.mw_module.specs.Units.{SeenLined}
use Rattle.mw_declare.specs.declared.built.Reached.{Reached}
use Rattle.mw_declare.specs.declared.built.Truth.{Truth}
use Rattle.mw_declare.specs.Meaning.{Name, is_among, number_of}
use Rattle.mw_declare.specs.Hierarchy.{Hierarchy, kind_in, sorted_in, IsLeastKind}
use Rattle.mw_declare.specs.Operators.{Rank, rank_of, Profile, same_profile, Declared, declared_again, profile_of, choice_of, test_of, operators_of, signature_of}
use Rattle.mw_declare.specs.Faults.{unknown_among, name_in, mentioned_by, mentioned, unknown_from}
use Rattle.mw_declare.specs.Declarations.{unknown_in_all}
use Rattle.mw_declare.proofs.Folding.{declared_once, HasNamed, HasEach, HasEachLined, all_operators}
use Rattle.mw_declare.proofs.KindNames.{NamesKind, IsTruthOf, truth_held}
use Rattle.mw_declare.proofs.LeastKinds.{kind_there, kind_same}
use Rattle.mw_declare.proofs.Pairs.{known_statement}
use Rattle.mw_declare.proofs.Unknown.{known_front, known_append, number_there}

-- two profiles that are the same
pub same_args : (p q : Profile) → same_profile p q ≡ true → p.args ≡ q.args
same_args p q e =
    let rest = (and_parts (bytes_eq p.spelling q.spelling) (bytes_eq p.args q.args && nat_eq p.result q.result) e).1 in
    (bytes_eq-Decides p.args q.args).0 (and_parts (bytes_eq p.args q.args) (nat_eq p.result q.result) rest).0

pub same_result : (p q : Profile) → same_profile p q ≡ true → p.result ≡ q.result
same_result p q e =
    let rest = (and_parts (bytes_eq p.spelling q.spelling) (bytes_eq p.args q.args && nat_eq p.result q.result) e).1 in
    eqb-true p.result q.result (and_parts (bytes_eq p.args q.args) (nat_eq p.result q.result) rest).1

-- the sorts of a signature, as a module declares them
abbrev pub sorts_held : Signature → Hierarchy
sorts_held sig = record { names = sig.sorts; pairs = sig.pairs }

-- a declaration whose sorts are there, and lie in these kinds
pub record IsRanked (sig : Signature) (args : List ℕ) (result : ℕ) (d : Declaration) : Type 0 where
  pub args_of : AreOfKinds sig d.args args
  pub result_of : SameKind sig result (number_of_sort d.result)
  pub args_there : (S : Sorted) → Member S d.args → IsSortOf sig (number_of_sort S)
  pub result_there : IsSortOf sig (number_of_sort d.result)

-- an operator whose kinds are those of sorts that are there, with such declarations
pub record IsRankedOperator (sig : Signature) (o : Declared) : Type 0 where
  pub args : All (IsLeastKind (sorts_held sig)) o.profile.args
  pub result : IsLeastKind (sorts_held sig) o.profile.result
  pub declarations : All (IsRanked sig o.profile.args o.profile.result) o.declarations

module _ (sig : Signature) where
  -- a declaration of o under another profile that is the same
  moved : (o : Declared) (p : Profile) (d : Declaration) → same_profile p o.profile ≡ true → IsRanked sig p.args p.result d → IsRanked sig o.profile.args o.profile.result d
  moved o p d e h =
      subst (λ (result : ℕ). IsRanked sig o.profile.args result d) (same_result p o.profile e) (subst (λ (args : List ℕ). IsRanked sig args p.result d) (same_args p o.profile e) h)

  ranked_again : (o : Declared) (p : Profile) (d : Declaration) (said : Attributes) → same_profile p o.profile ≡ true → IsRankedOperator sig o → IsRankedOperator sig (declared_once p d said)
      → IsRankedOperator sig (declared_again o d said)
  ranked_again o p d said e this one =
      let Own : Declaration → Type 0 = IsRanked sig o.profile.args o.profile.result in
      let r : Own d = moved o p d e (All-head (IsRanked sig p.args p.result) d [] one.declarations) in
      record { args = this.args; result = this.result; declarations = All-append Own o.declarations (d ∷ []) this.declarations (All-cons Own d [] r (All-nil Own)) }

-- a sort that is there as it is written, and its kind
module _ (sig : Signature) (s : WrittenSort) (known : is_among sig.sorts (name_in s) ≡ true) where
  written_there : IsSortOf sig (number_of sig.sorts (name_in s))
  written_there = number_there sig.sorts (name_in s) known

  kind_is_least : IsLeastKind (sorts_held sig) (kind_in (sorts_held sig) s)
  kind_is_least = (number_of sig.sorts (name_in s), written_there, refl)

  sorted_there : IsSortOf sig (number_of_sort (sorted_in (sorts_held sig) s))
  sorted_there = of s.kind
    where
      of : (b : Bool) → IsSortOf sig (number_of_sort (if b then kind (kind_in (sorts_held sig) s) else sort (number_of sig.sorts (name_in s))))
      of true = kind_there (sorts_held sig) (number_of sig.sorts (name_in s)) written_there
      of false = written_there

  sorted_of_kind : SameKind sig (number_of_sort (sorted_in (sorts_held sig) s)) (kind_in (sorts_held sig) s)
  sorted_of_kind = of s.kind
    where
      of : (b : Bool) → SameKind sig (number_of_sort (if b then kind (kind_in (sorts_held sig) s) else sort (number_of sig.sorts (name_in s)))) (kind_in (sorts_held sig) s)
      of true = same
      of false = kind_same (sorts_held sig) (number_of sig.sorts (name_in s)) written_there sig refl

-- a kind's number is that of a sort
pub least_there : (sig : Signature) (K : ℕ) → IsLeastKind (sorts_held sig) K → IsSortOf sig K
least_there sig K (S, there, e) = subst (IsSortOf sig) (sym e) (kind_there (sorts_held sig) S there)

module _ (sig : Signature) where
  kinds_least : (args : List WrittenSort) → unknown_among sig.sorts (map name_in args) ≡ None → All (IsLeastKind (sorts_held sig)) (map (kind_in (sorts_held sig)) args)
  kinds_least [] e = All-nil (IsLeastKind (sorts_held sig))
  kinds_least (s ∷ args) e =
      let k = known_front sig.sorts (name_in s) (map name_in args) e in
      All-cons (IsLeastKind (sorts_held sig)) (kind_in (sorts_held sig) s) (map (kind_in (sorts_held sig)) args) (kind_is_least sig s k.0) (kinds_least args k.1)

  all_of_kinds : (args : List WrittenSort) → unknown_among sig.sorts (map name_in args) ≡ None → AreOfKinds sig (map (sorted_in (sorts_held sig)) args) (map (kind_in (sorts_held sig)) args)
  all_of_kinds [] e = tt
  all_of_kinds (s ∷ args) e = let k = known_front sig.sorts (name_in s) (map name_in args) e in (sorted_of_kind sig s k.0, all_of_kinds args k.1)

  all_there : (args : List WrittenSort) → unknown_among sig.sorts (map name_in args) ≡ None → (S : Sorted) → Member S (map (sorted_in (sorts_held sig)) args) → IsSortOf sig (number_of_sort S)
  all_there [] e S m = absurd m
  all_there (s ∷ args) e S (inl is) = let k = known_front sig.sorts (name_in s) (map name_in args) e in subst (λ (S : Sorted). IsSortOf sig (number_of_sort S)) is (sorted_there sig s k.0)
  all_there (s ∷ args) e S (inr m) = let k = known_front sig.sorts (name_in s) (map name_in args) e in all_there args k.1 S m

  -- a declaration that mentions no other sorts
  module _ (args : List WrittenSort) (result : WrittenSort) (known : unknown_among sig.sorts (mentioned_by args result) ≡ None) where
    args_known : unknown_among sig.sorts (map name_in args) ≡ None
    args_known = (known_append sig.sorts (map name_in args) (name_in result ∷ []) known).0

    result_known : is_among sig.sorts (name_in result) ≡ true
    result_known = (known_front sig.sorts (name_in result) [] (known_append sig.sorts (map name_in args) (name_in result ∷ []) known).1).0

    ranked : let rank = rank_of (sorts_held sig) args result in IsRanked sig rank.args rank.result rank.declaration
    ranked = record {
      args_of = all_of_kinds args args_known;
      result_of = SameKind-sym (sorted_of_kind sig result result_known);
      args_there = all_there args args_known;
      result_there = sorted_there sig result result_known;
    }

    ranked_once : (name : List Name) (said : Attributes) → let rank = rank_of (sorts_held sig) args result in IsRankedOperator sig (declared_once (profile_of name rank) rank.declaration said)
    ranked_once name said =
        let rank : Rank = rank_of (sorts_held sig) args result in
        record {
          args = kinds_least args args_known;
          result = kind_is_least sig result result_known;
          declarations = All-cons (IsRanked sig rank.args rank.result) rank.declaration [] ranked (All-nil (IsRanked sig rank.args rank.result));
        }

    ranked_names : (names : List (List Name)) (said : Attributes) → HasEach (IsRankedOperator sig) (ranked_again sig) (sorts_held sig) (Operators names args result said)
    ranked_names [] said = All-nil (HasNamed (IsRankedOperator sig) (ranked_again sig) (rank_of (sorts_held sig) args result) said)
    ranked_names (name ∷ names) said =
        All-cons (HasNamed (IsRankedOperator sig) (ranked_again sig) (rank_of (sorts_held sig) args result) said) name names (ranked_once name said) (ranked_names names said)

  abbrev Ranks : Shape → Type 0
  Ranks s = HasEach (IsRankedOperator sig) (ranked_again sig) (sorts_held sig) s

  ranked_shape : (s : Shape) → unknown_among sig.sorts (mentioned s) ≡ None → Ranks s
  ranked_shape (Sorts names) there = tt
  ranked_shape (Subsorts groups) there = tt
  ranked_shape (Operators names args result said) there = ranked_names args result there names said
  ranked_shape (Variables names S) there = tt
  ranked_shape (Statement rule left right fragments executable) there = tt
  ranked_shape (Import m) there = tt
  ranked_shape (Class c as_) there = tt

  ranked_lined : (ss : List SeenLined) → unknown_from sig.sorts ss ≡ None → All (HasEachLined (IsRankedOperator sig) (ranked_again sig) (sorts_held sig)) ss
  ranked_lined [] there = All-nil (HasEachLined (IsRankedOperator sig) (ranked_again sig) (sorts_held sig))
  ranked_lined (s ∷ ss) there = let k = known_statement sig.sorts s ss there in All-cons (HasEachLined (IsRankedOperator sig) (ranked_again sig) (sorts_held sig)) s ss (ranked_shape s.shape k.0) (ranked_lined ss k.1)

  -- those that a kind has
  module _ (t : Truth) (truth : IsTruthOf (sorts_held sig) t) (K : ℕ) (n : NamesKind (sorts_held sig) K) where
    abbrev IsLeast : ℕ → Type 0
    IsLeast = IsLeastKind (sorts_held sig)

    this_least : IsLeast K
    this_least = (K, n.0, sym n.1)

    truth_least : IsLeast t.kind
    truth_least = (t.sort, truth.there, truth.kind_is)

    test_ranked : (name : Name) → let g = test_of t name K in IsRankedOperator sig (declared_once g.profile g.declaration g.attributes)
    test_ranked name =
        let g = test_of t name K in
        let Own : Declaration → Type 0 = IsRanked sig g.profile.args g.profile.result in
        let of_sort : SameKind sig t.kind t.sort = subst (λ (C : ℕ). SameKind sig C t.sort) (sym truth.kind_is) (SameKind-sym (kind_same (sorts_held sig) t.sort truth.there sig refl)) in
        let each : Own g.declaration = record { args_of = (same, (same, tt)); result_of = of_sort; args_there = two_there; result_there = truth.there } in
        record {
          args = All-cons IsLeast K (K ∷ []) this_least (All-cons IsLeast K [] this_least (All-nil IsLeast));
          result = truth_least;
          declarations = All-cons Own g.declaration [] each (All-nil Own);
        }
      where
        two_there : (S : Sorted) → Member S (kind K ∷ kind K ∷ []) → IsSortOf sig (number_of_sort S)
        two_there S (inl e) = subst (λ (S : Sorted). IsSortOf sig (number_of_sort S)) e n.0
        two_there S (inr (inl e)) = subst (λ (S : Sorted). IsSortOf sig (number_of_sort S)) e n.0
        two_there S (inr (inr m)) = absurd m

    choice_ranked : let g = choice_of t K in IsRankedOperator sig (declared_once g.profile g.declaration g.attributes)
    choice_ranked =
        let g = choice_of t K in
        let Own : Declaration → Type 0 = IsRanked sig g.profile.args g.profile.result in
        let each : Own g.declaration = record { args_of = (same, (same, (same, tt))); result_of = same; args_there = three_there; result_there = n.0 } in
        record {
          args = All-cons IsLeast t.kind (K ∷ K ∷ []) truth_least (All-cons IsLeast K (K ∷ []) this_least (All-cons IsLeast K [] this_least (All-nil IsLeast)));
          result = this_least;
          declarations = All-cons Own g.declaration [] each (All-nil Own);
        }
      where
        kind_of_truth : IsSortOf sig t.kind
        kind_of_truth = least_there sig t.kind truth_least

        three_there : (S : Sorted) → Member S (kind t.kind ∷ kind K ∷ kind K ∷ []) → IsSortOf sig (number_of_sort S)
        three_there S (inl e) = subst (λ (S : Sorted). IsSortOf sig (number_of_sort S)) e kind_of_truth
        three_there S (inr (inl e)) = subst (λ (S : Sorted). IsSortOf sig (number_of_sort S)) e n.0
        three_there S (inr (inr (inl e))) = subst (λ (S : Sorted). IsSortOf sig (number_of_sort S)) e n.0
        three_there S (inr (inr (inr m))) = absurd m

pub ranked_operators : (r : Reached) (ss : List SeenLined) → unknown_in_all ss ≡ None → All (IsRankedOperator (signature_of r ss)) (operators_of ss)
ranked_operators r ss known =
    let sig = signature_of r ss in
    all_operators (IsRankedOperator sig) (ranked_again sig) ss (ranked_lined sig ss known)
    (λ t e K n.
    let truth = truth_held ss known t e in (
      choice_ranked sig t truth K n,
      test_ranked sig t truth K n (codes "_==_"),
      test_ranked sig t truth K n (codes "_=/=_"),
    ))
