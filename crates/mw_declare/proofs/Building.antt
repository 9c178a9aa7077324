-- What is built into a module is what the logic asks for: numbers, quoted identifiers, truth values, and the operators that each kind has.
use Rattle.std.proofs.Common.{◌≡◌, ◌∙◌, ◌⊎◌, ◌&&◌, ◌||◌, ℕ, zero, suc, List, [], ◌∷◌, length, option_map, true, false, nat_eq, bytes_eq, Option, Some, None, refl, sym, ap, subst, inl, inr}
use Rattle.std.specs.Prelude.{IsTrue, is_some, codes}
use Rattle.std.proofs.lemmas.Bool.{and_parts, or_cases, eqb-true}
use Rattle.std.proofs.lemmas.Option.{slice_get-map}
use Rattle.std.proofs.lemmas.Slice.Eq.{bytes_eq-Decides}
use Rattle.mw_logic.specs.Term.{constant}
use Rattle.mw_logic.specs.Signature.{Signature, Operator, Declaration, sort, IsOperator, IsSortNamed, IsSuccessor, Member, SameKind, same, down}
use Rattle.mw_logic.specs.Sorts.{above, same as itself}
use Rattle.mw_logic.specs.Accepted.{are_two}
use Rattle.mw_logic.specs.Built.{HasTruths, IsOfEachKind, a_test, a_choice, HasBuiltIns}
use Rattle.mw_logic.specs.Module.{AreKindsOf, IsNamed}
use Rattle.mw_text.specs.Names.{name_of_tokens}
use Rattle.mw_logic.proofs.KindLaws.{SameKind-trans, SameKind-sym, SameKind-equal}
use Rattle.mw_sorting.specs.PreregularModulo.{HasNaturals}
use Rattle.mw_carry.specs.Laws.{AreAlike}
use Rattle.mw_poset.specs.Order.{IsSort}
use Rattle.mw_poset.proofs.Members.{member-all}
use Rattle.mw_module.specs.Units.{SeenLined}
use Rattle.mw_declare.specs.declared.built.Reached.{Reached}
use Rattle.mw_declare.specs.declared.built.Truth.{Truth}
use Rattle.mw_declare.specs.declared.built.Built.{Built}
use Rattle.mw_declare.specs.Meaning.{Name, is_among, number_of}
use Rattle.mw_declare.specs.Hierarchy.{Hierarchy, hierarchy_of}
use Rattle.mw_declare.specs.Built.{some_declares, has_numbers, is_pair, kind_named, truth_of, numbers_in, built_in}
use Rattle.mw_declare.specs.Operators.{Profile, Declared, is_test_of, is_choice_of, is_built, are_choice, operators_of, operator_of, signature_of}
use Rattle.mw_declare.specs.Declarations.{unknown_in_all}
use Rattle.mw_declare.proofs.Apart.{declared_at, same_spelling}
use Rattle.mw_declare.proofs.Declaring.{placed, some_member, value_known, stated_profile, stated_declaration}
use Rattle.mw_declare.proofs.Found.{IsFound, found_stated}
use Rattle.mw_declare.proofs.KindNames.{IsTruthOf, truths_declared, truth_held, numbers_are}
use Rattle.mw_declare.proofs.KindsApart.{declared_apart}
use Rattle.mw_declare.proofs.LeastKinds.{kind_same}
use Rattle.mw_declare.proofs.Named.{one_number}
use Rattle.mw_declare.proofs.Pairs.{pairs_there}
use Rattle.mw_declare.proofs.Ranked.{same_args, same_result}
use Rattle.mw_declare.proofs.SortNames.{sorts_differ}
use Rattle.mw_declare.proofs.Unknown.{number_there, named_number}

some_of : {X : Type 0} (o : Option X) → is_some o ≡ true → (x : X) × (o ≡ Some x)
some_of None e = cc
some_of (Some x) e = (x, refl)

module _ (r : Reached) (ss : List SeenLined) (known : unknown_in_all ss ≡ None) where
  abbrev sig : Signature
  sig = signature_of r ss

  abbrev h : Hierarchy
  h = hierarchy_of ss

  abbrev b : Built
  b = built_in r (hierarchy_of ss) ss

  abbrev os : List Declared
  os = operators_of ss

  -- a declared operator that is found, by its number
  numbered_operator : (q : Profile) (c : Declaration) (f : IsFound os q c) → (n : ℕ) × IsOperator sig n (operator_of b os f.operator)
  numbered_operator q c f =
      let (i, at) = placed f.operator os f.member in (suc i, slice_get-map (operator_of b os) os i ∙ ap (option_map (operator_of b os)) at)

  -- a pair of sorts by their names
  record IsPair (m n : Name) : Type 0 where
    member : Member (number_of h.names m, number_of h.names n) sig.pairs
    lower : IsSort (length h.names) (number_of h.names m)
    upper : IsSort (length h.names) (number_of h.names n)

  pair_of : (m n : Name) → is_pair h m n ≡ true → IsPair m n
  pair_of m n e =
      let (p, member, k) = some_member (λ (p : ℕ × ℕ). nat_eq p.0 (number_of h.names m) && nat_eq p.1 (number_of h.names n)) h.pairs e in
      let eqs = and_parts _ _ k in
      let low : p.0 ≡ number_of h.names m = eqb-true p.0 (number_of h.names m) eqs.0 in
      let high : p.1 ≡ number_of h.names n = eqb-true p.1 (number_of h.names n) eqs.1 in
      let both = ap (λ (S : ℕ). (S, p.1)) low ∙ ap (λ (T : ℕ). (number_of h.names m, T)) high in
      let there = subst (λ (p : ℕ × ℕ). Member p h.pairs) both member in
      let sorts = member-all (λ (p : ℕ × ℕ). IsSort (length h.names) p.0 × IsSort (length h.names) p.1) h.pairs (pairs_there h.names ss known)
      (number_of h.names m, number_of h.names n) there in
      record { member = there; lower = sorts.0; upper = sorts.1 }

  module _ (nat : IsTrue sig.nat) where
    declared : has_numbers h ss ≡ true
    declared = let (N, e) = some_of (numbers_in r.nat h ss) nat in (numbers_are ss known r.nat N e).1

    zero_pair : IsPair (codes "Zero") (codes "Nat")
    zero_pair = pair_of (codes "Zero") (codes "Nat") (and_parts _ _ (and_parts _ _ declared).1).0

    nonzero_pair : IsPair (codes "NzNat") (codes "Nat")
    nonzero_pair = pair_of (codes "NzNat") (codes "Nat") (and_parts _ _ (and_parts _ _ declared).1).1

    abbrev Nat : ℕ
    Nat = number_of h.names (codes "Nat")

    nat_named : IsSortNamed sig Nat (codes "Nat")
    nat_named = named_number h.names (codes "Nat") zero_pair.upper.0

    -- a sort of one of these names lies in Nat's kind
    pub zero_kind : (S : ℕ) → IsSortNamed sig S (codes "Zero") → (N : ℕ) × IsSortNamed sig N (codes "Nat") × SameKind sig N S
    zero_kind S e =
        let is = one_number h.names (sorts_differ ss) (number_of h.names (codes "Zero")) S (codes "Zero") (named_number h.names (codes "Zero") zero_pair.lower.0) e in
        (Nat, nat_named, subst (SameKind sig Nat) is (down zero_pair.member same))

    pub nonzero_kind : (S : ℕ) → IsSortNamed sig S (codes "NzNat") → (N : ℕ) × IsSortNamed sig N (codes "Nat") × SameKind sig N S
    nonzero_kind S e =
        let is = one_number h.names (sorts_differ ss) (number_of h.names (codes "NzNat")) S (codes "NzNat") (named_number h.names (codes "NzNat") nonzero_pair.lower.0) e in
        (Nat, nat_named, subst (SameKind sig Nat) is (down nonzero_pair.member same))

    -- the successor
    successor_found : IsFound os (stated_profile (codes "s_") (Some (codes "Nat")) (codes "NzNat") h) (stated_declaration (codes "s_") (Some (codes "Nat")) (codes "NzNat") h)
    successor_found = found_stated ss (codes "s_") (Some (codes "Nat")) (codes "NzNat") (and_parts _ _ declared).0

    to_nonzero : SameKind sig Nat (kind_named h (codes "NzNat"))
    to_nonzero = SameKind-trans (down nonzero_pair.member same) (kind_same h (number_of h.names (codes "NzNat")) nonzero_pair.lower sig refl)

    -- a successor, by its number, which takes Nat to NzNat
    record IsHere : Type 0 where
      number : ℕ
      is : IsSuccessor sig number
      takes_nat : Member (record { args = sort Nat ∷ []; result = sort (number_of h.names (codes "NzNat")) }) is.operator.declarations

    successor_here : IsHere
    successor_here =
        let q = stated_profile (codes "s_") (Some (codes "Nat")) (codes "NzNat") h in
        let f = successor_found in
        let p = f.operator.profile in
        let (n, at) = numbered_operator q (stated_declaration (codes "s_") (Some (codes "Nat")) (codes "NzNat") h) f in
        record {
          number = n;
          is = record {
            operator = operator_of b os f.operator;
            is_there = at;
            nat = nat;
            spelled = sym (same_spelling q p f.is);
            Nat = Nat;
            named = nat_named;
            of_kind = subst (SameKind sig Nat) (same_result q p f.is) to_nonzero;
            argument = kind_named h (codes "Nat");
            takes_one = sym (same_args q p f.is);
            of_argument = kind_same h Nat zero_pair.upper sig refl;
          };
          takes_nat = f.declared;
        }

    -- no two operators are successors
    only : (f g : ℕ) → IsSuccessor sig f → IsSuccessor sig g → g ≡ f
    only f g t s =
        let one : s.Nat ≡ t.Nat = one_number h.names (sorts_differ ss) s.Nat t.Nat (codes "Nat") s.named t.named in
        let to : SameKind sig s.argument t.argument = SameKind-trans (SameKind-sym s.of_argument) (SameKind-trans (SameKind-equal one) t.of_argument) in
        let results : SameKind sig s.operator.result t.operator.result = SameKind-trans (SameKind-sym s.of_kind) (SameKind-trans (SameKind-equal one) t.of_kind) in
        let alike : AreAlike sig s.operator.args t.operator.args =
        subst (λ (Ks : List ℕ). AreAlike sig Ks t.operator.args) (sym s.takes_one) (subst (AreAlike sig (s.argument ∷ [])) (sym t.takes_one) (to, tt)) in
        declared_apart r ss known g f s.operator t.operator s.is_there t.is_there (s.spelled ∙ sym t.spelled) alike results

    pub naturals : HasNaturals sig
    naturals = record {
      Zero = number_of h.names (codes "Zero");
      NzNat = number_of h.names (codes "NzNat");
      Nat = Nat;
      zero_named = named_number h.names (codes "Zero") zero_pair.lower.0;
      nonzero_named = named_number h.names (codes "NzNat") nonzero_pair.lower.0;
      nat_named = nat_named;
      zero_below = above zero_pair.member itself;
      nonzero_below = above nonzero_pair.member itself;
      successor = successor_here.number;
      is = successor_here.is;
      declares = inl successor_here.takes_nat;
      only = λ g s. only successor_here.number g successor_here.is s;
    }

  pub quoted : IsTrue sig.qid → (S : ℕ) × IsSortNamed sig S (codes "Qid")
  quoted e =
      let there = (and_parts r.qid (is_among h.names (codes "Qid")) e).1 in
      (number_of h.names (codes "Qid"), named_number h.names (codes "Qid") (number_there h.names (codes "Qid") there).0)

  -- truth values
  module _ (t : Truth) (e : truth_of h ss ≡ Some t) where
    held : IsTruthOf h t
    held = truth_held ss known t e

    bool_kind : (C : ℕ) → C ≡ t.kind → SameKind sig t.sort C
    bool_kind C is = subst (SameKind sig t.sort) (sym (is ∙ held.kind_is)) (kind_same h t.sort held.there sig refl)

    truth_named : (name : Name) → some_declares name None (codes "Bool") ss ≡ true → (c : ℕ) × IsNamed sig c (name_of_tokens (name ∷ [])) [] (codes "Bool")
    truth_named name d =
        let q = stated_profile name None (codes "Bool") h in
        let f = found_stated ss name None (codes "Bool") d in
        let (c, at) = numbered_operator _ _ f in
        let B = number_of h.names (codes "Bool") in
        let bool = value_known name None (codes "Bool") ss d h.names known in
        let there = number_there h.names (codes "Bool") bool in
        let kinds : SameKind sig B f.operator.profile.result = subst (SameKind sig B) (same_result q f.operator.profile f.is) (kind_same h B there sig refl) in (
          c,
          record {
            operator = operator_of b os f.operator;
            is_there = at;
            spelled = sym (same_spelling q f.operator.profile f.is);
            of_kinds = subst (λ (Ks : List ℕ). AreKindsOf sig Ks []) (same_args q f.operator.profile f.is) tt;
            gives = (B, named_number h.names (codes "Bool") there.0, kinds, tt);
          },
        )

    truths : HasTruths sig
    truths true = let (c, n) = truth_named (codes "true") (and_parts _ _ (truths_declared ss known t e)).0 in (constant c, (c, refl, n))
    truths false = let (c, n) = truth_named (codes "false") (and_parts _ _ (truths_declared ss known t e)).1 in (constant c, (c, refl, n))

    two_same : (Ks : List ℕ) → are_two nat_eq Ks ≡ true → (K : ℕ) × (Ks ≡ K ∷ K ∷ [])
    two_same [] k = cc
    two_same (K ∷ []) k = cc
    two_same (K ∷ L ∷ []) k = (K, ap (λ (L : ℕ). K ∷ L ∷ []) (sym (eqb-true K L k)))
    two_same (K ∷ L ∷ M ∷ Ks) k = cc

    three_of : (B K : ℕ) (Ks : List ℕ) → are_choice B K Ks ≡ true → Ks ≡ B ∷ K ∷ K ∷ []
    three_of B K [] k = cc
    three_of B K (L ∷ []) k = cc
    three_of B K (L ∷ M ∷ []) k = cc
    three_of B K (L ∷ M ∷ N ∷ []) k =
        let p = and_parts _ _ k in
        let q = and_parts _ _ p.1 in
        ap (λ (L : ℕ). L ∷ M ∷ N ∷ []) (eqb-true L B p.0) ∙ ap (λ (M : ℕ). B ∷ M ∷ N ∷ []) (eqb-true M K q.0) ∙ ap (λ (N : ℕ). B ∷ K ∷ N ∷ []) (eqb-true N K q.1)
    three_of B K (L ∷ M ∷ N ∷ O ∷ Ks) k = cc

    a_shape : (d : Declared) → (is_test_of t d.profile || is_choice_of t d.profile) ≡ true → IsOfEachKind sig (operator_of b os d)
    a_shape d k = elim (or_cases (is_test_of t d.profile) (is_choice_of t d.profile) k) [ inl m ↦ test m | inr m ↦ choice m ]
      where
        test : is_test_of t d.profile ≡ true → IsOfEachKind sig (operator_of b os d)
        test m =
            let p = and_parts _ _ m in
            let q = and_parts _ _ p.1 in
            let (K, args) = two_same d.profile.args q.0 in
            let spelled : (d.profile.spelling ≡ codes "_==_") ⊎ (d.profile.spelling ≡ codes "_=/=_") =
            elim (or_cases (bytes_eq d.profile.spelling (codes "_==_")) (bytes_eq d.profile.spelling (codes "_=/=_")) p.0) [
              | inl n ↦ inl ((bytes_eq-Decides d.profile.spelling (codes "_==_")).0 n)
              | inr n ↦ inr ((bytes_eq-Decides d.profile.spelling (codes "_=/=_")).0 n)
            ] in
            a_test K t.sort spelled args held.named (bool_kind d.profile.result (eqb-true d.profile.result t.kind q.1))

        choice : is_choice_of t d.profile ≡ true → IsOfEachKind sig (operator_of b os d)
        choice m =
            let p = and_parts _ _ m in
            a_choice t.sort t.kind ((bytes_eq-Decides d.profile.spelling (codes "if_then_else_fi")).0 p.0) (three_of t.kind d.profile.result d.profile.args p.1) held.named (bool_kind t.kind refl)

  -- an operator that is built in stands beside the truth values
  record IsGiven (o : Operator) : Type 0 where
    shape : IsOfEachKind sig o
    beside : HasTruths sig

  given : (d : Declared) → is_built (truth_of h ss) d.profile ≡ true → IsGiven (operator_of b os d)
  given d k = of (truth_of h ss) refl k
    where
      of : (truth : Option Truth) → truth_of h ss ≡ truth → is_built truth d.profile ≡ true → IsGiven (operator_of b os d)
      of None e m = cc
      of (Some t) e m = record { shape = a_shape t e d m; beside = truths t e }

  given_at : (f : ℕ) (o : Operator) → IsOperator sig f o → IsTrue o.built → IsGiven o
  given_at zero o e k = cc
  given_at (suc i) o e k =
      let (d, at, is) = declared_at b os os i o e in subst IsGiven is (given d (subst (λ (o : Operator). o.built ≡ true) (sym is) k))

  pub built_ins : HasBuiltIns sig
  built_ins = record { shapes = λ f o e k. (given_at f o e k).shape; truths = λ f o e k. (given_at f o e k).beside }
