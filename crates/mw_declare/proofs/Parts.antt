-- What statements declare is part of what they declare together with others: sorts of the same names, connected where they are connected, and operators of the
-- same names on the same kinds.
use Rattle.std.proofs.Common.{◌≡◌, ◌∙◌, ◌≤◌, ◌&&◌, Bool, true, false, nat_eq, bytes_eq, if◌then◌else◌, ℕ, zero, suc, List, [], ◌∷◌, length, map, option_map, Some, None, All, refl, sym, ap, subst}
use Rattle.std.proofs.lemmas.List.Elements.{All-nil, All-cons, All-head, All-tail}
use Rattle.std.specs.Prelude.{IsTrue, is_some, codes}
use Rattle.std.proofs.lemmas.Bool.{and_from, and_parts, or_left, or_right, eqb-true, eq-eqb}
use Rattle.std.proofs.lemmas.Option.{same_Some, slice_get-map}
use Rattle.std.proofs.lemmas.Slice.Eq.{bytes_eq-Decides}
use Rattle.mw_logic.specs.Signature.{Signature, Operator, Declaration, IsOperator, IsSortNamed, Member, SameKind, same, up, down, at_number}
use Rattle.mw_logic.proofs.KindLaws.{SameKind-trans, SameKind-sym, SameKind-equal}
use Rattle.mw_poset.specs.Order.{IsSort}
use Rattle.mw_poset.proofs.Members.{member-all}
use Rattle.mw_carry.specs.Carried.{IsSameSort, IsSameKind, AreSameKinds, IsSameOperator}
use Rattle.mw_module.specs.Attributes.{Attributes}
use Rattle.mw_module.specs.Forms.{Shape, Sorts, Subsorts, Operators, Variables, Statement, Import, Class}
use Rattle.mw_module.specs.Sortings.{WrittenSort}
use Rattle.mw_module.specs.Units.{SeenLined, IsWithin}
use Rattle.mw_declare.specs.declared.built.Reached.{Reached}
use Rattle.mw_declare.specs.declared.built.Truth.{Truth}
use Rattle.mw_declare.specs.Meaning.{Name, is_among, sorts_of, number_of}
use Rattle.mw_declare.specs.Built.{has_truths, has_numbers, is_pair, kind_named, truth_of, numbers_in, built_in}
use Rattle.mw_declare.specs.Hierarchy.{hierarchy_of, kind_of, kind_in}
use Rattle.mw_declare.specs.Operators.{rank_of, Profile, same_profile, Declared, declared_again, profile_of, Single, choice_of, test_of, operators_of, operator_of, signature_of}
use Rattle.mw_declare.specs.Faults.{unknown_among, name_in, mentioned_by}
use Rattle.mw_declare.specs.Declarations.{unknown_in_all}
use Rattle.mw_declare.specs.Laws.{ReachesMore, PartsAreThere}
use Rattle.mw_declare.proofs.Apart.{declared_at, same_spelling}
use Rattle.mw_declare.proofs.Declaring.{placed, some_member, member_some, declares_more, value_known}
use Rattle.mw_declare.proofs.Folding.{declared_once, HasNamed, HasEach, HasEachLined, HasKind, all_operators}
use Rattle.mw_declare.proofs.Found.{IsFound, IsNamed, HasFound, found_all, found_kind}
use Rattle.mw_declare.proofs.KindNames.{NamesKind, kind_again, truths_declared, truth_is}
use Rattle.mw_declare.proofs.LeastKinds.{kind_there, kind_same}
use Rattle.mw_declare.proofs.NamePairs.{named_from, numbered, pairs_are, member_mapped, mapped_member, named_within}
use Rattle.mw_declare.proofs.Named.{one_number, has_name, HasNames, all_sorts_from, sorts_are_there}
use Rattle.mw_declare.proofs.Pairs.{pairs_there}
use Rattle.mw_declare.proofs.Proper.{all_at}
use Rattle.mw_declare.proofs.Ranked.{same_args, same_result}
use Rattle.mw_declare.proofs.SortNames.{sorts_differ}
use Rattle.mw_declare.proofs.Unknown.{known_front, known_append, number_there, named_number}
use Rattle.mw_declare.proofs.Within.{all_members, IsKnownIn, all_known, shaped_within}

-- what stands at a number is among the names
at_among : (ns : List Name) (S : ℕ) (n : Name) → at_number ns S ≡ Some n → is_among ns n ≡ true
at_among ns zero n e = cc
at_among [] (suc i) n e = cc
at_among (m ∷ ns) (suc zero) n e = or_left (bytes_eq n m) (is_among ns n) ((bytes_eq-Decides n m).1 (sym (same_Some m n e)))
at_among (m ∷ ns) (suc (suc i)) n e = or_right (bytes_eq n m) (is_among ns n) (at_among ns (suc i) n e)

module _ (r s : Reached) (A B : List SeenLined) (reaches : ReachesMore r s) (within : IsWithin A B) (known : unknown_in_all A ≡ None) (other : unknown_in_all B ≡ None) where
  abbrev here : Signature
  here = signature_of r A

  abbrev there : Signature
  there = signature_of s B

  -- a sort's number there
  abbrev number : Name → ℕ
  number = number_of (sorts_of B)

  abbrev IsThere : Name → Type 0
  IsThere n = is_among (sorts_of B) n ≡ true

  all_there : All IsThere (sorts_of A)
  all_there = all_sorts_from IsThere [] A (All-nil IsThere) (shaped_within (HasNames IsThere) A B within (sorts_are_there [] B))

  is_there : (S : ℕ) (n : Name) → IsSortNamed here S n → IsThere n
  is_there S n e = all_at IsThere (sorts_of A) all_there S n e

  named_there : (S : ℕ) (n : Name) → IsSortNamed here S n → IsSortNamed there (number n) n
  named_there S n e = named_number (sorts_of B) n (number_there (sorts_of B) n (is_there S n e)).0

  -- a pair of sorts, by their names, is a pair there
  record IsPairThere (S T : ℕ) : Type 0 where
    lower : Name
    upper : Name
    is_lower : IsSortNamed here S lower
    is_upper : IsSortNamed here T upper
    pair : Member (number lower, number upper) there.pairs

  pair_there : (S T : ℕ) → Member (S, T) here.pairs → IsPairThere S T
  pair_there S T m =
      let sorts = member-all (λ (p : ℕ × ℕ). IsSort (length (sorts_of A)) p.0 × IsSort (length (sorts_of A)) p.1) here.pairs (pairs_there (sorts_of A) A known) (S, T) m in
      let (e, from, is) = member_mapped (numbered (sorts_of A)) (named_from A) (S, T) (subst (Member (S, T)) (pairs_are (sorts_of A) A) m) in
      let lower : number_of (sorts_of A) e.0 ≡ S = ap (λ (p : ℕ × ℕ). p.0) is in
      let upper : number_of (sorts_of A) e.1 ≡ T = ap (λ (p : ℕ × ℕ). p.1) is in
      record {
        lower = e.0;
        upper = e.1;
        is_lower = subst (λ (S : ℕ). IsSortNamed here S e.0) lower (named_number (sorts_of A) e.0 (subst (λ (S : ℕ). 1 ≤ S) (sym lower) sorts.0.0));
        is_upper = subst (λ (T : ℕ). IsSortNamed here T e.1) upper (named_number (sorts_of A) e.1 (subst (λ (T : ℕ). 1 ≤ T) (sym upper) sorts.1.0));
        pair = subst (Member (number e.0, number e.1)) (sym (pairs_are (sorts_of B) B)) (mapped_member (numbered (sorts_of B)) (named_from B) e (named_within e A B within from));
      }

  -- the sort of a name, by its number there
  is_number : (S T : ℕ) (n : Name) → IsSortNamed here S n → IsSameSort here there S T → T ≡ number n
  is_number S T n e is =
      let name : is.name ≡ n = same_Some is.name n (sym is.here ∙ e) in
      one_number (sorts_of B) (sorts_differ B) T (number n) n (is.there ∙ ap Some name) (named_there S n e)

  pairs_carried : (S T K L : ℕ) → Member (S, T) here.pairs → IsSameSort here there S K → IsSameSort here there T L → SameKind there K L
  pairs_carried S T K L m a b =
      let p = pair_there S T m in
      let kinds : SameKind there (number p.lower) (number p.upper) = up p.pair same in
      subst (λ (K : ℕ). SameKind there K L) (sym (is_number S K p.lower p.is_lower a)) (subst (SameKind there (number p.lower)) (sym (is_number T L p.upper p.is_upper b)) kinds)

  -- sorts of one kind are of one kind there
  kinds_carried : {S T : ℕ} → SameKind here S T → (m n : Name) → IsSortNamed here S m → IsSortNamed here T n → SameKind there (number m) (number n)
  kinds_carried (same {S}) m n e k = SameKind-equal (ap number (same_Some m n (sym e ∙ k)))
  kinds_carried (up {S} {T} pair more) m n e k =
      let p = pair_there S T pair in
      let first : SameKind there (number m) (number p.upper) = subst (λ (n : Name). SameKind there (number n) (number p.upper)) (same_Some p.lower m (sym p.is_lower ∙ e)) (up p.pair same) in
      SameKind-trans first (kinds_carried more p.upper n p.is_upper k)
  kinds_carried (down {S} {T} pair more) m n e k =
      let p = pair_there T S pair in
      let first : SameKind there (number m) (number p.lower) = subst (λ (n : Name). SameKind there (number n) (number p.lower)) (same_Some p.upper m (sym p.is_upper ∙ e)) (down p.pair same) in
      SameKind-trans first (kinds_carried more p.lower n p.is_lower k)

  -- the kind of a sort
  kind_carried : (n : Name) → is_among (sorts_of A) n ≡ true → IsSameKind here there (kind_named (hierarchy_of A) n) (kind_named (hierarchy_of B) n)
  kind_carried n e =
      let S : ℕ = number_of (sorts_of A) n in
      let sort : IsSort (length (sorts_of A)) S = number_there (sorts_of A) n e in
      let K : ℕ = kind_of (hierarchy_of A) S in
      let (m, least) = has_name (sorts_of A) K (kind_there (hierarchy_of A) S sort) in
      let named : IsSortNamed here S n = named_number (sorts_of A) n sort.0 in
      record {
        sort = number m;
        same = record { name = m; here = least; there = named_there K m least };
        kind = SameKind-trans (kinds_carried (SameKind-sym (kind_same (hierarchy_of A) S sort here refl)) m n least named)
            (kind_same (hierarchy_of B) (number n) (number_there (sorts_of B) n (is_there S n named)) there refl);
      }

  args_carried : (args : List WrittenSort) → unknown_among (sorts_of A) (map name_in args) ≡ None
      → AreSameKinds here there (map (kind_in (hierarchy_of A)) args) (map (kind_in (hierarchy_of B)) args)
  args_carried [] e = tt
  args_carried (a ∷ args) e = let k = known_front (sorts_of A) (name_in a) (map name_in args) e in (kind_carried (name_in a) k.0, args_carried args k.1)

  -- an operator of this name and these kinds is there
  record IsProfileThere (p : Profile) : Type 0 where
    operator : Declared
    is : Member operator (operators_of B)
    spelling : p.spelling ≡ operator.profile.spelling
    args : AreSameKinds here there p.args operator.profile.args
    result : IsSameKind here there p.result operator.profile.result

  abbrev IsOperatorThere : Declared → Type 0
  IsOperatorThere o = IsProfileThere o.profile

  there_again : (o : Declared) (p : Profile) (d : Declaration) (said : Attributes) → same_profile p o.profile ≡ true → IsOperatorThere o → IsOperatorThere (declared_once p d said)
      → IsOperatorThere (declared_again o d said)
  there_again o p d said e this one = this

  abbrev AreThere : Shape → Type 0
  AreThere f = HasEach IsOperatorThere there_again (hierarchy_of A) f

  module _ (args : List WrittenSort) (result : WrittenSort) (mentioned : unknown_among (sorts_of A) (mentioned_by args result) ≡ None) where
    profile_there : (name : List Name) → IsNamed (operators_of B) (rank_of (hierarchy_of B) args result) name → IsProfileThere (profile_of name (rank_of (hierarchy_of A) args result))
    profile_there name f =
        let q : Profile = profile_of name (rank_of (hierarchy_of B) args result) in
        let o : Declared = f.operator in
        let k = known_append (sorts_of A) (map name_in args) (name_in result ∷ []) mentioned in
        record {
          operator = o;
          is = f.member;
          spelling = same_spelling q o.profile f.is;
          args = subst (AreSameKinds here there (map (kind_in (hierarchy_of A)) args)) (same_args q o.profile f.is) (args_carried args k.0);
          result = subst (IsSameKind here there (kind_in (hierarchy_of A) result)) (same_result q o.profile f.is) (kind_carried (name_in result) (known_front (sorts_of A) (name_in result) [] k.1).0);
        }

    names_there : (names : List (List Name)) (said : Attributes) → HasFound (hierarchy_of B) (operators_of B) (Operators names args result said) → AreThere (Operators names args result said)
    names_there [] said found = All-nil (HasNamed IsOperatorThere there_again (rank_of (hierarchy_of A) args result) said)
    names_there (name ∷ names) said found =
        let IsThat : List Name → Type 0 = IsNamed (operators_of B) (rank_of (hierarchy_of B) args result) in
        All-cons (HasNamed IsOperatorThere there_again (rank_of (hierarchy_of A) args result) said) name names (profile_there name (All-head IsThat name names found))
        (names_there names said (All-tail IsThat name names found))

  shape_there : (f : Shape) → IsKnownIn (sorts_of A) f → HasFound (hierarchy_of B) (operators_of B) f → AreThere f
  shape_there (Sorts names) e found = tt
  shape_there (Subsorts groups) e found = tt
  shape_there (Operators names args result said) e found = names_there args result e names said found
  shape_there (Variables names S) e found = tt
  shape_there (Statement rule left right fragments executable) e found = tt
  shape_there (Import m) e found = tt
  shape_there (Class c as_) e found = tt

  -- the truth values, and the operators that each kind has
  truth_there : (t : Truth) → truth_of (hierarchy_of A) A ≡ Some t → truth_of (hierarchy_of B) B ≡ Some (record { sort = number (codes "Bool"); kind = kind_named (hierarchy_of B) (codes "Bool") })
  truth_there t e =
      let declared = and_parts _ _ (truths_declared A known t e) in
      let yes = declares_more (codes "true") None (codes "Bool") A declared.0 B within in
      let no = declares_more (codes "false") None (codes "Bool") A declared.1 B within in
      let both : has_truths B ≡ true = and_from _ _ yes no in
      ap (λ (b : Bool). let t : Truth = record { sort = number (codes "Bool"); kind = kind_named (hierarchy_of B) (codes "Bool") } in if b then Some t else None) both

  single_there : (g q : Single) → IsFound (operators_of B) q.profile q.declaration → g.profile.spelling ≡ q.profile.spelling → AreSameKinds here there g.profile.args q.profile.args
      → IsSameKind here there g.profile.result q.profile.result → IsProfileThere g.profile
  single_there g q f spelled args result = record {
    operator = f.operator;
    is = f.member;
    spelling = spelled ∙ same_spelling q.profile f.operator.profile f.is;
    args = subst (AreSameKinds here there g.profile.args) (same_args q.profile f.operator.profile f.is) args;
    result = subst (IsSameKind here there g.profile.result) (same_result q.profile f.operator.profile f.is) result;
  }

  kind_there_too : (t : Truth) → truth_of (hierarchy_of A) A ≡ Some t → (K : ℕ) → NamesKind (hierarchy_of A) K → HasKind IsOperatorThere there_again t K
  kind_there_too t e K names =
      let (n, at) = has_name (sorts_of A) K names.0 in
      let bool = value_known (codes "true") None (codes "Bool") A (and_parts _ _ (truths_declared A known t e)).0 (sorts_of A) known in
      let that : Truth = record { sort = number (codes "Bool"); kind = kind_named (hierarchy_of B) (codes "Bool") } in
      let L : ℕ = kind_named (hierarchy_of B) n in
      let here_too : is_among (sorts_of B) n ≡ true = is_there K n at in
      let in_A : is_among (sorts_of A) n ≡ true = at_among (sorts_of A) K n at in
      let same_K : number_of (sorts_of A) n ≡ K = one_number (sorts_of A) (sorts_differ A) (number_of (sorts_of A) n) K n (named_number (sorts_of A) n (number_there (sorts_of A) n in_A).0) at in
      let this : IsSameKind here there K L = subst (λ (K : ℕ). IsSameKind here there K L) (ap (kind_of (hierarchy_of A)) same_K ∙ names.1) (kind_carried n in_A) in
      let truth : IsSameKind here there t.kind that.kind = subst (λ (t : Truth). IsSameKind here there t.kind that.kind) (sym (truth_is A known t e)) (kind_carried (codes "Bool") bool) in
      let found = found_kind B that (truth_there t e) L (kind_again (hierarchy_of B) (pairs_there (sorts_of B) B other) (number n) (number_there (sorts_of B) n here_too)) in (
        single_there (choice_of t K) (choice_of that L) found.0 refl (truth, (this, (this, tt))) this,
        single_there (test_of t (codes "_==_") K) (test_of that (codes "_==_") L) found.1 refl (this, (this, tt)) truth,
        single_there (test_of t (codes "_=/=_") K) (test_of that (codes "_=/=_") L) found.2 refl (this, (this, tt)) truth,
      )

  operators_there : All IsOperatorThere (operators_of A)
  operators_there =
      let found = shaped_within (HasFound (hierarchy_of B) (operators_of B)) A B within (found_all B) in
      let each = all_members (HasEachLined IsOperatorThere there_again (hierarchy_of A)) A
      (λ t m. shape_there t.shape (member-all (λ (s : SeenLined). IsKnownIn (sorts_of A) s.shape) A (all_known (sorts_of A) A known) t m)
      (member-all (λ (s : SeenLined). HasFound (hierarchy_of B) (operators_of B) s.shape) A found t m)) in
      all_operators IsOperatorThere there_again A each kind_there_too

  operator_carried : (f : ℕ) (o : Operator) → IsOperator here f o → (g : ℕ) × IsSameOperator here there f g
  operator_carried zero o e = cc
  operator_carried (suc i) o e =
      let (d, at, is) = declared_at (built_in r (hierarchy_of A) A) (operators_of A) (operators_of A) i o e in
      let h = all_at IsOperatorThere (operators_of A) operators_there (suc i) d at in
      let (j, place) = placed h.operator (operators_of B) h.is in (
        suc j,
        record {
          here = o;
          there = operator_of (built_in s (hierarchy_of B) B) (operators_of B) h.operator;
          is_here = e;
          is_there = slice_get-map (operator_of (built_in s (hierarchy_of B) B) (operators_of B)) (operators_of B) j ∙ ap (option_map (operator_of (built_in s (hierarchy_of B) B) (operators_of B))) place;
          spelling = ap (λ (o : Operator). o.spelling) (sym is) ∙ h.spelling;
          args = subst (λ (o : Operator). AreSameKinds here there o.args h.operator.profile.args) is h.args;
          result = subst (λ (o : Operator). IsSameKind here there o.result h.operator.profile.result) is h.result;
        },
      )

  -- a pair of sorts that is declared, by their names
  pair_carried : (m n : Name) → is_pair (hierarchy_of A) m n ≡ true → is_pair (hierarchy_of B) m n ≡ true
  pair_carried m n e =
      let (p, member, k) = some_member (λ (p : ℕ × ℕ). nat_eq p.0 (number_of (sorts_of A) m) && nat_eq p.1 (number_of (sorts_of A) n)) here.pairs e in
      let eqs = and_parts _ _ k in
      let lower : p.0 ≡ number_of (sorts_of A) m = eqb-true p.0 (number_of (sorts_of A) m) eqs.0 in
      let upper : p.1 ≡ number_of (sorts_of A) n = eqb-true p.1 (number_of (sorts_of A) n) eqs.1 in
      let sorts = member-all (λ (p : ℕ × ℕ). IsSort (length (sorts_of A)) p.0 × IsSort (length (sorts_of A)) p.1) here.pairs (pairs_there (sorts_of A) A known) p member in
      let q = pair_there p.0 p.1 member in
      let m_is : q.lower ≡ m = same_Some q.lower m (sym q.is_lower ∙ ap (at_number (sorts_of A)) lower ∙ named_number (sorts_of A) m (subst (λ (S : ℕ). 1 ≤ S) lower sorts.0.0)) in
      let n_is : q.upper ≡ n = same_Some q.upper n (sym q.is_upper ∙ ap (at_number (sorts_of A)) upper ∙ named_number (sorts_of A) n (subst (λ (S : ℕ). 1 ≤ S) upper sorts.1.0)) in
      member_some (λ (p : ℕ × ℕ). nat_eq p.0 (number m) && nat_eq p.1 (number n)) (number q.lower, number q.upper) there.pairs q.pair
      (and_from _ _ (eq-eqb (number q.lower) (number m) (ap number m_is)) (eq-eqb (number q.upper) (number n) (ap number n_is)))

  numbers_carried : has_numbers (hierarchy_of A) A ≡ true → has_numbers (hierarchy_of B) B ≡ true
  numbers_carried e =
      let p = and_parts _ _ e in
      let q = and_parts _ _ p.1 in
      and_from _ _ (declares_more (codes "s_") (Some (codes "Nat")) (codes "NzNat") A p.0 B within)
      (and_from _ _ (pair_carried (codes "Zero") (codes "Nat") q.0) (pair_carried (codes "NzNat") (codes "Nat") q.1))

  nat_carried : IsTrue here.nat → IsTrue there.nat
  nat_carried = of r.nat (has_numbers (hierarchy_of A) A) reaches.nat numbers_carried
    where
      with_both : s.nat ≡ true → has_numbers (hierarchy_of B) B ≡ true → is_some (numbers_in s.nat (hierarchy_of B) B) ≡ true
      with_both p q = rw (p, q) refl

      of : (a b : Bool) → (a ≡ true → s.nat ≡ true) → (b ≡ true → has_numbers (hierarchy_of B) B ≡ true)
          → is_some (if a && b then Some (kind_named (hierarchy_of A) (codes "Nat")) else None) ≡ true → is_some (numbers_in s.nat (hierarchy_of B) B) ≡ true
      of true true p q e = with_both (p refl) (q refl)
      of true false p q e = cc
      of false b p q e = cc

  qid_carried : IsTrue here.qid → IsTrue there.qid
  qid_carried e =
      let p = and_parts r.qid (is_among (sorts_of A) (codes "Qid")) e in
      let S = number_of (sorts_of A) (codes "Qid") in
      and_from _ _ (reaches.qid p.0) (is_there S (codes "Qid") (named_number (sorts_of A) (codes "Qid") (number_there (sorts_of A) (codes "Qid") p.1).0))

pub parts_are_there : PartsAreThere
parts_are_there r s A B reaches within known other = record {
  sorts = λ S n e. (number_of (sorts_of B) n, named_there r s A B reaches within known other S n e);
  pairs = pairs_carried r s A B reaches within known other;
  operators = operator_carried r s A B reaches within known other;
  nat = nat_carried r s A B reaches within known other;
  qid = qid_carried r s A B reaches within known other;
}
