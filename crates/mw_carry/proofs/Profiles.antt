-- A profile is one: an operator has no other, and two that are tested alike are equal.
use Rattle.std.proofs.Common.{◌≡◌, ◌∙◌, ◌≤◌, ℕ, List, [], ◌∷◌, Bool, true, false, ◌&&◌, nat_eq, bytes_eq, Option, Some, None, MatchOption, length, refl, sym, ap, subst, arith}
use Rattle.std.proofs.lemmas.Bool.{eqb-true, eq-eqb}
use Rattle.std.proofs.lemmas.Slice.Eq.{bytes_eq-Decides}
use Rattle.mw_logic.specs.Signature.{Signature, Operator, IsOperator, SameKind, same, up, down, Member}
use Rattle.mw_logic.specs.Accepted.{IsAccepted}
use Rattle.mw_logic.proofs.KindLaws.{SameKind-trans, SameKind-sym, SameKind-equal}
use Rattle.mw_poset.specs.Order.{IsKindOf}
use Rattle.mw_carry.specs.Carried.{IsPart, IsSameKind, AreSameKinds, IsSameOperator}
use Rattle.mw_carry.specs.Profiles.{Pairwise, Profile, HasProfile, IsProfiled, IsLeastFor, IsProfileFor}
use Rattle.mw_carry.specs.Tables.{IsFound, same_profile}
use Rattle.mw_carry.proofs.Numbers.{within_at}
use Rattle.mw_carry.proofs.Kept.{one_operator, one_sort}

-- kinds are told by the pairs alone
SameKind-pairs : (to s : Signature) → to.pairs ≡ s.pairs → {S T : ℕ} → SameKind to S T → SameKind s S T
SameKind-pairs to s e same = same
SameKind-pairs to s e (up {S} {T} m p) = up (subst (λ ps. Member (S, T) ps) e m) (SameKind-pairs to s e p)
SameKind-pairs to s e (down {S} {T} m p) = down (subst (λ ps. Member (T, S) ps) e m) (SameKind-pairs to s e p)

-- a signature with these pairs alone
abbrev with_pairs : List (ℕ × ℕ) → Signature
with_pairs pairs = record { sorts = []; pairs = pairs; operators = []; nat = false; qid = false }

module _ (pairs : List (ℕ × ℕ)) where
  -- a kind has one least sort
  one_least : (S K L : ℕ) → IsKindOf pairs S K → IsKindOf pairs S L → K ≡ L
  one_least S K L a b =
      let low : K ≤ L = a.least (with_pairs pairs) refl L (b.same (with_pairs pairs) refl) in
      let high : L ≤ K = b.least (with_pairs pairs) refl K (a.same (with_pairs pairs) refl) in
      omega arith

  all_one_least : (Ss Ks Ls : List ℕ) → Pairwise (IsKindOf pairs) Ss Ks → Pairwise (IsKindOf pairs) Ss Ls → Ks ≡ Ls
  all_one_least [] [] [] a b = refl
  all_one_least [] [] (L ∷ Ls) a b = absurd b
  all_one_least [] (K ∷ Ks) Ls a b = absurd a
  all_one_least (S ∷ Ss) [] Ls a b = absurd a
  all_one_least (S ∷ Ss) (K ∷ Ks) [] a b = absurd b
  all_one_least (S ∷ Ss) (K ∷ Ks) (L ∷ Ls) a b =
      let head = one_least S K L a.0 b.0 in let tail = all_one_least Ss Ks Ls a.1 b.1 in cc

  pub one_profile : (o : Operator) (p q : Profile) → HasProfile pairs o p → HasProfile pairs o q → p ≡ q
  one_profile o p q a b =
      let spelling : p.spelling ≡ q.spelling = sym a.spelling ∙ b.spelling in
      let args = all_one_least o.args p.args q.args a.args b.args in
      let result = one_least o.result p.result q.result a.result b.result in
      λ i. record { spelling = spelling i; args = args i; result = result i }

-- the test of profiles
both : (a b : Bool) → (a && b) ≡ true → (a ≡ true) × (b ≡ true)
both true b e = (refl, e)
both false b e = cc

pub profile_equal : (p : Profile) → same_profile p p ≡ true
profile_equal p = of (bytes_eq p.spelling p.spelling) (bytes_eq p.args p.args) (nat_eq p.result p.result)
    ((bytes_eq-Decides p.spelling p.spelling).1 refl) ((bytes_eq-Decides p.args p.args).1 refl) (eq-eqb p.result p.result refl)
  where
    of : (a b c : Bool) → a ≡ true → b ≡ true → c ≡ true → (a && (b && c)) ≡ true
    of a b c d e f = rw (d, e, f) refl

pub profile_exact : (p q : Profile) → same_profile p q ≡ true → p ≡ q
profile_exact p q e =
    let first = both (bytes_eq p.spelling q.spelling) (bytes_eq p.args q.args && nat_eq p.result q.result) e in
    let second = both (bytes_eq p.args q.args) (nat_eq p.result q.result) first.1 in
    let spelling : p.spelling ≡ q.spelling = (bytes_eq-Decides p.spelling q.spelling).0 first.0 in
    let args : p.args ≡ q.args = (bytes_eq-Decides p.args q.args).0 second.0 in
    let result : p.result ≡ q.result = eqb-true p.result q.result second.1 in
    λ i. record { spelling = spelling i; args = args i; result = result i }

-- an operator of a profile for another stands for it
module _ (sig to : Signature) where
  one_same : (K L M : ℕ) → IsLeastFor sig to K L → IsKindOf to.pairs M L → IsSameKind sig to K M
  one_same K L M a b = record { sort = a.sort; same = a.same; kind = SameKind-trans (a.kind.same to refl) (SameKind-sym (b.same to refl)) }

  all_same : (Ks Ls Ms : List ℕ) → Pairwise (IsLeastFor sig to) Ks Ls → Pairwise (IsKindOf to.pairs) Ms Ls → AreSameKinds sig to Ks Ms
  all_same [] [] [] a b = tt
  all_same [] [] (M ∷ Ms) a b = absurd b
  all_same [] (L ∷ Ls) Ms a b = absurd a
  all_same (K ∷ Ks) [] Ms a b = absurd a
  all_same (K ∷ Ks) (L ∷ Ls) [] a b = absurd b
  all_same (K ∷ Ks) (L ∷ Ls) (M ∷ Ms) a b = (one_same K L M a.0 b.0, all_same Ks Ls Ms a.1 b.1)

  pub stands_for : (f g : ℕ) (o : Operator) (p : Profile) → IsOperator sig f o → IsProfileFor sig to o p → IsProfiled to p g → IsSameOperator sig to f g
  stands_for f g o p is a b = record {
    here = o;
    there = b.operator;
    is_here = is;
    is_there = b.is_there;
    spelling = a.spelling ∙ sym b.profile.spelling;
    args = all_same o.args p.args b.operator.args a.args b.profile.args;
    result = one_same o.result p.result b.operator.result a.result b.profile.result;
  }

  -- The profile for an operator is that of one that stands for it, where sorts of one name are one.
  module _ (ok : IsAccepted to) where
    least_of : (K M L : ℕ) → IsSameKind sig to K M → IsLeastFor sig to K L → IsKindOf to.pairs M L
    least_of K M L a b = record {
      same = λ s e. SameKind-trans (joined s e) (b.kind.same s e);
      least = λ s e T k. b.kind.least s e T (SameKind-trans (SameKind-sym (joined s e)) k);
    }
      where
        joined : (s : Signature) → s.pairs ≡ to.pairs → SameKind s M b.sort
        joined s e = SameKind-sym (SameKind-trans (SameKind-equal (one_sort sig to ok K b.sort a.sort b.same a.same)) (SameKind-pairs to s (sym e) a.kind))

    all_least_of : (Ks Ms Ls : List ℕ) → AreSameKinds sig to Ks Ms → Pairwise (IsLeastFor sig to) Ks Ls → Pairwise (IsKindOf to.pairs) Ms Ls
    all_least_of [] [] [] a b = tt
    all_least_of [] [] (L ∷ Ls) a b = absurd b
    all_least_of [] (M ∷ Ms) Ls a b = absurd a
    all_least_of (K ∷ Ks) [] Ls a b = absurd a
    all_least_of (K ∷ Ks) (M ∷ Ms) [] a b = absurd b
    all_least_of (K ∷ Ks) (M ∷ Ms) (L ∷ Ls) a b = (least_of K M L a.0 b.0, all_least_of Ks Ms Ls a.1 b.1)

    profiled : (f g : ℕ) (o : Operator) (p : Profile) → IsOperator sig f o → IsProfileFor sig to o p → IsSameOperator sig to f g → IsProfiled to p g
    profiled f g o p is a b =
        let here : o ≡ b.here = one_operator sig f o b.here is b.is_here in
        record {
          operator = b.there;
          is_there = b.is_there;
          profile = record {
            spelling = sym b.spelling ∙ ap (λ (o : Operator). o.spelling) (sym here) ∙ a.spelling;
            args = all_least_of b.here.args b.there.args p.args b.args (subst (λ (o : Operator). Pairwise (IsLeastFor sig to) o.args p.args) here a.args);
            result = least_of b.here.result b.there.result p.result b.result (subst (λ (o : Operator). IsLeastFor sig to o.result p.result) here a.result);
          };
        }

  -- what is found stands for it, and none is found only where some sorts have one name
  pub found_stands : IsPart sig to → (f : ℕ) (o : Operator) (p : Profile) → IsOperator sig f o → IsProfileFor sig to o p → (found : Option ℕ) → IsFound (length to.operators) (IsProfiled to p) found
      → MatchOption found (¬ IsAccepted to) (IsSameOperator sig to f)
  found_stands part f o p is a (Some g) b = stands_for f g o p is a b
  found_stands part f o p is a None b = λ ok.
      let (g, stands) = part.operators f o is in
      b g (within_at to.operators g stands.there stands.is_there).1 (profiled ok f g o p is a stands)
