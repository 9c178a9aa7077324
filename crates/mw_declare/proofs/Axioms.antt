-- Whether an operator's axioms are kept ones and fit it, by the numbers of kinds and of the identity.
use Rattle.std.proofs.Common.{◌≡◌, ◌∙◌, ◌&&◌, ◌||◌, ◌^◌, not, ℕ, zero, suc, List, [], ◌∷◌, length, map, Bool, true, false, cond, nat_eq, nat_lt, Option, Some, None, option_map, unwrap_or, slice_get, All, if◌then◌else◌, refl, sym, ap, subst, arith}
use Rattle.std.specs.List.{position_or_len}
use Rattle.std.proofs.lemmas.Bool.{both_ways, eqb-true, eq-eqb, ne_eqb}
use Rattle.std.proofs.lemmas.List.Elements.{All-head, All-tail}
use Rattle.std.proofs.lemmas.Option.{same_Some, slice_get-map}
use Rattle.mw_logic.specs.Signature.{Signature, Identity, constant_of, numeral_of, at_number, SameKind}
use Rattle.mw_logic.specs.Accepted.{are_two, agree, is_member, is_same_kind, is_constant_of_kind, is_identity_of_kind, is_accepted_identity, is_accepted_operator}
use Rattle.mw_logic.specs.Kinds.{kind_number, some_sort}
use Rattle.mw_logic.proofs.Successor.{some_sort-from, some_sort-true}
use Rattle.mw_logic.proofs.KindLaws.{SameKind-trans, SameKind-sym, kind_number-same, kind_number-sound}
use Rattle.mw_poset.specs.Order.{IsSort, ArePairsOf}
use Rattle.mw_text.specs.Numerals.{are_digits, number_in}
use Rattle.std.specs.Str.Parse.{digits_value}
use Rattle.std.specs.Prelude.{codes}
use Rattle.mw_module.specs.declared.faults.FaultKind.{FaultKind}
use Rattle.mw_module.specs.declared.faults.FaultKind.TheVariants.{BadAxioms, AttributesDisagree}
use Rattle.mw_declare.specs.Meaning.{Name}
use Rattle.mw_declare.specs.Faults.{wrong_with}
use Rattle.mw_declare.specs.declared.built.Built.{Built}
use Rattle.mw_declare.specs.Hierarchy.{Hierarchy, kind_of, IsLeastKind}
use Rattle.mw_declare.specs.Freezing.{frozen_arguments, are_in_range}
use Rattle.mw_declare.specs.Operators.{Profile, same_profile, Declared, constant_profile, operator_number, numeral_or_none, numeral_for, identity_at, identity_in, is_numeric, operator_of, IsOfLeastKinds, IsNumbered, signature_with}
use Rattle.mw_declare.proofs.LeastKinds.{kind_same, kind_least}
use Rattle.mw_declare.proofs.Named.{one_number}
use Rattle.mw_declare.proofs.Ranked.{same_args, same_result}
use Rattle.mw_declare.proofs.Unknown.{place_there}

-- two kinds are one where their numbers are
module _ (h : Hierarchy) (within : ArePairsOf (length h.names) h.pairs) (sig : Signature) (e : sig.pairs ≡ h.pairs) where
  pub one_least : (K L : ℕ) → IsLeastKind h K → IsLeastKind h L → SameKind sig K L → K ≡ L
  one_least K L (S, there, k) (T, here, l) m =
      let up : SameKind sig S K = subst (SameKind sig S) (sym k) (kind_same h S there sig e) in
      let down : SameKind sig T L = subst (SameKind sig T) (sym l) (kind_same h T here sig e) in
      let low = kind_least h S there within sig e L (SameKind-trans up m) in
      let high = kind_least h T here within sig e K (SameKind-trans down (SameKind-sym m)) in
      omega (arith, k, l, low, high)

  same_least : (K L : ℕ) → IsLeastKind h K → IsLeastKind h L → is_same_kind sig K L ≡ nat_eq K L
  same_least K L k l = of (is_same_kind sig K L) refl (nat_eq K L) refl
    where
      of : (a : Bool) → is_same_kind sig K L ≡ a → (b : Bool) → nat_eq K L ≡ b → a ≡ b
      of true p true q = refl
      of false p false q = refl
      of true p false q = absurd (both_ways (nat_eq K L) q (eq-eqb K L (one_least K L k l (kind_number-sound sig K L (eqb-true _ _ p)))))
      of false p true q = absurd (both_ways (is_same_kind sig K L) p (eq-eqb (kind_number sig K) (kind_number sig L) (ap (kind_number sig) (eqb-true K L q))))

  two_alike : (Ks : List ℕ) → All (IsLeastKind h) Ks → are_two (is_same_kind sig) Ks ≡ are_two nat_eq Ks
  two_alike [] all = refl
  two_alike (K ∷ []) all = refl
  two_alike (K ∷ L ∷ []) all =
      same_least K L (All-head (IsLeastKind h) K (L ∷ []) all) (All-head (IsLeastKind h) L [] (All-tail (IsLeastKind h) K (L ∷ []) all))
  two_alike (K ∷ L ∷ M ∷ Ks) all = refl

  two_of : (R : ℕ) → IsLeastKind h R → (Ks : List ℕ) → All (IsLeastKind h) Ks
      → are_two (λ K L. is_same_kind sig K R && is_same_kind sig L R) Ks ≡ are_two (λ K L. nat_eq K R && nat_eq L R) Ks
  two_of R r [] all = refl
  two_of R r (K ∷ []) all = refl
  two_of R r (K ∷ L ∷ []) all =
      let first = same_least K R (All-head (IsLeastKind h) K (L ∷ []) all) r in
      let second = same_least L R (All-head (IsLeastKind h) L [] (All-tail (IsLeastKind h) K (L ∷ []) all)) r in
      rw (first, second) refl
  two_of R r (K ∷ L ∷ M ∷ Ks) all = refl

-- a number in a text is small
number_small : (text : Name) (m : ℕ) → number_in text ≡ Some m → nat_lt m (2 ^ 128) ≡ true
number_small text m e = of (are_digits text) (nat_lt (digits_value 10 text) (2 ^ 128)) refl e
  where
    of : (a b : Bool) → nat_lt (digits_value 10 text) (2 ^ 128) ≡ b → (if a && b then Some (digits_value 10 text) else None) ≡ Some m → nat_lt m (2 ^ 128) ≡ true
    of true true small k = subst (λ (n : ℕ). nat_lt n (2 ^ 128) ≡ true) (same_Some (digits_value 10 text) m k) small
    of true false small k = cc
    of false b small k = cc

module _ (b : Built) (h : Hierarchy) (os : List Declared) where
  abbrev sig : Signature
  sig = signature_with b h os

  -- a constant's number is 0 exactly where it isn't there
  constant_at : (p : Profile) (o : Declared) → p.args ≡ [] → same_profile p o.profile ≡ true → is_constant_of_kind sig p.result (Some (operator_of b os o)) ≡ true
  constant_at p o none same =
      let args : o.profile.args ≡ [] = sym (same_args p o.profile same) ∙ none in
      let result : p.result ≡ o.profile.result = same_result p o.profile same in
      rw (args, result) (eq-eqb _ _ refl)

  constant_there : (p : Profile) → p.args ≡ [] → is_constant_of_kind sig p.result (at_number (map (operator_of b os) os) (operator_number os p)) ≡ not (nat_eq (operator_number os p) 0)
  constant_there p none = of (nat_lt place (length os)) refl
    where
      place : ℕ
      place = position_or_len (λ (o : Declared). same_profile p o.profile) os

      of : (c : Bool) → nat_lt place (length os) ≡ c → let n = unwrap_or (option_map suc (cond c (Some place) None)) 0 in
          is_constant_of_kind sig p.result (at_number (map (operator_of b os) os) n) ≡ not (nat_eq n 0)
      of true e =
          let (o, at, same) = place_there (λ (o : Declared). same_profile p o.profile) os e in
          let found : slice_get (map (operator_of b os) os) place ≡ Some (operator_of b os o) = slice_get-map (operator_of b os) os place ∙ ap (option_map (operator_of b os)) at in
          let some : nat_eq (suc place) 0 ≡ false = ne_eqb (suc place) 0 (λ e. absurd (omega arith)) in
          rw (found, some) (constant_at p o none same)
      of false e = refl

  -- a numeral is of a kind exactly where that is the kind of numbers
  module _ (numbered : IsNumbered h b) (within : ArePairsOf (length h.names) h.pairs) (K : ℕ) (least : IsLeastKind h K) where
    numeric : (N : ℕ) → b.nat ≡ Some N → some_sort sig (codes "Nat") (kind_number sig K) 1 sig.sorts ≡ nat_eq N K
    numeric N e = of (some_sort sig (codes "Nat") (kind_number sig K) 1 sig.sorts) refl (nat_eq N K) refl (numbered.nat N e)
      where
        held : (S : ℕ) → at_number h.names S ≡ Some (codes "Nat") → kind_number sig S ≡ kind_number sig K → some_sort sig (codes "Nat") (kind_number sig K) 1 sig.sorts ≡ true
        held zero at k = cc
        held (suc j) at k = some_sort-from sig (codes "Nat") (kind_number sig K) 1 sig.sorts j at (ap (kind_number sig) (omega arith) ∙ k)

        of : (x : Bool) → some_sort sig (codes "Nat") (kind_number sig K) 1 sig.sorts ≡ x → (y : Bool) → nat_eq N K ≡ y
            → (S : ℕ) × (at_number h.names S ≡ Some (codes "Nat")) × IsSort (length h.names) S × (N ≡ kind_of h S) → x ≡ y
        of true p true q n = refl
        of false p false q n = refl
        of true p false q (S, named, there, is) =
            let (j, at, k) = some_sort-true sig (codes "Nat") (kind_number sig K) 1 sig.sorts p in
            let same : suc j ≡ S = one_number h.names numbered.differ (suc j) S (codes "Nat") at named in
            let alike : SameKind sig S K = kind_number-sound sig S K (ap (kind_number sig) (sym same ∙ omega arith) ∙ k) in
            let lower : SameKind sig N S = subst (λ (N : ℕ). SameKind sig N S) (sym is) (SameKind-sym (kind_same h S there sig refl)) in
            absurd (both_ways (nat_eq N K) q (eq-eqb N K (one_least h within sig refl N K (S, there, is) least (SameKind-trans lower alike))))
        of false p true q (S, named, there, is) =
            let same : kind_of h S ≡ K = sym is ∙ eqb-true N K q in
            absurd (both_ways (some_sort sig (codes "Nat") (kind_number sig K) 1 sig.sorts) p
            (held S named (kind_number-same (kind_same h S there sig refl) ∙ ap (kind_number sig) same)))

    -- what an identity needs, where it is found by its text
    abbrev fits : Identity → Bool
    fits (constant_of c) = not (nat_eq c 0)
    fits (numeral_of n) = is_numeric b.nat K

    missing : is_identity_of_kind sig K (constant_of 0) ≡ fits (constant_of 0)
    missing = refl

    numeral_fits : (text : Name) (nat : Option ℕ) → b.nat ≡ nat → is_identity_of_kind sig K (numeral_for nat text) ≡ fits (numeral_for nat text)
    numeral_fits text None e = refl
    numeral_fits text (Some N) e = of (number_in text) refl
      where
        of : (o : Option ℕ) → number_in text ≡ o → is_identity_of_kind sig K (numeral_or_none o) ≡ fits (numeral_or_none o)
        of None k = refl
        of (Some n) k = let small = number_small text n k in let kinds = numeric N e in rw (e, small, kinds) refl

    identity_fits : (text : Name) → let i = identity_at (operator_number os (constant_profile K text)) b.nat text in is_identity_of_kind sig K i ≡ fits i
    identity_fits text = of (operator_number os (constant_profile K text)) (constant_there (constant_profile K text) refl)
      where
        of : (n : ℕ) → is_constant_of_kind sig K (at_number (map (operator_of b os) os) n) ≡ not (nat_eq n 0) → let i = identity_at n b.nat text in is_identity_of_kind sig K i ≡ fits i
        of zero e = numeral_fits text b.nat refl
        of (suc c) e = e

  four : (x y z w a b c d : Bool) → x ≡ a → y ≡ b → z ≡ c → w ≡ d → (x && (y && (z && w))) ≡ (a && (b && (c && d)))
  four x y z w a b c d p q r s = rw (p, q, r, s) refl

  -- the first two arguments are both frozen or both not, where they have to be alike
  abbrev pub are_alike : Declared → Bool
  are_alike o = let numbers = frozen_arguments (length o.profile.args) o.attributes in
      not (o.attributes.assoc || o.attributes.comm) || agree (is_member 1 numbers) (is_member 2 numbers)

  -- all axioms of an operator, by four tests
  module _ (numbered : IsNumbered h b) (o : Declared) (least : IsOfLeastKinds h o) (assoc comm : Bool) (identity : Option Identity) (kept alike : Bool) where
    kept_by : assoc ≡ (not o.attributes.assoc || are_two (λ K L. nat_eq K o.profile.result && nat_eq L o.profile.result) o.profile.args) → comm ≡ (not o.attributes.comm || are_two nat_eq o.profile.args)
        → kept ≡ is_accepted_identity sig (operator_of b os o) (identity_in b os o) → alike ≡ are_alike o
        → (assoc && (comm && (kept && alike))) ≡ is_accepted_operator sig (operator_of b os o)
    kept_by a c i l =
        let first = two_of h least.within sig refl o.profile.result least.result o.profile.args least.args in
        let second = two_alike h least.within sig refl o.profile.args least.args in
        four assoc comm kept alike (not o.attributes.assoc || are_two (λ K L. is_same_kind sig K o.profile.result && is_same_kind sig L o.profile.result) o.profile.args)
        (not o.attributes.comm || are_two (is_same_kind sig) o.profile.args) (is_accepted_identity sig (operator_of b os o) (identity_in b os o)) (are_alike o)
        (a ∙ ap (λ b. not o.attributes.assoc || b) (sym first)) (c ∙ ap (λ b. not o.attributes.comm || b) (sym second)) i l

    pub kept_axioms : assoc ≡ (not o.attributes.assoc || are_two (λ K L. nat_eq K o.profile.result && nat_eq L o.profile.result) o.profile.args) → comm ≡ (not o.attributes.comm || are_two nat_eq o.profile.args)
        → identity ≡ identity_in b os o → (identity ≡ None → kept ≡ true) → ((n : ℕ) → identity ≡ Some (constant_of n) → kept ≡ (o.attributes.assoc && not (nat_eq n 0)))
        → ((n : ℕ) → identity ≡ Some (numeral_of n) → kept ≡ (o.attributes.assoc && is_numeric b.nat o.profile.result)) → alike ≡ are_alike o
        → (assoc && (comm && (kept && alike))) ≡ is_accepted_operator sig (operator_of b os o)
    kept_axioms a c i none some numeral l = kept_by a c (of o.attributes.identity refl) l
      where
        K : ℕ
        K = o.profile.result

        of : (text : Option Name) → o.attributes.identity ≡ text → kept ≡ is_accepted_identity sig (operator_of b os o) (identity_in b os o)
        of None e =
            let is : identity_in b os o ≡ None = rw e refl in
            none (i ∙ is) ∙ ap (is_accepted_identity sig (operator_of b os o)) (sym is)
        of (Some t) e =
            let found : Identity = identity_at (operator_number os (constant_profile o.profile.result t)) b.nat t in
            let is : identity_in b os o ≡ Some found = rw e refl in
            let fit = identity_fits numbered least.within o.profile.result least.result t in
            by found refl (i ∙ is) ∙ ap (λ b. o.attributes.assoc && b) (sym fit) ∙ ap (is_accepted_identity sig (operator_of b os o)) (sym is)
          where
            by : (j : Identity) → j ≡ j → identity ≡ Some j → kept ≡ (o.attributes.assoc && fits numbered least.within o.profile.result least.result j)
            by (constant_of n) s k = some n k
            by (numeral_of n) s k = numeral n k

-- what is wrong with an operator
module _ (sig : Signature) (b : Built) (os : List Declared) (o : Declared) where
  abbrev told_of : Bool → Bool → Option FaultKind
  told_of kept clash = if kept then (if clash then Some (AttributesDisagree o.profile.spelling) else None) else Some (BadAxioms o.profile.spelling)

  -- the axioms are kept ones, and numbers of frozen arguments are those of some
  abbrev pub is_fine : Bool
  is_fine = is_accepted_operator sig (operator_of b os o) && are_in_range (length o.profile.args) o.attributes

  pub wrong_axioms : is_fine ≡ false → wrong_with sig b os o ≡ Some (BadAxioms o.profile.spelling)
  wrong_axioms e = ap (λ k. told_of k o.attributes.clash) e

  pub wrong_attributes : is_fine ≡ true → o.attributes.clash ≡ true → wrong_with sig b os o ≡ Some (AttributesDisagree o.profile.spelling)
  wrong_attributes e k = ap (λ k. told_of k o.attributes.clash) e ∙ ap (told_of true) k

  pub none_wrong : is_fine ≡ true → o.attributes.clash ≡ false → wrong_with sig b os o ≡ None
  none_wrong e k = ap (λ k. told_of k o.attributes.clash) e ∙ ap (told_of true) k
