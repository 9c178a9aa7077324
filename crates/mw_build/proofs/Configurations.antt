-- The sorts and operators of CONFIGURATION, where they are there.
use Rattle.std.proofs.Common.{ℕ, List, [], ◌∷◌, length, None, subst}
use Rattle.mw_logic.specs.Signature.{Signature, IsSortNamed, IsAssociative, SameKind}
use Rattle.mw_logic.specs.Accepted.{IsAccepted}
use Rattle.mw_carry.specs.Laws.{OperatorsApart}
use Rattle.mw_carry.specs.Tables.{IsFound}
use Rattle.mw_carry.proofs.Numbers.{within_at}
use Rattle.mw_omod.specs.declared.classes.Classes.{Classes}
use Rattle.mw_build.specs.declared.classes.ObjectSorts.{ObjectSorts}
use Rattle.mw_build.specs.declared.classes.ObjectOperators.{ObjectOperators}
use Rattle.mw_build.specs.declared.classes.Configuration.{Configuration}
use Rattle.mw_build.specs.Classes.{AreNamed, AreOfConfiguration}
use Rattle.mw_build.specs.Configurations.{AreObjectSorts, AreObjectOperators, IsConfiguration}
use Rattle.mw_build.proofs.ObjectOperators.{one_operator}

module _ (sig : Signature) where
  -- a sort that isn't found isn't there
  pub no_sort : (name : List ℕ) → IsFound (length sig.sorts) (λ S. IsSortNamed sig S name) None → (S : ℕ) → IsSortNamed sig S name → ⊥
  no_sort name none S named = none S (within_at sig.sorts S name named).1 named

  pub first_named : (Ss : List ℕ) (name : List ℕ) (names : List (List ℕ)) → AreNamed sig Ss (name ∷ names)
      → (S : ℕ) × (Ts : List ℕ) × IsSortNamed sig S name × AreNamed sig Ts names
  first_named [] name names n = absurd n
  first_named (S ∷ Ss) name names n = (S, Ss, n.0, n.1)

  -- what objects want, in the form in which it is looked for
  pub configuration_of : (K : Classes) → AreOfConfiguration sig K → (c : Configuration) × IsConfiguration sig c
  configuration_of K p =
      let (A, Ss, name, more) = first_named p.object.sorts _ _ p.object.args_named in
      let (B, Ts, class, rest) = first_named Ss _ _ more in (
        record {
          sorts = record { attribute = p.set.attribute; set = K.set; name = A; class = B; object = p.object.sort; configuration = p.union.on.sort };
          operators = record { none = K.none; comma = K.comma; object = K.object; union = K.union };
        },
        record {
          sorts = record {
            attribute = p.set.attribute_named;
            set = p.set.named;
            name = name;
            class = class;
            object = p.object.value_named;
            configuration = p.union.on.value_named;
          };
          operators = record { none = p.none; comma = p.comma.on; object = p.object; union = p.union.on };
          of_sets = p.set.of_kind;
          comma = p.comma.assoc;
          union = p.union.assoc;
        },
      )

  -- CONFIGURATION's sorts and operators are one, and so these have what those have
  module _ (ok : IsAccepted sig) (apart : OperatorsApart sig) (sorts : ObjectSorts) (operators : ObjectOperators) (are : AreObjectSorts sig sorts)
      (on : AreObjectOperators sig operators) (c : Configuration) (is : IsConfiguration sig c) where
    pub of_sets : SameKind sig sorts.attribute sorts.set
    of_sets =
        subst (λ S. SameKind sig S sorts.set) (ok.sorts_differ c.sorts.attribute sorts.attribute _ is.sorts.attribute are.attribute)
        (subst (λ S. SameKind sig c.sorts.attribute S) (ok.sorts_differ c.sorts.set sorts.set _ is.sorts.set are.set) is.of_sets)

    pub comma_joins : IsAssociative sig operators.comma
    comma_joins = subst (IsAssociative sig) (one_operator sig ok apart _ _ _ c.operators.comma operators.comma is.operators.comma on.comma) is.comma

    pub union_joins : IsAssociative sig operators.union
    union_joins = subst (IsAssociative sig) (one_operator sig ok apart _ _ _ c.operators.union operators.union is.operators.union on.union) is.union
