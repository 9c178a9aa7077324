use Rattle.std.proofs.Common.{◌≡◌, true, false, refl, sym, subst}
use Rattle.mw_logic.specs.Signature.{Signature, SameKind}
use Rattle.mw_poset.specs.Order.{IsKindOf}
use Rattle.mw_poset.proofs.Reading.{kinds_agree, kinds_same}
use Rattle.mw_carry.proofs.Numbers.{within_at}
use Rattle.mw_build.specs.Configurations.{Finds, AreObjectSorts, AreObjectOperators}
use Rattle.mw_build.proofs.Configurations.{of_sets, comma_joins, union_joins}
use Rattle.mw_build.proofs.classes.configuration_in.Goals as goal
use Rattle.mw_build.proofs.classes.configuration_in.Goals.{else-kind_of-via-then-kind_of+then-is_associative+else-is_associative-2, else-kind_of-via-then-kind_of+else-is_associative, else-kind_of-via-else-kind_of}

pub returns-in_default-2 : goal.returns-in_default-2
returns-in_default-2 c = λ x is.
    let none = subst (Finds (AreObjectOperators c.args.target.now)) c.in_default-2.is c.in_ok-operators.ensures in
    none x.operators (subst (λ (s : Signature). AreObjectOperators s x.operators) (sym c.requires.target) is.operators)

pub kind_of-requires : goal.kind_of-requires
kind_of-requires c =
    let sorts : AreObjectSorts c.args.target.now c.in-Some.sorts = c.in-Some.ensures in within_at c.args.target.now.sorts c.in-Some.sorts.attribute _ sorts.attribute

pub kind_of-requires-2 : goal.kind_of-requires-2
kind_of-requires-2 c =
    let sorts : AreObjectSorts c.args.target.now c.in-Some.sorts = c.in-Some.ensures in within_at c.args.target.now.sorts c.in-Some.sorts.set _ sorts.set

pub returns-then-is_associative-2 : goal.returns-then-is_associative-2
returns-then-is_associative-2 c =
    let sig = c.args.signature.now in
    let s = c.in-Some.sorts in
    let o = c.in-Some-2.operators in
    let operators = subst (Finds (AreObjectOperators c.args.target.now)) c.in-Some-2.is c.in_ok-operators.ensures in
    let second : IsKindOf c.args.target.now.pairs s.set c.kind_of.result = subst (IsKindOf c.args.target.now.pairs s.set) (sym c.if-kind_of.true) c.kind_of-2.ensures in
    record {
      sorts = subst (λ (t : Signature). AreObjectSorts t s) c.requires.target c.in-Some.ensures;
      operators = subst (λ (t : Signature). AreObjectOperators t o) c.requires.target operators;
      of_sets = subst (λ (t : Signature). SameKind t s.attribute s.set) c.requires.target
          (kinds_agree c.args.target.now.pairs s.attribute s.set c.kind_of.result c.kind_of.ensures second c.args.target.now refl);
      comma = c.if-is_associative.ensures.0 refl;
      union = c.if-is_associative-2.ensures.0 refl;
    }

pub returns-else-kind_of : goal.returns-else-kind_of
returns-else-kind_of c = λ x is.
    let sig = c.args.signature.now in
    let to = c.args.target.now in
    let s = c.in-Some.sorts in
    let o = c.in-Some-2.operators in
    let found = subst (Finds (AreObjectOperators to)) c.in-Some-2.is c.in_ok-operators.ensures in
    let sorts : AreObjectSorts sig s = subst (λ (t : Signature). AreObjectSorts t s) c.requires.target c.in-Some.ensures in
    let operators : AreObjectOperators sig o = subst (λ (t : Signature). AreObjectOperators t o) c.requires.target found in
    elim c.else-kind_of.branch [
      | else-kind_of-via-then-kind_of+then-is_associative+else-is_associative-2 w ↦
          let no : false ≡ true = w.if-is_associative-2.ensures.1 (union_joins sig c.requires.accepted c.requires.apart s o sorts operators x is) in cc
      | else-kind_of-via-then-kind_of+else-is_associative w ↦
          let no : false ≡ true = w.if-is_associative.ensures.1 (comma_joins sig c.requires.accepted c.requires.apart s o sorts operators x is) in cc
      | else-kind_of-via-else-kind_of w ↦
          let same : SameKind to s.attribute s.set =
          subst (λ (t : Signature). SameKind t s.attribute s.set) (sym c.requires.target) (of_sets sig c.requires.accepted c.requires.apart s o sorts operators x is) in
          absurd (w.if-kind_of.false (kinds_same to.pairs to s.attribute s.set c.kind_of.result c.kind_of-2.result c.kind_of.ensures c.kind_of-2.ensures refl same))
    ]
