use Rattle.std.proofs.Common.{◌≡◌, ◌∙◌, sym, subst}
use Rattle.std.specs.Prelude.{Some}
use Rattle.mw_logic.specs.Signature.{identity_term}
use Rattle.mw_sorting.specs.ComputedSorts.{ComputedSort}
use Rattle.mw_term.specs.Signatures.{sorted_of, identity_of}
use Rattle.mw_term.specs.declared.signature.Identity.{Identity}
use Rattle.mw_sorts.specs.Numbers.{IsTableOfNumbers}
use Rattle.mw_sorts.proofs.Getting.{get-none, some_same}
use Rattle.mw_sorts.proofs.Lowered.{constant-found, constant-there, number-there}
use Rattle.mw_sorts.proofs.leaving.identity_sort.Goals as goal

pub returns-in-Some : goal.returns-in-Some
returns-in-Some c = λ sig f o ok ds ns is named.
    let h = c.in-Constant.is in
    subst (λ (x : Identity). ComputedSort sig (identity_term (identity_of x)) (sorted_of c.result_on.result)) (sym h) (
    constant-found sig ok c.args.places.now c.args.diagrams.now ds f o is c.in-Constant.constant (subst (λ (x : Identity). o.identity ≡ Some (identity_of x)) h named) c.in-Some.diagram.now c.in-Some.ensures (sorted_of c.result_on.result) c.result_on.ensures
    )

pub returns-in-None : goal.returns-in-None
returns-in-None c = λ sig f o ok ds ns is named.
    absurd (constant-there sig ok c.args.places.now c.args.diagrams.now ds f o is c.in-Constant.constant (subst (λ (x : Identity). o.identity ≡ Some (identity_of x)) c.in-Constant.is named) c.in-None.ensures)

pub returns-in-Some-numbers : goal.returns-in-Some-numbers
returns-in-Some-numbers c = λ sig f o ok ds ns is named.
    let h = c.in-Nat.is in
    let (table, there, right) = number-there sig ok c.args.numbers.now ns f o is c.in-Nat.number (subst (λ (x : Identity). o.identity ≡ Some (identity_of x)) h named) in
    let same : table ≡ c.in-Some-numbers.table = some_same (sym there ∙ c.in-Some-numbers.is) in
    subst (λ (x : Identity). ComputedSort sig (identity_term (identity_of x)) (sorted_of c.sort.result)) (sym h) (c.sort.ensures sig (subst (IsTableOfNumbers sig) same right))

pub returns-in-None-numbers : goal.returns-in-None-numbers
returns-in-None-numbers c = λ sig f o ok ds ns is named.
    let (table, there, right) = number-there sig ok c.args.numbers.now ns f o is c.in-Nat.number (subst (λ (x : Identity). o.identity ≡ Some (identity_of x)) c.in-Nat.is named) in
    absurd (get-none (sym c.in-None-numbers.is ∙ there))
