use Rattle.std.proofs.Common.{◌≡◌, ◌∙◌, ◌+◌, ℕ, suc, List, [], ◌∷◌, ◌++◌, length, map, ap, sym, subst, arith}
use Rattle.std.specs.Result.{is_ok}
use Rattle.std.proofs.lemmas.Result.{err_from_is_err_and}
use Rattle.std.specs.Prelude.{Bool, true, if◌then◌else◌, slice_get, Some}
use Rattle.mw_logic.specs.Signature.{Signature, Operator}
use Rattle.mw_sorts.specs.declared.tables.TablesError.{TablesError}
use Rattle.mw_sorts.specs.declared.tables.TablesError.TheVariants.{NotPreregular, NotAssociative, LowIdentity, Memory}
use Rattle.mw_term.specs.Signatures.{sorted_of}
use Rattle.mw_sorts.specs.declared.diagram.Diagram.{Diagram}
use Rattle.mw_sorts.specs.Diagrams.{IsDiagram}
use Rattle.mw_sorts.specs.States.{IsOperatorOf}
use Rattle.mw_sorts.specs.Faults.{HasCause, IsRefused, IsFirstFault}
use Rattle.mw_sorts.proofs.Tabling.{AreDrawn, operator-read, operator-of, drawn-more, drawn-all, fault-first}
use Rattle.mw_sorts.proofs.tables.all_diagrams.Goals as goal

-- a refusal of the next operator is the first fault
cause : (sig : Signature) (places : List ℕ) (n number : ℕ) (diagrams : List Diagram) (o : Operator) (e : TablesError) → AreDrawn sig places n diagrams → slice_get sig.operators n ≡ Some o → number ≡ n + 1 → IsRefused sig number o e → HasCause sig e
cause sig places n number diagrams o (NotPreregular f Ss) h is m r =
    subst (λ (g : ℕ). IsFirstFault sig g (map sorted_of Ss.items)) (sym r.0) (fault-first sig places n number diagrams o (map sorted_of Ss.items) h is m r.1)
cause sig places n number diagrams o (NotAssociative f Ss) h is m r = absurd r
cause sig places n number diagrams o (LowIdentity f S) h is m r = absurd r
cause sig places n number diagrams o Memory h is m r = tt

pub diagram_of-requires : goal.diagram_of-requires
diagram_of-requires c =
    let n = c.loop-index.index in
    let is : slice_get c.args.signature.now.operators n ≡ Some c.operator-item.result =
    operator-read c.args.signature.now c.as_slice-operator-items.result.now n c.operator-item.result (c.as_slice-operator-items.ensures ∙ ap (λ (s : Signature). s.operators) c.signature.view_is) c.loop-index-test.true c.operator-item.is in
    record { operator = subst (λ (s : Signature). IsOperatorOf s c.operator-item.result) (sym c.requires.same) (operator-of c.args.signature.now (suc n) c.operator-item.result c.requires.sorts c.requires.accepted is) }

pub returns-in_err-diagram-clause-fault : goal.returns-in_err-diagram-clause-fault
returns-in_err-diagram-clause-fault c =
    let n = c.loop-index.index in
    let is : slice_get c.args.signature.now.operators n ≡ Some c.operator-item.result =
    operator-read c.args.signature.now c.as_slice-operator-items.result.now n c.operator-item.result (c.as_slice-operator-items.ensures ∙ ap (λ (s : Signature). s.operators) c.signature.view_is) c.loop-index-test.true c.operator-item.is in
    let r = subst (λ (s : Signature). IsRefused s c.in_ok-number_at.field-0 c.operator-item.result c.in_err-diagram.field-0.0) c.requires.same c.in_err-diagram.ensures.fault in
    let p = err_from_is_err_and c.from_residual-in_err-diagram.result c.from_residual-in_err-diagram.ensures.1 in
    rw (p.1, p.2) (cause c.args.signature.now c.args.sorting.now.places n c.in_ok-number_at.field-0 c.loop-index.diagrams.items c.operator-item.result c.in_err-diagram.field-0.0 c.loop-index.invariant is c.in_ok-number_at.ensures r)

pub loop-index-preserved : goal.loop-index-preserved
loop-index-preserved c =
    let n = c.loop-index.index in
    let is : slice_get c.args.signature.now.operators n ≡ Some c.operator-item.result =
    operator-read c.args.signature.now c.as_slice-operator-items.result.now n c.operator-item.result (c.as_slice-operator-items.ensures ∙ ap (λ (s : Signature). s.operators) c.signature.view_is) c.loop-index-test.true c.operator-item.is in
    let d = subst (λ (s : Signature). IsDiagram s c.args.sorting.now.places c.operator-item.result c.in_ok-diagram.diagram) c.requires.same c.in_ok-diagram.ensures.diagram in
    let ok : is_ok c.push.result ≡ true = sym c.map_err.ensures.variant ∙ ap is_ok c.in_ok-map_err.was in
    let more = c.push.ensures.items ∙ ap (λ (b : Bool). if b then c.loop-index.diagrams.items ++ c.in_ok-diagram.diagram ∷ [] else c.loop-index.diagrams.items) ok in
    drawn-more c.args.signature.now c.args.sorting.now.places n c.loop-index.diagrams.items c.push.new.self.items c.operator-item.result c.in_ok-diagram.diagram c.loop-index.invariant is d more

pub returns-clause-diagrams : goal.returns-clause-diagrams
returns-clause-diagrams c =
    let high = c.loop-index-test.false in
    let m = ap (λ (os : List Operator). length os) (c.as_slice-operator-items.ensures ∙ ap (λ (s : Signature). s.operators) c.signature.view_is) in
    drawn-all c.args.signature.now c.args.sorting.now.places c.loop-index.index c.loop-index.diagrams.items (omega arith) c.loop-index.invariant
