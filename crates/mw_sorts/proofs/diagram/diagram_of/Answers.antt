use Rattle.std.proofs.Common.{◌≡◌, ◌∙◌, List, map, ap, sym, subst}
use Rattle.std.specs.Prelude.{slice_get, Some, None, Option, option_map}
use Rattle.mw_logic.specs.Signature.{Operator}
use Rattle.mw_term.specs.Signatures.{sorted_of}
use Rattle.mw_term.specs.declared.signature.Sorted.{Sorted as Held}
use Rattle.mw_sorts.specs.States.{AreAllThere}
use Rattle.mw_sorts.proofs.Getting.{get-map}
use Rattle.mw_sorts.proofs.Tabling.{diagram-is}
use Rattle.mw_sorts.proofs.diagram.diagram_of.Goals as goal

pub first_fault-requires-clause-lacks : goal.first_fault-requires-clause-lacks
first_fault-requires-clause-lacks c =
    let e = subst (λ (r : Option (List Held)). AreAllThere c.as_slice.result.now r) c.in-None.is c.in_ok-ends.ensures in
    let none = get-map (option_map sorted_of) c.in_ok-drawing.drawing.ends e.0 None (subst (λ (es : List (Option Held)). slice_get es e.0 ≡ Some None) c.as_slice.ensures e.1) in
    c.in_ok-drawing.ensures.reached e.0 none

pub returns-in-Some-clause-diagram : goal.returns-in-Some-clause-diagram
returns-in-Some-clause-diagram c =
    let e = subst (λ (r : Option (List Held)). AreAllThere c.as_slice.result.now r) c.in-Some.is c.in_ok-ends.ensures in
    record {
      leads = diagram-is c.args.sorting.now c.args.operator.now c.in_ok-drawing.drawing.levels (map (map sorted_of) c.in_ok-drawing.drawing.entries) c.in_ok-drawing.drawing.ends c.in-Some.ends c.in_ok-drawing.ensures (sym c.as_slice.ensures ∙ e);
      assoc = ap (λ (o : Operator). o.assoc) c.operator.view_is;
    }
