use Rattle.std.proofs.Common.{map, subst, sym}
use Rattle.std.proofs.lemmas.Bool.{both_ways}
use Rattle.mw_term.specs.Raws.{raw_term}
use Rattle.mw_omod.specs.Completion.{elements, LeftBecomes, RightBecomes, AreCompleted}
use Rattle.mw_omod.specs.Seen.{AreOfSide}
use Rattle.mw_omod.proofs.Becoming.{completed_some, elements_some}
use Rattle.mw_omod.proofs.Listing.{bad, are_bad}
use Rattle.mw_omod.proofs.completing.completed_sides.Goals as goal

pub returns-then-is_bad-clause-cause : goal.returns-then-is_bad-clause-cause
returns-then-is_bad-clause-cause c =
    let sig = c.args.facts.now in
    let K = c.args.classes.now in
    bad sig c.shows.ensures K (raw_term c.args.left.now) (raw_term c.args.right.now) c.as_slice.result.now c.as_slice-2.result.now
    (subst (AreOfSide sig K (raw_term c.args.left.now)) (sym c.as_slice.ensures.value) c.in_ok-lefts.ensures)
    (subst (AreOfSide sig K (raw_term c.args.right.now)) (sym c.as_slice-2.ensures.value) c.in_ok-rights.ensures) (c.is_bad.ensures.0 c.if-is_bad.true)

pub all_joined-requires : goal.all_joined-requires
all_joined-requires c =
    let sig = c.args.facts.now in
    let K = c.args.classes.now in
    let left = raw_term c.args.left.now in
    let right = raw_term c.args.right.now in
    let ls = subst (AreOfSide sig K left) (sym c.as_slice-3.ensures.value) c.in_ok-lefts.ensures in
    let rs = subst (AreOfSide sig K right) (sym c.as_slice-4.ensures.value) c.in_ok-rights.ensures in
    completed_some (LeftBecomes sig K right) 1 (elements K left) c.in_ok-left.left.items
    (subst (λ ts. AreCompleted (LeftBecomes sig K right) 1 ts (map raw_term c.in_ok-left.left.items)) ls.terms (c.in_ok-left.ensures sig right c.shows.ensures ls.kept rs))
    (elements_some sig c.shows.ensures K c.requires.classes left c.requires.left)

pub all_joined-requires-2 : goal.all_joined-requires-2
all_joined-requires-2 c =
    let sig = c.args.facts.now in
    let K = c.args.classes.now in
    let left = raw_term c.args.left.now in
    let right = raw_term c.args.right.now in
    let rs = subst (AreOfSide sig K right) (sym c.as_slice-5.ensures.value) c.in_ok-rights.ensures in
    let ls = subst (AreOfSide sig K left) (sym c.as_slice-6.ensures.value) c.in_ok-lefts.ensures in
    completed_some (λ i. RightBecomes sig K left) 1 (elements K right) c.in_ok-right.right.items
    (subst (λ ts. AreCompleted (λ i. RightBecomes sig K left) 1 ts (map raw_term c.in_ok-right.right.items)) rs.terms (c.in_ok-right.ensures sig left c.shows.ensures rs.kept ls))
    (elements_some sig c.shows.ensures K c.requires.classes right c.requires.right)

pub returns-clause-completed : goal.returns-clause-completed
returns-clause-completed c =
    let sig = c.args.facts.now in
    let K = c.args.classes.now in
    let left = raw_term c.args.left.now in
    let right = raw_term c.args.right.now in
    let ls0 = subst (AreOfSide sig K left) (sym c.as_slice.ensures.value) c.in_ok-lefts.ensures in
    let rs0 = subst (AreOfSide sig K right) (sym c.as_slice-2.ensures.value) c.in_ok-rights.ensures in
    let ls = subst (AreOfSide sig K left) (sym c.as_slice-3.ensures.value) c.in_ok-lefts.ensures in
    let rs = subst (AreOfSide sig K right) (sym c.as_slice-4.ensures.value) c.in_ok-rights.ensures in
    let rs1 = subst (AreOfSide sig K right) (sym c.as_slice-5.ensures.value) c.in_ok-rights.ensures in
    let ls1 = subst (AreOfSide sig K left) (sym c.as_slice-6.ensures.value) c.in_ok-lefts.ensures in
    let (before, last, parts, is) = c.in_ok-left-2.ensures in
    let (before', last', parts', is') = c.in_ok-right-2.ensures in
    record {
      fine = λ b. both_ways _ c.if-is_bad.false (c.is_bad.ensures.1 (are_bad sig c.shows.ensures K left right c.as_slice.result.now c.as_slice-2.result.now ls0 rs0 b));
      left_is = record {
        before = before;
        last = last;
        become = subst (λ us. AreCompleted (LeftBecomes sig K right) 1 (elements K left) us) parts
            (subst (λ ts. AreCompleted (LeftBecomes sig K right) 1 ts (map raw_term c.in_ok-left.left.items)) ls.terms (c.in_ok-left.ensures sig right c.shows.ensures ls.kept rs));
        is = is;
      };
      right_is = record {
        before = before';
        last = last';
        become = subst (λ us. AreCompleted (λ i. RightBecomes sig K left) 1 (elements K right) us) parts'
            (subst (λ ts. AreCompleted (λ i. RightBecomes sig K left) 1 ts (map raw_term c.in_ok-right.right.items)) rs1.terms (c.in_ok-right.ensures sig left c.shows.ensures rs1.kept ls1));
        is = is';
      };
    }
