use Rattle.std.proofs.Common.{◌∙◌, length, ap, sym, refl, arith}
use Rattle.std.proofs.lemmas.Bool.{both_ways}
use Rattle.mw_proofread.proofs.Places.{nothing_taken, found_count, found_within, take_is, take_not}
use Rattle.mw_proofread.proofs.Slices.{texts_length}
use Rattle.mw_proofread.proofs.numbers.taken.Goals as goal

pub returns-in_default-clause-ok : goal.returns-in_default-clause-ok
returns-in_default-clause-ok c = nothing_taken _ c.in_default.ensures

pub is_take-requires : goal.is_take-requires
is_take-requires c =
    let a = found_within _ _ _ c.in_ok-found.ensures in
    let b = texts_length c.in-Some.behind.now in
    let d = ap length c.as_slice.ensures in
    omega (arith, a, b, d)

pub returns-then-is_take-clause-ok : goal.returns-then-is_take-clause-ok
returns-then-is_take-clause-ok c =
    let h = c.in_ok-found.ensures in
    take_is _ _ _ _ c.in-Some.ensures h ((c.if-is_take.ensures h.numbers _ h.is (found_count _ _ _ h ∙ ap length (sym c.as_slice.ensures))).0 refl)

pub returns-clause-outside : goal.returns-clause-outside
returns-clause-outside c =
    let h = c.in_ok-found.ensures in
    take_not _ _ _ _ c.in-Some.ensures h (λ g. both_ways c.is_take.result c.if-is_take.false ((c.is_take.ensures h.numbers _ h.is (found_count _ _ _ h ∙ ap length (sym c.as_slice.ensures))).1 g))
