use Rattle.std.proofs.Common.{◌≡◌, ◌∙◌, ap, sym}
use Rattle.std.specs.Ordering.{is_lt, nat_cmp}
use Rattle.std.specs.Cmp.Lexicographic.{slice_cmp}
use Rattle.std.proofs.lemmas.Bool.{ltb-true, lt-ltb}
use Rattle.mw_proofread.proofs.Digits.{number_before, number_shorter}
use Rattle.mw_proofread.proofs.numbers.is_below.Goals as goal

pub returns-then-number-other : goal.returns-then-number-other
returns-then-number-other c = λ m n p q.
    let x = c.as_slice-number.result.now in
    let y = c.as_slice-other.result.now in
    let k = number_before m n x y (c.as_slice-number.ensures ∙ p) (c.as_slice-other.ensures ∙ q) c.if-number-other.true in
    let is : c.is_lt.result ≡ is_lt (slice_cmp nat_cmp x y) = c.is_lt.ensures ∙ ap is_lt c.cmp.ensures in
    ((λ h. k.0 (sym is ∙ h)), (λ h. is ∙ k.1 h))

pub returns-else-number-other : goal.returns-else-number-other
returns-else-number-other c = λ m n p q.
    let k = number_shorter m n c.as_slice-number.result.now c.as_slice-other.result.now (c.as_slice-number.ensures ∙ p) (c.as_slice-other.ensures ∙ q) c.if-number-other.false in
    ((λ h. k.0 (ltb-true _ _ h)), (λ h. lt-ltb _ _ (k.1 h)))
