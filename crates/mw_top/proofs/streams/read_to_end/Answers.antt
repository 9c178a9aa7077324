use Rattle.std.proofs.Common.{arith, ℕ, length-append, length-take}
use Rattle.mw_top.proofs.Moving.{consumes_more}
use Rattle.mw_top.proofs.streams.read_to_end.Goals as goal

-- what was read before this call, and what it read
pub returns-then-count-len-clause-bounded : goal.returns-then-count-len-clause-bounded
returns-then-count-len-clause-bounded g c = (
  _,
  consumes_more _ _ _ _ _ c.loop-bytes.invariant.given c.in_ok-count.ensures.bytes.0,
  omega (arith, length-append {A = ℕ}, length-take {A = ℕ}, c.loop-bytes.invariant.within, c.in_ok-count.ensures.bound),
)

pub returns-then-count-len-clause-too_long : goal.returns-then-count-len-clause-too_long
returns-then-count-len-clause-too_long g c = λ e. (
  _,
  consumes_more _ _ _ _ _ c.loop-bytes.invariant.given c.in_ok-count.ensures.bytes.0,
  omega (arith, length-append {A = ℕ}, length-take {A = ℕ}, c.loop-bytes.invariant.within, c.in_ok-count.ensures.bound, c.if-count-len.true),
)

pub returns-in_err-extend_from_slice-clause-bounded : goal.returns-in_err-extend_from_slice-clause-bounded
returns-in_err-extend_from_slice-clause-bounded g c = (
  _,
  consumes_more _ _ _ _ _ c.loop-bytes.invariant.given c.in_ok-count.ensures.bytes.0,
  omega (arith, length-append {A = ℕ}, length-take {A = ℕ}, c.loop-bytes.invariant.within, c.in_ok-count.ensures.bound),
)

pub returns-in_err-extend_from_slice-clause-memory : goal.returns-in_err-extend_from_slice-clause-memory
returns-in_err-extend_from_slice-clause-memory g c = λ e. (
  _,
  consumes_more _ _ _ _ _ c.loop-bytes.invariant.given c.in_ok-count.ensures.bytes.0,
  omega (arith, length-append {A = ℕ}, length-take {A = ℕ}, c.loop-bytes.invariant.within, c.in_ok-count.ensures.bound, c.if-count-len.false),
)
