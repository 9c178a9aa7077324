use Rattle.std.proofs.Common.{◌≡◌, ◌∙◌, ap, subst, sym, arith}
use Rattle.std.specs.Prelude.{unwrap_or, slice_get}
use Rattle.mw_logic.specs.Term.{variable}
use Rattle.mw_position.specs.Positions.{position}
use Rattle.mw_frames.specs.Jobs.{value_at}
use Rattle.mw_frames.specs.State.{IsKnown}
use Rattle.mw_frames.proofs.Values.{size_least}
use Rattle.mw_frames.proofs.coming.wait_value.Goals as goal

pub returns : goal.returns
returns c = λ sig.
    let e : c.in_ok-value.value ≡ value_at c.args.values.now c.args.base c.args.i = c.in_ok-value.ensures ∙ ap (λ vs. unwrap_or (slice_get vs c.args.i) (variable (position c.args.i))) c.behind.ensures in (
      c.job_of.result,
      c.in_ok-push.ensures.items,
      record {
        term = c.job_of.ensures.term sig c.args.values.now ∙ e;
        known = λ M n over k. c.job_of.ensures.known M n c.args.values.now over.accepted over.sorted (subst (IsKnown M n c.args.top) (sym e) k);
        light = omega (arith, c.job_of.ensures.light sig c.args.values.now, size_least (value_at c.args.values.now c.args.base c.args.i));
      },
    )
