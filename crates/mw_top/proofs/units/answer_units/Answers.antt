use Rattle.std.proofs.Common.{◌++◌, ◌∙◌, [], false, refl, sym, subst, arith, take}
use Rattle.std.specs.Io.KnownBytes.{Appends}
use Rattle.mw_top.specs.Sources.{Answered, nothing_yet, one_more}
use Rattle.mw_top.specs.Moved.{Took}
use Rattle.mw_top.proofs.Moving.{appends_more, appends_none}
use Rattle.mw_top.proofs.units.answer_units.Goals as goal

pub loop-at-init : goal.loop-at-init
loop-at-init g c = record {
  within = omega arith;
  same = refl;
  done = ([], subst (λ ms. Answered c.args.purpose c.args.tokens.now 0 ms [] false) (sym c.new-session.ensures) nothing_yet, appends_none (g.K.Sink.held c.args.sink.now));
}

pub returns-in-Err-clause-cut : goal.returns-in-Err-clause-cut
returns-in-Err-clause-cut g c = λ four.
    let done = c.loop-at.invariant.done in
    let gives = c.in-Ok.ensures.gives in
    let took = subst (λ t. Took (g.K.Sink.held c.loop-at.sink) (g.K.Sink.held c.write_whole.new.sink) t) c.as_slice.ensures.value c.in-Err.ensures.prefix in
    record {
      at = c.loop-at.at;
      modules = c.loop-at.session;
      text = done.0;
      bad = c.loop-at.refused;
      answered = done.1;
      outcome = gives.0;
      next = c.in-Ok.next;
      last = c.in-Ok.answer.text.items;
      refused = c.in-Ok.answer.refused;
      after = c.answer_next.new.session;
      read = gives.1;
      gives = gives.2;
      part = took.0;
      proper = took.1;
      written = appends_more (g.K.Sink.held c.args.sink.now) (g.K.Sink.held c.loop-at.sink) (g.K.Sink.held c.write_whole.new.sink) done.0 (take took.0 c.in-Ok.answer.text.items) done.2 took.2;
    }

pub loop-at-preserved : goal.loop-at-preserved
loop-at-preserved g c =
    let done = c.loop-at.invariant.done in
    let gives = c.in-Ok.ensures.gives in
    let whole = subst (λ t. Appends (g.K.Sink.held c.loop-at.sink) (g.K.Sink.held c.write_whole.new.sink) t) c.as_slice.ensures.value c.in-Ok-write_whole.ensures.whole in
    record {
      within = c.in-Ok.ensures.further.1;
      same = c.in-Ok-write_whole.ensures.kept ∙ c.loop-at.invariant.same;
      done = (
        done.0 ++ c.in-Ok.answer.text.items,
        one_more c.loop-at.at c.loop-at.session done.0 c.loop-at.refused done.1 gives.0 c.in-Ok.next c.in-Ok.answer.text.items c.in-Ok.answer.refused c.answer_next.new.session gives.1 gives.2,
        appends_more (g.K.Sink.held c.args.sink.now) (g.K.Sink.held c.loop-at.sink) (g.K.Sink.held c.write_whole.new.sink) done.0 c.in-Ok.answer.text.items done.2 whole,
      );
    }
