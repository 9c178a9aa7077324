use Rattle.std.proofs.Common.{◌∙◌, ◌++◌, ap, refl, subst, sym}
use Rattle.mw_term.specs.Raws.{raw_term}
use Rattle.mw_omod.specs.Completion.{elements}
use Rattle.mw_omod.specs.Seen.{AreKept, AreRaw, all_seen, terms_seen}
use Rattle.mw_omod.proofs.Listing.{elements_raw, one_kept}
use Rattle.mw_omod.proofs.objects.side.Goals as goal

pub loop-term-init : goal.loop-term-init
loop-term-init c =
    let all = ap all_seen c.as_slice-terms.ensures.value ∙ c.in_ok-listed.ensures in
    record {
      terms = ap (λ es. terms_seen es ++ all_seen c.as_slice-terms.result.now) c.in_ok-found.ensures.items ∙ all;
      kept = subst (AreKept c.args.facts.now c.args.classes.now) (sym c.in_ok-found.ensures.items) tt;
      raw = subst (AreRaw c.args.facts.now) (sym all) (elements_raw c.args.facts.now c.args.classes.now.union (raw_term c.args.term.now) c.requires);
    }

pub loop-term-preserved : goal.loop-term-preserved
loop-term-preserved c =
    let (terms, kept, raw) = one_kept c.args.facts.now c.args.classes.now c.as_slice-terms.result.now c.loop-term.term-index c.term-item.result c.loop-term.found.items _
    (record { term = c.term-item.result; object = c.in_ok-object.object }) (elements c.args.classes.now (raw_term c.args.term.now)) c.loop-term-test.true c.term-item.is c.in_ok-push.ensures.items refl
    c.in_ok-object.ensures c.loop-term.invariant.terms c.loop-term.invariant.kept c.loop-term.invariant.raw in
    record { terms = terms; kept = kept; raw = raw }
