use Rattle.std.proofs.Common.{◌∙◌, [], ◌∷◌, map, sym, subst}
use Rattle.mw_term.specs.Statements.{fragment_of}
use Rattle.mw_carry.specs.Carriage.{Carriage}
use Rattle.mw_carry.specs.Carried.{IsCarriedFragment}
use Rattle.mw_build.specs.Imported.{HaveSortsAmong}
use Rattle.mw_build.proofs.FragmentTerms.{raw_next, sorts_next, carried_next, carried_end}
use Rattle.mw_build.proofs.carrying.fragments.Goals as goal

pub fragment-requires-clause-sorts : goal.fragment-requires-clause-sorts
fragment-requires-clause-sorts c =
    subst (λ (k : Carriage). HaveSortsAmong k.from (fragment_of c.first-item.result ∷ [])) (sym c.loop-rest.invariant.same)
    (sorts_next c.loop-rest.rest.now c.first-item.result c.in-len1-up.len_at_least c.first-item.is c.args.carrier.now.from c.loop-rest.invariant.sorts).0

pub loop-rest-preserved : goal.loop-rest-preserved
loop-rest-preserved c =
    let k = c.args.carrier.now in
    let rest = c.loop-rest.rest.now in
    let one : IsCarriedFragment k.from k.to (fragment_of c.first-item.result) (fragment_of c.in_ok-carried.carried) =
    subst (λ (b : Carriage). IsCarriedFragment b.from b.to (fragment_of c.first-item.result) (fragment_of c.in_ok-carried.carried)) c.loop-rest.invariant.same c.in_ok-carried.ensures.carried in
    record {
      same = c.in_ok-carried.ensures.same ∙ c.loop-rest.invariant.same;
      raw = (raw_next rest c.first-item.result c.in-len1-up.len_at_least c.first-item.is k.from c.loop-rest.invariant.raw).1;
      sorts = (sorts_next rest c.first-item.result c.in-len1-up.len_at_least c.first-item.is k.from c.loop-rest.invariant.sorts).1;
      carried = carried_next rest c.first-item.result c.in-len1-up.len_at_least c.first-item.is k.from k.to (map fragment_of c.args.fragments.now) c.loop-rest.found.items _ c.in_ok-carried.carried
          c.in_ok-push.ensures.items one c.loop-rest.invariant.carried;
    }

pub returns-clause-carried : goal.returns-clause-carried
returns-clause-carried c =
    let k = c.args.carrier.now in
    carried_end k.from k.to (map fragment_of c.args.fragments.now) c.loop-rest.rest.now c.loop-rest.found.items c.in_default.len_below c.loop-rest.invariant.carried
