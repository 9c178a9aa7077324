use Rattle.std.proofs.Common.{◌≡◌, ◌≢◌, ◌∙◌, ℕ, List, [], length, reverse, ap, sym, arith}
use Rattle.std.proofs.lemmas.Bool.{both_ways, eqb-true, eq-eqb}
use Rattle.std.proofs.lemmas.List.{nil_from_length}
use Rattle.mw_proofread.specs.TokenTexts.{token_texts}
use Rattle.mw_proofread.specs.Outside.{HasItem}
use Rattle.mw_proofread.specs.Parts.{Stops}
use Rattle.mw_proofread.proofs.Causes.{on_outside, passed}
use Rattle.mw_proofread.proofs.Frames.{starts, goes_on, item_ends, item_stops, item_breaks}
use Rattle.mw_proofread.proofs.items.item.Goals as goal

pub groups-init : goal.groups-init
groups-init c =
    let e = c.new-frames.ensures.items in
    let l = ap length e in
    record { deep = omega (arith, l); way = starts c.args.reader.now.ctx.now (token_texts c.args.tokens.now) c.args.entries.now.items c.new-frames.result.items e }

pub returns-in_err-rest-clause-outside : goal.returns-in_err-rest-clause-outside
returns-in_err-rest-clause-outside c =
    let M = c.args.reader.now.ctx.now in
    let frames = c.groups.frames.items in
    passed _ _ c.in_err-rest.field-0.0 c.from_residual.ensures.1
    (on_outside (Stops M (reverse frames) (token_texts c.groups.rest.now)) ((rest : List (List ℕ)) → ¬ HasItem M (token_texts c.args.tokens.now) rest) c.in_err-rest.field-0.0
    (item_stops M (token_texts c.args.tokens.now) (token_texts c.groups.rest.now) [] c.args.entries.now.items c.groups.entries.items [] frames frames c.groups.invariant.way) c.in_err-rest.ensures.outside)

pub groups-smaller : goal.groups-smaller
groups-smaller c = c.in_ok-rest.ensures.ok.shorter

pub groups-preserved : goal.groups-preserved
groups-preserved c =
    let some : c.advanced.new.frames.items ≢ [] = λ e. both_ways c.is_empty.result c.if-is_empty.false (c.is_empty.ensures ∙ eq-eqb _ 0 (c.advanced.new.frames.ok.0 ∙ ap length e)) in
    record {
      deep = c.in_ok-rest.ensures.deep;
      way = goes_on c.args.reader.now.ctx.now (token_texts c.args.tokens.now) (token_texts c.groups.rest.now) (token_texts c.in_ok-rest.rest.now) c.args.entries.now.items c.groups.entries.items c.advanced.new.entries.items
          c.groups.frames.items c.advanced.new.frames.items c.groups.invariant.way c.in_ok-rest.ensures.ok some;
    }

pub returns-then-is_followed-clause-ok : goal.returns-then-is_followed-clause-ok
returns-then-is_followed-clause-ok c =
    let none : c.advanced.new.frames.items ≡ [] = nil_from_length c.advanced.new.frames.items (sym c.advanced.new.frames.ok.0 ∙ eqb-true _ 0 (sym c.is_empty.ensures ∙ c.if-is_empty.true)) in
    item_ends c.args.reader.now.ctx.now (token_texts c.args.tokens.now) (token_texts c.groups.rest.now) (token_texts c.in_ok-rest.rest.now) c.args.entries.now.items c.groups.entries.items c.advanced.new.entries.items
    c.groups.frames.items c.advanced.new.frames.items c.groups.invariant.way c.in_ok-rest.ensures.ok none (c.is_followed.ensures.0 c.if-is_followed.true)

pub returns-clause-outside : goal.returns-clause-outside
returns-clause-outside c =
    let none : c.advanced.new.frames.items ≡ [] = nil_from_length c.advanced.new.frames.items (sym c.advanced.new.frames.ok.0 ∙ eqb-true _ 0 (sym c.is_empty.ensures ∙ c.if-is_empty.true)) in
    item_breaks c.args.reader.now.ctx.now (token_texts c.args.tokens.now) (token_texts c.groups.rest.now) (token_texts c.in_ok-rest.rest.now) c.args.entries.now.items c.groups.entries.items c.advanced.new.entries.items
    c.groups.frames.items c.advanced.new.frames.items c.groups.invariant.way c.in_ok-rest.ensures.ok none (λ f. both_ways c.is_followed.result c.if-is_followed.false (c.is_followed.ensures.1 f))
