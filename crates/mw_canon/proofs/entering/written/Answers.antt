use Rattle.std.proofs.Common.{◌≡◌, ◌∙◌, [], ap, sym, refl}
use Rattle.mw_logic.specs.Term.{nil, join}
use Rattle.mw_logic.proofs.SortLaws.{join-nil}
use Rattle.mw_term.specs.Raws.{raw_terms}
use Rattle.mw_canon.specs.Made.{all_entered, seen_terms}
use Rattle.std.proofs.lemmas.List.{nil_from_length}
use Rattle.mw_canon.proofs.Waiting.{waiting_before, empty_waits, empty_smaller, first_told, first_smaller, inner_waits, inner_smaller}
use Rattle.mw_canon.proofs.entering.written.Goals as goal

pub loop-next-init : goal.loop-next-init
loop-next-init c =
    ap (λ rs. join (seen_terms rs) (all_entered c.args.operator (waiting_before c.in_ok-waiting.waiting.items nil))) c.in_ok-found.ensures.items
    ∙ ap (λ rss. all_entered c.args.operator (waiting_before rss nil)) c.in_ok-waiting.ensures.items ∙ ap (all_entered c.args.operator) (join-nil (raw_terms c.args.args.now))

pub loop-next-smaller-then-next-lt1 : goal.loop-next-smaller-then-next-lt1
loop-next-smaller-then-next-lt1 c = empty_smaller c.loop-next.waiting.items c.pop.new.self.items c.in-Some.next c.in-Some.ensures.items

pub loop-next-preserved-then-next-lt1 : goal.loop-next-preserved-then-next-lt1
loop-next-preserved-then-next-lt1 c =
    ap (λ ts. join (seen_terms c.loop-next.found.items) (all_entered c.args.operator ts)) (empty_waits c.loop-next.waiting.items c.pop.new.self.items c.in-Some.next c.in-Some.ensures.items c.in_default-next.len_below)
    ∙ c.loop-next.invariant

pub loop-next-smaller-in-Continue-branch-4 : goal.loop-next-smaller-in-Continue-branch-4
loop-next-smaller-in-Continue-branch-4 c =
    inner_smaller c.args.operator c.loop-next.waiting.items c.pop.new.self.items c.push.new.self.items c.in-Some.next _ c.arg-item.result c.in-Some.ensures.items c.in-len1-up.len_at_least c.arg-item.is refl c.in_ok-push.ensures.items
    c.push-in-Some-below.new.self.items c.in-Some-below.inner c.in_ok-push-in-Some-below.ensures.items (c.in-Some-below.ensures.0)

pub loop-next-preserved-in-Continue-branch-4 : goal.loop-next-preserved-in-Continue-branch-4
loop-next-preserved-in-Continue-branch-4 c =
    ap (join (seen_terms c.loop-next.found.items))
    (inner_waits c.args.operator c.loop-next.waiting.items c.pop.new.self.items c.push.new.self.items c.in-Some.next _ c.arg-item.result c.in-Some.ensures.items c.in-len1-up.len_at_least c.arg-item.is refl c.in_ok-push.ensures.items
    c.push-in-Some-below.new.self.items c.in-Some-below.inner c.in_ok-push-in-Some-below.ensures.items (c.in-Some-below.ensures.0) (c.in-Some-below.ensures.1))
    ∙ c.loop-next.invariant

pub loop-next-smaller : goal.loop-next-smaller
loop-next-smaller c = first_smaller c.args.operator c.loop-next.waiting.items c.pop.new.self.items c.push.new.self.items c.in-Some.next _ c.arg-item.result c.in-Some.ensures.items c.in-len1-up.len_at_least c.arg-item.is refl c.in_ok-push.ensures.items

pub loop-next-preserved : goal.loop-next-preserved
loop-next-preserved c =
    first_told c.args.operator c.loop-next.waiting.items c.pop.new.self.items c.push.new.self.items c.in-Some.next _ c.arg-item.result c.in-Some.ensures.items c.in-len1-up.len_at_least c.arg-item.is refl c.in_ok-push.ensures.items
    c.loop-next.found.items c.push-in-None.new.self.items _ c.in-None.ensures c.in_ok-push-in-None.ensures.items refl
    ∙ c.loop-next.invariant

pub returns : goal.returns
returns c =
    let empty : c.loop-next.waiting.items ≡ [] = nil_from_length c.loop-next.waiting.items (sym c.loop-next.waiting.ok.0 ∙ c.in_default.ensures.cases.0) in
    sym (join-nil (seen_terms c.loop-next.found.items)) ∙ ap (λ rss. join (seen_terms c.loop-next.found.items) (all_entered c.args.operator (waiting_before rss nil))) (sym empty) ∙ c.loop-next.invariant
