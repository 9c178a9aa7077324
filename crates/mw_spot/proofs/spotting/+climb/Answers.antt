use Rattle.std.proofs.Common.{◌≡◌, ◌∙◌, ◌-◌, ap, sym, subst, take, drop, length, reverse, All}
use Rattle.std.proofs.Math.Seq.{take-length}
use Rattle.std.proofs.lemmas.List.{length-drop}
use Rattle.mw_deduction.specs.Replay.{whole}
use Rattle.mw_spot.specs.Walks.{IsOrderly}
use Rattle.mw_spot.specs.Spots.{places, is_spread, raised_path, raised_take, StandsIn, ReplacesPart}
use Rattle.mw_spot.proofs.Calls.{on_ok}
use Rattle.mw_spot.proofs.Climbing.{together, clear_here, stands_on, turn, whole_beyond, whole_here}
use Rattle.mw_spot.proofs.spotting.+climb.Goals as goal

pub returns-then-outside-eq0 : goal.returns-then-outside-eq0
returns-then-outside-eq0 t c = λ r w x y stands kx a.
    let sig = c.args.facts.now in
    let ok = c.shows.ensures in
    let levels = c.args.levels.now in
    let inner = c.args.inner in
    let o = c.level-item.result in
    let n = c.outside-outside.result in
    let f = c.level.inside.operator in
    let operator = sym (ap (λ o. o.operator) c.level.view_is) in
    let some = c.in-len1-up.len_at_least in
    let last = c.level-item.is in
    let bound = c.outside-outside.ensures.bound in
    let more = c.outside-outside.ensures.more in
    let path = reverse c.args.spot.now.path.items in
    let taken = c.args.spot.now.take in
    let path2 = reverse c.raise.new.spot.path.items in
    let taken2 = c.raise.new.spot.take in
    let within = ap (λ m. take m (drop n levels)) (sym (length-drop n levels)) ∙ take-length (drop n levels) in
    let b = turn sig ok levels o n some last f operator bound more r inner stands w x kx y path path2 taken taken2 a
    (subst (λ ls. All (IsOrderly sig) ls → path2 ≡ raised_path (places sig (reverse ls)) (is_spread sig o inner) inner path) within c.in_ok-raise.ensures.path)
    (subst (λ ls. All (IsOrderly sig) ls → taken2 ≡ raised_take (places sig (reverse ls)) (is_spread sig o inner) inner path taken) within c.in_ok-raise.ensures.take) in
    let here = whole_here sig ok levels o n some last f operator bound more c.if-outside-eq0.true in
    subst (λ v. ReplacesPart sig r w x path2 taken2 v (whole sig (reverse levels) y)) (here inner)
    (subst (ReplacesPart sig r w x path2 taken2 (whole sig (reverse (drop n levels)) inner)) (here y) b)

pub returns : goal.returns
returns t c = λ r w x y stands kx a.
    let sig = c.args.facts.now in
    let ok = c.shows.ensures in
    let levels = c.args.levels.now in
    let inner = c.args.inner in
    let o = c.level-item.result in
    let n = c.outside-outside.result in
    let f = c.level.inside.operator in
    let operator = sym (ap (λ o. o.operator) c.level.view_is) in
    let some = c.in-len1-up.len_at_least in
    let last = c.level-item.is in
    let bound = c.outside-outside.ensures.bound in
    let more = c.outside-outside.ensures.more in
    let path = reverse c.args.spot.now.path.items in
    let taken = c.args.spot.now.take in
    let path2 = reverse c.raise.new.spot.path.items in
    let taken2 = c.raise.new.spot.take in
    let path3 = reverse c.climb.new.spot.path.items in
    let taken3 = c.climb.new.spot.take in
    let ls = drop n levels in
    let os = reverse (take n (take (length levels - 1) levels)) in
    let within : take (length levels - n) ls ≡ ls = ap (λ m. take m ls) (sym (length-drop n levels)) ∙ take-length ls in
    let b = turn sig ok levels o n some last f operator bound more r inner stands w x kx y path path2 taken taken2 a
    (subst (λ ls. All (IsOrderly sig) ls → path2 ≡ raised_path (places sig (reverse ls)) (is_spread sig o inner) inner path) within c.in_ok-raise.ensures.path)
    (subst (λ ls. All (IsOrderly sig) ls → taken2 ≡ raised_take (places sig (reverse ls)) (is_spread sig o inner) inner path taken) within c.in_ok-raise.ensures.take) in
    let same = together sig ok levels o n some last f operator bound more in
    let outer = c.in_ok-outer.outer in
    let made : outer ≡ whole sig (reverse ls) inner =
    c.in_ok-outer.ensures o (reverse (drop n (take (length levels - 1) levels))) (ap reverse within ∙ same.0) operator same.1 (clear_here sig ok levels o n some last f operator bound more r inner stands) stands.canonical
    ∙ ap (λ os. whole sig os inner) (sym same.0) in
    let beyond = whole_beyond sig ok levels o n some last f operator bound more in
    on_ok c.climb.result (ReplacesPart sig r w x path3 taken3 (whole sig os outer) (whole sig os (whole sig (reverse ls) y))) (ReplacesPart sig r w x path3 taken3 (whole sig (reverse levels) inner) (whole sig (reverse levels) y))
    (λ q. subst (λ v. ReplacesPart sig r w x path3 taken3 v (whole sig (reverse levels) y)) (ap (whole sig os) made ∙ beyond inner) (subst (ReplacesPart sig r w x path3 taken3 (whole sig os outer)) (beyond y) q))
    (c.climb.ensures r w x (whole sig (reverse ls) y) (subst (StandsIn sig r os) (sym made) (stands_on sig ok levels o n some last f operator bound more r inner stands)) kx
    (subst (λ v. ReplacesPart sig r w x path2 taken2 v (whole sig (reverse ls) y)) (sym made) b))
