use Rattle.std.proofs.Common.{◌≡◌, ◌∙◌, ◌-◌, List, [], ◌∷◌, ◌++◌, length, take, set, get_or, ap, refl, arith, false}
use Rattle.std.specs.Vec.{with_item}
use Rattle.mw_search.specs.declared.machine.Choice.{Choice}
use Rattle.mw_search.specs.declared.machine.Machine.{Machine}
use Rattle.std.proofs.Math.Seq.{get_or-append_seam}
use Rattle.mw_search.proofs.Steps.{opened}
use Rattle.mw_search.proofs.machine.Machine.open.Goals as goal

pub returns-clause-ok : goal.returns-clause-ok
returns-clause-ok c =
    let cs : List Choice = c.args.self.now.stack.items in
    let choice : Choice = record { pattern = c.args.pattern; shares = c.args.shares; goals = c.new-goals.result; below = c.len-below.result } in
    let d : Choice = record { pattern = c.index_mut-top.result.now.pattern; shares = c.index_mut-top.result.now.shares; goals = c.swap.new.y; below = c.index_mut-top.result.now.below } in
    let new : Machine = record { given = c.args.self.now.given; running = false; goals = c.swap.new.x; values = c.args.self.now.values; stack = with_item c.push.new.self c.len-depth.result d } in
    let items : c.push.new.self.items ≡ cs ++ choice ∷ [] = c.in_ok-push.ensures.items in
    let depth : c.len-depth.result ≡ length cs = omega arith in
    let top : c.index_mut-top.result.now ≡ choice =
    c.index_mut-top.ensures.value ∙ ap (λ ds. get_or ds c.len-depth.result c.index_mut-top.result.now) items
    ∙ ap (λ n. get_or (cs ++ choice ∷ []) n c.index_mut-top.result.now) depth ∙ get_or-append_seam cs choice [] c.index_mut-top.result.now in
    let goals : c.swap.new.y.items ≡ take (length c.args.self.now.goals.items - 1) c.args.self.now.goals.items =
    ap (λ v. v.items) c.swap.ensures.y_after ∙ c.pop.ensures.rest ∙ ap (λ n. take n c.args.self.now.goals.items) (omega arith) in
    let below : c.index_mut-top.result.now.below ≡ length c.args.self.now.values.items = ap (λ (x : Choice). x.below) top ∙ omega arith in
    λ sig ps ready. opened sig ps c.args.self.now new c.args.pattern c.args.shares choice d ready refl refl refl
    (ap (λ ds. set ds c.len-depth.result d) items ∙ ap (λ n. set (cs ++ choice ∷ []) n d) depth)
    (ap (λ (x : Choice). x.pattern) top) (ap (λ (x : Choice). x.shares) top) goals below
