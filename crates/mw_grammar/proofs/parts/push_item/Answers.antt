use Rattle.std.proofs.Common.{ℕ, ◌≡◌, ◌∙◌, ◌+◌, List, [], ◌∷◌, ◌++◌, map, Some, sym, ap}
use Rattle.std.specs.List.{slice_get}
use Rattle.mw_term.specs.Signatures.{gather_of}
use Rattle.mw_text.specs.Names.{NameItem}
use Rattle.mw_grammar.specs.declared.parts.Symbol.{Symbol}
use Rattle.mw_grammar.specs.declared.parts.Symbol.TheVariants.{Hole}
use Rattle.mw_grammar.specs.Readable.{kind_in}
use Rattle.mw_text.specs.Seen.{item_of}
use Rattle.mw_grammar.specs.Notations.{mixing}
use Rattle.mw_chart.proofs.Lists.{get_item}
use Rattle.mw_grammar.proofs.ItemByItem.{get-map, mixing_hole}
use Rattle.mw_grammar.proofs.parts.push_item.Goals as goal

pub returns-in_ok-push-in-Hole : goal.returns-in_ok-push-in-Hole
returns-in_ok-push-in-Hole c items =
    let kind : ℕ → ℕ = kind_in c.args.kinds.now in
    let gs = map gather_of c.args.gather.now in
    let mark = get-map gather_of c.args.gather.now c.args.holes c.in-Some.mark.now
    (get_item c.args.gather.now c.args.holes c.in-Some.mark.now c.in-Some.ensures.lookup.3.0 c.in-Some.ensures.lookup.1) in
    let sort : slice_get c.args.args.now c.args.holes ≡ Some c.in-Some-get.sort.now =
    get_item c.args.args.now c.args.holes c.in-Some-get.sort.now c.in-Some-get.ensures.lookup.3.0 c.in-Some-get.ensures.lookup.1 in
    let pushed = c.in_ok-push-in-Hole.ensures.items
    ∙ ap (λ k. c.args.parts.now.items ++ Hole k c.bound_of-below.result ∷ []) c.kind_of-kind.ensures
    ∙ ap (λ b. c.args.parts.now.items ++ Hole (kind c.in-Some-get.sort.now) b ∷ []) (c.bound_of-below.ensures kind) in
    ap (λ (ps : List Symbol). mixing kind c.args.precedence gs c.args.args.now ps items (c.args.holes + 1)) pushed
    ∙ mixing_hole kind c.args.precedence gs c.args.args.now c.args.parts.now.items items c.args.holes (gather_of c.in-Some.mark.now) c.in-Some-get.sort.now mark sort
    ∙ ap (λ (i : NameItem). mixing kind c.args.precedence gs c.args.args.now c.args.parts.now.items (i ∷ items) c.args.holes) (sym (ap item_of c.in-Hole.is))
