use Rattle.std.proofs.Common.{ℕ, ◌≡◌, ◌∙◌, ◌<◌, ◌⊎◌, List, [], length, map, inl, inr, sym, ap, arith}
use Rattle.std.proofs.lemmas.List.{length-map}
use Rattle.mw_term.specs.Signatures.{gather_of}
use Rattle.mw_text.specs.Names.{NameItem, items_of}
use Rattle.mw_grammar.specs.Readable.{kind_in}
use Rattle.mw_grammar.specs.Notations.{mixing}
use Rattle.mw_grammar.proofs.ItemByItem.{mixing_start, mixing_end}
use Rattle.mw_grammar.proofs.parts.mixfix.Goals as goal

pub returns-then-holes-gather : goal.returns-then-holes-gather
returns-then-holes-gather c =
    let kind : ℕ → ℕ = kind_in c.args.kinds.now in
    let gs = map gather_of c.args.gather.now in
    let left : (c.loop-item.holes < length gs) ⊎ (c.loop-item.holes < length c.args.args.now) =
    elim c.then-holes-gather.either [ inl h ↦ inl (let l = length-map c.args.gather.now gather_of in omega (arith, l)) | inr h ↦ inr h.1 ] in
    let over : items_of c.loop-item.rest.now ≡ [] = c.in_default.ensures.none in
    sym (mixing_end kind c.args.precedence gs c.args.args.now c.loop-item.parts.items c.loop-item.holes left)
    ∙ ap (λ (is : List NameItem). mixing kind c.args.precedence gs c.args.args.now c.loop-item.parts.items is c.loop-item.holes) (sym over)
    ∙ c.loop-item.invariant
    ∙ ap (λ ps. mixing kind c.args.precedence gs c.args.args.now ps (items_of c.args.name.now) 0) c.new-parts.ensures.items
    ∙ mixing_start kind c.args.precedence gs c.args.args.now (items_of c.args.name.now)
