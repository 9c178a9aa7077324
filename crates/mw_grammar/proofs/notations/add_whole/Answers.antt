use Rattle.std.proofs.Common.{◌≡◌, ◌∙◌, ◌∷◌, [], List, ℕ, true, false, sym, ap, subst}
use Rattle.mw_logic.specs.Signature.{Operator}
use Rattle.mw_text.specs.Names.{items_of, has_hole, pieces}
use Rattle.mw_grammar.specs.Readable.{kind_in}
use Rattle.mw_grammar.proofs.Writing.{adds_more, adds_notations, mixed_to, mixed_from, plain_to, plain_from, once_to, once_from}
use Rattle.mw_grammar.proofs.notations.add_whole.Goals as goal

pub returns-in_ok-add_mixfix : goal.returns-in_ok-add_mixfix
returns-in_ok-add_mixfix c =
    let o = c.args.operator.now in
    let name = c.as_slice-name.ensures ∙ ap (λ (p : Operator). p.spelling) c.operator.view_is in
    let hole : has_hole (items_of o.spelling) ≡ true = ap (λ (n : List ℕ). has_hole (items_of n)) (sym name) ∙ sym c.has_hole.ensures ∙ c.if-has_hole.true in
    adds_more _ _ _ _ _ _ _ _ _ (mixed_to (kind_in c.args.kinds.now) c.args.last c.args.f o hole) (mixed_from (kind_in c.args.kinds.now) c.args.last c.args.f o hole)
    c.in_ok-add_headed.ensures c.in_ok-add_mixfix.ensures

pub returns-in_ok-add_headed-2 : goal.returns-in_ok-add_headed-2
returns-in_ok-add_headed-2 c =
    let o = c.args.operator.now in
    let name = c.as_slice-name.ensures ∙ ap (λ (p : Operator). p.spelling) c.operator.view_is in
    let none : has_hole (items_of o.spelling) ≡ false = ap (λ (n : List ℕ). has_hole (items_of n)) (sym name) ∙ sym c.has_hole.ensures ∙ c.if-has_hole.false in
    adds_more _ _ _ _ _ _ _ _ _ (plain_to (kind_in c.args.kinds.now) c.args.last c.args.f o none) (plain_from (kind_in c.args.kinds.now) c.args.last c.args.f o none)
    c.in_ok-add_headed.ensures c.in_ok-add_headed-2.ensures

pub returns-else-not-is_one_piece : goal.returns-else-not-is_one_piece
returns-else-not-is_one_piece c =
    let o = c.args.operator.now in
    let name = c.as_slice-name.ensures ∙ ap (λ (p : Operator). p.spelling) c.operator.view_is in
    let none : has_hole (items_of o.spelling) ≡ false = ap (λ (n : List ℕ). has_hole (items_of n)) (sym name) ∙ sym c.has_hole.ensures ∙ c.if-has_hole.false in
    let one : pieces (items_of o.spelling) ≡ o.spelling ∷ [] = subst (λ (n : List ℕ). pieces (items_of n) ≡ n ∷ []) name (c.is_one_piece.ensures c.if-not-is_one_piece.false) in
    adds_notations _ _ _ _ _ _ (once_to (kind_in c.args.kinds.now) c.args.last c.args.f o) (once_from (kind_in c.args.kinds.now) c.args.last c.args.f o none one) c.in_ok-add_headed.ensures
