use Rattle.std.proofs.Common.{◌≡◌, ◌∙◌, ◌⊎◌, inl, inr, sym, ap}
use Rattle.mw_logic.specs.Signature.{Operator}
use Rattle.mw_grammar.specs.Notations.{Notation}
use Rattle.mw_grammar.specs.Notations.{tail_notation}
use Rattle.mw_grammar.specs.Readable.{kind_in}
use Rattle.mw_grammar.proofs.Writing.{Tails, adds_more, adds_notations, of_whole, whole_alone, tails_to, tails_from}
use Rattle.mw_grammar.proofs.notations.add_operator.Goals as goal

pub returns-in_ok-add_tail-2 : goal.returns-in_ok-add_tail-2
returns-in_ok-add_tail-2 c =
    let o = c.args.operator.now in
    let kind = kind_in c.args.kinds.now in
    let assoc = ap (λ (p : Operator). p.assoc) (sym c.operator.view_is) ∙ c.if-operator.true in
    let its = c.kind_of-kind.ensures ∙ ap (λ (p : Operator). kind p.result) c.operator.view_is in
    let to : (F : Notation) → (F ≡ tail_notation kind c.args.last c.args.f o c.kind_of-kind.result) ⊎ (F ≡ tail_notation kind c.args.last c.args.f o c.args.last) → Tails kind c.args.last c.args.f o F =
    λ F h. elim h [ inl e ↦ inl (e ∙ ap (tail_notation kind c.args.last c.args.f o) its) | inr e ↦ inr e ] in
    let from : (F : Notation) → Tails kind c.args.last c.args.f o F → (F ≡ tail_notation kind c.args.last c.args.f o c.kind_of-kind.result) ⊎ (F ≡ tail_notation kind c.args.last c.args.f o c.args.last) =
    λ F h. elim h [ inl e ↦ inl (e ∙ ap (tail_notation kind c.args.last c.args.f o) (sym its)) | inr e ↦ inr e ] in
    adds_more _ _ _ _ _ _ _ _ _ (tails_to kind c.args.last c.args.f o assoc) (tails_from kind c.args.last c.args.f o) c.in_ok-add_whole.ensures
    (adds_more _ _ _ _ _ _ _ _ _ to from c.in_ok-add_tail.ensures c.in_ok-add_tail-2.ensures)

pub returns-else-operator : goal.returns-else-operator
returns-else-operator c =
    let o = c.args.operator.now in
    let none = ap (λ (p : Operator). p.assoc) (sym c.operator.view_is) ∙ c.if-operator.false in
    adds_notations _ _ _ _ _ _ (of_whole (kind_in c.args.kinds.now) c.args.last c.args.f o) (whole_alone (kind_in c.args.kinds.now) c.args.last c.args.f o none) c.in_ok-add_whole.ensures
