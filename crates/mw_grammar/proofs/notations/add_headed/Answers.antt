use Rattle.std.proofs.Common.{◌∙◌, sym, ap}
use Rattle.mw_logic.specs.Signature.{Operator}
use Rattle.mw_grammar.specs.Readable.{kind_in}
use Rattle.mw_grammar.specs.Notations.{head_of}
use Rattle.mw_grammar.proofs.Writing.{adds_more, headed_to, headed_from}
use Rattle.mw_grammar.proofs.notations.add_headed.Goals as goal

pub returns-in_ok-add_flattened : goal.returns-in_ok-add_flattened
returns-in_ok-add_flattened c =
    let o = c.args.operator.now in
    let head = head_of o.spelling c.args.in_pieces in
    let assoc = ap (λ (p : Operator). p.assoc) (sym c.operator.view_is) ∙ c.if-operator.true in
    adds_more _ _ _ _ _ _ _ _ _ (headed_to (kind_in c.args.kinds.now) c.args.last c.args.f o assoc head) (headed_from (kind_in c.args.kinds.now) c.args.last c.args.f o head)
    c.in_ok-add_prefix.ensures c.in_ok-add_flattened.ensures
