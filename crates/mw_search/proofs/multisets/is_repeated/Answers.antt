use Rattle.std.proofs.Common.{◌∙◌, ap, sym}
use Rattle.std.proofs.lemmas.Bool.{eqb-true}
use Rattle.mw_logic.specs.Term.{Variable}
use Rattle.mw_term.specs.Shapes.{viewed}
use Rattle.mw_search.proofs.BagLists.{number_terms}
use Rattle.mw_search.proofs.multisets.is_repeated.Goals as goal

pub returns : goal.returns
returns c = λ w. record {
  first = c.in-Var.x.now;
  is = c.view.ensures ∙ ap viewed c.in-Var.is;
  comes = ap (λ (y : Variable). y.sort) (sym c.x.view_is) ∙ c.if-x-count.false;
  all = sym c.times.ensures.times ∙ eqb-true _ _ w ∙ sym (number_terms c.args.left.now);
}
