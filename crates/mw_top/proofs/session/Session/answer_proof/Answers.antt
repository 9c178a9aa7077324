use Rattle.std.proofs.Common.{◌∙◌, ap, not, refl, subst, sym, Ok, false}
use Rattle.std.proofs.lemmas.Bool.{both_ways}
use Rattle.std.proofs.lemmas.Slice.Eq.{bytes_eq-Decides}
use Rattle.mw_module.specs.Units.{seen_unit}
use Rattle.mw_top.specs.declared.purpose.Purpose.TheVariants.{Check}
use Rattle.mw_top.specs.Sources.{Gives, passed}
use Rattle.mw_top.proofs.Judging.{judged_gives, equal_words}
use Rattle.mw_top.proofs.session.Session.answer_proof.Goals as goal

pub returns-then-ne : goal.returns-then-ne
returns-then-ne c =
    let u = seen_unit c.args.unit.now in
    subst (λ t. Gives (Check c.args.max) c.args.self.now (Ok u) t false c.args.self.now) (sym c.new.ensures.items)
    (passed c.args.max u refl c.requires.unnamed (λ e. both_ways _ (c.ne.ensures ∙ ap not ((bytes_eq-Decides c.args.unit.now.word.now c.as_bytes.result.now).1 (e ∙ sym c.as_bytes.ensures.value))) c.if-ne.true))

pub returns : goal.returns
returns c =
    judged_gives c.args.max c.args.self.now (record { units = c.self.inside.units; modules = c.self.inside.modules.items; proofs = c.self.inside.proofs }) (seen_unit c.args.unit.now) c.in_ok-found.found c.in_ok-number.number c.in_ok-text.text.items c.is_no.result
    c.requires.unnamed (equal_words c.args.unit.now.word.now c.as_bytes.result.now (sym c.ne.ensures ∙ c.if-ne.false) ∙ c.as_bytes.ensures.value) (c.self.view_is ∙ c.in_ok-found.ensures.same) c.in_ok-number.ensures c.in_ok-text.ensures c.is_no.ensures c.in_ok-found.ensures.judged
