use Rattle.std.proofs.Common.{subst, sym}
use Rattle.mw_term.specs.Raws.{raw_term}
use Rattle.mw_omod.specs.Completion.{LeftBecomes, other_left}
use Rattle.mw_omod.proofs.Arguments.{if_ok}
use Rattle.mw_omod.proofs.Becoming.{other_is, object_is, kept_becomes, removed_becomes}
use Rattle.mw_omod.proofs.completing.left_element.Goals as goal

pub returns-in-Some-named : goal.returns-in-Some-named
returns-in-Some-named c = λ sig right ok kept of.
    if_ok c.kept_object.result (λ t e.
    kept_becomes sig ok c.args.classes.now right c.args.rights.now of c.args.number (raw_term c.args.element.now.term.now) (raw_term t) c.in-Some.object c.in-Some-named.found.object.now c.in-Some-named.found.index
    (object_is sig ok c.args.classes.now c.args.element.now c.in-Some.object kept c.in-Some.is) c.in-Some-named.ensures.0 c.in-Some-named.ensures.1 e) c.kept_object.ensures

pub returns-in-None-named : goal.returns-in-None-named
returns-in-None-named c = λ sig right ok kept of.
    if_ok c.removed_object.result (λ t e.
    removed_becomes sig ok c.args.classes.now right c.args.rights.now of c.args.number (raw_term c.args.element.now.term.now) (raw_term t) c.in-Some.object
    (object_is sig ok c.args.classes.now c.args.element.now c.in-Some.object kept c.in-Some.is) c.in-None-named.ensures e) c.removed_object.ensures

pub returns-in-None : goal.returns-in-None
returns-in-None c = λ sig right ok kept of.
    if_ok c.copied.result (λ t e.
    subst (LeftBecomes sig c.args.classes.now right c.args.number (raw_term c.args.element.now.term.now)) (sym e)
    (other_left (raw_term c.args.element.now.term.now) (other_is sig ok c.args.classes.now c.args.element.now kept c.in-None.is))) c.copied.ensures
