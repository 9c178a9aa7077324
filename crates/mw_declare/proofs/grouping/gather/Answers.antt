use Rattle.std.proofs.Common.{◌≡◌, ◌≢◌, ◌∙◌, ap, sym, map}
use Rattle.mw_term.specs.Signatures.{gather_of}
use Rattle.mw_text.specs.Names.{items_of, count_holes}
use Rattle.mw_declare.specs.Grouping.{gather_of_mark}
use Rattle.mw_declare.proofs.Holes.{with_holes, without_holes}
use Rattle.mw_declare.proofs.grouping.gather.Goals as goal

pub returns-in_ok-said_gather-in-Some : goal.returns-in_ok-said_gather-in-Some
returns-in_ok-said_gather-in-Some c =
    let some : count_holes (items_of c.args.spelling.now) ≢ 0 = rw (← c.holes.ensures) c.if-holes-ne0.true in
    ap (map gather_of) c.of.ensures ∙ c.in_ok-said_gather-in-Some.ensures ∙ ap (map gather_of_mark) c.as_slice.ensures ∙ sym (with_holes c.args.said.now _ c.in-Some.is c.args.assoc (items_of c.args.spelling.now) some)

pub returns-in-Some-2 : goal.returns-in-Some-2
returns-in-Some-2 c =
    let none : count_holes (items_of c.args.spelling.now) ≡ 0 = sym c.holes.ensures ∙ c.if-holes-ne0.false in
    ap (map gather_of) c.of-in-Some-2.ensures ∙ ap (map gather_of) c.new.ensures.items ∙ sym (without_holes c.args.said.now _ c.in-Some-2.is c.args.assoc (items_of c.args.spelling.now) none)
