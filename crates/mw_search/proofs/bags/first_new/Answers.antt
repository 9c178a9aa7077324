use Rattle.std.proofs.Common.{◌≡◌, ◌∙◌, sym, arith, length}
use Rattle.mw_logic.specs.Term.{RawTerms}
use Rattle.mw_logic.specs.Terms.{terms_of}
use Rattle.mw_logic.specs.Parts.{number_of_terms}
use Rattle.mw_search.proofs.BagLists.{number_terms, news_here, news_behind, news_none}
use Rattle.mw_search.proofs.bags.first_new.Goals as goal

pub returns-then-is_new : goal.returns-then-is_new
returns-then-is_new c =
    let zs : RawTerms = terms_of c.args.elements.now in
    let n : number_of_terms zs ≡ length c.args.elements.now = number_terms c.args.elements.now in
    (c.loop-i-test.true, c.loop-i.invariant ∙ news_here zs c.loop-i.i (number_of_terms zs) (omega arith) (sym c.is_new.ensures ∙ c.if-is_new.true), sym c.is_new.ensures ∙ c.if-is_new.true)

pub loop-i-preserved : goal.loop-i-preserved
loop-i-preserved c =
    let zs : RawTerms = terms_of c.args.elements.now in
    let n : number_of_terms zs ≡ length c.args.elements.now = number_terms c.args.elements.now in
    c.loop-i.invariant ∙ news_behind zs c.loop-i.i (number_of_terms zs) (omega arith) (sym c.is_new.ensures ∙ c.if-is_new.false)

pub returns : goal.returns
returns c =
    let zs : RawTerms = terms_of c.args.elements.now in
    let n : number_of_terms zs ≡ length c.args.elements.now = number_terms c.args.elements.now in
    c.loop-i.invariant ∙ news_none zs c.loop-i.i (number_of_terms zs) (omega arith)
