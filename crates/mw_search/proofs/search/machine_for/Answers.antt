use Rattle.std.proofs.Common.{◌∙◌, [], ◌++◌, ap, sym}
use Rattle.std.proofs.lemmas.List.{append-nil}
use Rattle.mw_matching.specs.Found.{found}
use Rattle.mw_search.proofs.search.machine_for.Goals as goal

pub returns-then-clashes-clause-starts : goal.returns-then-clashes-clause-starts
returns-then-clashes-clause-starts c = λ ps.
    let sig = c.args.facts.now in
    let none = c.clashes.ensures c.if-clashes.true ps.single.items [] in
    let given = ap (found sig ps.single.items c.args.pattern c.args.term) (sym (append-nil c.args.given.items)) in
    let seen = ap (λ vs. found sig ps.single.items c.args.pattern c.args.term (vs ++ [])) c.as_slice.ensures.value in
    c.ended.ensures.ends sig ps ∙ sym (given ∙ sym seen ∙ none)

pub returns-then-clashes-clause-ready : goal.returns-then-clashes-clause-ready
returns-then-clashes-clause-ready c = λ ps. c.ended.ensures.ready c.args.facts.now ps

pub returns-clause-ready : goal.returns-clause-ready
returns-clause-ready c = λ ps. c.in_ok-machine.ensures.ready c.args.facts.now ps
