use Rattle.mw_grammar.specs.AloneTerms.{alone_term}
use Rattle.mw_grammar.proofs.Added.{adds_one}
use Rattle.mw_grammar.proofs.leaves.push_leaf.Goals as goal

pub returns : goal.returns
returns c =
    adds_one c.args.leaves.now c.meet.new.self c.args.found.now.items c.push.new.self.items (record { state = c.args.kind; value = c.in_ok-value.value }) (alone_term c.args.term)
    c.in_ok-value.ensures.leaves c.in_ok-value.ensures.differ c.in_ok-value.ensures.place c.in_ok-push.ensures.items
