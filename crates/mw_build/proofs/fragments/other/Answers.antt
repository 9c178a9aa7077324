use Rattle.std.proofs.Common.{Option, MatchOption, subst}
use Rattle.mw_term.specs.Signatures.{sorted_of}
use Rattle.mw_module.specs.Words.{texts}
use Rattle.mw_build.specs.declared.fragments.Test.{Test}
use Rattle.mw_build.specs.Fragments.{IsTest, IsNoTest}
use Rattle.mw_build.proofs.fragments.other.Goals as goal

pub returns-in-Some : goal.returns-in-Some
returns-in-Some c = λ sig variables grammar.
    c.tested.ensures sig variables c.args.tokens.now grammar
    (subst (λ (o : Option Test). MatchOption o (IsNoTest sig (texts c.args.tokens.now)) (λ t. IsTest sig (texts c.args.tokens.now) (texts t.term.now) (sorted_of t.sorted))) c.in-Some.is
    (c.in_ok-test.ensures sig variables grammar))

pub returns-in-None : goal.returns-in-None
returns-in-None c = λ sig variables grammar.
    c.truth.ensures sig variables grammar
    (subst (λ (o : Option Test). MatchOption o (IsNoTest sig (texts c.args.tokens.now)) (λ t. IsTest sig (texts c.args.tokens.now) (texts t.term.now) (sorted_of t.sorted))) c.in-None.is
    (c.in_ok-test.ensures sig variables grammar))
