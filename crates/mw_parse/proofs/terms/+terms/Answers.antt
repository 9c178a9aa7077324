use Rattle.std.proofs.Common.{subst}
use Rattle.mw_grammar.specs.Meaning.{term_of}
use Rattle.mw_parse.specs.Tops.{IsTop}
use Rattle.mw_parse.proofs.Exactness.{top_more}
use Rattle.mw_parse.proofs.terms.+terms.Goals as goal

pub spine-returns-in_ok-push-in-App : goal.spine-returns-in_ok-push-in-App
spine-returns-in_ok-push-in-App t c =
    subst (λ b. IsTop c.in_ok-top-in-App.top c.push.new.self.items (term_of c.args.leaves.now b)) c.in-App.ensures
    (top_more c.args.leaves.now c.in-App.first.now c.in-App.last.now c.in_ok-top-in-App.top c.spine.new.args.items c.push.new.self.items c.in_ok-last-in-App.last c.in_ok-top-in-App.ensures c.in_ok-last-in-App.ensures c.in_ok-push-in-App.ensures.items)
