use Rattle.std.proofs.Common.{◌+◌, refl}
use Rattle.mw_logic.specs.Terms.{terms_of}
use Rattle.mw_search.specs.declared.shares.Singles.{Singles}
use Rattle.mw_search.proofs.Sharing.{heads_pass}
use Rattle.mw_search.proofs.shares.Singles.pass.Goals as goal

pub returns-in-Some : goal.returns-in-Some
returns-in-Some c =
    let old : Singles = c.args.self.now in
    let new : Singles = record { pattern = old.pattern; then = old.then; bag = old.bag; next = c.in-Some.at + 1 } in
    heads_pass old new (terms_of c.elements.result.now) c.in-Some.at refl c.elements.ensures c.in-Some.ensures.1
