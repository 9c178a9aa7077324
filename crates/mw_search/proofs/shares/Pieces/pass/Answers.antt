use Rattle.std.proofs.Common.{refl}
use Rattle.mw_search.specs.declared.shares.Pieces.{Pieces}
use Rattle.mw_search.proofs.Sharing.{parts_pass}
use Rattle.mw_search.proofs.shares.Pieces.pass.Goals as goal

pub returns : goal.returns
returns c =
    let new : Pieces = record { pattern = c.args.self.now.pattern; then = c.args.self.now.then; identity = c.args.self.now.identity; parts = c.pass.new.self } in
    parts_pass c.args.self.now new refl refl refl c.pass.ensures.elements c.pass.ensures.remaining
