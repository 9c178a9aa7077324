use Rattle.mw_top.proofs.Sessions.{taken_as}
use Rattle.mw_top.proofs.session.Session.is_taken.Goals as goal

pub returns : goal.returns
returns c = taken_as c.args.self.now.modules c.args.name.now c.is_some.result (λ m. m.now) c.named.result c.named.ensures c.is_some.ensures
