use Rattle.std.proofs.Common.{◌∙◌, length, ap, arith, subst}
use Rattle.mw_store.specs.Tables.{all_terms, sought_hash, sought_term, CanBeSought}
use Rattle.mw_store.proofs.Numbering.{below_more}
use Rattle.mw_store.proofs.Keeping.{keyed_by, terms-length}
use Rattle.mw_store.proofs.nodes.Nodes.put_sought.Goals as goal

pub put-requires-in-Node-clause-keyed : goal.put-requires-in-Node-clause-keyed
put-requires-in-Node-clause-keyed c =
    let ks = c.args.self.now.kept.items in
    keyed_by (all_terms c.args.self.now) c.key_of.new.arguments.items (length ks) c.args.hash c.args.term c.in-Node.operator c.in-Node.arguments.now c.in_ok-key-in-Node.key c.in_ok-key-in-Node.ensures.ok
    (record {
      below = below_more (length (all_terms c.args.self.now)) (length ks) c.in-Node.arguments.now (omega (arith, terms-length ks)) (subst (CanBeSought (all_terms c.args.self.now)) c.in-Node.is c.requires.can);
      term = c.requires.is ∙ ap (sought_term (all_terms c.args.self.now)) c.in-Node.is;
      hashed = c.requires.hash ∙ ap sought_hash c.in-Node.is;
    })
