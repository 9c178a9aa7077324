use Rattle.std.proofs.Common.{◌≡◌, ◌∙◌, ap, subst, sym}
use Rattle.std.specs.List.{Contains}
use Rattle.mw_store.specs.Tables.{all_terms, sought_term}
use Rattle.mw_store.proofs.Numbering.{numbers_new}
use Rattle.mw_store.proofs.nodes.Nodes.keep.Goals as goal

pub put_sought-requires-clause-new : goal.put_sought-requires-clause-new
put_sought-requires-clause-new c =
    let e : c.in_ok-term-in-Free.term ≡ sought_term (all_terms c.make_room.new.self) c.args.sought.now = c.in_ok-term-in-Free.ensures ∙ c.requires.is ∙ ap (λ x. sought_term x c.args.sought.now) (sym c.make_room.ensures.same) in
    λ h. c.in-Free.ensures.0 (subst (Contains (all_terms c.make_room.new.self)) e h)

pub returns-in_ok-term-in-Free-clause-ok : goal.returns-in_ok-term-in-Free-clause-ok
returns-in_ok-term-in-Free-clause-ok c =
    let e : c.in_ok-term-in-Free.term ≡ sought_term (all_terms c.make_room.new.self) c.args.sought.now = c.in_ok-term-in-Free.ensures ∙ c.requires.is ∙ ap (λ x. sought_term x c.args.sought.now) (sym c.make_room.ensures.same) in
    numbers_new (all_terms c.args.self.now) (all_terms c.make_room.new.self) (all_terms c.put_sought.new.self) c.in_ok-term-in-Free.term c.args.term.now c.put_sought.result c.make_room.ensures.same c.in_ok-term-in-Free.ensures
    (λ h. c.in-Free.ensures.0 (subst (Contains (all_terms c.make_room.new.self)) e h)) c.put_sought.ensures.ok
