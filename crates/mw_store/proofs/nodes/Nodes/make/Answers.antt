use Rattle.std.proofs.Common.{◌≡◌, ◌∙◌, ap, subst}
use Rattle.std.specs.List.{Contains}
use Rattle.mw_logic.specs.Term.{apply}
use Rattle.mw_logic.specs.Terms.{terms_of}
use Rattle.mw_store.specs.Numbers.{terms_at}
use Rattle.mw_store.specs.Tables.{all_terms, terms_in}
use Rattle.mw_store.proofs.Numbering.{numbers_new}
use Rattle.mw_store.proofs.nodes.Nodes.make.Goals as goal

pub put_sought-requires-clause-new : goal.put_sought-requires-clause-new
put_sought-requires-clause-new c =
    let e : c.in_ok-term-in-Free.term ≡ apply c.args.operator (terms_of (terms_at (all_terms c.make_room.new.self) c.args.arguments.now)) = c.in_ok-term-in-Free.ensures ∙ ap (λ ks. apply c.args.operator (terms_of (terms_at (terms_in ks) c.args.arguments.now))) c.as_slice-kept.ensures.value in
    λ h. c.in-Free.ensures.0 (subst (Contains (all_terms c.make_room.new.self)) e h)

pub returns-in_ok-term-in-Free-clause-ok : goal.returns-in_ok-term-in-Free-clause-ok
returns-in_ok-term-in-Free-clause-ok c =
    let e : c.in_ok-term-in-Free.term ≡ apply c.args.operator (terms_of (terms_at (all_terms c.make_room.new.self) c.args.arguments.now)) = c.in_ok-term-in-Free.ensures ∙ ap (λ ks. apply c.args.operator (terms_of (terms_at (terms_in ks) c.args.arguments.now))) c.as_slice-kept.ensures.value in
    let d : c.in_ok-term-in-Free.term ≡ apply c.args.operator (terms_of (terms_at (all_terms c.args.self.now) c.args.arguments.now)) = e ∙ ap (λ xs. apply c.args.operator (terms_of (terms_at xs c.args.arguments.now))) c.make_room.ensures.same in
    numbers_new (all_terms c.args.self.now) (all_terms c.make_room.new.self) (all_terms c.put_sought.new.self) c.in_ok-term-in-Free.term _ c.put_sought.result c.make_room.ensures.same d
    (λ h. c.in-Free.ensures.0 (subst (Contains (all_terms c.make_room.new.self)) e h)) c.put_sought.ensures.ok
