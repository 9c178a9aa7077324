use Rattle.std.proofs.Common.{◌≡◌, ◌∙◌, ℕ, Ok, ap, subst, sym, drop}
use Rattle.std.specs.List.{Contains}
use Rattle.mw_logic.specs.Term.{apply}
use Rattle.mw_logic.specs.Terms.{terms_of}
use Rattle.mw_store.specs.Numbers.{terms_at}
use Rattle.mw_store.specs.Tables.{all_terms}
use Rattle.mw_store.proofs.Numbering.{numbers_new}
use Rattle.mw_store.proofs.nodes.Nodes.make_behind.Goals as goal

pub put_sought-requires-clause-new : goal.put_sought-requires-clause-new
put_sought-requires-clause-new c =
    let e : c.in_ok-term-in-Free.term ≡ apply c.args.operator (terms_of (terms_at (all_terms c.make_room.new.self) c.args.arguments.now)) = c.in_ok-term-in-Free.ensures.is ∙ sym (ap (λ xs. apply c.args.operator (terms_of xs)) (ap (λ xs. terms_at xs c.args.arguments.now) c.make_room.ensures.same ∙ c.requires.are)) in
    λ h. c.in-Free.ensures.0 (subst (Contains (all_terms c.make_room.new.self)) e h)

pub returns-in_ok-number-in-Free-clause-ok : goal.returns-in_ok-number-in-Free-clause-ok
returns-in_ok-number-in-Free-clause-ok c =
    let e : c.in_ok-term-in-Free.term ≡ apply c.args.operator (terms_of (terms_at (all_terms c.make_room.new.self) c.args.arguments.now)) = c.in_ok-term-in-Free.ensures.is ∙ sym (ap (λ xs. apply c.args.operator (terms_of xs)) (ap (λ xs. terms_at xs c.args.arguments.now) c.make_room.ensures.same ∙ c.requires.are)) in
    numbers_new {E = ℕ} (all_terms c.args.self.now) (all_terms c.make_room.new.self) (all_terms c.put_sought.new.self) c.in_ok-term-in-Free.term (apply c.args.operator (terms_of (drop c.args.from c.args.terms.now.items))) (Ok c.in_ok-number-in-Free.number) c.make_room.ensures.same c.in_ok-term-in-Free.ensures.is
    (λ h. c.in-Free.ensures.0 (subst (Contains (all_terms c.make_room.new.self)) e h)) c.in_ok-number-in-Free.ensures.ok
