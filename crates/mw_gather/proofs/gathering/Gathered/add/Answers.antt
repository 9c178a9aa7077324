use Rattle.std.proofs.Common.{◌≡◌, ◌∙◌, ◌∷◌, [], List, length, ◌==◌, sym, ap, subst, refl, arith}
use Rattle.mw_logic.specs.Term.{RawTerm, join}
use Rattle.mw_logic.specs.Terms.{terms_of}
use Rattle.mw_logic.specs.TermOrder.{sorted_terms}
use Rattle.mw_logic.specs.NormalForm.{identity_of, elements}
use Rattle.mw_logic.specs.Module.{Module}
use Rattle.mw_canon.specs.Canonical.{IsAdmittedTerm}
use Rattle.mw_arguments.specs.Places.{chosen}
use Rattle.mw_deduction.specs.Replay.{Leaves}
use Rattle.mw_trail.specs.Tracks.{moves}
use Rattle.mw_multiset.proofs.Going.{way}
use Rattle.mw_proof.specs.Deductions.{IsKept, deduced, end_of}
use Rattle.mw_gather.specs.Gatherings.{Gathering, MayAdd, Adds}
use Rattle.mw_gather.proofs.Gathers.{gathered_more, run_more, put_there, parts_among, put_in_order, same_way, empty_told}
use Rattle.mw_gather.proofs.gathering.Gathered.add.Goals as goal

may : (c : goal.In_ok-trail) → MayAdd (record { over = c.self.inside.context.now; operator = c.self.inside.operator; from = c.self.inside.from; elements = c.self.inside.elements.items; run = (end_of c.self.inside.context.now 63 c.self.inside.from c.self.inside.trail).run }) c.args.inner.now
may c = subst (λ (g : Gathering). MayAdd g c.args.inner.now) (sym c.self.view_is) c.requires

chooses : (c : goal.In_ok-trail) → chosen 1 c.in_ok-numbers.numbers.items (terms_of c.self.inside.elements.items) ≡ elements (identity_of c.self.inside.context.now.signature c.self.inside.operator) c.self.inside.operator c.args.inner.now.from
chooses c =
    c.in_ok-numbers.ensures.chosen ∙ c.parts.ensures ∙ ap (λ s. elements (identity_of s c.self.inside.operator) c.self.inside.operator c.from.result.now) c.facts-facts.ensures
    ∙ ap (elements (identity_of c.self.inside.context.now.signature c.self.inside.operator) c.self.inside.operator) c.from.ensures

told : (c : goal.In_ok-trail) → c.is_empty-alone.result ≡ (length c.take_out.new.elements.items == 0)
told c = c.is_empty-alone.ensures ∙ ap (λ (xs : List RawTerm). length xs == 0) c.as_slice.ensures.value

alone : (c : goal.In_ok-trail) → c.take_out.new.elements.items ≡ [] → moves c.self.inside.context.now c.in_ok-next.next ≡ moves c.self.inside.context.now c.in_ok-inner.inner
alone c e = c.in_ok-next.ensures.alone ((empty_told c.take_out.new.elements.items c.is_empty-alone.result (told c)).0 e) c.self.inside.context.now

among : (c : goal.In_ok-trail) → (c.take_out.new.elements.items ≡ [] → ⊥) → Leaves (way c.in_ok-numbers.numbers.items ∷ moves c.self.inside.context.now c.in_ok-inner.inner) (moves c.self.inside.context.now c.in_ok-next.next)
among c n =
    subst (λ m. Leaves (m ∷ moves c.self.inside.context.now c.in_ok-inner.inner) (moves c.self.inside.context.now c.in_ok-next.next)) (same_way c.in_ok-numbers.numbers.items)
    (c.in_ok-next.ensures.beside ((empty_told c.take_out.new.elements.items c.is_empty-alone.result (told c)).1 n) c.self.inside.context.now)

ends : (c : goal.In_ok-trail) → IsAdmittedTerm c.self.inside.context.now.signature c.args.inner.now.to
ends c = subst (λ (X : Module). IsAdmittedTerm X.signature c.args.inner.now.to) (may c).over c.shows.ensures.ends

to_is : (c : goal.In_ok-trail) → c.in_ok-to.to ≡ c.args.inner.now.to
to_is c = c.in_ok-to.ensures ∙ c.to.ensures

come : (c : goal.In_ok-trail) → terms_of c.put.new.done.items ≡ sorted_terms (join (terms_of c.take_out.new.elements.items) (elements (identity_of c.self.inside.context.now.signature c.self.inside.operator) c.self.inside.operator c.args.inner.now.to))
come c =
    let i = c.self.inside in
    put_in_order i.context.now i.operator i.from i.elements.items i.trail c.self.invariant c.take_out.new.elements.items c.put.new.done.items c.in_ok-numbers.numbers.items c.facts-facts.result.now c.in_ok-to.to c.facts-facts.ensures c.in_ok-numbers.ensures.left
    (subst (IsAdmittedTerm i.context.now.signature) (sym (to_is c)) (ends c)) (λ a b. c.in_ok-put.ensures.own (omega arith) a b)
    ∙ ap (λ x. sorted_terms (join (terms_of c.take_out.new.elements.items) (elements (identity_of i.context.now.signature i.operator) i.operator x))) (to_is c)

kept_there : (c : goal.In_ok-trail) → IsKept c.args.inner.now.over c.args.inner.now.rank c.args.inner.now.from c.args.inner.now.to c.in_ok-inner.inner
kept_there c = subst (IsKept c.args.inner.now.over c.args.inner.now.rank c.args.inner.now.from c.args.inner.now.to) (sym c.in_ok-inner.ensures) c.trail-2.ensures.kept

is_there : (c : goal.In_ok-trail) → c.args.inner.now ≡ deduced c.args.inner.now.over c.args.inner.now.rank c.args.inner.now.from c.args.inner.now.to c.in_ok-inner.inner
is_there c = subst (λ k. c.args.inner.now ≡ deduced c.args.inner.now.over c.args.inner.now.rank c.args.inner.now.from c.args.inner.now.to k) (sym c.in_ok-inner.ensures) c.trail-2.ensures.is

pub take_out-requires-clause-among : goal.take_out-requires-clause-among
take_out-requires-clause-among c =
    let i = c.self.inside in
    let r : MayAdd (record { over = i.context.now; operator = i.operator; from = i.from; elements = i.elements.items; run = (end_of i.context.now 63 i.from i.trail).run }) c.args.inner.now =
    subst (λ (g : Gathering). MayAdd g c.args.inner.now) (sym c.self.view_is) c.requires in
    parts_among i.context.now i.operator i.from i.elements.items i.trail c.self.invariant c.args.inner.now.from r.rest (subst (λ (X : Module). IsAdmittedTerm X.signature c.args.inner.now.from) r.over c.shows.ensures.begins) r.there
    c.facts-facts.result.now c.parts.result.now c.facts-facts.ensures
    (c.parts.ensures ∙ ap (λ t. elements (identity_of c.facts-facts.result.now i.operator) i.operator t) c.from.ensures)

pub invariant_of-result : goal.invariant_of-result
invariant_of-result c =
    let i = c.self.inside in
    let r = may c in
    gathered_more i.context.now i.operator i.from i.elements.items i.trail c.self.invariant c.args.inner.now c.in_ok-inner.inner (kept_there c) (is_there c) r.over r.rest r.there r.filled r.under r.shallow
    c.in_ok-numbers.numbers.items c.in_ok-numbers.ensures.rise (chooses c) c.take_out.new.elements.items c.in_ok-numbers.ensures.left c.in_ok-next.next (alone c) (among c) c.put.new.done.items (come c) c.in_ok-trail.trail (c.in_ok-trail.ensures.moves i.context.now)

pub returns : goal.returns
returns c =
    let i = c.self.inside in
    let r = may c in
    let last : Gathering = record { over = i.context.now; operator = i.operator; from = i.from; elements = c.put.new.done.items; run = (end_of i.context.now 63 i.from c.in_ok-trail.trail).run } in
    subst (λ (g : Gathering). Adds g c.args.inner.now last) c.self.view_is (record {
      over = refl;
      operator = refl;
      from = refl;
      rest = r.rest;
      taken = r.there;
      put = put_there i.context.now i.operator i.from i.elements.items i.trail c.self.invariant c.args.inner.now c.in_ok-inner.inner (kept_there c) (is_there c) r.over r.rest r.there r.filled r.under r.shallow
          c.in_ok-numbers.numbers.items c.in_ok-numbers.ensures.rise (chooses c) c.take_out.new.elements.items c.in_ok-numbers.ensures.left c.in_ok-next.next (alone c) (among c) c.put.new.done.items (come c) c.in_ok-trail.trail (c.in_ok-trail.ensures.moves i.context.now);
      run = run_more i.context.now i.operator i.from i.elements.items i.trail c.self.invariant c.args.inner.now c.in_ok-inner.inner (kept_there c) (is_there c) r.over r.rest r.there r.filled r.under r.shallow
          c.in_ok-numbers.numbers.items c.in_ok-numbers.ensures.rise (chooses c) c.take_out.new.elements.items c.in_ok-numbers.ensures.left c.in_ok-next.next (alone c) (among c) c.put.new.done.items (come c) c.in_ok-trail.trail (c.in_ok-trail.ensures.moves i.context.now);
    })
