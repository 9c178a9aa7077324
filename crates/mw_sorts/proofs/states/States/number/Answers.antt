use Rattle.std.proofs.Common.{◌≡◌, ◌∙◌, ℕ, List, ap, sym, subst}
use Rattle.std.specs.Prelude.{Some}
use Rattle.std.specs.Global.{Vec}
use Rattle.mw_sorts.specs.States.{AreKept}
use Rattle.mw_sorts.proofs.Getting.{get-map}
use Rattle.mw_sorts.proofs.Numbering.{held, Holds, holds, holds-states, same_numbers}
use Rattle.mw_sorts.proofs.states.States.number.Goals as goal

pub returns-clause-number : goal.returns-clause-number
returns-clause-number c =
    let h = c.in_ok-number.ensures.stored in
    let e : h.0.items ≡ c.args.alive.items = sym (same_numbers c.args.alive.items h.0.items h.2) in
    get-map (λ (l : Vec ℕ). l.items) c.insert_full.new.self.keys c.in_ok-number.number h.0 h.1 ∙ ap Some e

pub returns-clause-kept : goal.returns-clause-kept
returns-clause-kept c = subst (λ (s : List (List ℕ)). AreKept s (held c.insert_full.new.self.keys)) c.self.view_is (holds _ c.self.inside.lists.keys c.insert_full.new.self.keys c.args.alive c.in_ok-number.ensures.keys).kept

pub returns-clause-only : goal.returns-clause-only
returns-clause-only c = (subst (λ (s : List (List ℕ)). Holds s (held c.insert_full.new.self.keys) c.args.alive.items) c.self.view_is (holds _ c.self.inside.lists.keys c.insert_full.new.self.keys c.args.alive c.in_ok-number.ensures.keys)).only

pub returns-clause-states : goal.returns-clause-states
returns-clause-states c =
    holds-states c.args.self.now (held c.insert_full.new.self.keys) c.args.alive.items
    (subst (λ (s : List (List ℕ)). Holds s (held c.insert_full.new.self.keys) c.args.alive.items) c.self.view_is (holds _ c.self.inside.lists.keys c.insert_full.new.self.keys c.args.alive c.in_ok-number.ensures.keys))
