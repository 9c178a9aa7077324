use Rattle.std.proofs.Common.{◌∙◌, List, ℕ, ap, refl}
use Rattle.mw_logic.specs.Term.{Variable}
use Rattle.mw_text.specs.Mentions.{with_variable}
use Rattle.mw_text.proofs.Keys.{held_insert, keys_held}
use Rattle.mw_text.proofs.variables.Variables.meet.Goals as goal

pub returns : goal.returns
returns c =
    let key = c.in_ok-name.ensures.items_if_clones_equal (λ x y e. e) in
    record {
      variables = ap keys_held c.in_ok-insert.ensures.keys ∙ held_insert _ (λ k l. refl) c.deref_mut.result.now.keys (record { name = c.in_ok-name.name; sort = c.args.sort })
          ∙ ap (λ (n : List ℕ). with_variable (keys_held c.deref_mut.result.now.keys) (record { name = n; sort = c.args.sort })) key
          ∙ ap (λ s. with_variable (keys_held s.keys) (record { name = c.args.name.now; sort = c.args.sort })) c.deref_mut.ensures.value
          ∙ ap (λ (xs : List Variable). with_variable xs (record { name = c.args.name.now; sort = c.args.sort })) c.self.view_is;
    }
