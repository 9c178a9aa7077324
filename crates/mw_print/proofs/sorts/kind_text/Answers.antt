use Rattle.std.proofs.Common.{ℕ, ◌≡◌, ◌++◌, ◌∷◌, ◌∙◌, List, [], map, ap, subst}
use Rattle.std.specs.Prelude.{◌↔◌}
use Rattle.std.specs.List.{join_with_byte}
use Rattle.mw_logic.specs.Signature.{Member}
use Rattle.mw_poset.specs.SortOrder.{SortOrder}
use Rattle.mw_poset.specs.Order.{IsSort, IsMaximalIn}
use Rattle.mw_print.specs.Sorts.{maximal_sorts, name_in_kind}
use Rattle.mw_print.proofs.Maximal.{maximal_are}
use Rattle.mw_print.proofs.sorts.kind_text.Goals as goal

pub returns : goal.returns
returns c =
    let sig = c.args.signature.now in
    let found = c.in_ok-maximal.maximal.items in
    let listed = subst (λ (o : SortOrder). (T : ℕ) → Member T found ↔ IsMaximalIn o.pairs c.args.kind T) c.requires.order c.in_ok-maximal.ensures.listed in
    let within = subst (λ (o : SortOrder). (T : ℕ) → Member T found → IsSort o.sorts T) c.requires.order c.in_ok-maximal.ensures.within in
    let are = c.as_slice.ensures.value ∙ maximal_are sig c.args.kind found listed within c.in_ok-maximal.ensures.in_order in
    let begun : c.push.new.self.items ≡ 91 ∷ [] = c.in_ok-push.ensures.items ∙ ap (λ (m : List ℕ). m ++ 91 ∷ []) c.new-text.ensures.items in
    let sorts : c.print_sorts.new.text.items ≡ 91 ∷ join_with_byte 44 (map (name_in_kind sig) (maximal_sorts sig c.args.kind)) =
    c.in_ok-print_sorts.ensures ∙ ap (λ (m : List ℕ). m ++ join_with_byte 44 (map (name_in_kind sig) c.as_slice.result.now)) begun ∙ ap (λ (Ts : List ℕ). 91 ∷ join_with_byte 44 (map (name_in_kind sig) Ts)) are in
    c.in_ok-push-2.ensures.items ∙ ap (λ (m : List ℕ). m ++ 93 ∷ []) sorts
