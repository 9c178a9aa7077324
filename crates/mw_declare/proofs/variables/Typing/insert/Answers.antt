use Rattle.std.proofs.Common.{◌≡◌, ◌∙◌, ◌++◌, ◌∷◌, [], ap}
use Rattle.std.proofs.lemmas.List.{map-append}
use Rattle.indexmap.proofs.CallerLemmas.{insert_entry-new}
use Rattle.mw_declare.specs.Meaning.{Name}
use Rattle.mw_declare.specs.Faults.{Typing, sort_in}
use Rattle.mw_declare.proofs.Typings.{typing_held, sort_held, none_held}
use Rattle.mw_declare.proofs.variables.Typing.insert.Goals as goal

pub returns : goal.returns
returns c =
    let table = c.deref_mut.result.now in
    let held : typing_held table.entries ≡ c.args.self.now = ap (λ t. typing_held t.entries) c.deref_mut.ensures.value ∙ c.self.view_is in
    let key : c.in_ok-key.key.items ≡ c.args.name.now = c.in_ok-key.ensures.items_if_clones_equal (λ x y e. e) in
    let sort : c.in_ok-sort.sort.items ≡ c.args.sort.now = c.in_ok-sort.ensures.items_if_clones_equal (λ x y e. e) in
    let none = none_held _ (sort_held table.entries c.in_ok-key.key.items ∙ ap (sort_in (typing_held table.entries)) key ∙ ap (λ es. sort_in es c.args.name.now) held ∙ c.requires) in
    ap typing_held (c.in_ok-insert.ensures.entries ∙ insert_entry-new _ table c.in_ok-key.key c.in_ok-sort.sort none)
    ∙ map-append _ table.entries ((c.in_ok-key.key, c.in_ok-sort.sort) ∷ [])
    ∙ ap (λ (n : Name). let more : Typing = (n, c.in_ok-sort.sort.items) ∷ [] in typing_held table.entries ++ more) key
    ∙ ap (λ (S : Name). let more : Typing = (c.args.name.now, S) ∷ [] in typing_held table.entries ++ more) sort
    ∙ ap (λ (es : Typing). es ++ (c.args.name.now, c.args.sort.now) ∷ []) held
