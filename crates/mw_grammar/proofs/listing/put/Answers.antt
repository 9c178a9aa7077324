use Rattle.std.proofs.Common.{◌∙◌, ◌++◌, ◌∷◌, [], List, ℕ, ◌<◌, length, sym, ap, subst, arith}
use Rattle.std.proofs.Math.ListN.{length-set}
use Rattle.mw_chart.proofs.Adding.{inner_same, inner_other, inner_is}
use Rattle.mw_text.specs.Interned.{number_of}
use Rattle.mw_grammar.specs.Compiled.{Extends}
use Rattle.mw_grammar.proofs.Numbers.{number_added, adding_extends}
use Rattle.mw_grammar.proofs.Listings.{put_listed}
use Rattle.mw_grammar.proofs.listing.put.Goals as goal

pub returns-clause-names : goal.returns-clause-names
returns-clause-names c = subst (Extends c.args.names.now) (sym c.in_ok-add.ensures) (adding_extends c.args.names.now c.args.name.now)

pub returns-clause-listed : goal.returns-clause-listed
returns-clause-listed c =
    let room = c.room.new.lists.items in
    let k = c.in_ok-number.field-0 in
    let low : k < length room = omega (arith, c.in_ok-room.ensures.len) in
    let old = inner_is room k c.index_mut.result.now low c.index_mut.ensures.value in
    put_listed c.args.names.now c.add.new.self c.args.name.now c.args.lists.now.items room _ k c.args.sort
    (subst (Extends c.args.names.now) (sym c.in_ok-add.ensures) (adding_extends c.args.names.now c.args.name.now))
    c.in_ok-number.ensures (subst (λ (ns : List (List ℕ)). 0 < number_of ns c.args.name.now) (sym c.in_ok-add.ensures) (number_added c.args.names.now c.args.name.now))
    c.requires c.in_ok-room.ensures.len c.in_ok-room.ensures.same (length-set room k c.push.new.self)
    (inner_same room k c.push.new.self low ∙ c.in_ok-push.ensures.items ∙ ap (λ ks. ks ++ c.args.sort ∷ []) (sym old)) (λ i other. inner_other room i k c.push.new.self other)
