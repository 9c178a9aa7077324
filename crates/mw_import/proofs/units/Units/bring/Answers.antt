use Rattle.std.proofs.Common.{◌∙◌, ◌++◌, ◌∷◌, [], if◌then◌else◌, ap, sym, subst, slice_get}
use Rattle.mw_import.specs.Flat.{reached_by}
use Rattle.mw_import.specs.Gathering.{gathered_with, gathered, IsClosed}
use Rattle.mw_import.proofs.Lists.{among_any, among_member}
use Rattle.mw_import.proofs.Gathered.{gathered-append}
use Rattle.mw_import.proofs.Brought.{nothing_more, bring_closed}
use Rattle.mw_import.proofs.units.Units.bring.Goals as goal

pub returns-then-contains-clause-brought : goal.returns-then-contains-clause-brought
returns-then-contains-clause-brought c =
    let there = c.args.there.now.keys in
    sym (nothing_more c.args.self.now there c.args.unit c.requires (among_member c.args.unit there (sym (among_any c.args.unit there) ∙ sym c.contains.ensures ∙ c.if-contains.true)))

pub returns-clause-brought : goal.returns-clause-brought
returns-clause-brought c =
    let us = c.args.self.now in
    let there = c.args.there.now.keys in
    let k = c.args.unit in
    let ks = c.gather.new.there.keys in
    c.in_ok-insert.ensures.keys ∙ ap (λ b. if b then ks else ks ++ k ∷ []) (among_any k ks)
    ∙ ap (λ ks. gathered_with ks k) (c.in_ok-gather.ensures ∙ ap (gathered there) c.reached.ensures)
    ∙ sym (gathered-append there (reached_by (slice_get us k)) (k ∷ []))

pub returns-clause-closed : goal.returns-clause-closed
returns-clause-closed c =
    let us = c.args.self.now in
    subst (IsClosed us) (sym (returns-clause-brought c)) (bring_closed us c.shows.ensures c.args.there.now.keys c.args.unit c.requires)
