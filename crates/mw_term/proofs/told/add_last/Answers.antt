use Rattle.std.proofs.Common.{◌≡◌, ◌∙◌, ◌+◌, ◌-◌, ◌%◌, ◌^◌, ◌∷◌, List, ap, sym, subst, get_or, arith}
use Rattle.std.proofs.lemmas.Grind.{common_steps}
use Rattle.mw_term.specs.Facts.{facts_of_nothing}
use Rattle.mw_term.specs.Sections.{AreJoined}
use Rattle.mw_term.specs.declared.facts.Facts.{Facts}
use Rattle.mw_term.specs.declared.told.Told.{Told}
use Rattle.mw_term.proofs.LastTold.{joined_first, telling}
use Rattle.mw_term.proofs.told.add_last.Goals as goal

pub join_last-requires : goal.join_last-requires
join_last-requires c =
    let told : List Told = c.args.told.now.items in
    let n : Told = c.index.result.now in
    let (b, s) = c.requires in
    let i : n ≡ get_or told 0 n = grind (arith, common_steps) in
    let base = (n.sum + (2 ^ 32 - c.with_first.result)) % 2 ^ 32 in
    let e : telling base facts_of_nothing ∷ told ≡ c.insert.new.self.items = ap (λ (a : Facts). telling base a ∷ told) (sym c.of_nothing.ensures) ∙ sym c.in_ok-insert.ensures.items in
    (base, subst (λ ns. AreJoined base 1 ns c.args.terms.now c.args.term.now) e (joined_first b base told c.args.terms.now c.args.term.now n s i (ap (λ w. (n.sum + (2 ^ 32 - w)) % 2 ^ 32) c.with_first.ensures)))
