use Rattle.std.proofs.Common.{◌≡◌, ◌∙◌, ◌-◌, ap, sym, subst, drop}
use Rattle.mw_logic.specs.Terms.{terms_of}
use Rattle.mw_term.specs.Facts.{facts_above, facts_of_all}
use Rattle.mw_term.specs.Hashes.{hash_above as hash_over, hash_sum as sum_of}
use Rattle.mw_term.specs.Sections.{IsTable}
use Rattle.mw_term.specs.Shapes.{shown}
use Rattle.mw_term.specs.declared.shared.Shared.{Shared}
use Rattle.mw_term.specs.declared.told.Told.{Told}
use Rattle.mw_term.proofs.KeptFacts.{facts_above-is}
use Rattle.mw_term.proofs.Sections.{number_shown}
use Rattle.mw_term.proofs.term.over.Goals as goal

pub made-requires : goal.made-requires
made-requires c =
    let f = c.args.operator in
    let k = c.requires in
    let list = c.args.list.value in
    let count = c.args.end - c.args.from in
    let t = subst (λ (s : Shared). IsTable s.told.items s.terms.items) (sym c.deref.ensures) k.0 in
    let told : c.told_from.result.facts ≡ facts_of_all (terms_of (drop c.args.from list.terms.items)) =
    ap (λ (x : Told). x.facts) (c.told_from.ensures t.0 t.1) ∙ ap (λ (s : Shared). facts_of_all (terms_of (drop c.args.from s.terms.items))) c.deref.ensures in (
      c.under-remainders.ensures ∙ ap (facts_above f count) (told ∙ sym k.4) ∙ facts_above-is f count (terms_of (shown list c.args.from c.args.end)) (sym (number_shown list.terms.items c.args.from c.args.end k.1 k.2)),
      c.hash_above-hash.ensures ∙ ap (hash_over f) (c.sum_between.ensures ∙ ap (λ (s : Shared). sum_of (terms_of (shown s c.args.from c.args.end))) c.deref-2.ensures),
      k,
    )
