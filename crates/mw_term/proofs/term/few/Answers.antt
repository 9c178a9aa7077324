use Rattle.std.proofs.Common.{◌≡◌, ◌∙◌, ap, sym, length, arith}
use Rattle.std.proofs.lemmas.Grind.{common_steps}
use Rattle.mw_logic.specs.Terms.{terms_of}
use Rattle.mw_term.specs.Facts.{facts_above, facts_of_all}
use Rattle.mw_term.specs.Hashes.{hash_above as hash_over, hash_sum as sum_of}
use Rattle.mw_term.proofs.KeptFacts.{facts_above-is, number_listed}
use Rattle.mw_term.proofs.term.few.Goals as goal

pub made-requires : goal.made-requires
made-requires c =
    let f = c.args.operator in
    let ts = c.in_ok-list.list.value.items in
    let e : c.as_slice.result.now ≡ ts = grind (arith, common_steps) in
    let e2 : c.as_slice-2.result.now ≡ ts = grind (arith, common_steps) in
    let n : c.len.result ≡ length ts = grind (arith, common_steps) in (
      c.under-remainders.ensures ∙ ap (facts_above f c.len.result) (c.facts_in.ensures ∙ ap (λ us. facts_of_all (terms_of us)) e) ∙ facts_above-is f c.len.result (terms_of ts) (n ∙ sym (number_listed ts)),
      c.hash_above-hash.ensures ∙ ap (hash_over f) (c.hash_sum.ensures ∙ ap (λ us. sum_of (terms_of us)) e2),
      tt,
    )
