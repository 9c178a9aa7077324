use Rattle.std.proofs.Common.{◌≡◌, ◌∙◌, ◌+◌, ◌%◌, ◌^◌, ap, refl}
use Rattle.mw_logic.specs.Term.{nil, cons}
use Rattle.mw_term.specs.Facts.{facts_above, facts_joined, facts_of}
use Rattle.mw_term.specs.Hashes.{hash_above as hash_over, hash_of, scattered}
use Rattle.mw_term.proofs.KeptFacts.{facts_above-is, facts_of_two}
use Rattle.mw_term.proofs.term.over_two.Goals as goal

pub made-requires : goal.made-requires
made-requires c =
    let both : c.joined.result ≡ facts_joined (facts_of c.args.first) (facts_of c.args.second) =
    c.joined.ensures ∙ ap (λ a. facts_joined a c.facts-2.result) c.facts.ensures ∙ ap (facts_joined (facts_of c.args.first)) c.facts-2.ensures in (
      c.under-remainders.ensures ∙ ap (facts_above c.args.operator 2) (both ∙ facts_of_two c.args.first c.args.second) ∙ facts_above-is c.args.operator 2 (cons c.args.first (cons c.args.second nil)) refl,
      c.hash_above-hash.ensures ∙ ap (hash_over c.args.operator) (c.with_first-2.ensures ∙ ap (λ n. (scattered (hash_of c.args.first) + n) % 2 ^ 32) c.with_first.ensures),
      tt,
    )
