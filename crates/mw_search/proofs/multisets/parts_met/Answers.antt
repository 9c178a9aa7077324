use Rattle.std.proofs.Common.{◌≡◌, ◌∙◌, ap, refl, sym, option_map, List, ℕ}
use Rattle.std.specs.Prelude.{Option, is_some}
use Rattle.mw_logic.specs.Signature.{Identity}
use Rattle.mw_logic.specs.NormalForm.{identity_of}
use Rattle.mw_logic.specs.Terms.{terms_of}
use Rattle.mw_term.specs.Signatures.{identity_of as identity_named}
use Rattle.mw_matching.specs.Multisets.{parts, times}
use Rattle.mw_search.specs.Goals.{top_of}
use Rattle.mw_search.specs.declared.shares.Pieces.{Pieces}
use Rattle.mw_search.proofs.Meeting.{some_named}
use Rattle.mw_search.proofs.Sharing.{parts_go}
use Rattle.mw_search.proofs.multisets.parts_met.Goals as goal

pub returns : goal.returns
returns c =
    let e : Option Identity = identity_of c.args.facts.now (top_of c.args.pattern.now) in
    let zs = terms_of c.args.elements.now in
    let cs : List (List ℕ) = parts (is_some e) (times c.args.first.now (terms_of c.args.left.now)) zs in
    let s : Pieces = record { pattern = c.in_ok-pattern.pattern; then = c.args.then; identity = c.identity-identity.result; parts = c.in_ok-parts.parts } in
    let named : option_map identity_named c.identity-identity.result ≡ e = c.identity-identity.ensures ∙ ap (identity_of c.args.facts.now) c.top.ensures in
    let backed : c.is_some.result ≡ is_some e = c.is_some.ensures ∙ sym (some_named identity_named c.identity-identity.result) ∙ ap (λ (o : Option Identity). is_some o) named in
    let remaining : c.in_ok-parts.parts.remaining ≡ cs = c.in_ok-parts.ensures.remaining ∙ ap (λ b. parts b c.times.result zs) backed ∙ ap (λ n. parts (is_some e) n zs) c.times.ensures.times in
    λ sig single vs k. parts_go sig single e c.args.pattern.now c.args.first.now c.in_ok-first.first zs c.args.then cs s c.in_ok-pattern.ensures c.in_ok-parts.ensures.elements refl remaining named c.in_ok-first.ensures vs k
