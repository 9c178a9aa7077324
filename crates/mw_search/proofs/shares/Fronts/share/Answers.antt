use Rattle.std.proofs.Common.{◌≡◌, ◌∙◌, ◌+◌, min, length, ap, sym, arith, option_map}
use Rattle.mw_logic.specs.NormalForm.{rebuilt}
use Rattle.mw_logic.specs.Parts.{number_of_terms}
use Rattle.mw_logic.specs.Term.{RawTerms}
use Rattle.mw_term.specs.Signatures.{identity_of as identity_named}
use Rattle.mw_logic.specs.Terms.{front, skip}
use Rattle.mw_logic.specs.Terms.{args_of}
use Rattle.mw_search.specs.Goals.{top_of}
use Rattle.mw_search.proofs.BagLists.{number_terms}
use Rattle.mw_search.proofs.Meeting.{share_same}
use Rattle.mw_search.proofs.shares.Fronts.share.Goals as goal

pub returns : goal.returns
returns c =
    let s = c.args.self.now in
    let zs : RawTerms = front s.next (skip s.from (args_of s.row)) in
    let t : c.in_ok-term.term ≡ rebuilt (option_map identity_named s.identity) (top_of s.pattern) zs =
    c.in_ok-term.ensures ∙ ap (λ f. rebuilt (option_map identity_named s.identity) f zs) c.top-operator.ensures in
    let l : length c.arguments-elements.result.now ≡ number_of_terms (args_of s.row) = sym (number_terms c.arguments-elements.result.now) ∙ ap number_of_terms c.arguments-elements.ensures in
    let n : c.min-from.result ≡ min (s.from + s.next) (number_of_terms (args_of s.row)) = omega (arith, l, c.min-from.ensures, c.saturating_add.ensures) in
    share_same _ _ _ _ _ _ s.then _ _ t c.in_ok-copy.ensures c.in_ok-copy-2.ensures n
