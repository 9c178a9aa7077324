use Rattle.std.proofs.Common.{◌≡◌, ◌∙◌, ap, sym, subst, List, ℕ, [], length, ◌-◌, arith, take, drop}
use Rattle.std.specs.Prelude.{MatchOption, ⊤}
use Rattle.mw_logic.specs.Term.{RawTerms}
use Rattle.mw_logic.specs.Terms.{args_of, terms_of, skip}
use Rattle.mw_logic.specs.Parts.{number_of_terms}
use Rattle.mw_logic.specs.Signature.{Signature}
use Rattle.mw_matching.specs.Found.{is_single, found_row}
use Rattle.mw_matching.specs.Patterns.{leading}
use Rattle.mw_search.specs.Goals.{top_of}
use Rattle.mw_search.proofs.BagLists.{number_terms}
use Rattle.mw_search.proofs.Lists.{rest_is}
use Rattle.mw_match.specs.Parts.{HasFront}
use Rattle.mw_match.specs.declared.parts.Front.{Front}
use Rattle.mw_match.proofs.parts.Parts.is_none_from.Goals as goal

pub returns : goal.returns
returns c w q given elements_are =
    let (patterns_are, rigid_is, rows) = subst (λ o. MatchOption o ⊤ (HasFront c.args.self.now q)) c.in-Some.is given in
    let single : List (List ℕ) = c.args.self.now.compiled.now.positions.single.items in
    let f : ℕ = top_of q in
    let front : Front = c.in-Some.front in
    let es = c.args.elements.now in
    let P : Signature → RawTerms → RawTerms → Type 0 = λ s ps ts. front.rigid ≡ leading s (is_single single) f ps → found_row s single f ps ts c.args.given.now ≡ [] in
    let here : P c.facts-facts.result.now (terms_of front.patterns.now) (terms_of (take (length es - c.args.from) (drop c.args.from es))) = c.row_clashes.ensures w single f in
    let rest : terms_of (take (length es - c.args.from) (drop c.args.from es)) ≡ skip c.args.from (args_of c.args.self.now.subject) =
    rest_is es c.args.from c.args.from (omega arith) ∙ ap (skip c.args.from) elements_are in
    let there : P c.args.self.now.context.now.signature (args_of q) (skip c.args.from (args_of c.args.self.now.subject)) =
    subst (λ s. P s (args_of q) (skip c.args.from (args_of c.args.self.now.subject))) c.facts-facts.ensures
    (subst (λ ps. P c.facts-facts.result.now ps (skip c.args.from (args_of c.args.self.now.subject))) patterns_are
    (subst (λ ts. P c.facts-facts.result.now (terms_of front.patterns.now) ts) rest here)) in
    let size : number_of_terms (args_of c.args.self.now.subject) ≡ length es = ap number_of_terms (sym elements_are) ∙ number_terms es in
    rows c.args.from (omega (arith, size)) c.args.given.now ∙ there rigid_is
