use Rattle.std.proofs.Common.{◌≡◌, ◌∙◌, ◌+◌, ℕ, length, ap, sym, subst, arith, false}
use Rattle.std.proofs.lemmas.Bool.{not-true}
use Rattle.mw_logic.specs.Term.{RawTerms}
use Rattle.mw_logic.specs.Terms.{args_of, terms_of}
use Rattle.mw_logic.specs.Parts.{number_of_terms}
use Rattle.mw_logic.proofs.SortedLists.{Climbs}
use Rattle.mw_arguments.specs.Bags.{same}
use Rattle.mw_matching.specs.Multisets.{term_at}
use Rattle.mw_search.proofs.Alone.{alone}
use Rattle.mw_search.proofs.BagLists.{number_terms}
use Rattle.mw_search.proofs.gathered.Gathered.is_alone.Goals as goal

pub has_equal_behind-requires : goal.has_equal_behind-requires
has_equal_behind-requires c =
    let e = ap args_of c.self.view_is in
    let l : number_of_terms (args_of c.args.self.now) ≡ length c.arguments.result.now = ap number_of_terms (sym (c.arguments.ensures ∙ e)) ∙ number_terms c.arguments.result.now in
    omega (arith, l, c.requires.here)

pub returns-then-self : goal.returns-then-self
returns-then-self c = λ w.
    let e = ap args_of c.self.view_is in
    let zs : RawTerms = args_of c.args.self.now in
    let xs = c.arguments.result.now in
    let is : terms_of xs ≡ zs = c.arguments.ensures ∙ e in
    let l : number_of_terms zs ≡ length xs = ap number_of_terms (sym is) ∙ number_terms xs in
    let n : ℕ = c.args.at in
    let climbs : Climbs zs = subst Climbs e (c.self.invariant c.if-self.true) in
    let none = c.has_equal_behind.ensures (not-true c.has_equal_behind.result w) in
    alone zs n climbs c.requires.here c.requires.new
    (λ k. subst (λ ys. same (term_at (n + 1) ys) (term_at n ys) ≡ false) is (none (omega (arith, l, k))))
