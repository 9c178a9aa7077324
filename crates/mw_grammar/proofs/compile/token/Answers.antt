use Rattle.std.proofs.Common.{List, ℕ, ◌<◌, sym, subst}
use Rattle.mw_text.specs.Interned.{number_of}
use Rattle.mw_grammar.specs.Compiled.{Extends}
use Rattle.mw_grammar.proofs.Numbers.{number_added, adding_extends}
use Rattle.mw_grammar.proofs.compile.token.Goals as goal

pub returns-clause-names : goal.returns-clause-names
returns-clause-names c = subst (Extends c.args.names.now) (sym c.in_ok-add.ensures) (adding_extends c.args.names.now c.args.text.now)

pub returns-clause-number : goal.returns-clause-number
returns-clause-number c =
    let n = subst (λ (ns : List (List ℕ)). 0 < number_of ns c.args.text.now) (sym c.in_ok-add.ensures) (number_added c.args.names.now c.args.text.now) in
    (sym c.in_ok-number.ensures, subst (λ (k : ℕ). 0 < k) (sym c.in_ok-number.ensures) n)
