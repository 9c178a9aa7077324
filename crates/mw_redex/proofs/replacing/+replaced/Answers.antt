use Rattle.std.proofs.Common.{◌≡◌, ◌∙◌, ◌<◌, ◌-◌, ℕ, List, length, take, drop, get_or, ap, sym, arith}
use Rattle.std.proofs.lemmas.Grind.{common_steps}
use Rattle.std.specs.Prelude.{Some}
use Rattle.mw_logic.specs.Term.{RawTerm}
use Rattle.mw_logic.specs.Signature.{at_number}
use Rattle.mw_logic.specs.Terms.{args_of, list_of, terms_of}
use Rattle.mw_term.proofs.Terms.{list_of-terms_of}
use Rattle.mw_redex.proofs.Flags.{numbered_small}
use Rattle.mw_redex.proofs.Exchanged.{rest_shorter}
use Rattle.mw_redex.proofs.replacing.+replaced.Goals as goal

argument_is : (ts : List RawTerm) (t u : RawTerm) (n : ℕ) → terms_of ts ≡ args_of t → Some u ≡ at_number ts n → at_number (list_of (args_of t)) n ≡ Some u
argument_is ts t u n e h = ap (λ us. at_number us n) (sym (ap list_of e) ∙ list_of-terms_of ts) ∙ sym h

pub replaced-requires : goal.replaced-requires
replaced-requires t c =
    let l : length (take (length c.args.path.now - 1) (drop 1 c.args.path.now)) < length c.args.path.now = rest_shorter c.args.path.now c.in-len1-up.len_at_least in
    let e = argument_is c.arguments.result.now c.args.term.now c.in-Some.argument.now (get_or c.args.path.now 0 0) c.arguments.ensures c.in-Some.ensures in
    (omega (arith, l, c.decreases), (numbered_small c.args.facts.now c.args.term.now (get_or c.args.path.now 0 0) c.in-Some.argument.now c.requires.term e, (c.requires.with, c.requires.flag)))

pub returns-clause-is : goal.returns-clause-is
returns-clause-is t c =
    let e = argument_is c.arguments.result.now c.args.term.now c.in-Some.argument.now (get_or c.args.path.now 0 0) c.arguments.ensures c.in-Some.ensures in
    grind (arith, common_steps, e)

pub returns-in_default-numbered-clause-is : goal.returns-in_default-numbered-clause-is
returns-in_default-numbered-clause-is t c = grind (arith, list_of-terms_of)
