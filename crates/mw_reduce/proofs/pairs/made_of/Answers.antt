use Rattle.std.proofs.Common.{rules, ◌≡◌, ◌∷◌, [], List, refl}
use Rattle.mw_logic.specs.Term.{RawTerm, apply, cons, nil}
use Rattle.mw_logic.specs.Terms.{terms_of}
use Rattle.mw_frames.specs.declared.looking.Asked.TheVariants.{Term}
use Rattle.mw_reduce.proofs.Asks.{step_asked}
use Rattle.mw_reduce.proofs.Applying.{whole_row_applies}
use Rattle.mw_reduce.proofs.pairs.made_of.Goals as goal

pub returns-then-is_numeral : goal.returns-then-is_numeral
returns-then-is_numeral c = λ K k d run here a.
    let M = c.args.context.now in
    let args : List RawTerm = c.in_ok-copy.field-0 ∷ c.in_ok-copy-2.field-0 ∷ [] in
    let t : RawTerm = apply c.args.operator (cons c.args.first.now (cons c.args.second.now nil)) in
    let is : t ≡ apply c.args.operator (terms_of args) = rw (c.in_ok-copy.ensures, c.in_ok-copy-2.ensures) refl in
    let g = rw c.in-Gives.is at (step_asked K M.signature run M here c.shows.ensures k d (Term t) a c.schemata.result.now c.schemata.ensures c.facts-facts.result.now c.facts-facts.ensures c.args.operator args c.in_ok-take.field-0 is c.in_ok-take.ensures.normal) in
    (whole_row_applies K.over run.accepted K.rank t c.in-Gives.take c.in-Gives.to (search rules) g, c.is_numeral.ensures c.if-is_numeral.true)
