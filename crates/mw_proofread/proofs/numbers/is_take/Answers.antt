use Rattle.std.proofs.Common.{◌∙◌, arith}
use Rattle.std.proofs.lemmas.List.{length-map}
use Rattle.mw_proofread.specs.Numbers.{number_text}
use Rattle.mw_proofread.specs.TokenTexts.{numbers_tokens}
use Rattle.mw_proofread.proofs.Slices.{front_text}
use Rattle.mw_proofread.proofs.numbers.is_take.Goals as goal

pub returns-then-count-ge2 : goal.returns-then-count-ge2
returns-then-count-ge2 c = λ ns rest e l.
    let f = front_text c.args.tokens.now c.args.count (numbers_tokens ns) rest e (length-map ns number_text ∙ l) in
    let r = c.rises.ensures ns f in
    ((λ h. (omega (arith, l), r.0 h)), (λ h. r.1 h.1))
