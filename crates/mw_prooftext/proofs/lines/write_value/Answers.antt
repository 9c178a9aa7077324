use Rattle.std.proofs.Common.{◌≡◌, ◌∙◌, ◌++◌, [], ◌∷◌, ap, append_assoc}
use Rattle.mw_print.specs.Prefix.{prefix_text}
use Rattle.mw_prooftext.specs.Texts.{closing}
use Rattle.mw_prooftext.proofs.Closing.{closing_form}
use Rattle.mw_prooftext.proofs.lines.write_value.Goals as goal

pub returns : goal.returns
returns c =
    let old = c.args.text.now.items in
    let form = prefix_text c.args.signature.now c.args.term.now in
    let written : c.prefix.new.text.items ≡ old ++ 32 ∷ 91 ∷ form = c.in_ok-prefix.ensures.written ∙ ap (λ x. x ++ form) c.in_ok-extend_from_slice.ensures.items ∙ append_assoc old (32 ∷ 91 ∷ []) form in
    let closed : c.closing-closing.result.now ≡ closing form = c.closing-closing.ensures ∙ ap closing (c.as_slice.ensures.value ∙ written) ∙ closing_form old form in
    c.in_ok-extend_from_slice-2.ensures.items ∙ ap (λ x. x ++ c.closing-closing.result.now) written ∙ ap (λ x. (old ++ 32 ∷ 91 ∷ form) ++ x) closed ∙ append_assoc old (32 ∷ 91 ∷ form) (closing form)
