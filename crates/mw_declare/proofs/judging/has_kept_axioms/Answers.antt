use Rattle.std.proofs.Common.{◌∙◌, ◌&&◌, ◌||◌, not, nat_eq, Bool, List, ℕ, option_map, ap}
use Rattle.mw_logic.specs.Accepted.{are_two, agree, is_member, is_accepted_operator}
use Rattle.mw_term.specs.Signatures.{identity_of}
use Rattle.mw_declare.specs.Freezing.{frozen_arguments, are_in_range}
use Rattle.mw_declare.specs.Operators.{operator_of, signature_with}
use Rattle.mw_declare.specs.Seen.{seen_operator}
use Rattle.mw_declare.proofs.Axioms.{kept_axioms}
use Rattle.mw_declare.proofs.judging.has_kept_axioms.Goals as goal

pub returns : goal.returns
returns c h os numbered least identity =
    let o = seen_operator (c.args.profile.now, c.args.said.now) in
    let kept = kept_axioms c.args.built h os numbered o least c.fits_assoc.result c.fits_comm.result (option_map identity_of c.args.identity) c.fits_identity.result c.freezes_alike.result
    (c.fits_assoc.ensures ∙ ap (λ (Ks : List ℕ). not o.attributes.assoc || are_two (λ K L. nat_eq K o.profile.result && nat_eq L o.profile.result) Ks) c.as_slice-args.ensures.value)
    (c.fits_comm.ensures ∙ ap (λ (Ks : List ℕ). not o.attributes.comm || are_two nat_eq Ks) c.as_slice-args.ensures.value)
    identity c.fits_identity.ensures.none c.fits_identity.ensures.constant c.fits_identity.ensures.numeral
    (c.freezes_alike.ensures ∙ ap (λ n. not (o.attributes.assoc || o.attributes.comm) || agree (is_member 1 (frozen_arguments n o.attributes)) (is_member 2 (frozen_arguments n o.attributes))) c.requires) in
    ap (λ b. b && c.are_in_range.result) kept
    ∙ ap (λ b. is_accepted_operator (signature_with c.args.built h os) (operator_of c.args.built os o) && b) (c.are_in_range.ensures ∙ ap (λ n. are_in_range n o.attributes) c.requires)
