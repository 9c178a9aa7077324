use Rattle.std.proofs.Common.{◌≡◌, ◌∙◌, List, ℕ, Some, ap, sym}
use Rattle.mw_module.specs.declared.faults.FaultKind.TheVariants.{BadAxioms, AttributesDisagree}
use Rattle.mw_declare.specs.Operators.{signature_with}
use Rattle.mw_declare.specs.Seen.{seen_operator}
use Rattle.mw_declare.proofs.Axioms.{wrong_axioms, wrong_attributes, none_wrong}
use Rattle.mw_declare.proofs.judging.fault.Goals as goal

pub returns-then-not-has_kept_axioms : goal.returns-then-not-has_kept_axioms
returns-then-not-has_kept_axioms c h os numbered least identity =
    let o = seen_operator (c.args.profile.now, c.args.said.now) in
    let name : c.of-name.result ≡ o.profile.spelling = c.of-name.ensures ∙ c.in_ok-to_vec.ensures.items_if_clones_equal (λ x y e. e) ∙ c.as_slice-then-not-has_kept_axioms.ensures.value in
    ap (λ (n : List ℕ). Some (BadAxioms n)) name
    ∙ sym (wrong_axioms (signature_with c.args.built h os) c.args.built os o (sym (c.has_kept_axioms.ensures h os numbered least identity) ∙ c.if-not-has_kept_axioms.true))

pub returns-then-said : goal.returns-then-said
returns-then-said c h os numbered least identity =
    let o = seen_operator (c.args.profile.now, c.args.said.now) in
    let name : c.of-name-then-said.result ≡ o.profile.spelling = c.of-name-then-said.ensures ∙ c.in_ok-to_vec-2.ensures.items_if_clones_equal (λ x y e. e) ∙ c.as_slice-then-said.ensures.value in
    ap (λ (n : List ℕ). Some (AttributesDisagree n)) name
    ∙ sym (wrong_attributes (signature_with c.args.built h os) c.args.built os o (sym (c.has_kept_axioms.ensures h os numbered least identity) ∙ c.if-not-has_kept_axioms.false) c.if-said.true)

pub returns : goal.returns
returns c h os numbered least identity =
    let o = seen_operator (c.args.profile.now, c.args.said.now) in
    sym (none_wrong (signature_with c.args.built h os) c.args.built os o (sym (c.has_kept_axioms.ensures h os numbered least identity) ∙ c.if-not-has_kept_axioms.false) c.if-said.false)
