use Rattle.std.proofs.Common.{◌∙◌, ap, map}
use Rattle.std.proofs.lemmas.List.{take_all}
use Rattle.mw_logic.specs.Term.{Variable, RawTerm}
use Rattle.mw_term.specs.declared.subst.Binding.{Binding}
use Rattle.mw_proof.specs.Replacing.{value_of}
use Rattle.mw_proof.proofs.Written.{bindings_are}
use Rattle.mw_proof.proofs.replacing.bindings_of.Goals as goal

pub returns : goal.returns
returns c =
    let s = c.args.values.now in
    ap (map (λ (b : Binding). let p : Variable × RawTerm = (b.variable, b.value) in p)) c.of-pairs.ensures ∙ c.loop-x.invariant
    ∙ ap (map (λ (x : Variable). let p : Variable × RawTerm = (x, value_of s x) in p)) (take_all c.loop-x.x-index c.args.variables.now c.loop-x-test.false) ∙ bindings_are s c.args.variables.now
