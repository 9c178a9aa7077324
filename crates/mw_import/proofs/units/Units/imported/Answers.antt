use Rattle.std.proofs.Common.{◌∙◌, sym, subst}
use Rattle.std.proofs.lemmas.Bool.{both_ways}
use Rattle.std.proofs.lemmas.Slice.Eq.{bytes_eq-Decides}
use Rattle.mw_module.specs.declared.faults.FaultKind.TheVariants.{CircularImport, UnknownModule}
use Rattle.mw_import.specs.Flat.{IsWrong, circular, unknown}
use Rattle.mw_import.proofs.units.Units.imported.Goals as goal

pub returns-then-eq-clause-fault : goal.returns-then-eq-clause-fault
returns-then-eq-clause-fault c =
    subst (λ n. IsWrong c.args.self.now c.args.own.now (record { line = c.args.line; name = c.args.name.now }) (record { line = c.args.line; kind = CircularImport n }))
    (sym (c.of.ensures ∙ c.in_ok-to_vec.ensures.items_if_clones_equal (λ x y e. e))) (circular ((bytes_eq-Decides _ _).0 (sym c.eq.ensures ∙ c.if-eq.true)))

pub returns-in_ok-to_vec-in-None-clause-fault : goal.returns-in_ok-to_vec-in-None-clause-fault
returns-in_ok-to_vec-in-None-clause-fault c =
    subst (λ n. IsWrong c.args.self.now c.args.own.now (record { line = c.args.line; name = c.args.name.now }) (record { line = c.args.line; kind = UnknownModule n }))
    (sym (c.of-in-None.ensures ∙ c.in_ok-to_vec-in-None.ensures.items_if_clones_equal (λ x y e. e)))
    (unknown (λ e. both_ways _ (sym c.eq.ensures ∙ c.if-eq.false) ((bytes_eq-Decides _ _).1 e)) (sym c.number.ensures ∙ c.in-None.is))
