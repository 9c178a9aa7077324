use Rattle.std.proofs.Common.{sym, subst}
use Rattle.mw_logic.specs.Signature.{sort, kind}
use Rattle.mw_term.specs.Signatures.{sorted_of}
use Rattle.mw_carry.specs.Carried.{IsSameSorted, a_sort, a_kind}
use Rattle.mw_carry.proofs.carrier.Carrier.sorted.Goals as goal

pub returns-in-Sort : goal.returns-in-Sort
returns-in-Sort c =
    let both = c.args.self.now in
    subst (λ s. IsSameSorted both.from both.to (sorted_of s) (sort c.sort.result)) (sym c.in-Sort.is) (a_sort c.in-Sort.sort c.sort.result c.sort.ensures)

pub returns-in-Kind : goal.returns-in-Kind
returns-in-Kind c =
    let both = c.args.self.now in
    subst (λ s. IsSameSorted both.from both.to (sorted_of s) (kind c.sort-in-Kind.result)) (sym c.in-Kind.is) (a_kind c.in-Kind.sort c.sort-in-Kind.result c.sort-in-Kind.ensures)
