use Rattle.std.proofs.Common.{◌≡◌, ◌∙◌, length, sym, subst}
use Rattle.mw_logic.specs.Signature.{Signature, IsSortNamed}
use Rattle.mw_carry.specs.Tables.{FindSorts, IsFound, sort_in}
use Rattle.mw_carry.proofs.target.Target.sort.Goals as goal

pub returns : goal.returns
returns c =
    let sig = c.args.self.now in
    let name = c.args.name.now in
    let es = c.self.inside.sorts.entries in
    let found : c.copied.result ≡ sort_in es name = c.copied.ensures ∙ c.get.ensures.value in
    let all : FindSorts sig (length sig.sorts) es = subst (λ (s : Signature). FindSorts s (length s.sorts) es) c.self.view_is c.self.invariant.sorts in
    subst (IsFound (length sig.sorts) (λ S. IsSortNamed sig S name)) (sym found) (all name)
