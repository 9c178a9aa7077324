use Rattle.std.proofs.Common.{◌∙◌, sym, subst}
use Rattle.mw_logic.specs.Terms.{terms_of}
use Rattle.mw_term.specs.Sections.{HasAll}
use Rattle.mw_term.proofs.Sections.{told_between}
use Rattle.mw_term.proofs.shared.Shared.are_rest.Goals as goal

pub returns-else-end-len : goal.returns-else-end-len
returns-else-end-len c = λ h.
    told_between c.args.self.now.terms.items c.args.from c.args.end c.args.told c.requires.ordered (sym c.requires.told) (subst (λ ts. HasAll (terms_of ts) c.args.told) c.between.ensures (c.has_all.ensures h)) ∙ c.requires.told
