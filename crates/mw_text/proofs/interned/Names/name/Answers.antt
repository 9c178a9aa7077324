use Rattle.std.proofs.Common.{◌≡◌, ◌∙◌, ◌≤◌, List, Some, ap, length, subst, sym}
use Rattle.mw_logic.specs.Signature.{at_number}
use Rattle.mw_text.specs.Interned.{Name}
use Rattle.mw_text.proofs.Held.{held_name, names_held}
use Rattle.mw_text.proofs.interned.Names.name.Goals as goal

pub returns : goal.returns
returns c =
    let keys : names_held c.as_slice.result.now ≡ c.args.self.now = ap names_held c.as_slice.ensures.keys ∙ ap (λ s. names_held s.keys) c.deref.ensures ∙ c.self.view_is in
    let last : c.args.number ≤ length (names_held c.as_slice.result.now) = subst (λ (ns : List Name). c.args.number ≤ length ns) (sym keys) c.requires.last in
    ap (λ (ns : List Name). at_number ns c.args.number) (sym keys) ∙ held_name c.as_slice.result.now c.args.number c.index-as_slice-number.result c.requires.first last c.index-as_slice-number.is ∙ ap Some (sym c.as_slice-2.ensures.value)
