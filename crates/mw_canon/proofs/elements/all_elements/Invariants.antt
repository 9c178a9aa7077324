use Rattle.std.proofs.Common.{◌≡◌, length}
use Rattle.std.specs.Prelude.{option_map}
use Rattle.std.specs.Vec.Iter.{into_iter_items, into_iter_len}
use Rattle.mw_logic.specs.Term.{join}
use Rattle.mw_logic.specs.Terms.{terms_of}
use Rattle.mw_logic.specs.NormalForm.{flattened}
use Rattle.mw_term.specs.Signatures.{identity_of as identity_named}
use Rattle.mw_canon.proofs.elements.all_elements.Given as goal

abbrev pub invariant-loop-term : goal.invariant-loop-term
invariant-loop-term l = record {
  told : join (terms_of l.found.items) (flattened (option_map identity_named l.identity) l.operator (terms_of (into_iter_items l.term-iterator))) ≡ flattened (option_map identity_named l.identity) l.operator (terms_of l.fn.terms.items);
  size : into_iter_len l.term-iterator ≡ length (into_iter_items l.term-iterator);
}
