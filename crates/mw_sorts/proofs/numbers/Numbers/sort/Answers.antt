use Rattle.std.proofs.Common.{◌≡◌, sym, get_or, length}
use Rattle.mw_term.specs.declared.signature.Sorted.{Sorted as Held}
use Rattle.mw_sorting.specs.NumberTable.{entry_of}
use Rattle.mw_sorting.proofs.Numerals.{number_sorts, entry_below}
use Rattle.mw_sorts.specs.Numbers.{entry_at}
use Rattle.mw_sorts.proofs.Getting.{read-or}
use Rattle.mw_sorts.proofs.numbers.Numbers.sort.Goals as goal

pub returns : goal.returns
returns c = λ sig t.
    let entries = c.args.self.now.entries in
    let i = entry_of (length entries) c.args.self.now.back c.args.number in
    let e : c.entry.result ≡ i = c.entry.ensures t.cycle in
    let g = read-or c.as_slice.result.now entries i (Held.Kind 0) (sym c.as_slice.ensures) (entry_below (length entries) c.args.self.now.back t.cycle c.args.number) in
    let r : c.end_at.result ≡ get_or entries i (Held.Kind 0) = c.end_at.ensures _ (rw e g) in
    rw r (number_sorts sig (length entries) c.args.self.now.back (entry_at entries) t c.args.number)
