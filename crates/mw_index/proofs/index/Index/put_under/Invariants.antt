use Rattle.std.proofs.Common.{◌≡◌, ℕ, ◌+◌, ◌-◌, vec_len}
use Rattle.mw_index.specs.Index.{listed}
use Rattle.mw_index.proofs.index.Index.put_under.Given as goal

abbrev pub invariant-loop-alloc : goal.invariant-loop-alloc
invariant-loop-alloc l = record {
  listed : (f : ℕ) → listed l.self f ≡ listed l.fn.self f;
  any : l.self.any.items ≡ l.fn.self.any.items;
  leaves : l.self.leaves.items ≡ l.fn.self.leaves.items;
  rules : l.self.rules.items ≡ l.fn.self.rules.items;
}

abbrev pub decreases-loop-alloc : goal.decreases-loop-alloc
decreases-loop-alloc l = l.operator + 1 - vec_len l.self.by_top
