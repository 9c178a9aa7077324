use Rattle.std.proofs.Common.{◌≡◌, take, drop, length}
use Rattle.std.specs.List.{Contains}
use Rattle.mw_logic.specs.NormalForm.{height}
use Rattle.mw_store.specs.Numbers.{AreBelow, Extends, terms_at}
use Rattle.mw_store.specs.Tables.{IsSound, all_terms}
use Rattle.mw_store.proofs.nodes.Nodes.+walk.Given as goal

abbrev pub decreases-walk : goal.decreases-walk
decreases-walk l = height l.term.now

abbrev pub invariant-loop-arg : goal.invariant-loop-arg
invariant-loop-arg l = record {
  sound : IsSound l.self;
  extends : Extends (all_terms l.fn.self) (all_terms l.self);
  known : Contains (all_terms l.fn.self) l.fn.term → all_terms l.self ≡ all_terms l.fn.self;
  front : take l.base l.waiting.items ≡ l.fn.waiting.items;
  below : AreBelow (length (all_terms l.self)) (drop l.base l.waiting.items);
  terms : terms_at (all_terms l.self) (drop l.base l.waiting.items) ≡ take l.arg-index l.args;
}
