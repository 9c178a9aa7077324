use Rattle.std.proofs.Common.{◌≡◌, ◌∙◌, ◌<◌, ◌≤◌, ◌+◌, ◌∷◌, [], ◌++◌, length, get_or, take, drop, arith, ap, sym, subst, refl}
use Rattle.std.specs.List.{Contains}
use Rattle.std.proofs.lemmas.Result.{IfOk-weaker}
use Rattle.std.proofs.lemmas.List.{take-append-le, take_more}
use Rattle.mw_logic.specs.Term.{apply}
use Rattle.mw_logic.specs.NormalForm.{height, highest}
use Rattle.mw_logic.specs.Terms.{terms_of}
use Rattle.mw_term.proofs.Terms.{element}
use Rattle.mw_store.specs.Numbers.{AreBelow, Extends, HasNumber, terms_at}
use Rattle.mw_store.specs.Tables.{all_terms}
use Rattle.mw_store.proofs.Numbering.{below_kept, below_push, extends_more, front_long, kept_extends, kept_known, kept_number, known_same, terms_kept, terms_push}
use Rattle.mw_store.proofs.Keeping.{arguments_there}
use Rattle.mw_store.proofs.nodes.Nodes.+walk.Goals as goal

pub walk-requires : goal.walk-requires
walk-requires t c =
    let l : c.loop-arg.arg-index < length c.in-Op.args.now = c.loop-arg-test.true in
    let h : height (get_or c.in-Op.args.now c.loop-arg.arg-index c.arg-item.result) ≤ highest (terms_of c.in-Op.args.now) = element _ _ _ l in
    let e : height c.arg-item.result ≡ height (get_or c.in-Op.args.now c.loop-arg.arg-index c.arg-item.result) = ap height c.arg-item.is in
    let w : height c.args.term.now ≡ height (apply c.in-Op.operator (terms_of c.in-Op.args.now)) = ap height c.in-Op.ensures in
    (omega (arith, h, e, w, c.decreases), c.loop-arg.invariant.sound)

pub loop-arg-preserved : goal.loop-arg-preserved
loop-arg-preserved t c =
    let base = c.len-base.result in
    let xs = c.loop-arg.waiting.items in
    let now = all_terms c.walk.new.self in
    let number = c.in_ok-number-in-Op.number in
    let ok : HasNumber now c.arg-item.result number = c.in_ok-number-in-Op.ensures.ok in
    let ext : Extends (all_terms c.loop-arg.self) now = c.in_ok-number-in-Op.ensures.extends in
    let q : c.push.new.self.items ≡ xs ++ number ∷ [] = c.in_ok-push-in-Op.ensures.items ∙ ap (λ ys. ys ++ number ∷ []) c.in_ok-number-in-Op.ensures.waiting in
    let l : base ≤ length xs = front_long base xs c.args.waiting.now.items (sym (c.len-base.ensures ∙ c.args.waiting.now.ok.0)) c.loop-arg.invariant.front in
    let k : terms_at now (drop base xs) ≡ take c.loop-arg.arg-index c.in-Op.args.now = terms_kept (all_terms c.loop-arg.self) now (drop base xs) ext c.loop-arg.invariant.below ∙ c.loop-arg.invariant.terms in
    let m : take (c.loop-arg.arg-index + 1) c.in-Op.args.now ≡ take c.loop-arg.arg-index c.in-Op.args.now ++ c.arg-item.result ∷ [] = take_more c.in-Op.args.now c.loop-arg.arg-index c.arg-item.result c.loop-arg-test.true ∙ ap (λ x. take c.loop-arg.arg-index c.in-Op.args.now ++ x ∷ []) (sym c.arg-item.is) in
    let there : Contains (all_terms c.args.self.now) c.args.term.now → Contains (all_terms c.loop-arg.self) c.arg-item.result = λ h.
    subst (λ ks. Contains ks c.arg-item.result) (sym (c.loop-arg.invariant.known h)) (subst (Contains (all_terms c.args.self.now)) (sym c.arg-item.is)
    (arguments_there c.args.self.now.kept.items c.args.self.now.arguments.items c.args.self.now.slots.items c.in-Op.operator c.in-Op.args.now c.loop-arg.arg-index c.arg-item.result c.requires (subst (Contains (all_terms c.args.self.now)) c.in-Op.ensures h) c.loop-arg-test.true)) in
    record {
      sound = c.in_ok-number-in-Op.ensures.sound;
      known = λ h. c.in_ok-number-in-Op.ensures.known (there h) ∙ c.loop-arg.invariant.known h;
      extends = extends_more _ _ _ c.loop-arg.invariant.extends ext;
      front = ap (take base) q ∙ take-append-le base xs (number ∷ []) l ∙ c.loop-arg.invariant.front;
      below = subst (λ ys. AreBelow (length now) (drop base ys)) (sym q) (below_push (length now) base number xs l (below_kept (all_terms c.loop-arg.self) now (drop base xs) ext c.loop-arg.invariant.below) ok.0);
      terms = ap (λ ys. terms_at now (drop base ys)) q ∙ terms_push now base number xs (take c.loop-arg.arg-index c.in-Op.args.now) c.arg-item.result l k ok ∙ sym m;
    }

pub returns-in_default : goal.returns-in_default
returns-in_default t c = record {
  sound = c.keep-in_default.ensures.sound;
  extends = kept_extends (all_terms c.args.self.now) (all_terms c.keep-in_default.new.self) c.args.term.now c.keep-in_default.result c.keep-in_default.ensures.ok c.keep-in_default.ensures.err;
  ok = kept_number (all_terms c.args.self.now) (all_terms c.keep-in_default.new.self) c.args.term.now c.keep-in_default.result c.keep-in_default.ensures.ok;
  known = kept_known (all_terms c.args.self.now) (all_terms c.keep-in_default.new.self) c.args.term.now c.keep-in_default.result c.keep-in_default.ensures.ok;
  waiting = IfOk-weaker c.keep-in_default.result _ (λ _. c.args.waiting.now.items ≡ c.args.waiting.now.items) (λ _ _. refl) c.keep-in_default.ensures.ok;
}

pub returns-in_ok-number-in-Op-2-clause-known : goal.returns-in_ok-number-in-Op-2-clause-known
returns-in_ok-number-in-Op-2-clause-known t c = λ h.
    let k : all_terms c.loop-arg.self ≡ all_terms c.args.self.now = c.loop-arg.invariant.known h in
    known_same (all_terms c.loop-arg.self) (all_terms c.keep.new.self) c.args.term.now c.in_ok-number-in-Op-2.number c.in_ok-number-in-Op-2.ensures.ok (subst (λ ks. Contains ks c.args.term.now) (sym k) h) ∙ k
