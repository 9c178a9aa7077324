use Rattle.std.proofs.Common.{◌≡◌, ◌∙◌, ◌++◌, ◌+◌, ◌-◌, refl, ◌<◌, ◌≤◌, true, false, suc, length, take, drop, sym, ap, subst, arith, codes, [], ◌∷◌}
use Rattle.std.proofs.lemmas.Result.{on_ok_weaker}
use Rattle.mw_logic.specs.Term.{apply}
use Rattle.mw_logic.specs.Signature.{Operator}
use Rattle.mw_logic.specs.Parts.{is_assoc}
use Rattle.mw_logic.specs.Terms.{terms_of}
use Rattle.mw_print.specs.Tokens.{token, opening}
use Rattle.mw_print.specs.Printing.{is_mixfix, arguments_of, called, divided, head, spread, shown, all_shown}
use Rattle.mw_print.proofs.Forms.{length_shown, called_some, listed_some, some_of, mixfix_tokens, prefix_tokens}
use Rattle.mw_print.proofs.Shown.{plain, last_own, assoc_is, joint_count, joint_prefix}
use Rattle.mw_print.proofs.Chained.{IsOpen, IsEnding, past_front, past_last, past_back}
use Rattle.mw_print.proofs.printing.+print.Goals.{print_chain-in_default, print_chain-in-len1-up+then-behind-lt2}
use Rattle.mw_print.proofs.Lists.{writes_both, front_and, lower_behind, past_argument}
use Rattle.mw_print.proofs.printing.+print.Goals as goal

pub print_args-returns : goal.print_args-returns
print_args-returns t c =
    let sig = c.args.signature.now in
    let ts = c.args.args.now in
    let u = c.args.writer.now in
    let v = c.print_list.new.writer in
    let listed = arguments_of c.args.assoc c.args.number (all_shown sig ts) in
    let some = listed_some sig c.args.assoc c.args.number ts (sym c.is_empty.ensures ∙ c.if-is_empty.false) in
    let before = writes_both u c.open.new.self v (opening ∷ []) (divided listed) c.in_ok-open.ensures c.in_ok-print_list.ensures in
    rw (called_some [] listed some) (on_ok_weaker c.token.result (writes_both u v c.token.new.self (opening ∷ divided listed) (token (codes ")") ∷ []) before) c.token.ensures)

pub print_last-returns-in-Some : goal.print_last-returns-in-Some
print_last-returns-in-Some t c =
    let is = c.in-Some.ensures.some in
    let sig = c.args.signature.now in
    let f = c.args.number in
    let own : arguments_of c.args.assoc f (shown sig c.args.arg.now ∷ []) ≡ arguments_of c.args.assoc f (all_shown sig c.in-Some.inner.now)
    = rw (c.if-not-assoc.false) (ap (λ p. spread f p) (sym c.unwrapped.ensures.same) ∙ last_own sig f c.unwrapped.result.now c.in-Some.inner.now is.0 is.1 (sym c.requires ∙ c.if-not-assoc.false)) in
    rw own c.print_list.ensures

pub print_list-loop-rest-preserved : goal.print_list-loop-rest-preserved
print_list-loop-rest-preserved t c =
    let sig = c.args.signature.now in
    let rest = c.loop-rest.rest.now in
    let arg = c.arg-item.result in
    let behind = take (length rest - 1) (drop 1 rest) in
    let is : rest ≡ arg ∷ behind = front_and rest arg c.in-len1-up.len_at_least c.arg-item.is in
    let some : 0 < length behind = some_of (length behind) (sym c.is_empty.ensures ∙ c.if-is_empty.false) in
    let lower = lower_behind rest arg behind is in
    record {
      text = λ ts. past_argument sig c.args.assoc c.args.number c.loop-rest.writer c.print.new.writer c.comma.new.self arg rest behind is some c.in_ok-print.ensures c.in_ok-comma.ensures ts ∙ c.loop-rest.invariant.text ts;
      lower = omega (arith, lower, c.loop-rest.invariant.lower);
    }

pub print_joint-print_chain-requires : goal.print_joint-print_chain-requires
print_joint-print_chain-requires t c =
    let o = c.args.operator.now in
    let count = joint_count o (length c.args.args.now) c.if-args-eq1.false (ap (is_mixfix o) (sym c.min.ensures) ∙ sym c.is_mixfix.ensures ∙ c.if-is_mixfix.true) in
    (omega (arith, c.decreases), (c.requires.there, (c.requires.joint, (count.1, count.0))))

pub print_joint-returns : goal.print_joint-returns
print_joint-returns t c =
    let sig = c.args.signature.now in
    let f = c.args.number in
    let ts = c.args.args.now in
    let o = c.args.operator.now in
    let joint : is_assoc sig f ≡ true = sym (assoc_is sig f o c.requires.there) ∙ c.requires.joint in
    let count = ap (is_mixfix o) (sym c.min.ensures) ∙ sym c.is_mixfix.ensures ∙ c.if-is_mixfix.false in
    rw (← joint_prefix sig f o c.requires.there joint ts c.if-args-eq1.false count)
    (on_ok_weaker c.print_args.result (writes_both c.args.writer.now c.print_head.new.writer c.print_args.new.writer (head o) (called [] (arguments_of true f (all_shown sig ts))) c.in_ok-print_head.ensures) c.print_args.ensures)

pub print_operator-returns-in-Some-2 : goal.print_operator-returns-in-Some-2
print_operator-returns-in-Some-2 t c =
    let sig = c.args.signature.now in
    let f = c.args.number in
    let ts = c.args.args.now in
    let o = c.in-Some.operator.now in
    let plain_is : is_assoc sig f ≡ false = sym (assoc_is sig f o c.in-Some.ensures) ∙ ap (λ (o : Operator). o.assoc) (sym c.operator.view_is) ∙ c.if-operator.false in
    rw (← plain sig f plain_is ts, ← mixfix_tokens sig f (all_shown sig ts) o c.in-Some.ensures (ap (is_mixfix o) (length_shown sig ts) ∙ sym c.if-is_mixfix.ensures)) c.print_mixfix.ensures

pub print_operator-returns-in_ok-print_head-in-Some-3 : goal.print_operator-returns-in_ok-print_head-in-Some-3
print_operator-returns-in_ok-print_head-in-Some-3 t c =
    let sig = c.args.signature.now in
    let f = c.args.number in
    let ts = c.args.args.now in
    let o = c.in-Some.operator.now in
    let none : o.assoc ≡ false = ap (λ (o : Operator). o.assoc) (sym c.operator.view_is) ∙ c.if-operator.false in
    let plain_is : is_assoc sig f ≡ false = sym (assoc_is sig f o c.in-Some.ensures) ∙ none in
    let tokens : head o ++ called [] (arguments_of false f (all_shown sig ts)) ≡ (shown sig (apply f (terms_of ts))).tokens
    = ap (λ b. head o ++ called [] (arguments_of b f (all_shown sig ts))) (sym none)
    ∙ prefix_tokens sig f (all_shown sig ts) o c.in-Some.ensures (ap (is_mixfix o) (length_shown sig ts) ∙ sym c.if-is_mixfix.ensures) ∙ ap (λ p. p.tokens) (plain sig f plain_is ts) in
    rw (← tokens)
    (on_ok_weaker c.print_args.result (writes_both c.args.writer.now c.print_head.new.writer c.print_args.new.writer (head o) (called [] (arguments_of false f (all_shown sig ts))) c.in_ok-print_head-in-Some-3.ensures)
    c.print_args.ensures)

pub print_chain-loop-rest-preserved : goal.print_chain-loop-rest-preserved
print_chain-loop-rest-preserved t c =
    let sig = c.args.signature.now in
    let f = c.args.number in
    let o = c.args.operator.now in
    let all = c.args.args.now in
    let u = c.args.writer.now in
    let rest = c.loop-rest.rest.now in
    let arg = c.arg-item.result in
    let behind = take (length rest - 1) (drop 1 rest) in
    let is : rest ≡ arg ∷ behind = front_and rest arg c.in-len1-up.len_at_least c.arg-item.is in
    let size : length rest ≡ suc (length behind) = ap length is in
    let lower = lower_behind rest arg behind is in
    let two : 2 ≤ length behind = c.if-behind-lt2.false in
    let at = c.loop-rest.invariant in
    let more : suc (length all - length rest) ≡ length all - length behind = omega (arith, size, at.within) in
    record {
      text = subst (λ n. IsOpen sig f o u c.print_front.new.writer behind n all) more
          (past_front sig f o u all c.requires.there c.requires.joint c.requires.mixfix c.loop-rest.writer c.print_front.new.writer rest behind arg (length all - length rest) is two at.text c.in_ok-print_front.ensures);
      two = two;
      within = omega (arith, size, at.within);
      lower = omega (arith, lower, at.lower);
    }

pub print_chain-loop-init : goal.print_chain-loop-init
print_chain-loop-init t c =
    let sig = c.args.signature.now in
    let f = c.args.number in
    let o = c.args.operator.now in
    let all = c.args.args.now in
    let u = c.args.writer.now in
    let rest = c.loop-rest.rest.now in
    let at = c.loop-rest.invariant in
    let behind = take (length rest - 1) (drop 1 rest) in
    let size : length rest ≡ 2 = elim c.if-rest-lt1.branch [
      | print_chain-in_default w ↦ absurd (omega (arith, w.in_default.len_below, at.two))
      | print_chain-in-len1-up+then-behind-lt2 w ↦
          let is : rest ≡ w.arg-item.result ∷ behind = front_and rest w.arg-item.result w.in-len1-up.len_at_least w.arg-item.is in
          omega (arith, ap length is, w.if-behind-lt2.true, at.two)
    ] in
    let left : length all - length rest ≡ length all - 2 = ap (λ n. length all - n) size in
    record {
      text = subst (λ n. IsEnding sig f o u c.print_mixfix.new.writer n all) left
          (past_last sig f o u all c.requires.there c.requires.joint c.requires.mixfix c.loop-rest.writer c.print_mixfix.new.writer rest (length all - length rest) size at.text c.in_ok-print_mixfix.ensures);
      end = refl;
    }

pub print_chain-loop-preserved : goal.print_chain-loop-preserved
print_chain-loop-preserved t c =
    let sig = c.args.signature.now in
    let f = c.args.number in
    let o = c.args.operator.now in
    let all = c.args.args.now in
    let u = c.args.writer.now in
    let below = c.loop-test.true in
    let fewer : length all - c.loop.counter ≡ suc (length all - (c.loop.counter + 1)) = omega (arith, below) in
    record {
      text = past_back sig f o u all c.loop.writer c.print_back.new.writer (length all - (c.loop.counter + 1))
          (subst (λ n. IsEnding sig f o u c.loop.writer n all) fewer c.loop.invariant.text) c.in_ok-print_back.ensures;
      end = refl;
    }
