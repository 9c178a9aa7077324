use Rattle.std.proofs.Common.{◌≡◌, ◌∙◌, ◌-◌, ◌<◌, [], ◌∷◌, codes, length, take, drop, sym, arith}
use Rattle.std.proofs.lemmas.Result.{on_ok_weaker}
use Rattle.mw_print.specs.Tokens.{token, opening}
use Rattle.mw_print.specs.Printing.{divided}
use Rattle.mw_print.specs.Prefix.{forms_of}
use Rattle.mw_print.proofs.Forms.{called_some, some_of}
use Rattle.mw_print.proofs.Lists.{writes_both, front_and, lower_behind}
use Rattle.mw_print.proofs.PrefixForms.{forms_some, past_form}
use Rattle.mw_print.proofs.numbered.+form.Goals as goal

pub write_args-returns : goal.write_args-returns
write_args-returns t c =
    let forms = forms_of c.args.signature.now c.args.args.now in
    let u = c.args.writer.now in
    let v = c.write_list.new.writer in
    let some = forms_some c.args.signature.now c.args.args.now (some_of (length c.args.args.now) (sym c.is_empty.ensures ∙ c.if-is_empty.false)) in
    let before = writes_both u c.open.new.self v (opening ∷ []) (divided forms) c.in_ok-open.ensures c.in_ok-write_list.ensures in
    rw (called_some [] forms some) (on_ok_weaker c.token.result (writes_both u v c.token.new.self (opening ∷ divided forms) (token (codes ")") ∷ []) before) c.token.ensures)

pub write_list-loop-rest-preserved : goal.write_list-loop-rest-preserved
write_list-loop-rest-preserved t c =
    let rest = c.loop-rest.rest.now in
    let arg = c.arg-item.result in
    let behind = take (length rest - 1) (drop 1 rest) in
    let is : rest ≡ arg ∷ behind = front_and rest arg c.in-len1-up.len_at_least c.arg-item.is in
    let some : 0 < length behind = some_of (length behind) (sym c.is_empty.ensures ∙ c.if-is_empty.false) in
    let lower = lower_behind rest arg behind is in
    record {
      text = λ ts. past_form c.args.signature.now c.loop-rest.writer c.write_form.new.writer c.comma.new.self arg rest behind is some c.in_ok-write_form.ensures c.in_ok-comma.ensures ts
          ∙ c.loop-rest.invariant.text ts;
      lower = omega (arith, lower, c.loop-rest.invariant.lower);
    }
