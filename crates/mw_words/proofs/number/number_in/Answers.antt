use Rattle.std.proofs.Common.{◌≡◌, ◌∙◌, ◌<◌, ◌^◌, arith, sym, ap}
use Rattle.std.proofs.lemmas.Fmt.{parse-decimal}
use Rattle.std.proofs.lemmas.Slice.Eq.{slice_eq-Decides}
use Rattle.std.proofs.lemmas.Bool.Decides.{Decides-eqb}
use Rattle.std.specs.Fmt.{decimal}
use Rattle.mw_words.proofs.number.number_in.Goals as goal
use Rattle.mw_words.proofs.number.number_in.Goals.{else-eq-via-then-eq+then-low-number+else-number-high, else-eq-via-then-eq+else-low-number, else-eq-via-else-eq}

pub returns-in_default : goal.returns-in_default
returns-in_default c = λ n is.
    let small : n < 2 ^ 64 = omega (arith, is.most) in
    let read = parse-decimal 64 n c.args.text.now c.parse.result small small is.digits c.parse.ensures.value.0 in
    let no : ⊥ = (cc (read, c.in_default.is)) in no

pub returns : goal.returns
returns c = λ n is.
    let small : n < 2 ^ 64 = omega (arith, is.most) in
    let read = parse-decimal 64 n c.args.text.now c.parse.result small small is.digits c.parse.ensures.value.0 in
    let same : n ≡ c.in-Ok.number = (cc (read, c.in-Ok.is)) in
    elim c.else-eq.branch [
      | else-eq-via-then-eq+then-low-number+else-number-high w ↦ omega (arith, same, is.most, w.if-number-high.false)
      | else-eq-via-then-eq+else-low-number w ↦ omega (arith, same, is.least, w.if-low-number.false)
      | else-eq-via-else-eq w ↦
          let equal : c.as_str.result.now ≡ c.args.text.now = c.as_str.ensures.value ∙ (c.in_ok-plain.ensures.ok ∙ ap decimal (sym same) ∙ sym is.digits) in
          let yes = (slice_eq-Decides Decides-eqb c.as_str.result.now c.args.text.now c.eq.result c.eq.ensures).1 equal in
          let no : ⊥ = (cc (yes, w.if-eq.false)) in no
    ]
