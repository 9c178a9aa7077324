use Rattle.std.proofs.Common.{rules, ◌∙◌, ap, subst}
use Rattle.mw_logic.specs.Term.{RawTerm, apply, cons}
use Rattle.mw_frames.specs.Steps.{IsAsked}
use Rattle.mw_frames.proofs.Pairs.{pair_asked}
use Rattle.mw_reduce.proofs.pairs.next_joined.Goals as goal

pub returns-clause-joined : goal.returns-clause-joined
returns-clause-joined c = λ K k d run here joins a b asked.
    let f = c.args.operator in
    let p = c.in-Some.pair in
    let x : RawTerm = p.first.now in
    let y : RawTerm = p.second.now in
    let first = c.in-Some.ensures.first a b in
    let all : IsAsked K k d (apply f (cons x (cons y (cons first.next first.others)))) = subst (λ us. IsAsked K k d (apply f us)) (first.sorted ∙ ap (λ us. cons x (cons y us)) first.more) asked in
    let (inside, two) = pair_asked K c.args.context.now.signature run k d f x y first.next first.others joins all in
    let (row, number) = rw c.in-Some-2.is at (c.in_ok-to.ensures K k inside run here two) in
    let nothing = c.in_ok-normal.ensures K run here row.value number (search rules) in
    record {
      first = x;
      second = y;
      are_first = first;
      met = record { joins = joins; row = row; number = number.0; gives = number.1; nothing = nothing };
      last = c.comes_last.ensures (search rules) p.left.made first.made_order;
    }
