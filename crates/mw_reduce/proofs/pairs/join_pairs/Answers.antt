use Rattle.std.proofs.Common.{rules, arith, refl, sym, subst, ap, ◌∙◌, ◌≡◌, ◌≤◌, ◌+◌, ◌++◌, ◌∷◌, [], ℕ, List, drop, length}
use Rattle.std.proofs.lemmas.List.{length-append}
use Rattle.mw_logic.specs.Term.{RawTerm, RawTerms, apply, nil, cons, join}
use Rattle.mw_logic.specs.Terms.{terms_of}
use Rattle.mw_logic.specs.Signature.{Signature}
use Rattle.mw_logic.specs.TermOrder.{sorted_terms}
use Rattle.mw_logic.specs.NormalForm.{applied_in}
use Rattle.mw_logic.proofs.SortedLists.{Climbs}
use Rattle.mw_frames.specs.Machines.{data_of}
use Rattle.mw_frames.specs.Steps.{IsAsked}
use Rattle.mw_frames.specs.Pairs.{IsJoining}
use Rattle.mw_reduce.proofs.Joining.{joining_begins, joining_ends, put_in_order, put_made}
use Rattle.mw_reduce.proofs.pairs.join_pairs.Goals as goal

pub loop-count-init : goal.loop-count-init
loop-count-init c = (
  omega arith,
  omega arith,
  λ e. refl,
  λ K k run here joins asked.
      let f = c.in-Op.operator in
      let ts = terms_of c.in-Op.args.now in
      let z = joining_begins K c.args.context.now.signature run k (data_of K.over c.args.machine.now) f c.args.term.now ts joins c.in-Op.ensures asked in
      let same : k ≡ k + 0 = omega arith in
      rw c.new-made.ensures.items (z.0, tt, subst (λ n. IsAsked K n (data_of K.over c.args.machine.now) (apply f (sorted_terms (join ts nil)))) same z.1),
)

pub loop-count-preserved : goal.loop-count-preserved
loop-count-preserved c =
    let inv = c.loop-count.invariant in
    let made = c.as_slice.result.now in
    let left = c.loop-count.left in
    let next = c.in-Some.joined.left in
    let to : RawTerm = c.in-Some.joined.to in
    let same = sym c.as_slice.ensures.value in
    let within : next.made ≤ length made = rw c.in-Some.is at (c.in_ok-joined.ensures.within (subst (λ (xs : List RawTerm). left.made ≤ length xs) same inv.1)) in
    let items : c.push.new.self.items ≡ made ++ to ∷ [] = c.in_ok-push.ensures.items ∙ ap (λ xs. xs ++ to ∷ []) same in
    let longer : next.made ≤ length c.push.new.self.items = let l = ap length items in let n = length-append made (to ∷ []) in omega (arith, within, l, n) in
    let shape = ap (λ xs. terms_of (drop next.made xs)) items ∙ put_made made next.made to within in (
      (search rules),
      longer,
      λ e. absurd (omega (arith, e)),
      λ K k run here joins asked.
          let f = c.in-Op.operator in
          let own = terms_of (drop next.own c.in-Op.args.now) in
          let n : ℕ = k + c.loop-count.count in
          let d = data_of K.over c.loop-count.machine in
          let (a, b, now) = inv.3 K k run here joins asked in
          let b' = subst (λ xs. Climbs (terms_of (drop left.made xs))) same b in
          let now' = subst (λ xs. IsAsked K n d (apply f (sorted_terms (join (terms_of (drop left.own c.in-Op.args.now)) (terms_of (drop left.made xs)))))) same now in
          let j = rw c.in-Some.is at (c.in_ok-joined.ensures.joined K n d run here joins a b' now') in
          let first = j.are_first in
          let all = subst (λ us. IsAsked K n d (apply f us)) (first.sorted ∙ ap (λ us. cons j.first (cons j.second us)) first.more) now' in
          let met = c.in_ok-meet_pair.ensures K n c.args.context.now.signature f j.first j.second first.next first.others run all j.met in
          let order = sym (put_in_order own (terms_of (drop next.made made)) to (cons first.next first.others) first.more) ∙ ap (λ us. sorted_terms (join own us)) (sym shape) in
          let more : Rattle.std.specs.Prelude.suc n ≡ k + (c.loop-count.count + 1) = omega arith in (
            first.own_order,
            subst Climbs (sym shape) j.last,
            subst (λ m. IsAsked K m (data_of K.over c.meet_pair.new.machine) (apply f (sorted_terms (join own (terms_of (drop next.made c.push.new.self.items)))))) more
                (subst (λ us. IsAsked K (Rattle.std.specs.Prelude.suc n) (data_of K.over c.meet_pair.new.machine) (apply f us)) order met),
          ),
    )

pub returns : goal.returns
returns c = λ K k run over asked.
    let f = c.in-Op.operator in
    let left = c.loop-count.left in
    let inv = c.loop-count.invariant in
    let here : Signature = K.over.signature in
    let joins : IsJoining here f = subst (λ s. IsJoining s f) (c.facts.ensures ∙ sym run.signature) (c.is_joining.ensures (search rules)) in
    let n : ℕ = k + c.loop-count.count in
    let d = data_of K.over c.loop-count.machine in
    let own = terms_of (drop left.own c.in-Op.args.now) in
    let ts : RawTerms = join own (terms_of (drop left.made c.loop-count.made.items)) in
    let now = (inv.3 K k run over joins asked).2 in
    let is = c.in_ok-term.ensures ∙ ap (λ s. applied_in s f (join own (terms_of (drop left.made c.as_slice-2.result.now)))) (c.facts-2.ensures ∙ sym run.signature)
    ∙ ap (λ xs. applied_in here f (join own (terms_of (drop left.made xs)))) c.as_slice-2.ensures.value ∙ joining_ends K c.args.context.now.signature run n d f ts joins now in
    ((search rules), inv.0, subst (IsAsked K n d) (sym is) now)
