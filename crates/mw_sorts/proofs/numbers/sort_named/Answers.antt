use Rattle.std.proofs.Common.{◌≡◌, ◌<◌, ◌∙◌, ℕ, zero, suc, List, length, get_or, ap, sym, subst, inl, inr, arith}
use Rattle.std.specs.Prelude.{slice_get, Some, true}
use Rattle.std.proofs.Math.Dec.{eqb}
use lib.Pointwise.{pointwise}
use Rattle.std.proofs.lemmas.Bool.{both_ways}
use Rattle.mw_logic.specs.Signature.{Signature, at_number}
use Rattle.mw_sorts.proofs.Getting.{read-get, get-none, get-within, get-same}
use Rattle.mw_sorts.proofs.Growing.{less_or_at}
use Rattle.mw_sorts.proofs.Numbering.{same_numbers, numbers_same}
use Rattle.mw_sorts.proofs.numbers.sort_named.Goals as goal

pub returns : goal.returns
returns c zero e = get-none e
returns c (suc j) e =
    let w = get-within c.args.signature.now.sorts j c.args.name.now e in
    let l = c.loop-index-test.false in
    let m = ap (λ (ns : List (List ℕ)). length ns) (c.as_slice-known-items.ensures ∙ ap (λ (s : Signature). s.sorts) c.signature.view_is) in
    c.loop-index.invariant j (omega (arith, w, l, m)) e

-- the sort that the loop has come to
next_is : (sig : Signature) (read : List (List ℕ)) (n : ℕ) (name : List ℕ) → read ≡ sig.sorts → n < length read → name ≡ get_or read n name → slice_get sig.sorts n ≡ Some name
next_is sig read n name e l h = read-get sig.sorts read n name e (subst (λ (ns : List (List ℕ)). n < length ns) e l) h

pub loop-index-preserved : goal.loop-index-preserved
loop-index-preserved c j l e = elim (less_or_at j c.loop-index.index l) [
  | inl low ↦ c.loop-index.invariant j low e
  | inr at ↦
      let n = c.loop-index.index in
      let known : List ℕ = c.known-item.result in
      let is = next_is c.args.signature.now c.as_slice-known-items.result.now n known (c.as_slice-known-items.ensures ∙ ap (λ (s : Signature). s.sorts) c.signature.view_is) c.loop-index-test.true c.known-item.is in
      let same : known ≡ c.args.name.now = get-same c.args.signature.now.sorts n known c.args.name.now is (subst (λ k. slice_get c.args.signature.now.sorts k ≡ Some c.args.name.now) at e) in
      let yes : pointwise eqb c.as_slice.result.now c.args.name.now ≡ true = subst (λ (ns : List ℕ). pointwise eqb ns c.args.name.now ≡ true) (sym (c.as_slice.ensures ∙ same)) (numbers_same c.args.name.now) in
      both_ways _ (sym c.eq.ensures ∙ c.if-eq.false) yes
]

pub returns-then-eq : goal.returns-then-eq
returns-then-eq c =
    let n = c.loop-index.index in
    let known : List ℕ = c.known-item.result in
    let is = next_is c.args.signature.now c.as_slice-known-items.result.now n known (c.as_slice-known-items.ensures ∙ ap (λ (s : Signature). s.sorts) c.signature.view_is) c.loop-index-test.true c.known-item.is in
    let same : known ≡ c.args.name.now = sym c.as_slice.ensures ∙ same_numbers c.as_slice.result.now c.args.name.now (sym c.eq.ensures ∙ c.if-eq.true) in
    let one : c.in_ok-number.number ≡ suc n = omega (arith, c.in_ok-number.ensures) in
    subst (λ k. at_number c.args.signature.now.sorts k ≡ Some c.args.name.now) (sym one) (is ∙ ap Some same)
