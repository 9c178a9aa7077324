use Rattle.std.proofs.Common.{◌≡◌, ◌<◌, ◌-◌, ℕ, List, length, map, get_or, ap, subst, ◌∙◌, arith}
use Rattle.std.specs.Prelude.{slice_get, Some, Bool, cond}
use Rattle.std.proofs.lemmas.List.{length-map}
use Rattle.mw_logic.specs.Signature.{Declaration, Operator}
use Rattle.mw_logic.specs.Signature as logic
use Rattle.mw_term.specs.Signatures.{sorted_of}
use Rattle.mw_term.specs.declared.signature.Sorted.{Sorted}
use Rattle.mw_sorts.specs.States.{turned, ways}
use Rattle.mw_sorts.proofs.Getting.{read-or, get-map}
use Rattle.mw_sorts.proofs.Ways.{turned-two, turned-get}
use Rattle.mw_sorts.proofs.narrow.argument.Goals as goal

-- the arguments as they are held
long : (d : Declaration) (held read : List Sorted) (place : ℕ) → map sorted_of held ≡ d.args → read ≡ held → place < length d.args → place < length read
long d held read place e h l = let m = ap length e in let n = length-map held sorted_of in let k = ap length h in omega (arith, m, n, k, l)

got : (d : Declaration) (held read : List Sorted) (place : ℕ) (x : Sorted) → map sorted_of held ≡ d.args → read ≡ held → place < length d.args → slice_get d.args place ≡ Some (sorted_of (get_or read place x))
got d held read place x e h l = subst (λ (list : List logic.Sorted). slice_get list place ≡ Some (sorted_of (get_or read place x))) e (get-map sorted_of held place _ (read-or held read place x h (long d held read place e h l)))

pub overflow_sub-result : goal.overflow_sub-result
overflow_sub-result c =
    let e = c.declaration_at-is_turned.ensures in
    let l = turned-two c.args.operator.now c.declaration_at-is_turned.result.0.now c.declaration_at-is_turned.result.1 c.args.number c.args.place e.declared.0 e.declared.1 c.requires.pairs e.there c.requires.argument c.if-is_turned.true in
    omega (arith, l.1)

pub returns-then-is_turned : goal.returns-then-is_turned
returns-then-is_turned c =
    let d : Declaration = c.declaration_at-is_turned.result.0.now in
    let t : Bool = c.declaration_at-is_turned.result.1 in
    let e = c.declaration_at-is_turned.ensures in
    let l = turned-two c.args.operator.now d t c.args.number c.args.place e.declared.0 e.declared.1 c.requires.pairs e.there c.requires.argument c.if-is_turned.true in
    let k = got d c.declaration.inside.args c.as_slice-args.result.now (1 - c.args.place) (Sorted.Sort 0) (ap (λ (b : Declaration). b.args) c.declaration.view_is) c.as_slice-args.ensures (omega (arith, l.0)) in
    (turned d, e.there ∙ ap (λ (t : Bool). Some (cond t (turned d) d)) c.if-is_turned.true, turned-get d c.args.place _ l.0 l.1 k)

pub returns-else-is_turned : goal.returns-else-is_turned
returns-else-is_turned c =
    let d : Declaration = c.declaration_at-is_turned.result.0.now in
    let there : slice_get (ways c.args.operator.now) c.args.number ≡ Some d = c.declaration_at-is_turned.ensures.there ∙ ap (λ (t : Bool). Some (cond t (turned d) d)) c.if-is_turned.false in
    (d, there, got d c.declaration.inside.args c.as_slice-args.result.now c.args.place (Sorted.Sort 0) (ap (λ (b : Declaration). b.args) c.declaration.view_is) c.as_slice-args.ensures (c.requires.argument d there))
