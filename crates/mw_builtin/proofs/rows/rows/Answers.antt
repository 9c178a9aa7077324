use Rattle.std.proofs.Common.{◌≡◌, ◌∙◌, ◌≤◌, ◌+◌, ◌++◌, [], ◌∷◌, ℕ, arith, List, length, ap, subst, length-append}
use Rattle.mw_logic.specs.Signature.{Signature}
use Rattle.mw_builtin.specs.declared.schema.Schema.{Schema}
use Rattle.mw_builtin.proofs.Naming.{row_pushed, rows_end}
use Rattle.mw_builtin.proofs.rows.rows.Goals as goal

pub loop-index-preserved : goal.loop-index-preserved
loop-index-preserved c =
    let n : ℕ = c.loop-index.index in
    let rows : List Schema = c.loop-index.rows.items in
    let size : length rows ≡ n = c.loop-index.invariant.size in
    let longer : length (rows ++ c.schema.result ∷ []) ≡ length rows + 1 = length-append rows (c.schema.result ∷ []) in
    record {
      each = row_pushed c.args.signature.now rows c.push.new.self.items n c.schema.result size c.in_ok-push.ensures.items c.loop-index.invariant.each c.schema.ensures;
      size = ap length c.in_ok-push.ensures.items ∙ omega (arith, longer, size);
    }

pub returns : goal.returns
returns c =
    let os : c.as_slice-count.result.now ≡ c.args.signature.now.operators = c.as_slice-count.ensures ∙ ap (λ (s : Signature). s.operators) c.signature.view_is in
    rows_end c.args.signature.now c.loop-index.rows.items c.loop-index.index c.loop-index.invariant.size (subst (λ xs. length xs ≤ c.loop-index.index) os c.loop-index-test.false) c.loop-index.invariant.each
