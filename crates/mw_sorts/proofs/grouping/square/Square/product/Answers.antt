use Rattle.std.proofs.Common.{◌≡◌, ◌∙◌, ◌<◌, ℕ, List, length, get_or, rules, ap, sym, subst}
use Rattle.mw_sorts.specs.Squares.{IsSquare, width, product}
use Rattle.mw_sorts.specs.declared.grouping.square.Square.{Square}
use Rattle.mw_sorts.proofs.Heads.{product-read}
use Rattle.mw_sorts.proofs.grouping.square.Square.product.Goals as goal

-- the same of what was read in steps
read : (q : Square) (i j c r : ℕ) (rows : List (List ℕ)) (cells slice : List ℕ) → IsSquare q → i < width q → j < width q → c ≡ get_or q.columns.items j c → r ≡ get_or q.rows.items i r → rows ≡ q.results → cells ≡ get_or rows r cells → slice ≡ cells
    → (c < length slice) × (get_or slice c 0 ≡ product q i j)
read q i j c r rows cells slice h li lj ce re all ge same =
    let (l, e) = product-read q i j c r cells h li lj ce re (subst (λ (xs : List (List ℕ)). cells ≡ get_or xs r cells) all ge) in
    (subst (λ (xs : List ℕ). c < length xs) (sym same) l, ap (λ (xs : List ℕ). get_or xs c 0) same ∙ e)

pub offset_bounds-as_slice-index-2 : goal.offset_bounds-as_slice-index-2
offset_bounds-as_slice-index-2 c =
    let l = (read c.args.self.now c.args.first c.args.second _ _ _ _ _ c.requires.square c.requires.first c.requires.second c.index-2.ensures c.index.ensures c.as_slice.ensures c.index-as_slice-index.is c.as_slice-2.ensures).0 in
    search rules

pub bounds-as_slice-index-2 : goal.bounds-as_slice-index-2
bounds-as_slice-index-2 c = (read c.args.self.now c.args.first c.args.second _ _ _ _ _ c.requires.square c.requires.first c.requires.second c.index-2.ensures c.index.ensures c.as_slice.ensures c.index-as_slice-index.is c.as_slice-2.ensures).0

pub returns-clause-product : goal.returns-clause-product
returns-clause-product c = (read c.args.self.now c.args.first c.args.second _ _ _ _ _ c.requires.square c.requires.first c.requires.second c.index-2.ensures c.index.ensures c.as_slice.ensures c.index-as_slice-index.is c.as_slice-2.ensures).1

pub returns-clause-within : goal.returns-clause-within
returns-clause-within c =
    let e = (read c.args.self.now c.args.first c.args.second _ _ _ _ _ c.requires.square c.requires.first c.requires.second c.index-2.ensures c.index.ensures c.as_slice.ensures c.index-as_slice-index.is c.as_slice-2.ensures).1 in
    subst (λ x. x < width c.args.self.now) (sym e) (c.requires.square.within c.args.first c.args.second c.requires.first c.requires.second)
