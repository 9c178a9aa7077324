-- What becomes of goals.
use Rattle.std.proofs.Common.{◌≡◌, ◌==◌, ◌∙◌, ℕ, zero, suc, ◌+◌, ◌-◌, ◌<◌, ◌≤◌, min, true, false, cond, nat_eq, List, [], ◌∷◌, ◌++◌, length, get_or, drop, map, ap, sym, subst, refl, arith}
use Rattle.std.specs.Prelude.{Some, None, Option, Bool, is_some, option_map}
use Rattle.std.proofs.lemmas.Bool.{both_ways, eqb-true, eq-eqb}
use Rattle.std.proofs.Math.Path.{fun_ext}
use Rattle.mw_logic.specs.Term.{RawTerm, apply, RawTerms, nil, cons}
use Rattle.mw_logic.specs.Terms.{args_of, terms_of, front, skip}
use Rattle.mw_logic.specs.Parts.{number_of_terms}
use Rattle.mw_logic.specs.Signature.{Signature, Identity}
use Rattle.mw_logic.specs.NormalForm.{identity_of, rebuilt}
use Rattle.mw_arguments.specs.Pieces.{is_backed}
use Rattle.mw_arguments.specs.Splits.{orders}
use Rattle.mw_matching.specs.Patterns.{is_rigid}
use Rattle.mw_matching.specs.Multisets.{behind_first}
use Rattle.mw_matching.specs.Found.{Values, is_single, numbers_from, first_term, are_none, fronts}
use Rattle.mw_search.specs.Traces.{Trace, ticked, trace, trace_all, trace_row, trace_orders}
use Rattle.mw_search.specs.Goals.{top_of, IsNext, Share, front_share, order_share, goal_trace, share_trace, shares_left}
use Rattle.mw_search.specs.declared.goals.Goal.TheVariants.{Args, Row}
use Rattle.mw_search.specs.declared.shares.Fronts.{Fronts}
use Rattle.mw_search.specs.declared.shares.Orders.{Orders}
use Rattle.mw_search.specs.declared.shares.Shares.TheVariants.{OfRow, OfOrders}
use Rattle.mw_search.proofs.Lists.{skip_at, skip_past, skip_skip, skip_min}

pub rebuilt_two : (e : Option Identity) (f : ℕ) (ts : List RawTerm) → 2 ≤ length ts → rebuilt e f (terms_of ts) ≡ apply f (terms_of ts)
rebuilt_two e f [] h = absurd (omega (arith, h))
rebuilt_two e f (t ∷ []) h = absurd (omega (arith, h))
rebuilt_two e f (t ∷ u ∷ ts) h = refl

pub share_same : (t u p q r s : RawTerm) (i m n : ℕ) → t ≡ u → p ≡ q → r ≡ s → m ≡ n → ◌≡◌ {A = Share} (t, Row p i r m) (u, Row q i s n)
share_same t u p q r s i m n a b c d = cc

-- the arguments of p
pub at_args : (p q : RawTerm) (ps : List RawTerm) (i : ℕ) → terms_of ps ≡ args_of p → i < length ps → q ≡ get_or ps i q → skip i (args_of p) ≡ cons q (skip (i + 1) (args_of p))
at_args p q ps i e h g = ap (skip i) (sym e) ∙ skip_at ps i q h g ∙ ap (λ xs. cons q (skip (i + 1) xs)) e

pub past_args : (p : RawTerm) (ps : List RawTerm) (i : ℕ) → terms_of ps ≡ args_of p → length ps ≤ i → skip i (args_of p) ≡ nil
past_args p ps i e h = ap (skip i) (sym e) ∙ skip_past ps i h

pub args_first : (sig : Signature) (single : List (List ℕ)) (p t q u : RawTerm) (ps ts : List RawTerm) (i : ℕ) → terms_of ps ≡ args_of p → terms_of ts ≡ args_of t → i < length ps → q ≡ get_or ps i q → i < length ts → u ≡ get_or ts i u
    → (vs : Values) (k : Values → Trace) → trace_all sig single (skip i (args_of p)) (skip i (args_of t)) vs k ≡ None ∷ trace sig single q u vs (λ us. trace_all sig single (skip (i + 1) (args_of p)) (skip (i + 1) (args_of t)) us k)
args_first sig single p t q u ps ts i ep et hp gp ht gt vs k =
    ap (λ xs. trace_all sig single xs (skip i (args_of t)) vs k) (at_args p q ps i ep hp gp) ∙ ap (λ ys. trace_all sig single (cons q (skip (i + 1) (args_of p))) ys vs k) (at_args t u ts i et ht gt)

pub args_none : (sig : Signature) (single : List (List ℕ)) (p t : RawTerm) (ps ts : List RawTerm) (i : ℕ) → terms_of ps ≡ args_of p → terms_of ts ≡ args_of t → length ps ≤ i → length ts ≤ i
    → (vs : Values) (k : Values → Trace) → trace_all sig single (skip i (args_of p)) (skip i (args_of t)) vs k ≡ None ∷ k vs
args_none sig single p t ps ts i ep et hp ht vs k =
    ap (λ xs. trace_all sig single xs (skip i (args_of t)) vs k) (past_args p ps i ep hp) ∙ ap (λ ys. trace_all sig single nil ys vs k) (past_args t ts i et ht)

pub args_fewer : (sig : Signature) (single : List (List ℕ)) (p t u : RawTerm) (ps ts : List RawTerm) (i : ℕ) → terms_of ps ≡ args_of p → terms_of ts ≡ args_of t → length ps ≤ i → i < length ts → u ≡ get_or ts i u
    → (vs : Values) (k : Values → Trace) → trace_all sig single (skip i (args_of p)) (skip i (args_of t)) vs k ≡ None ∷ []
args_fewer sig single p t u ps ts i ep et hp ht gt vs k =
    ap (λ xs. trace_all sig single xs (skip i (args_of t)) vs k) (past_args p ps i ep hp) ∙ ap (λ ys. trace_all sig single nil ys vs k) (at_args t u ts i et ht gt)

pub args_more : (sig : Signature) (single : List (List ℕ)) (p t q : RawTerm) (ps ts : List RawTerm) (i : ℕ) → terms_of ps ≡ args_of p → terms_of ts ≡ args_of t → i < length ps → q ≡ get_or ps i q → length ts ≤ i
    → (vs : Values) (k : Values → Trace) → trace_all sig single (skip i (args_of p)) (skip i (args_of t)) vs k ≡ None ∷ []
args_more sig single p t q ps ts i ep et hp gp ht vs k =
    ap (λ xs. trace_all sig single xs (skip i (args_of t)) vs k) (at_args p q ps i ep hp gp) ∙ ap (λ ys. trace_all sig single (cons q (skip (i + 1) (args_of p))) ys vs k) (past_args t ts i et ht)

pub ticked_map : {X Y : Type 0} (F : Y → Trace) (at : X → Y) (xs : List X) → ticked F (map at xs) ≡ ticked (λ x. F (at x)) xs
ticked_map F at [] = refl
ticked_map F at (x ∷ xs) = ap (λ l. None ∷ (F (at x) ++ l)) (ticked_map F at xs)

pub ticked_same : {X : Type 0} (F G : X → Trace) (xs : List X) → ((x : X) → F x ≡ G x) → ticked F xs ≡ ticked G xs
ticked_same F G [] h = refl
ticked_same F G (x ∷ xs) h = ap (λ l. None ∷ (l ++ ticked F xs)) (h x) ∙ ap (λ l. None ∷ (G x ++ l)) (ticked_same F G xs h)

some_left : (rs : List RawTerm) (j : ℕ) → j < length rs → (z : RawTerm) × (zs : RawTerms) × (skip j (terms_of rs) ≡ cons z zs)
some_left [] j h = absurd (omega (arith, h))
some_left (z ∷ rs) zero h = (z, terms_of rs, refl)
some_left (z ∷ rs) (suc j) h = some_left rs j (omega (arith, h))

pub none_left : (p : RawTerm) (ps : List RawTerm) (i : ℕ) → terms_of ps ≡ args_of p → (b : Bool) → (b ≡ true → i ≡ length ps) → (b ≡ false → i < length ps) → are_none (skip i (args_of p)) ≡ b
none_left p ps i e true h k = ap are_none (past_args p ps i e (let w = h refl in omega (arith, w)))
none_left p ps i e false h k = let (z, zs, w) = some_left ps i (k refl) in ap are_none (ap (skip i) (sym e) ∙ w)

-- the next pattern's fronts
pub row_way : (sig : Signature) (single : List (List ℕ)) (p r q : RawTerm) (ps : List RawTerm) (i j : ℕ) (x y : Bool) → terms_of ps ≡ args_of p → i < length ps → q ≡ get_or ps i q → is_rigid sig (is_single single) (top_of p) q ≡ x → are_none (skip (i + 1) (args_of p)) ≡ y
    → (vs : Values) (k : Values → Trace) → trace_row sig single (top_of p) (skip i (args_of p)) (skip j (args_of r)) vs k
    ≡ None ∷ cond x
    (cond (are_none (skip j (args_of r))) [] (trace sig single q (first_term (skip j (args_of r))) vs (λ us. trace_row sig single (top_of p) (skip (i + 1) (args_of p)) (skip 1 (skip j (args_of r))) us k)))
    (cond y
    (cond (is_backed (identity_of sig (top_of p)) (skip j (args_of r))) (trace sig single q (rebuilt (identity_of sig (top_of p)) (top_of p) (skip j (args_of r))) vs k) [])
    (ticked (λ n. trace sig single q (rebuilt (identity_of sig (top_of p)) (top_of p) (front n (skip j (args_of r)))) vs (λ us. trace_row sig single (top_of p) (skip (i + 1) (args_of p)) (skip n (skip j (args_of r))) us k)) (fronts (is_some (identity_of sig (top_of p))) (number_of_terms (skip j (args_of r))))))
row_way sig single p r q ps i j x y ep hp gp ex ey vs k =
    let zs : RawTerms = skip j (args_of r) in
    let qs : RawTerms = skip (i + 1) (args_of p) in
    let f : ℕ = top_of p in
    let X : Trace = cond (are_none zs) [] (trace sig single q (first_term zs) vs (λ us. trace_row sig single f qs (skip 1 zs) us k)) in
    let Y : Trace = cond (is_backed (identity_of sig f) zs) (trace sig single q (rebuilt (identity_of sig f) f zs) vs k) [] in
    let Z : Trace = ticked (λ n. trace sig single q (rebuilt (identity_of sig f) f (front n zs)) vs (λ us. trace_row sig single f qs (skip n zs) us k)) (fronts (is_some (identity_of sig f)) (number_of_terms zs)) in
    ap (λ xs. trace_row sig single f xs zs vs k) (at_args p q ps i ep hp gp) ∙ ap (λ b. None ∷ cond b X (cond (are_none qs) Y Z)) ex ∙ ap (λ b. None ∷ cond x X (cond b Y Z)) ey

fronts_are : (e : Bool) (n next end : ℕ) → next ≡ cond e 0 1 → end ≡ n + 1 → numbers_from next (end - next) ≡ fronts e n
fronts_are true n next end h k = ap (λ m. numbers_from m (end - m)) h ∙ ap (numbers_from 0) (let w : end - 0 ≡ suc n = omega (arith, k) in w)
fronts_are false n next end h k = ap (λ m. numbers_from m (end - m)) h ∙ ap (numbers_from 1) (let w : end - 1 ≡ n = omega (arith, k) in w)

pub row_goes : (sig : Signature) (single : List (List ℕ)) (p r q q2 : RawTerm) (ps : List RawTerm) (i j n : ℕ) (e : Bool) (s : Fronts) → terms_of ps ≡ args_of p → i < length ps → q ≡ get_or ps i q → is_rigid sig (is_single single) (top_of p) q ≡ false
    → i + 1 < length ps → n ≡ number_of_terms (skip j (args_of r)) → e ≡ is_some (identity_of sig (top_of p))
    → ((m : ℕ) → front_share s m ≡ (rebuilt (identity_of sig (top_of p)) (top_of p) (front m (skip j (args_of r))), Row p (i + 1) r (min (j + m) (number_of_terms (args_of r))))) → q2 ≡ q
    → s.next ≡ cond e 0 1 → s.end ≡ n + 1
    → (vs : Values) (k : Values → Trace) → trace_row sig single (top_of p) (skip i (args_of p)) (skip j (args_of r)) vs k ≡ None ∷ ticked (share_trace sig single q2 vs k) (shares_left (OfRow s))
row_goes sig single p r q q2 ps i j n e s ep hp gp er lt en ee es eq sn se vs k =
    let f : ℕ = top_of p in
    let zs : RawTerms = skip j (args_of r) in
    let qs : RawTerms = skip (i + 1) (args_of p) in
    let ns : numbers_from s.next (s.end - s.next) ≡ fronts (is_some (identity_of sig f)) (number_of_terms zs) = fronts_are e n s.next s.end sn se ∙ ap (λ b. fronts b n) ee ∙ ap (fronts (is_some (identity_of sig f))) en in
    let more : are_none qs ≡ false = none_left p ps (i + 1) ep false (λ w. absurd (both_ways _ refl w)) (λ _. lt) in
    let F : ℕ → Trace = λ m. trace sig single q (rebuilt (identity_of sig f) f (front m zs)) vs (λ us. trace_row sig single f qs (skip m zs) us k) in
    let same : (m : ℕ) → F m ≡ share_trace sig single q vs k (front_share s m) =
    λ m. ap (trace sig single q (rebuilt (identity_of sig f) f (front m zs)) vs)
    (fun_ext (λ us. ap (λ ys. trace_row sig single f qs ys us k) (skip_skip j m (args_of r) ∙ sym (skip_min (j + m) (args_of r)))))
    ∙ ap (share_trace sig single q vs k) (sym (es m)) in
    row_way sig single p r q ps i j false false ep hp gp er more vs k
    ∙ ap (λ l. None ∷ ticked F l) (sym ns)
    ∙ ap (λ l. None ∷ l) (ticked_same F (λ m. share_trace sig single q vs k (front_share s m)) (numbers_from s.next (s.end - s.next)) same ∙ sym (ticked_map (share_trace sig single q vs k) (front_share s) (numbers_from s.next (s.end - s.next))))
    ∙ ap (λ x. None ∷ ticked (share_trace sig single x vs k) (shares_left (OfRow s))) (sym eq)

pub row_last : (p : RawTerm) (ps : List RawTerm) (i : ℕ) → terms_of ps ≡ args_of p → i + 1 ≡ length ps → are_none (skip (i + 1) (args_of p)) ≡ true
row_last p ps i e h = none_left p ps (i + 1) e true (λ _. h) (λ w. absurd (both_ways _ refl (sym w)))

-- an element alone
pub one_goes : (sig : Signature) (single : List (List ℕ)) (p r q u q2 u2 p2 r2 : RawTerm) (rs : List RawTerm) (i j : ℕ) → terms_of rs ≡ args_of r → j < length rs → u ≡ get_or rs j u
    → q2 ≡ q → u2 ≡ u → p2 ≡ p → r2 ≡ r → (vs : Values) (k : Values → Trace)
    → cond (are_none (skip j (args_of r))) [] (trace sig single q (first_term (skip j (args_of r))) vs (λ us. trace_row sig single (top_of p) (skip i (args_of p)) (skip 1 (skip j (args_of r))) us k))
    ≡ trace sig single q2 u2 vs (λ us. goal_trace sig single (Row p2 i r2 (j + 1)) us k)
one_goes sig single p r q u q2 u2 p2 r2 rs i j er hr gr eq eu e2 e3 vs k =
    let K : RawTerm → RawTerm → Values → Trace = λ x y us. goal_trace sig single (Row x i y (j + 1)) us k in
    let some : skip j (args_of r) ≡ cons u (skip (j + 1) (args_of r)) = at_args r u rs j er hr gr in
    ap (λ ys. cond (are_none ys) [] (trace sig single q (first_term ys) vs (λ us. trace_row sig single (top_of p) (skip i (args_of p)) (skip 1 ys) us k))) some
    ∙ ap (λ x. trace sig single x u vs (K p r)) (sym eq) ∙ ap (λ x. trace sig single q2 x vs (K p r)) (sym eu) ∙ ap (λ x. trace sig single q2 u2 vs (K x r)) (sym e2) ∙ ap (λ x. trace sig single q2 u2 vs (K p2 x)) (sym e3)

pub one_none : (sig : Signature) (single : List (List ℕ)) (r : RawTerm) (rs : List RawTerm) (j : ℕ) (X : Trace) → terms_of rs ≡ args_of r → length rs ≤ j → cond (are_none (skip j (args_of r))) [] X ≡ []
one_none sig single r rs j X er h = ap (λ ys. cond (are_none ys) [] X) (past_args r rs j er h)

pub backed_up : (e : Option Identity) (ts : List RawTerm) → 1 ≤ length ts → is_backed e (terms_of ts) ≡ true
backed_up e [] h = absurd (omega (arith, h))
backed_up None (t ∷ ts) h = refl
backed_up (Some i) (t ∷ ts) h = refl

pub orders_one : (ts : List RawTerm) → 1 ≤ length ts → length ts < 2 → orders (terms_of ts) ≡ []
orders_one [] h k = refl
orders_one (t ∷ []) h k = refl
orders_one (t ∷ u ∷ ts) h k = absurd (omega (arith, k))

pub orders_three : (ts : List RawTerm) → 3 ≤ length ts → orders (terms_of ts) ≡ []
orders_three [] h = absurd (omega (arith, h))
orders_three (t ∷ []) h = absurd (omega (arith, h))
orders_three (t ∷ u ∷ []) h = absurd (omega (arith, h))
orders_three (t ∷ u ∷ v ∷ ts) h = refl

pub none_ends : (sig : Signature) (single : List (List ℕ)) (p r : RawTerm) (ps : List RawTerm) (i j : ℕ) (zs : List RawTerm) → terms_of ps ≡ args_of p → length ps ≤ i → terms_of zs ≡ skip j (args_of r) → length zs ≡ 0
    → (vs : Values) (k : Values → Trace) → trace_row sig single (top_of p) (skip i (args_of p)) (skip j (args_of r)) vs k ≡ None ∷ k vs
none_ends sig single p r ps i j [] ep hp er h vs k = ap (λ xs. trace_row sig single (top_of p) xs (skip j (args_of r)) vs k) (past_args p ps i ep hp) ∙ ap (λ ys. trace_row sig single (top_of p) nil ys vs k) (sym er)
none_ends sig single p r ps i j (z ∷ zs) ep hp er h vs k = absurd (omega (arith, h))

pub some_ends : (sig : Signature) (single : List (List ℕ)) (p r : RawTerm) (ps : List RawTerm) (i j : ℕ) (zs : List RawTerm) → terms_of ps ≡ args_of p → length ps ≤ i → terms_of zs ≡ skip j (args_of r) → 0 < length zs
    → (vs : Values) (k : Values → Trace) → trace_row sig single (top_of p) (skip i (args_of p)) (skip j (args_of r)) vs k ≡ None ∷ []
some_ends sig single p r ps i j [] ep hp er h vs k = absurd (omega (arith, h))
some_ends sig single p r ps i j (z ∷ zs) ep hp er h vs k = ap (λ xs. trace_row sig single (top_of p) xs (skip j (args_of r)) vs k) (past_args p ps i ep hp) ∙ ap (λ ys. trace_row sig single (top_of p) nil ys vs k) (sym er)

-- both orders
pub orders_go : (sig : Signature) (single : List (List ℕ)) (p p2 q q2 : RawTerm) (qs : RawTerms) (ls : List RawTerm) (tss : List RawTerms) (s : Orders) → args_of p ≡ cons q qs → q2 ≡ q → map args_of ls ≡ tss → s.pattern ≡ p → s.lists.items ≡ ls → s.next ≡ 0
    → (vs : Values) (k : Values → Trace) → trace_orders sig single (args_of p) tss vs k ≡ ticked (share_trace sig single q2 vs k) (shares_left (OfOrders s))
orders_go sig single p p2 q q2 qs ls tss s ea eq et ep el en vs k =
    let F : RawTerms → Trace = λ ts. trace sig single q (first_term ts) vs (λ us. trace_all sig single qs (skip 1 ts) us k) in
    let G : RawTerm → Trace = λ l. share_trace sig single q vs k (order_share s l) in
    let same : (l : RawTerm) → F (args_of l) ≡ G l =
    λ l. ap (λ (xs : RawTerms). trace sig single q (first_term (args_of l)) vs (λ us. trace_all sig single (skip 1 xs) (skip 1 (args_of l)) us k)) (sym ea ∙ ap args_of (sym ep)) in
    ap (λ xs. trace_orders sig single xs tss vs k) ea ∙ ap (ticked F) (sym et) ∙ ticked_map F args_of ls ∙ ticked_same (λ l. F (args_of l)) G ls same
    ∙ sym (ticked_map (share_trace sig single q vs k) (order_share s) ls)
    ∙ ap (λ (ys : List RawTerm). ticked (share_trace sig single q vs k) (map (order_share s) ys)) (sym el)
    ∙ ap (λ n. ticked (share_trace sig single q vs k) (map (order_share s) (drop n s.lists.items))) (sym en)
    ∙ ap (λ x. ticked (share_trace sig single x vs k) (shares_left (OfOrders s))) (sym eq)

pub some_args : (p q : RawTerm) (ps : List RawTerm) → terms_of ps ≡ args_of p → 0 < length ps → q ≡ get_or ps 0 q → args_of p ≡ cons q (skip 1 (args_of p))
some_args p q ps e h g = at_args p q ps 0 e h g

-- the same by copies
pub args_goes : (sig : Signature) (single : List (List ℕ)) (p t q u p2 t2 q2 u2 : RawTerm) (ps ts : List RawTerm) (i : ℕ) → terms_of ps ≡ args_of p → terms_of ts ≡ args_of t → i < length ps → q ≡ get_or ps i q → i < length ts → u ≡ get_or ts i u
    → p2 ≡ p → t2 ≡ t → q2 ≡ q → u2 ≡ u
    → (vs : Values) (k : Values → Trace) → trace_all sig single (skip i (args_of p)) (skip i (args_of t)) vs k ≡ None ∷ trace sig single q2 u2 vs (λ us. goal_trace sig single (Args p2 t2 (i + 1)) us k)
args_goes sig single p t q u p2 t2 q2 u2 ps ts i ep et hp gp ht gt ap2 at2 aq au vs k =
    args_first sig single p t q u ps ts i ep et hp gp ht gt vs k
    ∙ ap (λ x. None ∷ trace sig single x u vs (λ us. goal_trace sig single (Args p t (i + 1)) us k)) (sym aq)
    ∙ ap (λ x. None ∷ trace sig single q2 x vs (λ us. goal_trace sig single (Args p t (i + 1)) us k)) (sym au)
    ∙ ap (λ x. None ∷ trace sig single q2 u2 vs (λ us. goal_trace sig single (Args x t (i + 1)) us k)) (sym ap2)
    ∙ ap (λ x. None ∷ trace sig single q2 u2 vs (λ us. goal_trace sig single (Args p2 x (i + 1)) us k)) (sym at2)

pub front_same : (d e : Option Identity) (p q r s : RawTerm) (i j m : ℕ) → d ≡ e → p ≡ q → r ≡ s
    → ◌≡◌ {A = Share} (rebuilt d (top_of p) (front m (skip j (args_of r))), Row p i r (min (j + m) (number_of_terms (args_of r)))) (rebuilt e (top_of q) (front m (skip j (args_of s))), Row q i s (min (j + m) (number_of_terms (args_of s))))
front_same d e p q r s i j m a b c = share_same _ _ p q r s i _ _ term b c (ap (λ x. min (j + m) (number_of_terms (args_of x))) c)
  where
    term : rebuilt d (top_of p) (front m (skip j (args_of r))) ≡ rebuilt e (top_of q) (front m (skip j (args_of s)))
    term = ap (λ x. rebuilt x (top_of p) (front m (skip j (args_of r)))) a ∙ ap (λ x. rebuilt e (top_of x) (front m (skip j (args_of r)))) b ∙ ap (λ x. rebuilt e (top_of q) (front m (skip j (args_of x)))) c

pub some_named : {X Y : Type 0} (at : X → Y) (o : Option X) → is_some (option_map at o) ≡ is_some o
some_named at None = refl
some_named at (Some x) = refl

pub got : (ts : List RawTerm) (i : ℕ) (d : RawTerm) → i < length ts → get_or ts i d ≡ get_or ts i (get_or ts i d)
got [] i d h = absurd (omega (arith, h))
got (x ∷ xs) zero d h = refl
got (x ∷ xs) (suc i) d h = got xs i d (omega (arith, h))

pub same_true : (m n : ℕ) → (m == n) ≡ true → m ≡ n
same_true m n h = eqb-true m n h

pub next_none : {X : Type 0} (o : Option X) (xs : List X) → o ≡ None → IsNext o xs → xs ≡ []
next_none o [] e h = refl
next_none o (x ∷ xs) e h = cc

pub next_some : {X : Type 0} (o : Option X) (x : X) (xs : List X) → o ≡ Some x → IsNext o xs → xs ≡ x ∷ behind_first xs
next_some o x [] e h = cc
next_some o x (y ∷ ys) e h = let w : y ≡ x = cc in ap (λ z. z ∷ ys) w

pub got_any : {X : Type 0} (xs : List X) (n : ℕ) (d e : X) → n < length xs → get_or xs n d ≡ get_or xs n e
got_any [] n d e h = absurd (omega (arith, h))
got_any (x ∷ xs) zero d e h = refl
got_any (x ∷ xs) (suc n) d e h = got_any xs n d e (omega (arith, h))

pub topped : (f g : ℕ) → f ≡ g → nat_eq f g ≡ true
topped f g e = eq-eqb f g e

pub is_zero : (m : ℕ) → true ≡ (m == 0) → m ≡ 0
is_zero m h = same_true m 0 (sym h)

pub above_zero : (m : ℕ) → false ≡ (m == 0) → 0 < m
above_zero zero h = cc
above_zero (suc m) h = omega arith

pub least_is : (e b : Bool) (n m : ℕ) → e ≡ b → n ≡ cond b 0 1 → n ≡ cond e 0 1
least_is e b n m h k = k ∙ ap (λ x. cond x 0 1) (sym h)

drop_none : {X : Type 0} (n : ℕ) → ◌≡◌ {A = List X} (drop n []) []
drop_none zero = refl
drop_none (suc n) = refl

pub orders_pass : {X : Type 0} {Y : Type 0} (f : X → Y) (xs : List X) (n : ℕ) → map f (drop (n + 1) xs) ≡ behind_first (map f (drop n xs))
orders_pass f [] n = ap (map f) (drop_none (n + 1)) ∙ sym (ap (λ ys. behind_first (map f ys)) (drop_none n))
orders_pass f (x ∷ xs) zero = refl
orders_pass f (x ∷ xs) (suc n) = ap (λ m. map f (drop m (x ∷ xs))) (next n) ∙ orders_pass f xs n
  where
    next : (n : ℕ) → suc n + 1 ≡ suc (n + 1)
    next n = omega arith

pub fronts_begin : {Y : Type 0} (f : ℕ → Y) (next end : ℕ) → next < end → map f (numbers_from next (end - next)) ≡ f next ∷ map f (numbers_from (next + 1) (end - (next + 1)))
fronts_begin f next end h =
    let e : end - next ≡ suc (end - (next + 1)) = omega (arith, h) in
    let s : suc next ≡ next + 1 = omega arith in
    ap (λ m. map f (numbers_from next m)) e ∙ ap (λ n. f next ∷ map f (numbers_from n (end - (next + 1)))) s

pub fronts_next : {Y : Type 0} (f : ℕ → Y) (next end : ℕ) (y : Y) → next < end → y ≡ f next → IsNext (Some y) (map f (numbers_from next (end - next)))
fronts_next f next end y h e =
    let m : end - next ≡ suc (end - (next + 1)) = omega (arith, h) in
    subst (λ n. IsNext (Some y) (map f (numbers_from next n))) (sym m) (ap Some e)

pub fronts_pass : {Y : Type 0} (f : ℕ → Y) (next end : ℕ) → next < end → map f (numbers_from (next + 1) (end - (next + 1))) ≡ behind_first (map f (numbers_from next (end - next)))
fronts_pass f next end h =
    let e : end - next ≡ suc (end - (next + 1)) = omega (arith, h) in
    let s : next + 1 ≡ suc next = omega arith in
    ap (λ n. map f (numbers_from n (end - (next + 1)))) s ∙ sym (ap (λ m. behind_first (map f (numbers_from next m))) e)
