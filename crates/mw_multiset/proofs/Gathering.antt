-- Proofs of parts of a multiset are one proof of the whole, in which each part's moves stand between one move into its elements and one out of them.
use Rattle.std.specs.Prelude.{◌≡◌, ◌⊎◌, ◌+◌, ◌≤◌, ℕ, suc, List, [], ◌∷◌, ◌++◌, length, Option, Bool, true, false, cond, nat_eq, IsPermutation, refl}
use Rattle.std.proofs.Common.{inl, inr, sym, subst, ap, ◌∙◌, arith, append-nil}
use Rattle.std.proofs.lemmas.Bool.{eqb-true}
use Rattle.std.proofs.lemmas.List.Elements.{All-nil, All-cons, All-head, All-tail, All-append}
use Rattle.std.proofs.lemmas.List.Sorted.{All-permutation}
use Rattle.mw_logic.specs.Term.{RawTerm, numeral, quoted, variable, apply, RawTerms, nil, cons, join}
use Rattle.mw_logic.specs.Terms.{terms_of, list_of}
use Rattle.mw_logic.specs.Signature.{Signature, Identity}
use Rattle.mw_logic.specs.Accepted.{IsAccepted}
use Rattle.mw_logic.specs.WellFormed.{IsWellFormed}
use Rattle.mw_logic.specs.Parts.{is_assoc, nested, number_of_terms}
use Rattle.mw_logic.specs.TermOrder.{sorted_terms}
use Rattle.mw_logic.specs.NormalForm.{is_comm, identity_of, is_identity, own_arguments, elements, flattened, arranged, applied_in, normal_form, height}
use Rattle.mw_logic.specs.CanonicalPart.{AreSeveral}
use Rattle.mw_logic.specs.Module.{Module}
use Rattle.mw_logic.proofs.Canonical.{Each, Each-arranged, IsCanonical, arranged-one, flattened-elements}
use Rattle.mw_logic.proofs.SortLaws.{sorted_terms-idempotent}
use Rattle.mw_logic.proofs.SortedLists.{climbs, climbs-sorted, sorted_terms-permutation}
use Rattle.mw_logic.proofs.Soundness.{IsLong, several-join, several-arranged, long-arranged, rebuilt-several}
use Rattle.mw_canon.specs.Canonical.{IsAdmittedTerm}
use Rattle.mw_arguments.specs.Places.{chosen, others, Rise, numbers_of}
use Rattle.mw_arguments.proofs.Arguments.{in_order}
use Rattle.mw_arguments.proofs.Places.{chosen_whole, numbers_rise, numbers_choose, IsPartOfList}
use Rattle.mw_deduction.specs.Standing.{Open, filled}
use Rattle.mw_deduction.specs.Runs.{by_statement, by_row, Dones, none, more, both}
use Rattle.mw_deduction.specs.Replay.{Move, out, Stand, begun, opened, going_in, going_out, plays, AreMoves, Leaves}
use Rattle.mw_deduction.specs.Stands.{IsStanding, AreStanding}
use Rattle.mw_deduction.specs.Joined.{behind_stand}
use Rattle.mw_deduction.specs.Under.{under_term, under_dones, under_stand, AllMayBeUnder}
use Rattle.mw_deduction.proofs.LeftBack.{left_back}
use Rattle.mw_deduction.proofs.MoveStands.{move_stands}
use Rattle.mw_deduction.proofs.Under.{raised, outermost_run}
use Rattle.mw_multiset.specs.Together.{IsOpenOperator, parts, together, IsMember, AreMembers, AllUnder}
use Rattle.mw_multiset.specs.Receipts.{IsMade, first_of, run_of, Receipt, IsReceipt, AreReceipts, Reaches, beside, AreLow, AreOneProof}
use Rattle.mw_multiset.proofs.Together.{terms-append, terms_list, each_of, on_members, together-permutation, filled_same, filled_together, alone_together}
use Rattle.mw_multiset.proofs.Reached.{AllReached, moves_reached}
use Rattle.mw_multiset.proofs.Standing.{stands_beside}
use Rattle.mw_multiset.proofs.Members.{admitted_canonical, parts_members}
use Rattle.mw_multiset.proofs.Made.{starts, made_concludes, made_nothing, made_then, run_then, made_above}
use Rattle.mw_multiset.proofs.Going.{way, GoesIn, goes_in, less}

higher_than_itself : (f : ℕ) (x : RawTerm) → x ≡ apply f (cons x nil) → ⊥
higher_than_itself f x e = let h : height x ≡ height (apply f (cons x nil)) = ap height e in absurd (omega (arith, h))

length-out : (ms : List Move) → length (ms ++ out ∷ []) ≡ suc (length ms)
length-out [] = refl
length-out (m ∷ ms) = ap suc (length-out ms)

length-both : (ms ns : List Move) → length (ms ++ ns) ≡ length ms + length ns
length-both [] ns = omega arith
length-both (m ∷ ms) ns = omega (arith, length-both ms ns)

module _ (M : Module) (well : IsWellFormed M) (f : ℕ) (assoc : is_assoc M.signature f ≡ true) (comm : is_comm M.signature f ≡ true) (free : IsOpenOperator M.signature f) where
  abbrev sig : Signature
  sig = M.signature

  ok : IsAccepted M.signature
  ok = well.accepted

  abbrev Members : RawTerms → Type 0
  Members = Each (IsMember sig f)

  abbrev SpreadOf : RawTerm → RawTerms → Type 0
  SpreadOf t us = (us ≡ cons t nil) ⊎ ((t ≡ apply f us) × AreSeveral us)

  -- a term is one element, or f on several
  spread_is : (t : RawTerm) → IsCanonical sig t → IsLong (elements (identity_of sig f) f t) → SpreadOf t (elements (identity_of sig f) f t)
  spread_is t canonical long = by_test (is_identity (identity_of sig f) t) long
    where
      of_own : (u : RawTerm) → u ≡ t → SpreadOf t (own_arguments f u)
      of_own (numeral n) e = inl (ap (λ x. cons x nil) e)
      of_own (quoted q) e = inl (ap (λ x. cons x nil) e)
      of_own (variable x) e = inl (ap (λ x. cons x nil) e)
      of_own (apply g nil) e = inl (ap (λ x. cons x nil) e)
      of_own (apply g (cons x xs)) e = by_same (nat_eq f g) refl
        where
          several : (ys : RawTerms) → apply f (cons x ys) ≡ t → AreSeveral (cons x ys)
          several (cons y ys) q = tt
          several nil q =
              let k : IsCanonical sig (apply f (cons x nil)) = subst (IsCanonical sig) (sym q) canonical in
              let own : flattened (identity_of sig f) f (cons x nil) ≡ cons x nil = flattened-elements (identity_of sig f) f (cons x nil) (k.2 assoc) in
              let made : applied_in sig f (cons x nil) ≡ x = rw (assoc, own, arranged-one (is_comm sig f) x) refl in
              absurd (higher_than_itself f x (sym made ∙ k.1))

          by_same : (m : Bool) → nat_eq f g ≡ m → SpreadOf t (cond m (cons x xs) (cons (apply g (cons x xs)) nil))
          by_same false q = inl (ap (λ x. cons x nil) e)
          by_same true q = let z : apply f (cons x xs) ≡ t = ap (λ n. apply n (cons x xs)) (eqb-true f g q) ∙ e in inr (sym z, several xs z)

      by_test : (m : Bool) → IsLong (cond m nil (own_arguments f t)) → SpreadOf t (cond m nil (own_arguments f t))
      by_test true l = elim l [ ]
      by_test false l = of_own t refl

  -- the same run under the operator, beside others that are the same in order
  under_same : (b a c d : RawTerms) → Members b → Members a → Members c → Members d → sorted_terms (join b a) ≡ sorted_terms (join c d) → (ds : Dones) → under_dones sig (opened f b a ∷ []) ds ≡ under_dones sig (opened f c d ∷ []) ds
  under_same b a c d hb ha hc hd s none = refl
  under_same b a c d hb ha hc hd s (more (by_statement k p rs t u) ds) =
      let term : (x : RawTerm) → under_term sig (opened f b a ∷ []) x ≡ under_term sig (opened f c d ∷ []) x = λ x. ap (nested sig) (filled_same sig ok f assoc comm b a c d (normal_form sig x) hb ha hc hd s) in
      ap (λ x. more (by_statement k p rs x (under_term sig (opened f b a ∷ []) u)) (under_dones sig (opened f b a ∷ []) ds)) (term t)
      ∙ ap (λ x. more (by_statement k p rs (under_term sig (opened f c d ∷ []) t) x) (under_dones sig (opened f b a ∷ []) ds)) (term u)
      ∙ ap (more (by_statement k p rs (under_term sig (opened f c d ∷ []) t) (under_term sig (opened f c d ∷ []) u))) (under_same b a c d hb ha hc hd s ds)
  under_same b a c d hb ha hc hd s (more (by_row t u) ds) =
      let term : (x : RawTerm) → under_term sig (opened f b a ∷ []) x ≡ under_term sig (opened f c d ∷ []) x = λ x. ap (nested sig) (filled_same sig ok f assoc comm b a c d (normal_form sig x) hb ha hc hd s) in
      ap (λ x. more (by_row x (under_term sig (opened f b a ∷ []) u)) (under_dones sig (opened f b a ∷ []) ds)) (term t)
      ∙ ap (λ x. more (by_row (under_term sig (opened f c d ∷ []) t) x) (under_dones sig (opened f b a ∷ []) ds)) (term u)
      ∙ ap (more (by_row (under_term sig (opened f c d ∷ []) t) (under_term sig (opened f c d ∷ []) u))) (under_same b a c d hb ha hc hd s ds)

  -- A part's moves, after a move into its elements and before one out of them, are moves of the whole; where nothing was done there, neither is made.
  module _ (n : ℕ) (t u : RawTerm) (ms : List Move) (m : Move) (ts rest : RawTerms) (h : IsMade M n t u ms) (whole : IsAdmittedTerm sig (apply f ts)) (g : GoesIn M f ts rest t m) (others_members : Members rest)
      (under : AllUnder sig f (run_of M n t ms)) where
    abbrev hole : Open
    hole = opened f g.before g.after

    abbrev inside : Stand
    inside = going_in sig hole t (begun n (apply f ts))

    abbrev ended : Stand
    ended = behind_stand inside (under_stand sig (hole ∷ []) h.last)

    inside_stands : IsStanding M inside
    inside_stands = (subst (AreStanding M) (g.goes n) (move_stands M ok m (begun n (apply f ts) ∷ []) (starts M ok n (apply f ts) whole, tt) (g.may n))).0

    reached_there : AllReached sig (nested sig t) h.last.run
    reached_there = subst (λ B. AllReached sig (nested sig t) (outermost_run B)) h.stands (moves_reached M well t h.begins.raw n ms (begun n t ∷ []) (starts M ok n t h.begins, tt) h.made (refl, refl) tt)

    all_may : AllMayBeUnder M (hole ∷ []) h.last.run
    all_may =
        stands_beside M ok f assoc comm free g.before g.after g.members_before g.members_after (nested sig t) inside_stands.at.raw h.last.run reached_there
        (subst (λ B. AllUnder sig f (first_of B).run) h.stands under)

    goes_there : AreMoves M ms (inside ∷ []) × (plays M ms (inside ∷ []) ≡ ended ∷ [])
    goes_there = raised M well (hole ∷ []) ms n t inside h.last (starts M ok n t h.begins) h.made h.stands all_may inside_stands refl refl refl refl

    opens : ended.opens ≡ hole ∷ []
    opens = ap (λ os. os ++ (hole ∷ [])) h.closed

    made_in : AreMoves M (m ∷ ms) (begun n (apply f ts) ∷ [])
    made_in = (g.may n, subst (AreMoves M ms) (sym (g.goes n)) goes_there.0)

    played_in : plays M (m ∷ ms) (begun n (apply f ts) ∷ []) ≡ ended ∷ []
    played_in = ap (plays M ms) (g.goes n) ∙ goes_there.1

    -- out again
    left_out : (ns : List Move) → Leaves (m ∷ ms) ns → AreMoves M ns (begun n (apply f ts) ∷ []) × (plays M ns (begun n (apply f ts) ∷ []) ≡ going_out sig (hole ∷ []) ended ∷ [])
    left_out ns l =
        let (x, y) = left_back M ok (m ∷ ms) ns (begun n (apply f ts) ∷ []) ended [] hole [] (starts M ok n (apply f ts) whole, tt) made_in played_in opens l in
        (x, y ∙ ap (λ os. going_out sig os ended ∷ []) opens)

    same_beside : (x : RawTerm) → filled sig hole x ≡ filled sig (opened f nil rest) x
    same_beside x = filled_same sig ok f assoc comm g.before g.after nil rest x g.members_before g.members_after tt others_members g.same

    pub made_beside : (ns : List Move) → Leaves (m ∷ ms) ns → IsMade M n (apply f ts) (filled sig (opened f nil rest) u) ns
    made_beside ns l = record {
      low = h.low;
      begins = whole;
      made = (left_out ns l).0;
      last = going_out sig (hole ∷ []) ended;
      stands = (left_out ns l).1;
      closed = refl;
      used = h.used;
      reaches = ap (filled sig hole) h.reaches ∙ same_beside u;
    }

    pub run_beside : (ns : List Move) → Leaves (m ∷ ms) ns → run_of M n (apply f ts) ns ≡ under_dones sig (opened f nil rest ∷ []) (run_of M n t ms)
    run_beside ns l =
        ap (λ B. (first_of B).run) (left_out ns l).1 ∙ under_same g.before g.after nil rest g.members_before g.members_after tt others_members g.same h.last.run
        ∙ ap (λ B. under_dones sig (opened f nil rest ∷ []) (first_of B).run) (sym h.stands)

  -- One receipt, beside the rest: numbers that choose the part's elements in the ordered list of the whole give the one move into them.
  pub record Placed (n : ℕ) (xs : List RawTerm) (r : Receipt) (rest : List RawTerm) (ms : List Move) : Type 0 where
    pub made : IsMade M n (together sig f xs) (together sig f (parts sig f r.to ++ rest)) ms
    pub run : run_of M n (together sig f xs) ms ≡ beside sig f rest (run_of M r.rank r.from r.moves)
    pub members : AreMembers sig f (parts sig f r.to ++ rest)

  module _ (n : ℕ) (low : n ≤ 63) (xs : List RawTerm) (hx : AreMembers sig f xs) (whole : IsAdmittedTerm sig (together sig f xs)) (r : Receipt) (hr : IsReceipt M f r) (rank : r.rank ≤ n) (rest : List RawTerm)
      (p : IsPermutation xs (parts sig f r.from ++ rest)) where
    abbrev e : Option Identity
    e = identity_of sig f

    abbrev es : RawTerms
    es = elements e f r.from

    all_members : AreMembers sig f (parts sig f r.from ++ rest)
    all_members = All-permutation (IsMember sig f) xs (parts sig f r.from ++ rest) p hx

    from_members : AreMembers sig f (parts sig f r.from)
    from_members = first_all (parts sig f r.from) all_members
      where
        first_all : (us : List RawTerm) → AreMembers sig f (us ++ rest) → AreMembers sig f us
        first_all [] h = All-nil (IsMember sig f)
        first_all (x ∷ us) h = All-cons (IsMember sig f) x us (All-head (IsMember sig f) x (us ++ rest) h) (first_all us (All-tail (IsMember sig f) x (us ++ rest) h))

    rest_members : AreMembers sig f rest
    rest_members = rest_all (parts sig f r.from) all_members
      where
        rest_all : (us : List RawTerm) → AreMembers sig f (us ++ rest) → AreMembers sig f rest
        rest_all [] h = h
        rest_all (x ∷ us) h = rest_all us (All-tail (IsMember sig f) x (us ++ rest) h)

    ends : IsAdmittedTerm sig r.to
    ends = (made_concludes M ok r.rank r.from r.to r.moves hr.made).ends

    to_members : AreMembers sig f (parts sig f r.to)
    to_members = parts_members sig ok f assoc r.to ends hr.shallow

    new_members : AreMembers sig f (parts sig f r.to ++ rest)
    new_members = All-append (IsMember sig f) (parts sig f r.to) rest to_members rest_members

    canonical_from : IsCanonical sig r.from
    canonical_from = admitted_canonical sig ok f assoc r.from hr.made.begins

    canonical_to : IsCanonical sig r.to
    canonical_to = admitted_canonical sig ok f assoc r.to ends

    -- with nothing beside it
    pub placed_alone : rest ≡ [] → Placed n xs r [] r.moves
    placed_alone q =
        let (h, s) = made_above M r.rank n r.from r.to r.moves rank low hr.made in
        let a : together sig f xs ≡ r.from = together-permutation sig ok f assoc comm xs (parts sig f r.from ++ rest) hx p ∙ ap (λ ys. together sig f (parts sig f r.from ++ ys)) q ∙ ap (together sig f) (append-nil (parts sig f r.from)) ∙ alone_together sig ok f assoc comm r.from canonical_from in
        let b : together sig f (parts sig f r.to ++ []) ≡ r.to = ap (together sig f) (append-nil (parts sig f r.to)) ∙ alone_together sig ok f assoc comm r.to canonical_to in
        record {
          made = subst (λ x. IsMade M n x (together sig f (parts sig f r.to ++ [])) r.moves) (sym a) (subst (λ y. IsMade M n r.from y r.moves) (sym b) h);
          run = ap (λ x. run_of M n x r.moves) a ∙ s;
          members = subst (λ ys. AreMembers sig f (parts sig f r.to ++ ys)) q new_members;
        }

    long_es : IsLong es
    long_es = of_list es refl
      where
        of_list : (us : RawTerms) → es ≡ us → IsLong us
        of_list nil q = absurd (hr.filled (ap list_of q))
        of_list (cons u us) q = tt

    -- the whole's list in order
    abbrev ts : RawTerms
    ts = sorted_terms (terms_of xs)

    in_both : sorted_terms (join es (terms_of rest)) ≡ ts
    in_both = ap sorted_terms (sym (terms-append (parts sig f r.from) rest ∙ ap (λ z. join z (terms_of rest)) (terms_list es))) ∙ sym (sorted_terms-permutation xs (parts sig f r.from ++ rest) p)

    module _ (ks : List ℕ) (rise : Rise 1 (suc (number_of_terms ts)) ks) (chooses : chosen 1 ks ts ≡ es) (some : IsLong (terms_of rest)) where
      several : AreSeveral ts
      several = subst AreSeveral in_both (several-arranged true (join es (terms_of rest)) (several-join es (terms_of rest) long_es some))

      members_ts : Members ts
      members_ts = Each-arranged (IsMember sig f) true (terms_of xs) (each_of (IsMember sig f) xs hx)

      whole_is : together sig f xs ≡ apply f ts
      whole_is = on_members sig ok f assoc comm (terms_of xs) (each_of (IsMember sig f) xs hx) ∙ rebuilt-several e f ts several

      pub left_same : sorted_terms (others 1 ks ts) ≡ sorted_terms (terms_of rest)
      left_same =
          less es (others 1 ks ts) (terms_of rest)
          (ap (λ us. sorted_terms (join us (others 1 ks ts))) (sym chooses) ∙ chosen_whole 1 ks ts ∙ sorted_terms-idempotent (terms_of xs) ∙ sym in_both)

      left_some : 1 ≤ number_of_terms (others 1 ks ts)
      left_some = number_long (others 1 ks ts) (of_sorted (others 1 ks ts) (subst IsLong (sym left_same) (long-arranged true (terms_of rest) some)))
        where
          of_sorted : (zs : RawTerms) → IsLong (sorted_terms zs) → IsLong zs
          of_sorted nil l = l
          of_sorted (cons z zs) l = tt

          number_long : (zs : RawTerms) → IsLong zs → 1 ≤ number_of_terms zs
          number_long nil l = elim l [ ]
          number_long (cons z zs) l = omega arith

      goes : GoesIn M f ts (terms_of rest) r.from (way ks)
      goes =
          let k : IsCanonical sig (apply f ts) = subst (IsCanonical sig) whole_is (admitted_canonical sig ok f assoc (together sig f xs) whole) in
          let spread = spread_is r.from canonical_from long_es in
          let g : GoesIn M f ts (others 1 ks ts) r.from (way ks) = goes_in M ok f assoc comm ts members_ts (sorted_terms-idempotent (terms_of xs)) k ks rise left_some r.from (elim spread [ inl x ↦ inl (chooses ∙ x) | inr x ↦ inr (x.0 ∙ ap (apply f) (sym chooses), subst AreSeveral (sym chooses) x.1) ]) in
          record { before = g.before; after = g.after; members_before = g.members_before; members_after = g.members_after; same = g.same ∙ left_same; may = g.may; goes = g.goes }

      pub placed_among : (ns : List Move) → Leaves (way ks ∷ r.moves) ns → Placed n xs r rest ns
      placed_among ns l =
          let (h, s) = made_above M r.rank n r.from r.to r.moves rank low hr.made in
          let w : IsAdmittedTerm sig (apply f ts) = subst (IsAdmittedTerm sig) whole_is whole in
          let und : AllUnder sig f (run_of M n r.from r.moves) = subst (AllUnder sig f) (sym s) hr.under in
          let hm : Members (terms_of rest) = each_of (IsMember sig f) rest rest_members in
          let a = made_beside n r.from r.to r.moves (way ks) ts (terms_of rest) h w goes hm und ns l in
          let b = run_beside n r.from r.to r.moves (way ks) ts (terms_of rest) h w goes hm und ns l in
          let to : filled sig (opened f nil (terms_of rest)) r.to ≡ together sig f (parts sig f r.to ++ rest) = filled_together sig ok f assoc comm r.to rest to_members rest_members in
          record {
            made = subst (λ x. IsMade M n x (together sig f (parts sig f r.to ++ rest)) ns) (sym whole_is) (subst (λ y. IsMade M n (apply f ts) y ns) to a);
            run = ap (λ x. run_of M n x ns) whole_is ∙ b ∙ ap (under_dones sig (opened f nil (terms_of rest) ∷ [])) s ∙ beside_there rest some (run_of M r.rank r.from r.moves);
            members = new_members;
          }
        where
          beside_there : (zs : List RawTerm) → IsLong (terms_of zs) → (ds : Dones) → under_dones sig (opened f nil (terms_of zs) ∷ []) ds ≡ beside sig f zs ds
          beside_there [] l ds = elim l [ ]
          beside_there (z ∷ zs) l ds = refl

    -- the least numbers choose them
    numbers_there : Rise 1 (suc (number_of_terms ts)) (numbers_of 1 es ts) × (chosen 1 (numbers_of 1 es ts) ts ≡ es)
    numbers_there =
        let q : 1 + number_of_terms ts ≡ suc (number_of_terms ts) = omega arith in
        let ordered : sorted_terms es ≡ es = subst (λ c. arranged c es ≡ es) comm (in_order sig ok f assoc r.from canonical_from) in
        let part : IsPartOfList ts es = record { others = terms_of rest; whole = in_both } in
        (subst (λ k. Rise 1 k (numbers_of 1 es ts)) q (numbers_rise 1 es ts), numbers_choose 1 es ts (climbs es ordered) (climbs-sorted (terms_of xs)) part)

    pub placed : (ms : List Move) × Placed n xs r rest ms × (length ms ≤ 2 + length r.moves)
    placed = by_rest rest refl
      where
        by_rest : (zs : List RawTerm) → rest ≡ zs → (ms : List Move) × Placed n xs r rest ms × (length ms ≤ 2 + length r.moves)
        by_rest [] q = (r.moves, subst (λ ys. Placed n xs r ys r.moves) (sym q) (placed_alone q), omega arith)
        by_rest (z ∷ zs) q =
            let (rise, chooses) = numbers_there in
            let some : IsLong (terms_of rest) = subst (λ ys. IsLong (terms_of ys)) (sym q) tt in
            let l : length (r.moves ++ out ∷ []) ≡ suc (length r.moves) = length-out r.moves in
            (way (numbers_of 1 es ts) ∷ (r.moves ++ out ∷ []), placed_among (numbers_of 1 es ts) rise chooses some (way (numbers_of 1 es ts) ∷ (r.moves ++ out ∷ [])) (inl refl), omega (arith, l))

  pub gathered : (n : ℕ) → n ≤ 63 → (xs : List RawTerm) (rs : List Receipt) (ys : List RawTerm) (h : Reaches sig f xs rs ys) → AreMembers sig f xs → IsAdmittedTerm sig (together sig f xs) → AreReceipts M f rs → AreLow n rs → AreOneProof M f n xs rs ys h
  gathered n low xs [] ys h hx whole hr hl =
      let e : together sig f xs ≡ together sig f ys = together-permutation sig ok f assoc comm xs ys hx h in
      record {
        moves = [];
        made = subst (λ y. IsMade M n (together sig f xs) y []) e (made_nothing M ok n (together sig f xs) low whole);
        run = refl;
        members = All-permutation (IsMember sig f) xs ys h hx;
        short = omega arith;
      }
  gathered n low xs (r ∷ rs) ys h hx whole hr hl =
      let (ms, q, l) = placed n low xs hx whole r hr.0 hl.0 h.0 h.1 in
      let zs : List RawTerm = parts sig f r.to ++ h.0 in
      let next : IsAdmittedTerm sig (together sig f zs) = (made_concludes M ok n (together sig f xs) (together sig f zs) ms q.made).ends in
      let g = gathered n low zs rs ys h.2 q.members next hr.1 hl.1 in
      let s = g.short in
      let k : length (ms ++ g.moves) ≡ length ms + length g.moves = length-both ms g.moves in
      record {
        moves = ms ++ g.moves;
        made = made_then M ok n (together sig f xs) (together sig f zs) (together sig f ys) ms g.moves q.made g.made;
        run = run_then M ok n (together sig f xs) (together sig f zs) (together sig f ys) ms g.moves q.made g.made ∙ ap (λ d. both d (run_of M n (together sig f zs) g.moves)) q.run
            ∙ ap (both (beside sig f h.0 (run_of M r.rank r.from r.moves))) g.run;
        members = g.members;
        short = omega (arith, l, s, k);
      }
