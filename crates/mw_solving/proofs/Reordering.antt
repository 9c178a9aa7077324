-- A pattern with arguments in another order is equal modulo the axioms, and has the same canonical instances.
use Rattle.std.specs.Prelude.{◌≡◌, ℕ, List, Bool, true, false, ◌&&◌, Option, refl}
use Rattle.std.proofs.Common.{sym, ap, ◌∙◌}
use Rattle.mw_logic.specs.Term.{RawTerm, RawTerms, nil, cons, join}
use Rattle.mw_logic.specs.Signature.{Signature, Identity, IsAssociative, IsCommutative}
use Rattle.mw_logic.specs.Kinds.{is_successor}
use Rattle.mw_logic.specs.Axioms.{assoc, comm, forward, backward, inside as within, here, EqualModulo, done, then as and_then}
use Rattle.mw_logic.specs.Parts.{is_assoc, nested, all_nested, nest, chain}
use Rattle.mw_logic.specs.TermOrder.{sorted_terms}
use Rattle.mw_logic.specs.NormalForm.{is_comm, identity_of, elements, flattened, rebuilt, arranged, counted, applied}
use Rattle.mw_logic.proofs.AxiomLaws.{trans}
use Rattle.mw_logic.proofs.Canonical.{assoc_operator, comm_operator}
use Rattle.mw_logic.proofs.SortLaws.{join_assoc, sorted_terms-left, sorted_terms-right, sorted_terms-comm}
use Rattle.mw_logic.proofs.Soundness.{EqualArguments, arguments-trans, at_head, at_tail, under_all, second}
use Rattle.mw_logic.proofs.Soundness as sound
use Rattle.mw_matching.specs.Matches.{evaluated, evaluated_all}
use Rattle.mw_solving.specs.Reordered.{Reordered, same, inside, AreReordered, none, next, exchanged, then}

-- What stays when arguments are reordered: their elements in order where that is allowed, else all.
abbrev SameArguments : Bool → Option Identity → ℕ → RawTerms → RawTerms → Type 0
SameArguments true e f ts us = sorted_terms (flattened e f ts) ≡ sorted_terms (flattened e f us)
SameArguments false e f ts us = ts ≡ us

same_applied : (a c s : Bool) (e : Option Identity) (f : ℕ) (ts us : RawTerms) → SameArguments (a && c) e f ts us → applied a c s e f ts ≡ applied a c s e f us
same_applied true true s e f ts us q = ap (rebuilt e f) q
same_applied true false s e f ts us q = ap (λ vs. rebuilt e f (flattened e f vs)) q
same_applied false c s e f ts us q = ap (λ vs. counted s f (arranged c vs)) q

same_none : (b : Bool) (e : Option Identity) (f : ℕ) → SameArguments b e f nil nil
same_none true e f = refl
same_none false e f = refl

same_next : (b : Bool) (e : Option Identity) (f : ℕ) (t u : RawTerm) (ts us : RawTerms) → t ≡ u → SameArguments b e f ts us → SameArguments b e f (cons t ts) (cons u us)
same_next true e f t u ts us p q =
    sym (sorted_terms-right (elements e f t) (flattened e f ts)) ∙ ap (λ vs. sorted_terms (join (elements e f t) vs)) q ∙ sorted_terms-right (elements e f t) (flattened e f us)
    ∙ ap (λ v. sorted_terms (join (elements e f v) (flattened e f us))) p
same_next false e f t u ts us p q = ap (λ v. cons v ts) p ∙ ap (cons u) q

same_then : (b : Bool) (e : Option Identity) (f : ℕ) (ts us vs : RawTerms) → SameArguments b e f ts us → SameArguments b e f us vs → SameArguments b e f ts vs
same_then true e f ts us vs p q = p ∙ q
same_then false e f ts us vs p q = p ∙ q

joined_exchanged : (xs ys zs : RawTerms) → sorted_terms (join xs (join ys zs)) ≡ sorted_terms (join ys (join xs zs))
joined_exchanged xs ys zs =
    ap sorted_terms (sym (join_assoc xs ys zs)) ∙ sym (sorted_terms-left (join xs ys) zs) ∙ ap (λ vs. sorted_terms (join vs zs)) (sorted_terms-comm xs ys)
    ∙ sorted_terms-left (join ys xs) zs ∙ ap sorted_terms (join_assoc ys xs zs)

same_exchanged : (b : Bool) (e : Option Identity) (f : ℕ) (t u : RawTerm) (ts : RawTerms) → b ≡ true → SameArguments b e f (cons t (cons u ts)) (cons u (cons t ts))
same_exchanged true e f t u ts h = joined_exchanged (elements e f t) (elements e f u) (flattened e f ts)
same_exchanged false e f t u ts h = cc

module _ (sig : Signature) (us : List RawTerm) where
  mutual
    pub evaluated_reordered : {p q : RawTerm} → Reordered sig p q → evaluated sig us p ≡ evaluated sig us q
    evaluated_reordered same = refl
    evaluated_reordered (inside {f} {ts = ps} {us = qs} r) =
        same_applied (is_assoc sig f) (is_comm sig f) (is_successor sig f) (identity_of sig f) f (evaluated_all sig us ps) (evaluated_all sig us qs) (all_evaluated_reordered r)

    all_evaluated_reordered : {f : ℕ} {ps qs : RawTerms} → AreReordered sig f ps qs → SameArguments (is_assoc sig f && is_comm sig f) (identity_of sig f) f (evaluated_all sig us ps) (evaluated_all sig us qs)
    all_evaluated_reordered (none {f}) = same_none (is_assoc sig f && is_comm sig f) (identity_of sig f) f
    all_evaluated_reordered (next {f} {t = p} {u = q} {ts = ps} {us = qs} r rest) =
        same_next (is_assoc sig f && is_comm sig f) (identity_of sig f) f (evaluated sig us p) (evaluated sig us q) (evaluated_all sig us ps) (evaluated_all sig us qs) (evaluated_reordered r) (all_evaluated_reordered rest)
    all_evaluated_reordered (exchanged {f} {t = p} {u = q} {ts = ps} h c) =
        same_exchanged (is_assoc sig f && is_comm sig f) (identity_of sig f) f (evaluated sig us p) (evaluated sig us q) (evaluated_all sig us ps) (rw (h, c) refl)
    all_evaluated_reordered (then {f} {ts = ps} {us = qs} {vs = rs} a b) =
        same_then (is_assoc sig f && is_comm sig f) (identity_of sig f) f (evaluated_all sig us ps) (evaluated_all sig us qs) (evaluated_all sig us rs) (all_evaluated_reordered a) (all_evaluated_reordered b)

module _ (sig : Signature) where
  -- Lists under f, as they are nested: behind each term they are equal, and alone.
  abbrev AreAlike : Bool → ℕ → RawTerms → RawTerms → Type 0
  AreAlike true f ts us = ((w : RawTerm) → EqualModulo sig (chain f w ts) (chain f w us)) × EqualModulo sig (nest true f ts) (nest true f us)
  AreAlike false f ts us = EqualArguments sig ts us

  alike_nested : (b : Bool) (f : ℕ) (ts us : RawTerms) → AreAlike b f ts us → EqualModulo sig (nest b f ts) (nest b f us)
  alike_nested true f ts us h = h.1
  alike_nested false f ts us h = under_all f h

  alike_none : (b : Bool) (f : ℕ) → AreAlike b f nil nil
  alike_none true f = ((λ w. done), done)
  alike_none false f = sound.none

  chain_head : (f : ℕ) {t u : RawTerm} (ts : RawTerms) → EqualModulo sig t u → EqualModulo sig (chain f t ts) (chain f u ts)
  chain_head f nil e = e
  chain_head f (cons v vs) e = under_all f (at_head (cons (chain f v vs) nil) e)

  alike_next : (b : Bool) (f : ℕ) (t u : RawTerm) (ts us : RawTerms) → EqualModulo sig t u → AreAlike b f ts us → AreAlike b f (cons t ts) (cons u us)
  alike_next true f t u ts us e h = let a : EqualModulo sig (chain f t ts) (chain f u us) = trans (chain_head f ts e) (h.0 u) in ((λ w. second f w a), a)
  alike_next false f t u ts us e h = arguments-trans (at_head ts e) (at_tail u h)

  alike_then : (b : Bool) (f : ℕ) (ts us vs : RawTerms) → AreAlike b f ts us → AreAlike b f us vs → AreAlike b f ts vs
  alike_then true f ts us vs g h = ((λ w. trans (g.0 w) (h.0 w)), trans g.1 h.1)
  alike_then false f ts us vs g h = arguments-trans g h

  turned : (f : ℕ) → IsAssociative sig f → IsCommutative sig f → (x y : RawTerm) (zs : RawTerms) → EqualModulo sig (chain f x (cons y zs)) (chain f y (cons x zs))
  turned f A C x y nil = and_then (forward (comm C)) done
  turned f A C x y (cons z zs) = and_then (backward (assoc A)) (and_then (within (here (forward (comm C)))) (and_then (forward (assoc A)) done))

  alike_exchanged : (b : Bool) (f : ℕ) (t u : RawTerm) (ts : RawTerms) → b ≡ true → IsAssociative sig f → IsCommutative sig f → AreAlike b f (cons t (cons u ts)) (cons u (cons t ts))
  alike_exchanged true f t u ts h A C = let a = turned f A C t u ts in ((λ w. second f w a), a)
  alike_exchanged false f t u ts h A C = cc

  is_associative : (f : ℕ) → is_assoc sig f ≡ true → IsAssociative sig f
  is_associative f h = let (o, is, a) = assoc_operator sig f h in record { operator = o; is_there = is; assoc = a }

  is_commutative : (f : ℕ) → is_comm sig f ≡ true → IsCommutative sig f
  is_commutative f h = let (o, is, a) = comm_operator sig f h in record { operator = o; is_there = is; comm = a }

  mutual
    -- what they mean is equal modulo the axioms
    pub nested_reordered : {p q : RawTerm} → Reordered sig p q → EqualModulo sig (nested sig p) (nested sig q)
    nested_reordered same = done
    nested_reordered (inside {f} {ts = ps} {us = qs} r) = alike_nested (is_assoc sig f) f (all_nested sig ps) (all_nested sig qs) (all_nested_reordered r)

    all_nested_reordered : {f : ℕ} {ps qs : RawTerms} → AreReordered sig f ps qs → AreAlike (is_assoc sig f) f (all_nested sig ps) (all_nested sig qs)
    all_nested_reordered (none {f}) = alike_none (is_assoc sig f) f
    all_nested_reordered (next {f} {t = p} {u = q} {ts = ps} {us = qs} r rest) =
        alike_next (is_assoc sig f) f (nested sig p) (nested sig q) (all_nested sig ps) (all_nested sig qs) (nested_reordered r) (all_nested_reordered rest)
    all_nested_reordered (exchanged {f} {t = p} {u = q} {ts = ps} h c) = alike_exchanged (is_assoc sig f) f (nested sig p) (nested sig q) (all_nested sig ps) h (is_associative f h) (is_commutative f c)
    all_nested_reordered (then {f} {ts = ps} {us = qs} {vs = rs} a b) =
        alike_then (is_assoc sig f) f (all_nested sig ps) (all_nested sig qs) (all_nested sig rs) (all_nested_reordered a) (all_nested_reordered b)
