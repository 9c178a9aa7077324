-- Carried terms, as far as a loop has come.
use Rattle.std.proofs.Common.{◌≡◌, ◌∙◌, ◌+◌, ◌<◌, ◌≤◌, ℕ, zero, suc, List, [], ◌∷◌, ◌++◌, length, get_or, drop, drop-cons, Bool, true, false, refl, sym, ap, subst, arith}
use Rattle.std.specs.Prelude.{IsTrue, ◌||◌}
use Rattle.mw_logic.specs.Term.{Variable, RawTerm, RawTerms, nil, cons, apply, join}
use Rattle.mw_logic.specs.Signature as raw
use Rattle.mw_logic.specs.Signature.{Signature, Operator, IsOperator, IsRawTerm, AreRawTerms}
use Rattle.mw_logic.specs.NormalForm.{height, highest}
use Rattle.mw_logic.specs.Substitution.{occurs, occurs_in}
use Rattle.mw_term.specs.declared.raw.Raw.{Raw}
use Rattle.mw_term.specs.Raws.{raw_term, raw_terms}
use Rattle.mw_carry.specs.Carried.{IsCarried, AreCarried, end, next}
use Rattle.mw_carry.specs.Laws.{HasSortsOf}
use Rattle.mw_carry.specs.Carriage.{HaveSortsOf}

raws_pushed : (rs : List Raw) (r : Raw) (us : RawTerms) → join (raw_terms (rs ++ r ∷ [])) us ≡ join (raw_terms rs) (cons (raw_term r) us)
raws_pushed [] r us = refl
raws_pushed (q ∷ rs) r us = ap (cons (raw_term q)) (raws_pushed rs r us)

join_nil : (ts : RawTerms) → join ts nil ≡ ts
join_nil nil = refl
join_nil (cons t ts) = ap (cons t) (join_nil ts)

-- what stands at a place, and then the rest
raw_front : (ts : List Raw) (i : ℕ) (t : Raw) → i < length ts → t ≡ get_or ts i t → raw_terms (drop i ts) ≡ cons (raw_term t) (raw_terms (drop (i + 1) ts))
raw_front ts i t low is = ap raw_terms (drop-cons ts i t low) ∙ ap (λ t. cons (raw_term t) (raw_terms (drop (suc i) ts))) (sym is) ∙ ap (λ n. cons (raw_term t) (raw_terms (drop n ts))) next_place
  where
    next_place : suc i ≡ i + 1
    next_place = omega arith

-- it is no higher than the list
pub raw_low : (ts : List Raw) (i : ℕ) (t d : Raw) → i < length ts → t ≡ get_or ts i d → height (raw_term t) ≤ highest (raw_terms ts)
raw_low [] i t d low is = absurd (omega arith)
raw_low (u ∷ ts) zero t d low is = let e = ap (λ r. height (raw_term r)) is in omega (arith, e)
raw_low (u ∷ ts) (suc i) t d low is = let h = raw_low ts i t d (omega arith) is in omega (arith, h)

-- an operator's terms, and the first of a list
pub applied_raw : {sig : Signature} {f : ℕ} {ts : RawTerms} → IsRawTerm sig (apply f ts) → (o : Operator) × IsOperator sig f o × AreRawTerms sig ts o.args
applied_raw (raw.an_operator o e rs) = (o, e, rs)

-- What is left of a loop: raw terms, whose sorts are there.
pub record IsLeft (sig : Signature) (ts : RawTerms) : Type 0 where
  pub kinds : List ℕ
  pub raw : AreRawTerms sig ts kinds
  pub sorts : HaveSortsOf sig ts

pub first_left : (sig : Signature) (t : RawTerm) (ts : RawTerms) → IsLeft sig (cons t ts) → IsRawTerm sig t × HasSortsOf sig t × IsLeft sig ts
first_left sig t ts left = of left.kinds left.raw
  where
    first : (x : Variable) (b : Bool) → IsTrue (occurs x t) → IsTrue (occurs x t || b)
    first x b h = rw h refl

    later : (x : Variable) (b : Bool) → IsTrue (occurs_in x ts) → IsTrue (b || occurs_in x ts)
    later x true h = refl
    later x false h = h

    of : (Ks : List ℕ) → AreRawTerms sig (cons t ts) Ks → IsRawTerm sig t × HasSortsOf sig t × IsLeft sig ts
    of [] rs = elim rs [ ]
    of (K ∷ Ks) (raw.next r k rs) =
        (r, λ x h. left.sorts x (first x (occurs_in x ts) h), record { kinds = Ks; raw = rs; sorts = λ x h. left.sorts x (later x (occurs x t) h) })

module _ (sig : Signature) (ts : List Raw) (i : ℕ) (t : Raw) (low : i < length ts) (is : t ≡ get_or ts i t) where
  pub left_at : IsLeft sig (raw_terms (drop i ts)) → IsRawTerm sig (raw_term t) × HasSortsOf sig (raw_term t) × IsLeft sig (raw_terms (drop (i + 1) ts))
  left_at left = first_left sig (raw_term t) (raw_terms (drop (i + 1) ts)) (subst (IsLeft sig) (raw_front ts i t low is) left)

module _ (sig to : Signature) (all : RawTerms) where
  -- What is carried stands for what is gone over: whatever stands for the rest completes it.
  abbrev pub AreCarriedTo : RawTerms → RawTerms → Type 0
  AreCarriedTo rest carried = (more : RawTerms) → AreCarried sig to rest more → AreCarried sig to all (join carried more)

  pub carried_more : (t : RawTerm) (rest : RawTerms) (rs new : List Raw) (r : Raw) → new ≡ rs ++ r ∷ [] → IsCarried sig to t (raw_term r)
      → AreCarriedTo (cons t rest) (raw_terms rs) → AreCarriedTo rest (raw_terms new)
  carried_more t rest rs new r e is so more h =
      subst (λ us. AreCarried sig to all us) (sym (raws_pushed rs r more) ∙ ap (λ rs. join (raw_terms rs) more) (sym e)) (so (cons (raw_term r) more) (next t (raw_term r) rest more is h))

  pub carried_all : (rest : RawTerms) (us : RawTerms) → rest ≡ nil → AreCarriedTo rest us → AreCarried sig to all us
  carried_all rest us e so = subst (λ us. AreCarried sig to all us) (join_nil us) (subst (λ rest. AreCarriedTo rest us) e so nil end)

  pub carried_at : (ts : List Raw) (i : ℕ) (t : Raw) → i < length ts → t ≡ get_or ts i t → (rs new : List Raw) (r : Raw) → new ≡ rs ++ r ∷ [] → IsCarried sig to (raw_term t) (raw_term r)
      → AreCarriedTo (raw_terms (drop i ts)) (raw_terms rs) → AreCarriedTo (raw_terms (drop (i + 1) ts)) (raw_terms new)
  carried_at ts i t low at rs new r e is so =
      carried_more (raw_term t) (raw_terms (drop (i + 1) ts)) rs new r e is (subst (λ rest. AreCarriedTo rest (raw_terms rs)) (raw_front ts i t low at) so)
