-- Arguments on which an associative operator gives a raw term are raw, of whatever kind that term is.
use Rattle.std.specs.Prelude.{◌≡◌, ℕ, List, Bool, true, Option, Some, None, refl}
use Rattle.std.proofs.Common.{sym, ap, subst, ◌∙◌}
use Rattle.mw_logic.specs.Term.{RawTerm, apply, RawTerms, nil, cons, join, binary}
use Rattle.mw_logic.specs.Signature.{Signature, Operator, IsOperator, Identity, same, HasKind, of_operator, IsRawTerm, an_operator, AreRawTerms, next}
use Rattle.mw_logic.specs.Accepted.{IsAccepted}
use Rattle.mw_logic.specs.CanonicalPart.{AreSeveral}
use Rattle.mw_logic.specs.Parts.{is_assoc, nested, all_nested, chain}
use Rattle.mw_logic.specs.NormalForm.{is_comm, identity_of, identity_or_empty, elements, flattened, rebuilt, arranged, applied_in}
use Rattle.mw_logic.proofs.Canonical.{Each, Backed, elements-backed, arranged-nil, arranged-one, AreCanonical, identity_operator}
use Rattle.mw_logic.proofs.Invariance.{elements_kept}
use Rattle.mw_logic.proofs.Soundness.{nested-identity, several-arranged, rebuilt-several}
use Rattle.mw_logic.proofs.Holes.{Each-parts}
use Rattle.mw_logic.proofs.RawArguments.{IsTermOf, operator_of, arguments_of_kind}

-- a flattened term that means a raw term
abbrev pub IsRaw : Signature → RawTerm → Type 0
IsRaw sig t = IsRawTerm sig (nested sig t)

-- one term at most
abbrev pub IsFew : RawTerms → Type 0
IsFew nil = Unit {0}
IsFew (cons t nil) = Unit {0}
IsFew (cons t (cons u us)) = ⊥

pub few_parts : (us vs : RawTerms) → IsFew (join us vs) → IsFew us × IsFew vs
few_parts nil vs n = (tt, n)
few_parts (cons u nil) nil n = (tt, tt)
few_parts (cons u nil) (cons v vs) n = absurd n
few_parts (cons u (cons w us)) vs n = absurd n

module _ (sig : Signature) (ok : IsAccepted sig) where
  each_raw : (K : ℕ) (ts : RawTerms) → Each (IsTermOf sig K) ts → Each (IsRaw sig) ts
  each_raw K nil h = tt
  each_raw K (cons t ts) h = (h.0.0, each_raw K ts h.1)

  -- the arguments of a raw term
  pub each_argument : {Ks : List ℕ} (ts : RawTerms) → AreRawTerms sig (all_nested sig ts) Ks → Each (IsRaw sig) ts
  each_argument nil r = tt
  each_argument (cons t ts) (next r k rest) = (r, each_argument ts rest)

  pair_parts : {f : ℕ} {x y : RawTerm} → IsRawTerm sig (binary f x y) → IsRawTerm sig x × IsRawTerm sig y
  pair_parts (an_operator o is (next r k (next s l rest))) = (r, s)

  -- those of a term that is nested
  pub each_nested : (f : ℕ) (t : RawTerm) (ts : RawTerms) → IsRawTerm sig (chain f (nested sig t) (all_nested sig ts)) → Each (IsRaw sig) (cons t ts)
  each_nested f t nil r = (r, tt)
  each_nested f t (cons u us) r = let (a, b) = pair_parts r in (a, each_nested f u us b)

  module _ (f : ℕ) (o : Operator) (is : IsOperator sig f o) (h : is_assoc sig f ≡ true) where
    abbrev e : Option Identity
    e = identity_of sig f

    abbrev c : Bool
    c = is_comm sig f

    named_raw : (i : Option Identity) → identity_of sig f ≡ i → Backed i nil → IsRaw sig (identity_or_empty i f)
    named_raw None w b = cc
    named_raw (Some i) w b =
        let (q, there, n) = identity_operator sig f i w in
        let r = ok.identity f o i is (operator_of sig f (λ o. o.identity ≡ Some i) is there n) in
        subst (IsRawTerm sig) (sym (nested-identity sig ok i)) r.1

    rebuilt_raw : (zs : RawTerms) → Backed e zs → IsFew zs → Each (IsRaw sig) zs → IsRaw sig (rebuilt e f (arranged c zs))
    rebuilt_raw nil b n p = subst (λ zs. IsRaw sig (rebuilt e f zs)) (sym (arranged-nil c)) (named_raw e refl b)
    rebuilt_raw (cons z nil) b n p = subst (λ zs. IsRaw sig (rebuilt e f zs)) (sym (arranged-one c z)) p.0
    rebuilt_raw (cons z (cons y zs)) b n p = absurd n

    -- each is made of its elements, of which there is one at most
    each_few : (vs : RawTerms) → AreCanonical sig vs → IsFew (flattened e f vs) → Each (IsRaw sig) (flattened e f vs) → Each (IsRaw sig) vs
    each_few nil k n p = tt
    each_few (cons v vs) k n p =
        let (a, b) = few_parts (elements e f v) (flattened e f vs) n in
        let (q, r) = Each-parts (IsRaw sig) (elements e f v) (flattened e f vs) p in
        (subst (IsRaw sig) (elements_kept sig ok f h v k.0) (rebuilt_raw (elements e f v) (elements-backed e f v) a q), each_few vs k.1 b r)

    several_kind : (ts : RawTerms) → AreSeveral ts → HasKind sig (nested sig (apply f ts)) o.result
    several_kind nil s = absurd s
    several_kind (cons t nil) s = absurd s
    several_kind (cons t (cons u us)) s = rw h (of_operator o is same)

    pub arguments_of_raw : (v : RawTerm) (vs : RawTerms) → AreCanonical sig (cons v vs) → IsRaw sig (applied_in sig f (cons v vs)) → Each (IsRaw sig) (cons v vs)
    arguments_of_raw v vs k r = by_number (flattened e f (cons v vs)) refl
      where
        whole : applied_in sig f (cons v vs) ≡ rebuilt e f (arranged c (flattened e f (cons v vs)))
        whole = rw h refl

        by_number : (zs : RawTerms) → flattened e f (cons v vs) ≡ zs → Each (IsRaw sig) (cons v vs)
        by_number nil w = each_few (cons v vs) k (subst IsFew (sym w) tt) (subst (Each (IsRaw sig)) (sym w) tt)
        by_number (cons z nil) w =
            let is_z : applied_in sig f (cons v vs) ≡ z = whole ∙ ap (λ zs. rebuilt e f (arranged c zs)) w ∙ ap (rebuilt e f) (arranged-one c z) in
            each_few (cons v vs) k (subst IsFew (sym w) tt) (subst (Each (IsRaw sig)) (sym w) (subst (IsRaw sig) is_z r, tt))
        by_number (cons z (cons y zs)) w =
            let ts : RawTerms = arranged c (cons z (cons y zs)) in
            let s : AreSeveral ts = several-arranged c (cons z (cons y zs)) tt in
            let is_f : applied_in sig f (cons v vs) ≡ apply f ts = whole ∙ ap (λ zs. rebuilt e f (arranged c zs)) w ∙ rebuilt-several e f ts s in
            each_raw o.result (cons v vs) (arguments_of_kind sig ok f o is h v vs k (r, subst (λ t. HasKind sig (nested sig t) o.result) (sym is_f) (several_kind ts s)))
