-- Terms that may stand in a text have forms that are read.
use Rattle.std.proofs.Common.{◌≡◌, ◌≢◌, ◌∙◌, ◌≤◌, ◌&&◌, ℕ, Bool, true, false, List, refl, ap, sym, subst, arith}
use Rattle.std.specs.Prelude.{⊤}
use Rattle.std.proofs.lemmas.Bool.{both_ways, and_parts, and_from}
use Rattle.mw_logic.specs.Term.{RawTerm, numeral, quoted, variable, apply, RawTerms, nil, cons, join, is_ground, are_ground}
use Rattle.mw_logic.specs.Signature.{Signature, IsRawTerm, a_numeral, a_quoted, a_variable, an_operator, AreRawTerms, end, next}
use Rattle.mw_logic.specs.Accepted.{IsAccepted}
use Rattle.mw_logic.specs.Parts.{is_assoc, nested, all_nested, nest, chain, number_of_terms, IsTooDeep, IsTooLarge}
use Rattle.mw_logic.specs.NormalForm.{is_comm, identity_of, elements, flattened, rebuilt, arranged, normal_form, height}
use Rattle.mw_logic.proofs.Canonical.{arranged-one, no_arguments, IsCanonical, AreCanonical, canonical}
use Rattle.mw_canon.specs.Causes.{HasCause}
use Rattle.mw_canon.specs.declared.CanonError.{CanonError}
use Rattle.mw_canon.specs.declared.CanonError.TheVariants.{Deep, Nat, Memory}
use Rattle.mw_print.specs.PrefixLaws.{IsTold, AreTold, most_open}
use Rattle.mw_print.proofs.PrefixTold.{prefix_told}
use Rattle.mw_prefix.specs.Forms.{HasSeveral, HaveSeveral, IsPrefixForm, IsNoForm}
use Rattle.mw_proofread.specs.TokenTexts.{form_tokens}
use Rattle.mw_proofread.specs.Reading.{IsWritten}
use Rattle.mw_proofread.specs.Same.{same_term}
use Rattle.mw_proofread.proofs.Sameness.{told_same}

module _ (sig : Signature) (ok : IsAccepted sig) where
  -- no associative operator stands alone
  abbrev IsSome : RawTerms → Type 0
  IsSome nil = ⊥
  IsSome (cons t ts) = ⊤

  abbrev mutual
    HasArguments : RawTerm → Type 0
    HasArguments (numeral n) = ⊤
    HasArguments (quoted q) = ⊤
    HasArguments (variable x) = ⊤
    HasArguments (apply f ts) = (is_assoc sig f ≡ true → IsSome ts) × HaveArguments ts

    HaveArguments : RawTerms → Type 0
    HaveArguments nil = ⊤
    HaveArguments (cons t ts) = HasArguments t × HaveArguments ts

  some_of : (f : ℕ) (ts : RawTerms) → IsRawTerm sig (apply f ts) → is_assoc sig f ≡ true → IsSome ts
  some_of f nil r h = absurd (both_ways _ (no_arguments sig ok f r) h)
  some_of f (cons t ts) r h = tt

  mutual
    raw_arguments : (t : RawTerm) → IsRawTerm sig t → HasArguments t
    raw_arguments t (a_numeral b l) = tt
    raw_arguments t (a_quoted b) = tt
    raw_arguments t (a_variable {x}) = tt
    raw_arguments (apply f ts) (an_operator o is args) = (some_of f ts (an_operator o is args), raws_arguments ts o.args args)

    raws_arguments : (ts : RawTerms) (Ks : List ℕ) → AreRawTerms sig ts Ks → HaveArguments ts
    raws_arguments nil Ks end = tt
    raws_arguments (cons t ts) Ks (next r k rest) = (raw_arguments t r, raws_arguments ts _ rest)

  chain_arguments : (f : ℕ) (t : RawTerm) (ts : RawTerms) → HasArguments (chain f t ts) → HasArguments t × HaveArguments ts
  chain_arguments f t nil h = (h, tt)
  chain_arguments f t (cons u us) h = (h.1.0, chain_arguments f u us h.1.1.0)

  nest_arguments : (b : Bool) (f : ℕ) (ts : RawTerms) → is_assoc sig f ≡ b → HasArguments (nest b f ts) → (is_assoc sig f ≡ true → IsSome ts) × HaveArguments ts
  nest_arguments false f ts e h = h
  nest_arguments true f nil e h = h
  nest_arguments true f (cons t ts) e h = ((λ k. tt), chain_arguments f t ts h)

  some_flat : (ts : RawTerms) → IsSome (all_nested sig ts) → IsSome ts
  some_flat nil h = h
  some_flat (cons t ts) h = tt

  two : (f : ℕ) (ts : RawTerms) → is_assoc sig f ≡ true → IsCanonical sig (apply f ts) → IsSome ts → 2 ≤ number_of_terms ts
  two f nil h c s = absurd s
  two f (cons t nil) h c s =
      let one : elements (identity_of sig f) f t ≡ cons t nil = (c.2 h).0 in
      let again : rebuilt (identity_of sig f) f (arranged (is_comm sig f) (flattened (identity_of sig f) f (cons t nil))) ≡ apply f (cons t nil) = rw h at c.1 in
      let is_t : t ≡ apply f (cons t nil) = sym (ap (rebuilt (identity_of sig f) f) (ap (λ ts. arranged (is_comm sig f) (join ts nil)) one ∙ arranged-one (is_comm sig f) t)) ∙ again in
      let high : height t ≡ height (apply f (cons t nil)) = ap height is_t in
      absurd (omega (arith, high))
  two f (cons t (cons u us)) h c s = omega arith

  mutual
    flat_several : (t : RawTerm) → IsCanonical sig t → HasArguments (nested sig t) → HasSeveral sig t
    flat_several (numeral n) c h = tt
    flat_several (quoted q) c h = tt
    flat_several (variable x) c h = tt
    flat_several (apply f ts) c h =
        let all = nest_arguments (is_assoc sig f) f (all_nested sig ts) refl h in
        ((λ k. two f ts k c (some_flat ts (all.0 k))), flats_several ts c.0 all.1)

    flats_several : (ts : RawTerms) → AreCanonical sig ts → HaveArguments (all_nested sig ts) → HaveSeveral sig ts
    flats_several nil c h = tt
    flats_several (cons t ts) c h = (flat_several t c.0 h.0, flats_several ts c.1 h.1)

  -- the form of a term that may stand in a text is one that is read
  pub written_form : (t : RawTerm) (tokens : List (List ℕ)) → IsWritten sig t → form_tokens sig t ≡ tokens → IsPrefixForm sig t tokens
  written_form t tokens w e =
      let a = w.admitted in
      record {
        form = e;
        told = w.told;
        raw = a.raw;
        several = flat_several t (subst (IsCanonical sig) a.canonical (canonical sig ok (nested sig t))) (raw_arguments (nested sig t) a.raw);
        shallow = subst (λ ts. most_open 0 ts ≤ 999) e w.shallow;
      }

-- a told term has no variables
module _ (sig : Signature) where
  chain_ground : (f : ℕ) (t : RawTerm) (ts : RawTerms) → is_ground t ≡ true → are_ground ts ≡ true → is_ground (chain f t ts) ≡ true
  chain_ground f t nil h k = h
  chain_ground f t (cons u us) h k =
      let p = and_parts (is_ground u) (are_ground us) k in
      and_from (is_ground t) (is_ground (chain f u us) && true) h (and_from (is_ground (chain f u us)) true (chain_ground f u us p.0 p.1) refl)

  nest_ground : (b : Bool) (f : ℕ) (ts : RawTerms) → are_ground ts ≡ true → is_ground (nest b f ts) ≡ true
  nest_ground false f ts h = h
  nest_ground true f nil h = refl
  nest_ground true f (cons t ts) h = let p = and_parts (is_ground t) (are_ground ts) h in chain_ground f t ts p.0 p.1

  mutual
    told_ground : (t : RawTerm) → IsTold t → is_ground (nested sig t) ≡ true
    told_ground (numeral n) h = refl
    told_ground (quoted q) h = refl
    told_ground (variable x) h = absurd h
    told_ground (apply f ts) h = nest_ground (is_assoc sig f) f (all_nested sig ts) (told_all_ground ts h.1)

    told_all_ground : (ts : RawTerms) → AreTold ts → are_ground (all_nested sig ts) ≡ true
    told_all_ground nil h = refl
    told_all_ground (cons t ts) h = and_from (is_ground (nested sig t)) (are_ground (all_nested sig ts)) (told_ground t h.0) (told_all_ground ts h.1)

  -- A form that is read, whose canonical term is the same, is that of a term that may stand in a text.
  module _ (raw : RawTerm) (tokens : List (List ℕ)) (p : IsPrefixForm sig raw tokens) where
    pub read_written : (t : RawTerm) → t ≡ normal_form sig (nested sig raw) → ¬ IsTooDeep sig (nested sig raw) → ¬ IsTooLarge sig (nested sig raw) → raw ≡ t → IsWritten sig t
    read_written t c d l e = subst (IsWritten sig) e (record {
      admitted = record { raw = p.raw; canonical = sym (e ∙ c); admitted = record { ground = told_ground raw p.told; not_deep = d; not_large = l } };
      told = p.told;
      shallow = subst (λ ts. most_open 0 ts ≤ 999) (sym p.form) p.shallow;
    })

    pub read_form : (t : RawTerm) → raw ≡ t → form_tokens sig t ≡ tokens
    read_form t e = ap (form_tokens sig) (sym e) ∙ p.form

    -- of a term that may stand there it is the form alone
    pub read_one : (t : RawTerm) → IsWritten sig t → form_tokens sig t ≡ tokens → raw ≡ t
    read_one t w e = prefix_told sig raw t p.told w.told (p.form ∙ sym e)

    pub deep_other : (e : CanonError) → HasCause sig (nested sig raw) e → e ≢ Memory → (t : RawTerm) → IsWritten sig t → form_tokens sig t ≢ tokens
    deep_other Deep c n t w e = w.admitted.admitted.not_deep (subst (λ u. IsTooDeep sig (nested sig u)) (read_one t w e) c)
    deep_other Nat c n t w e = w.admitted.admitted.not_large (subst (λ u. IsTooLarge sig (nested sig u)) (read_one t w e) c.0)
    deep_other Memory c n t w e = n refl

    pub not_same_other : (u : RawTerm) → u ≡ normal_form sig (nested sig raw) → same_term raw u ≡ false → (t : RawTerm) → IsWritten sig t → form_tokens sig t ≢ tokens
    not_same_other u c h t w e =
        let one = read_one t w e in
        let is_t : u ≡ t = c ∙ ap (λ z. normal_form sig (nested sig z)) one ∙ w.admitted.canonical in
        both_ways (same_term raw u) h (ap (λ z. same_term z u) one ∙ ap (same_term t) is_t ∙ told_same t w.told)

pub no_form_other : (sig : Signature) → IsAccepted sig → (tokens : List (List ℕ)) → IsNoForm sig tokens → (t : RawTerm) → IsWritten sig t → form_tokens sig t ≢ tokens
no_form_other sig ok tokens n t w e = n t (written_form sig ok t tokens w e)
