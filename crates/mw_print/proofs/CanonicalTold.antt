-- Canonical terms have forms that tell them.
use Rattle.std.proofs.Common.{◌≡◌, ◌<◌, ◌^◌, ℕ, zero, suc, Bool, true, false, List, length, Option, Some, None, option_map, unwrap_or, refl, arith}
use Rattle.std.proofs.lemmas.Bool.{and_parts}
use Rattle.std.proofs.lemmas.Option.{slice_get_within}
use Rattle.mw_logic.specs.Term.{RawTerm, numeral, quoted, variable, apply, RawTerms, nil, cons, is_ground, are_ground}
use Rattle.mw_logic.specs.Signature.{Signature, Operator, at_number, IsRawTerm, a_numeral, a_quoted, a_variable, an_operator, AreRawTerms, end, next}
use Rattle.mw_logic.specs.Parts.{is_assoc, nested, all_nested, nest, chain}
use Rattle.mw_text.specs.Proper.{HasIdentifiers, HaveIdentifiers}
use Rattle.mw_print.specs.PrefixLaws.{IsTold, AreTold, CanonicalIsTold}

module _ (sig : Signature) (few : length sig.operators < 2 ^ 128) where
  number_small : (f : ℕ) (o : Operator) → at_number sig.operators f ≡ Some o → f < 2 ^ 128
  number_small zero o e = omega arith
  number_small (suc i) o e = let w = slice_get_within sig.operators i o e in omega (arith, few, w)

  -- of a raw term
  mutual
    raw_told : (t : RawTerm) → IsRawTerm sig t → is_ground t ≡ true → HasIdentifiers t → IsTold t
    raw_told t (a_numeral b l) g q = l
    raw_told t (a_quoted b) g q = q
    raw_told t (a_variable {x}) g q = cc
    raw_told (apply f ts) (an_operator o is args) g q = (number_small f o is, raws_told ts o.args args g q)

    raws_told : (ts : RawTerms) (Ks : List ℕ) → AreRawTerms sig ts Ks → are_ground ts ≡ true → HaveIdentifiers ts → AreTold ts
    raws_told nil Ks end g q = tt
    raws_told (cons t ts) Ks (next r k rest) g q = let both = and_parts (is_ground t) (are_ground ts) g in (raw_told t r both.0 q.0, raws_told ts _ rest both.1 q.1)

  -- an associative operator is there
  assoc_small : (f : ℕ) → is_assoc sig f ≡ true → f < 2 ^ 128
  assoc_small f e = of (at_number sig.operators f) refl e
    where
      of : (o : Option Operator) → at_number sig.operators f ≡ o → unwrap_or (option_map (λ (o : Operator). o.assoc) o) false ≡ true → f < 2 ^ 128
      of None is h = cc
      of (Some o) is h = number_small f o is

  chain_told : (f : ℕ) (t : RawTerm) (ts : RawTerms) → IsTold (chain f t ts) → IsTold t × AreTold ts
  chain_told f t nil h = (h, tt)
  chain_told f t (cons u us) h = (h.1.0, chain_told f u us h.1.1.0)

  nest_told : (b : Bool) (f : ℕ) (ts : RawTerms) → is_assoc sig f ≡ b → IsTold (nest b f ts) → (f < 2 ^ 128) × AreTold ts
  nest_told false f ts e h = h
  nest_told true f nil e h = h
  nest_told true f (cons t ts) e h = (assoc_small f e, chain_told f t ts h)

  -- of a flattened one
  mutual
    flat_told : (t : RawTerm) → IsTold (nested sig t) → IsTold t
    flat_told (numeral n) h = h
    flat_told (quoted q) h = h
    flat_told (variable x) h = h
    flat_told (apply f ts) h = let all = nest_told (is_assoc sig f) f (all_nested sig ts) refl h in (all.0, flats_told ts all.1)

    flats_told : (ts : RawTerms) → AreTold (all_nested sig ts) → AreTold ts
    flats_told nil h = tt
    flats_told (cons t ts) h = (flat_told t h.0, flats_told ts h.1)

pub canonical_told : CanonicalIsTold
canonical_told sig t few raw ground identifiers = flat_told sig few t (raw_told sig few (nested sig t) raw ground identifiers)
