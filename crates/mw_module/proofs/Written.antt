-- How declarations of operators are written.
use Rattle.std.proofs.Common.{◌≡◌, ◌∙◌, ◌⊎◌, inl, inr, ◌+◌, ◌==◌, ◌||◌, not, nat_lt, min, if◌then◌else◌, cond, ℕ, suc, Bool, true, false, List, [], ◌∷◌, ◌++◌, length, map, take, drop, Result, Ok, Err, codes, refl, ap, subst, arith}
use Rattle.std.proofs.lemmas.Bool.{eqb-false, ne_eqb, ltb-true, ltb-false}
use Rattle.std.proofs.lemmas.Slice.Eq.{bytes_eq-Decides}
use Rattle.mw_lex.specs.declared.token.Token.{Token}
use Rattle.mw_module.specs.declared.table.Place.TheVariants as place
use Rattle.mw_module.specs.declared.table.Role.TheVariants as role
use Rattle.mw_module.specs.declared.table.Want.TheVariants as want
use Rattle.mw_module.specs.declared.table.Wrong.{Wrong}
use Rattle.mw_module.specs.declared.table.Wrong.TheVariants.{Bad}
use Rattle.mw_module.specs.Attributes.{Attributes}
use Rattle.mw_module.specs.OperatorNames.{all_fit}
use Rattle.mw_module.specs.Sortings.{WrittenSort, sortings_of}
use Rattle.mw_module.specs.Reading.{then_of, read_at}
use Rattle.mw_module.specs.Words.{is, texts, count_before}
use Rattle.mw_module.specs.Forms.{Operators, Value, value_form, Profile, fits_message, profiled, profile_form, declared, names_form}
use Rattle.mw_module.specs.Written.{OperatorsAreWritten}

-- tokens round one with this text
abbrev IsCut : List ℕ → ℕ → List Token → Type 0
IsCut word n ts = (t : Token) × ((ts ≡ take n ts ++ t ∷ drop (n + 1) ts) × (t.text ≡ word))

grown : (m k n : ℕ) (t : Token) (rest : List Token) (u : Token) → m ≡ suc n → k ≡ suc (n + 1) → rest ≡ take n rest ++ u ∷ drop (n + 1) rest → t ∷ rest ≡ take m (t ∷ rest) ++ u ∷ drop k (t ∷ rest)
grown m k n t rest u e f h = let more : t ∷ rest ≡ t ∷ (take n rest ++ u ∷ drop (n + 1) rest) = ap (λ us. t ∷ us) h in rw (e, f) more

cut_case : (b : Bool) (word : List ℕ) (t : Token) (rest : List Token) (n : ℕ) → is word t ≡ b → ((n == length rest) ≡ false → IsCut word n rest) → (cond b 0 (1 + n) == length (t ∷ rest)) ≡ false
    → IsCut word (cond b 0 (1 + n)) (t ∷ rest)
cut_case true word t rest n e next h = (t, (refl, (bytes_eq-Decides t.text word).0 e))
cut_case false word t rest n e next h =
    let differs : (n == length rest) ≡ false = ne_eqb n (length rest) (λ same. eqb-false (1 + n) (length (t ∷ rest)) h (omega (arith, same))) in
    let c = next differs in
    (c.0, (grown (1 + n) (1 + n + 1) n t rest c.0 (omega arith) (omega arith) c.1.0, c.1.1))

cut_at : (word : List ℕ) (ts : List Token) → (count_before word ts == length ts) ≡ false → IsCut word (count_before word ts) ts
cut_at word [] h = cc
cut_at word (t ∷ rest) h = cut_case (is word t) word t rest (count_before word rest) refl (cut_at word rest) h

-- tokens round the first arrow
arrow_at : (ts : List Token) → (min (count_before (codes "->") ts) (count_before (codes "~>") ts) == length ts) ≡ false
    → (t : Token) × ((ts ≡ take (min (count_before (codes "->") ts) (count_before (codes "~>") ts)) ts ++ t ∷ drop (min (count_before (codes "->") ts) (count_before (codes "~>") ts) + 1) ts)
    × ((t.text ≡ codes "->") ⊎ (t.text ≡ codes "~>")))
arrow_at ts h = of (nat_lt (count_before (codes "~>") ts) (count_before (codes "->") ts)) refl
  where
    of : (b : Bool) → nat_lt (count_before (codes "~>") ts) (count_before (codes "->") ts) ≡ b
        → (t : Token) × ((ts ≡ take (min (count_before (codes "->") ts) (count_before (codes "~>") ts)) ts ++ t ∷ drop (min (count_before (codes "->") ts) (count_before (codes "~>") ts) + 1) ts)
        × ((t.text ≡ codes "->") ⊎ (t.text ≡ codes "~>")))
    of true e =
        let least : min (count_before (codes "->") ts) (count_before (codes "~>") ts) ≡ count_before (codes "~>") ts = omega (arith, ltb-true (count_before (codes "~>") ts) (count_before (codes "->") ts) e) in
        let c = cut_at (codes "~>") ts (subst (λ n. (n == length ts) ≡ false) least h) in
        rw least (c.0, (c.1.0, inr c.1.1))
    of false e =
        let least : min (count_before (codes "->") ts) (count_before (codes "~>") ts) ≡ count_before (codes "->") ts = omega (arith, ltb-false (count_before (codes "~>") ts) (count_before (codes "->") ts) e) in
        let c = cut_at (codes "->") ts (subst (λ n. (n == length ts) ≡ false) least h) in
        rw least (c.0, (c.1.0, inl c.1.1))

-- what a step was made of
then_parts : {A B : Type 0} (r : Result A Wrong) (next : A → Result B Wrong) (b : B) → then_of r next ≡ Ok b → (a : A) × ((r ≡ Ok a) × (next a ≡ Ok b))
then_parts (Ok a) next b e = (a, (refl, e))
then_parts (Err wrong) next b e = cc

if_parts : {B : Type 0} (c : Bool) (r : Result B Wrong) (b : B) → (if c then Err Bad else r) ≡ Ok b → (c ≡ false) × (r ≡ Ok b)
if_parts true r b e = cc
if_parts false r b e = (refl, e)

arrow_there : (a b : Bool) → (not (not a) || b) ≡ false → a ≡ false
arrow_there true b e = cc
arrow_there false b e = refl

-- there is an arrow where a profile is read
profile_cut : (message : Bool) (names : List (List Token)) (ts : List Token) (p : Profile) → profile_form message names ts ≡ Ok p → (min (count_before (codes "->") ts) (count_before (codes "~>") ts) == length ts) ≡ false
profile_cut message names ts p e =
    let arrow = min (count_before (codes "->") ts) (count_before (codes "~>") ts) in
    let kinds = nat_lt (count_before (codes "~>") ts) (count_before (codes "->") ts) in
    let s = then_parts (read_at place.Args role.Silent want.Nothing (take arrow ts))
    (λ parts. profiled message kinds names (sortings_of kinds (take arrow ts) parts) (not (arrow == length ts)) (drop (arrow + 1) ts)) p e in
    let args = sortings_of kinds (take arrow ts) s.0 in
    let f = if_parts (not (not (arrow == length ts)) || not (all_fit (length args) names))
    (if not (fits_message message (drop (arrow + 1) ts)) then Err Bad
    else then_of (value_form kinds (length args) (drop (arrow + 1) ts)) (λ (v : Value). Ok (record { args = args; value = v }))) p s.1.1 in
    arrow_there (arrow == length ts) (not (all_fit (length args) names)) f.0

-- the names of a declaration, and what stands behind them
declared_parts : (message : Bool) (ns : List (List Token)) (words : List (List (List ℕ))) (ts : List Token) (args : List WrittenSort) (value : WrittenSort) (said : Attributes)
    → declared message ns ts ≡ Ok (Operators words args value said) → (words ≡ map texts ns) × ((p : Profile) × (profile_form message ns ts ≡ Ok p))
declared_parts message [] words ts args value said e = cc
declared_parts message (n ∷ ns) words ts args value said e =
    let s = then_parts (profile_form message (n ∷ ns) ts) (λ (p : Profile). Ok (Operators (map texts (n ∷ ns)) p.args p.value.sort p.value.attributes)) (Operators words args value said) e in
    (cc, (s.0, s.1.0))

behind_colon : (ts front : List Token) (c : Token) (rest more : List Token) → ts ≡ front ++ c ∷ rest → rest ≡ more → ts ≡ front ++ c ∷ more
behind_colon ts front c rest more e f = e ∙ ap (λ us. front ++ c ∷ us) f

pub operators_are_written : OperatorsAreWritten
operators_are_written a ts words args value said e =
    let colon = count_before (codes ":") ts in
    let f = if_parts (colon == length ts) (then_of (names_form a.single (take colon ts)) (λ ns. declared a.message ns (drop (colon + 1) ts))) (Operators words args value said) e in
    let s = then_parts (names_form a.single (take colon ts)) (λ ns. declared a.message ns (drop (colon + 1) ts)) (Operators words args value said) f.1 in
    let d = declared_parts a.message s.0 words (drop (colon + 1) ts) args value said s.1.1 in
    let c = cut_at (codes ":") ts f.0 in
    let rest = drop (colon + 1) ts in
    let r = arrow_at rest (profile_cut a.message s.0 rest d.1.0 d.1.1) in
    let arrow = min (count_before (codes "->") rest) (count_before (codes "~>") rest) in
    record {
      names = s.0;
      are = d.0;
      front = take colon ts;
      colon = c.0;
      middle = take arrow rest;
      arrow = r.0;
      behind = drop (arrow + 1) rest;
      tokens = behind_colon ts (take colon ts) c.0 rest (take arrow rest ++ r.0 ∷ drop (arrow + 1) rest) c.1.0 r.1.0;
      is_colon = c.1.1;
      is_arrow = r.1.1;
      named = s.1.0;
    }
