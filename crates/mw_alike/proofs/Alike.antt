-- What is seen as the same is the same, and the other way round.
use Rattle.std.specs.Prelude.{◌≡◌, ◌<◌, ◌==◌, ◌↔◌, List, [], ◌∷◌, length, map, Bool, IsTrue, refl}
use Rattle.std.proofs.Common.{arith, ap, ◌∙◌}
use Rattle.std.proofs.Math.Dec.{eqb-suc-zero}
use Rattle.mw_term.specs.Raws.{raw_term, raw_terms}
use Rattle.mw_term.specs.Statements.{fragment_of}
use Rattle.mw_term.specs.Signatures.{sorted_of, gather_of}
use Rattle.mw_term.specs.declared.raw.Raw.{Raw}
use Rattle.mw_term.specs.declared.raw.Raw.TheVariants.{Nat, Qid, Var, Op}
use Rattle.mw_term.specs.declared.statement.Fragment.{Fragment}
use Rattle.mw_term.specs.declared.statement.Fragment.TheVariants.{Equal, Match, HasSort, Holds}
use Rattle.mw_term.specs.declared.signature.Sorted.{Sorted}
use Rattle.mw_term.specs.declared.signature.Sorted.TheVariants.{Sort, Kind}
use Rattle.mw_term.specs.declared.signature.Gather.{Gather}
use Rattle.mw_term.specs.declared.signature.Gather.TheVariants.{Less, Most, Any}

-- lists
pub map_injective : {A B : Type 0} (f : A → B) → ((x y : A) → f x ≡ f y → x ≡ y) → (xs ys : List A) → map f xs ≡ map f ys → xs ≡ ys
map_injective f h [] [] e = refl
map_injective f h [] (y ∷ ys) e = cc
map_injective f h (x ∷ xs) [] e = cc
map_injective f h (x ∷ xs) (y ∷ ys) e =
    let p : f x ≡ f y = cc in
    let q : map f xs ≡ map f ys = cc in
    ap (λ z. z ∷ xs) (h x y p) ∙ ap (λ zs. y ∷ zs) (map_injective f h xs ys q)

pub sorted_injective : (a b : Sorted) → sorted_of a ≡ sorted_of b → a ≡ b
sorted_injective (Sort s) (Sort t) e = cc
sorted_injective (Sort s) (Kind t) e = cc
sorted_injective (Kind s) (Sort t) e = cc
sorted_injective (Kind s) (Kind t) e = cc

pub gather_injective : (a b : Gather) → gather_of a ≡ gather_of b → a ≡ b
gather_injective Less Less e = refl
gather_injective Less Most e = cc
gather_injective Less Any e = cc
gather_injective Most Less e = cc
gather_injective Most Most e = refl
gather_injective Most Any e = cc
gather_injective Any Less e = cc
gather_injective Any Most e = cc
gather_injective Any Any e = refl

pub raw_injective : (a b : Raw) → raw_term a ≡ raw_term b → a ≡ b
raw_injective (Nat m) (Nat n) e = cc
raw_injective (Nat m) (Qid q) e = cc
raw_injective (Nat m) (Var x) e = cc
raw_injective (Nat m) (Op f ts) e = cc
raw_injective (Qid p) (Nat n) e = cc
raw_injective (Qid p) (Qid q) e = cc
raw_injective (Qid p) (Var x) e = cc
raw_injective (Qid p) (Op f ts) e = cc
raw_injective (Var y) (Nat n) e = cc
raw_injective (Var y) (Qid q) e = cc
raw_injective (Var y) (Var x) e = cc
raw_injective (Var y) (Op f ts) e = cc
raw_injective (Op g us) (Nat n) e = cc
raw_injective (Op g us) (Qid q) e = cc
raw_injective (Op g us) (Var x) e = cc
raw_injective (Op g us) (Op f ts) e = cc

-- where one list ends, the other one does where they are the same
pub raws_end : (rs ls : List Raw) (b : Bool) → length rs < 1 → b ≡ (length ls == 0) → IsTrue b ↔ (raw_terms rs ≡ raw_terms ls)
raws_end [] [] b n e = (λ h. refl, λ h. e)
raws_end [] (l ∷ ls) b n e = (λ h. cc (eqb-suc-zero (length ls)), λ h. cc)
raws_end (r ∷ rs) ls b n e = absurd (omega (arith, n))

-- both ends of a walk through two lists
pub raws_walked : (xs ys rs ls : List Raw) (b : Bool) → (raw_terms xs ≡ raw_terms ys) ↔ (raw_terms rs ≡ raw_terms ls) → length rs < 1 → b ≡ (length ls == 0) → IsTrue b ↔ (raw_terms xs ≡ raw_terms ys)
raws_walked xs ys rs ls b w n e = let h = raws_end rs ls b n e in (λ t. w.1 (h.0 t), λ q. h.1 (w.0 q))

-- lists that are seen by a function of their elements
pub mapped : {A B : Type 0} (f : A → B) → ((x y : A) → f x ≡ f y → x ≡ y) → (xs ys : List A) (b : Bool) → IsTrue b ↔ (xs ≡ ys) → IsTrue b ↔ (map f xs ≡ map f ys)
mapped f h xs ys b k = (λ t. ap (map f) (k.0 t), λ e. k.1 (map_injective f h xs ys e))

pub fragment_injective : (a b : Fragment) → fragment_of a ≡ fragment_of b → a ≡ b
fragment_injective (Equal u v) (Equal s t) e =
    let p : raw_term u ≡ raw_term s = cc in let q : raw_term v ≡ raw_term t = cc in let p = raw_injective u s p in let q = raw_injective v t q in cc
fragment_injective (Equal u v) (Match s t) e = cc
fragment_injective (Equal u v) (HasSort s t) e = cc
fragment_injective (Equal u v) (Holds s) e = cc
fragment_injective (Match u v) (Equal s t) e = cc
fragment_injective (Match u v) (Match s t) e =
    let p : raw_term u ≡ raw_term s = cc in let q : raw_term v ≡ raw_term t = cc in let p = raw_injective u s p in let q = raw_injective v t q in cc
fragment_injective (Match u v) (HasSort s t) e = cc
fragment_injective (Match u v) (Holds s) e = cc
fragment_injective (HasSort u v) (Equal s t) e = cc
fragment_injective (HasSort u v) (Match s t) e = cc
fragment_injective (HasSort u v) (HasSort s t) e =
    let p : raw_term u ≡ raw_term s = cc in let q : sorted_of v ≡ sorted_of t = cc in let p = raw_injective u s p in let q = sorted_injective v t q in cc
fragment_injective (HasSort u v) (Holds s) e = cc
fragment_injective (Holds u) (Equal s t) e = cc
fragment_injective (Holds u) (Match s t) e = cc
fragment_injective (Holds u) (HasSort s t) e = cc
fragment_injective (Holds u) (Holds s) e =
    let p : raw_term u ≡ raw_term s = cc in let p = raw_injective u s p in cc
