-- `s_` stands on the largest numeral in no value of an equation that applies to a term in which it doesn't.
use Rattle.std.specs.Prelude.{◌≡◌, ◌⊎◌, ◌&&◌, ◌||◌, ℕ, zero, suc, List, [], ◌∷◌, ◌++◌, Bool, true, false, unwrap_or, slice_get, IsTrue, refl}
use Rattle.std.proofs.Common.{sym, subst, ap, ◌∙◌, inl, inr, ⊎_elim}
use Rattle.std.proofs.Math.Bool.{or-false}
use Rattle.std.proofs.lemmas.Bool.{or_parts, or_from}
use Rattle.mw_logic.specs.Term.{Variable, RawTerm, numeral, quoted, variable, apply, RawTerms, nil, cons}
use Rattle.mw_logic.specs.Terms.{terms_of}
use Rattle.mw_logic.specs.Signature.{Signature}
use Rattle.mw_logic.specs.Accepted.{IsAccepted, IsWellSorted}
use Rattle.mw_logic.specs.Kinds.{is_successor}
use Rattle.mw_logic.specs.Substitution.{occurs}
use Rattle.mw_logic.specs.NormalForm.{is_comm, arranged, applied_in, is_largest, has_largest, some_largest}
use Rattle.mw_logic.specs.Module.{Module}
use Rattle.mw_logic.proofs.Admitted.{admitted-iff}
use Rattle.mw_logic.proofs.Canonical.{IsCanonical}
use Rattle.mw_position.specs.Variables.{is_in}
use Rattle.mw_position.specs.Positions.{position}
use Rattle.mw_matching.specs.Matches.{evaluated, evaluated_all}
use Rattle.mw_deduction.proofs.Largest.{largest_applied}
use Rattle.mw_canon.specs.Free.{IsFree, AreFree}
use Rattle.mw_deduction.specs.Replay.{Move}
use Rattle.mw_frames.specs.State.{IsNormalHere}
use Rattle.mw_frames.specs.Redex.{IsBare, value_in, IsRedex}
use Rattle.mw_frames.proofs.PlacedTerms.{values_small}
use Rattle.mw_frames.proofs.RightSides.{distinct_here, left_is}

-- of values in each of which it doesn't
pub value_small : (sig : Signature) (vs : List RawTerm) (i : ℕ) (x : Variable) → some_largest sig (terms_of vs) ≡ false → has_largest sig (unwrap_or (slice_get vs i) (variable x)) ≡ false
value_small sig [] i x h = refl
value_small sig (v ∷ vs) zero x h = (or_parts (has_largest sig v) (some_largest sig (terms_of vs)) h).0
value_small sig (v ∷ vs) (suc i) x h = value_small sig vs i x (or_parts (has_largest sig v) (some_largest sig (terms_of vs)) h).1

-- nor in an instance of a pattern without `s_` by these
module _ (sig : Signature) (ok : IsAccepted sig) (vs : List RawTerm) (small : some_largest sig (terms_of vs) ≡ false) where
  mutual
    pub free_small : (p : RawTerm) → IsFree sig p → has_largest sig (evaluated sig vs p) ≡ false
    free_small (numeral n) h = refl
    free_small (quoted q) h = refl
    free_small (variable x) h = value_small sig vs x.sort x small
    free_small (apply f ts) h =
        largest_applied sig ok f (evaluated_all sig vs ts)
        ∙ ap (λ b. (b && is_largest (arranged (is_comm sig f) (evaluated_all sig vs ts))) || some_largest sig (evaluated_all sig vs ts)) h.0.2 ∙ all_free_small ts h.1

    all_free_small : (ts : RawTerms) → AreFree sig ts → some_largest sig (evaluated_all sig vs ts) ≡ false
    all_free_small nil h = refl
    all_free_small (cons t ts) h = or_from (has_largest sig (evaluated sig vs t)) (some_largest sig (evaluated_all sig vs ts)) (free_small t h.0) (all_free_small ts h.1)

-- nor in a normal term, nor in one without arguments
pub normal_small : (M : Module) → IsAccepted M.signature → (n : ℕ) (u : RawTerm) → IsNormalHere M n u → has_largest M.signature u ≡ false
normal_small M ok n u a = subst (λ t. has_largest M.signature t ≡ false) a.canonical ((admitted-iff M.signature ok a.raw).0 a.normal.admitted).2

pub bare_small : (sig : Signature) (u : RawTerm) → IsBare u → has_largest sig u ≡ false
bare_small sig (numeral m) h = refl
bare_small sig (quoted q) h = refl
bare_small sig (variable x) h = refl
bare_small sig (apply f nil) h = or_from (is_successor sig f && is_largest nil) (some_largest sig nil) (none (is_successor sig f)) refl
  where
    none : (b : Bool) → (b && is_largest nil) ≡ false
    none true = refl
    none false = refl
bare_small sig (apply f (cons t ts)) h = absurd h

module _ (M : Module) (ok : IsAccepted M.signature) (sorted : IsWellSorted M.signature) (n number : ℕ) (ms : List Move) (vs : List RawTerm) (right w : RawTerm) (r : IsRedex M n number ms vs right w) where
  abbrev sig : Signature
  sig = M.signature

  abbrev variables : List Variable
  variables = r.statement.variables

  pub redex_small : IsCanonical sig w → has_largest sig w ≡ false → some_largest sig (terms_of vs) ≡ false
  redex_small k = values_small sig ok variables vs (distinct_here M ok sorted n number ms vs right w r) r.size r.statement.left w r.sides.left known (left_is M ok sorted n number ms vs right w r k)
    where
      known : (x : Variable) → IsTrue (is_in x variables) → IsTrue (occurs x r.statement.left) ⊎ (has_largest sig (value_in sig variables vs x) ≡ false)
      known x i = by_side (occurs x r.statement.left) refl
        where
          by_side : (b : Bool) → occurs x r.statement.left ≡ b → IsTrue (occurs x r.statement.left) ⊎ (has_largest sig (value_in sig variables vs x) ≡ false)
          by_side true o = inl o
          by_side false o = inr (⊎_elim (normal_small M ok n _) (bare_small sig _) (r.found x i o))

-- What is told of instances, as they are built.
pub value_told : (sig : Signature) (vs : List RawTerm) (i : ℕ) (l : Bool) (u : RawTerm) → u ≡ unwrap_or (slice_get vs i) (variable (position i)) → some_largest sig (terms_of vs) ≡ false → l ≡ (l || has_largest sig u)
value_told sig vs i l u e small = sym (ap (λ b. l || b) (ap (has_largest sig) e ∙ value_small sig vs i (position i) small) ∙ or-false l)

told_all : (a s o : Bool) → ((a || s) || o) ≡ (a || (o || s))
told_all true s o = refl
told_all false true true = refl
told_all false true false = refl
told_all false false true = refl
told_all false false false = refl

pub applied_told : (sig : Signature) → IsAccepted sig → (f : ℕ) (ts : RawTerms) (before made after : Bool) (t : RawTerm) → made ≡ (before || some_largest sig ts) → after ≡ (made || (is_successor sig f && is_largest (arranged (is_comm sig f) ts)))
    → t ≡ applied_in sig f ts → after ≡ (before || has_largest sig t)
applied_told sig ok f ts before made after t m a e =
    a ∙ ap (λ b. b || (is_successor sig f && is_largest (arranged (is_comm sig f) ts))) m ∙ told_all before (some_largest sig ts) (is_successor sig f && is_largest (arranged (is_comm sig f) ts))
    ∙ ap (λ b. before || b) (sym (ap (has_largest sig) e ∙ largest_applied sig ok f ts))

some_pushed : (sig : Signature) (ts : List RawTerm) (t : RawTerm) → some_largest sig (terms_of (ts ++ t ∷ [])) ≡ (some_largest sig (terms_of ts) || has_largest sig t)
some_pushed sig [] t = or-false (has_largest sig t)
some_pushed sig (u ∷ ts) t = ap (λ b. has_largest sig u || b) (some_pushed sig ts t) ∙ sym (or_assoc (has_largest sig u) (some_largest sig (terms_of ts)) (has_largest sig t))
  where
    or_assoc : (a b c : Bool) → ((a || b) || c) ≡ (a || (b || c))
    or_assoc true b c = refl
    or_assoc false b c = refl

pub one_told : (sig : Signature) (ts us : List RawTerm) (t : RawTerm) (first before after : Bool) → before ≡ (first || some_largest sig (terms_of ts)) → after ≡ (before || has_largest sig t) → us ≡ ts ++ t ∷ [] → after ≡ (first || some_largest sig (terms_of us))
one_told sig ts us t first before after b a e =
    a ∙ ap (λ z. z || has_largest sig t) b ∙ joined first (some_largest sig (terms_of ts)) (has_largest sig t) ∙ ap (λ z. first || z) (sym (some_pushed sig ts t)) ∙ ap (λ zs. first || some_largest sig (terms_of zs)) (sym e)
  where
    joined : (a b c : Bool) → ((a || b) || c) ≡ (a || (b || c))
    joined true b c = refl
    joined false b c = refl
