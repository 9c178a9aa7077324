-- A pattern with the arguments of associative and commutative operators in another order.
use Rattle.std.specs.Prelude.{ℕ, ◌≡◌, true}
use Rattle.mw_logic.specs.Term.{RawTerm, apply, RawTerms, nil, cons}
use Rattle.mw_logic.specs.Signature.{Signature}
use Rattle.mw_logic.specs.Parts.{is_assoc}
use Rattle.mw_logic.specs.NormalForm.{is_comm}

mutual
  pub data Reordered (sig : Signature) : RawTerm → RawTerm → Type 0 where
    same : {t : RawTerm} → Reordered sig t t
    inside : {f : ℕ} {ts us : RawTerms} → AreReordered sig f ts us → Reordered sig (apply f ts) (apply f us)

  -- the arguments of f: each by itself, and two neighbours exchanged, again and again
  pub data AreReordered (sig : Signature) : ℕ → RawTerms → RawTerms → Type 0 where
    none : {f : ℕ} → AreReordered sig f nil nil
    next : {f : ℕ} {t u : RawTerm} {ts us : RawTerms} → Reordered sig t u → AreReordered sig f ts us → AreReordered sig f (cons t ts) (cons u us)
    exchanged : {f : ℕ} {t u : RawTerm} {ts : RawTerms} → is_assoc sig f ≡ true → is_comm sig f ≡ true → AreReordered sig f (cons t (cons u ts)) (cons u (cons t ts))
    then : {f : ℕ} {ts us vs : RawTerms} → AreReordered sig f ts us → AreReordered sig f us vs → AreReordered sig f ts vs
