-- Jobs that stand for parts of a right side, one after the other.
use Rattle.std.specs.Prelude.{◌≡◌, ℕ, suc, List, [], ◌∷◌, ◌++◌, drop, Option, None, Some, unwrap_or, slice_get, refl}
use Rattle.std.proofs.Common.{sym, subst, ap, ◌∙◌, arith}
use Rattle.mw_logic.specs.Term.{RawTerm, RawTerms, numeral, quoted, variable, apply, nil, cons}
use Rattle.mw_logic.specs.Signature.{Signature}
use Rattle.mw_logic.specs.Module.{Module}
use Rattle.mw_logic.specs.Accepted.{IsAccepted}
use Rattle.mw_logic.specs.Parts.{number_of_terms}
use Rattle.mw_logic.proofs.Canonical.{IsCanonical, AreCanonical, applied_canonical}
use Rattle.mw_position.specs.Positions.{position}
use Rattle.mw_matching.specs.Matches.{evaluated_all}
use Rattle.mw_frames.specs.declared.job.Job.{Job}
use Rattle.mw_frames.specs.Jobs.{instance_of, rest}
use Rattle.mw_frames.specs.State.{IsKnownIn, AreKnownIn}
use Rattle.mw_frames.specs.Arrivals.{IsOver, StandsFor, StandForAll}
use Rattle.mw_frames.proofs.JobOrder.{rest-join, weights-append, AreJobs-append}

module _ (sig : Signature) (vs : List RawTerm) (base top : ℕ) where
  pub stand_none : StandForAll sig vs base top nil []
  stand_none = record { terms = refl; known = λ M n over k. tt; light = omega arith }

  -- one comes in front of them
  pub stand_more : (p : RawTerm) (x : Job) (ps : RawTerms) (xs : List Job) → StandsFor sig vs base top p x → StandForAll sig vs base top ps xs → StandForAll sig vs base top (cons p ps) (xs ++ x ∷ [])
  stand_more p x ps xs h k = record {
    terms = rest-join sig vs xs (x ∷ []) ∙ ap (λ t. cons t (rest sig vs xs)) h.term ∙ ap (cons (instance_of sig vs p base)) k.terms;
    known = λ M n over j. AreJobs-append M n vs xs (x ∷ []) (k.known M n over j.1) (h.known M n over j.0, tt);
    light = let w = weights-append sig vs xs (x ∷ []) in let a = h.light in let b = k.light in omega (arith, w, a, b);
  }

-- the canonical instance of what is known is canonical
module _ (M : Module) (n : ℕ) (ok : IsAccepted M.signature) (vs : List RawTerm) (base top : ℕ) where
  mutual
    pub known_canonical : (p : RawTerm) → IsKnownIn M n vs base top p → IsCanonical M.signature (instance_of M.signature vs p base)
    known_canonical (numeral m) k = tt
    known_canonical (quoted q) k = tt
    known_canonical (variable x) k = named (slice_get (drop base vs) x.sort) k.canonical
      where
        named : (o : Option RawTerm) → IsCanonical M.signature (unwrap_or o (variable (position x.sort))) → IsCanonical M.signature (unwrap_or o (variable x))
        named None h = tt
        named (Some v) h = h
    known_canonical (apply f ps) k = applied_canonical M.signature ok f _ (all_known ps k.1)

    pub all_known : (ps : RawTerms) → AreKnownIn M n vs base top ps → AreCanonical M.signature (evaluated_all M.signature (drop base vs) ps)
    all_known nil k = tt
    all_known (cons p ps) k = (known_canonical p k.0, all_known ps k.1)

pub number-evaluated : (sig : Signature) (vs : List RawTerm) (ps : RawTerms) → number_of_terms (evaluated_all sig vs ps) ≡ number_of_terms ps
number-evaluated sig vs nil = refl
number-evaluated sig vs (cons p ps) = ap suc (number-evaluated sig vs ps)

pub instance_canonical : (sig : Signature) (M : Module) (n : ℕ) → IsOver M sig → (vs : List RawTerm) (base top : ℕ) (p t : RawTerm) → t ≡ instance_of sig vs p base → IsKnownIn M n vs base top p → IsCanonical M.signature t
instance_canonical sig M n over vs base top p t e k =
    subst (IsCanonical M.signature) (ap (λ s. instance_of s vs p base) over.signature ∙ sym e) (known_canonical M n over.accepted vs base top p k)
