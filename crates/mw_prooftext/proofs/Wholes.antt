-- Into arguments and out of them the whole term stays as it is.
use Rattle.std.specs.Prelude.{◌≡◌, ◌<◌, ℕ, List, [], ◌∷◌, length, refl}
use Rattle.std.proofs.Common.{ap, sym, subst}
use Rattle.mw_logic.specs.Term.{RawTerm, RawTerms, apply, cons, join}
use Rattle.mw_logic.specs.Signature.{Signature}
use Rattle.mw_logic.specs.Accepted.{IsAccepted}
use Rattle.mw_logic.specs.Parts.{number_of_terms}
use Rattle.mw_logic.specs.Module.{Module}
use Rattle.mw_logic.specs.Judgements.{admitted_judgements}
use Rattle.mw_logic.proofs.Canonical.{IsCanonical}
use Rattle.mw_arguments.specs.Places.{chosen, Takes}
use Rattle.mw_deduction.specs.Standing.{Open}
use Rattle.mw_deduction.specs.Replay.{Stand, whole, into_argument, into_several, going_out, MayGoIn, MayGoAmong}
use Rattle.mw_deduction.proofs.Standing.{several_filled}
use Rattle.mw_deduction.proofs.Taking.{into_is, Taken, taken, cut_out}
use Rattle.mw_deduction.proofs.MoveStands.{with_hand, with_opens}

-- the same was carried out and shown, in the same rank, and the whole term is the same
abbrev pub IsSameTold : Signature → Stand → Stand → Type 0
IsSameTold sig S Q = (Q.rank ≡ S.rank) × (Q.from ≡ S.from) × (whole sig Q.opens Q.hand ≡ whole sig S.opens S.hand) × (Q.run ≡ S.run) × (Q.sides ≡ S.sides)

into_argument_same : (sig : Signature) (S : Stand) (i f : ℕ) (b : RawTerms) (x : RawTerm) (a : RawTerms) → i ≡ Rattle.std.specs.Prelude.suc (number_of_terms b) → IsCanonical sig (apply f (join b (cons x a)))
    → IsSameTold sig (with_hand S (apply f (join b (cons x a)))) (into_argument sig i (apply f (join b (cons x a))) S)
into_argument_same sig S i f b x a n k = subst (IsSameTold sig (with_hand S (apply f (join b (cons x a))))) (sym (into_is sig i f b x a S n)) (refl, refl, ap (whole sig S.opens) k.1, refl, refl)

pub into_same : (sig : Signature) (S : Stand) (i : ℕ) → MayGoIn sig i S.hand → IsCanonical sig S.hand → IsSameTold sig S (into_argument sig i S.hand S)
into_same sig S i m k =
    subst (λ t. IsSameTold sig (with_hand S t) (into_argument sig i t S)) (sym m.is) (into_argument_same sig S i m.operator m.before m.argument m.after m.number (subst (IsCanonical sig) m.is k))

module _ (M : Module) (ok : IsAccepted M.signature) where
  abbrev sig : Signature
  sig = M.signature

  among_arguments_same : (S : Stand) (ks : List ℕ) (w : RawTerm) (m : Takes sig ks S.hand w) → length ks < number_of_terms m.args → IsCanonical sig (apply m.operator m.args)
      → IsSameTold sig (with_hand S (apply m.operator m.args)) (into_several sig ks (apply m.operator m.args) S)
  among_arguments_same S [] w m p c = absurd m.several
  among_arguments_same S (k ∷ ks) w m p c =
      let x : Taken sig k ks m.operator m.args = taken sig ok k ks m.operator m.args c m.assoc m.rise m.follow in
      let us : RawTerms = chosen 1 (k ∷ ks) m.args in
      let e = several_filled M ok (admitted_judgements M S.rank).Held (admitted_judgements M S.rank).Fails m.operator m.assoc m.args us m.several (cut_out x) c in
      subst (IsSameTold sig (with_hand S (apply m.operator m.args))) (sym (x.goes_in S)) (refl, refl, ap (whole sig S.opens) e, refl, refl)

  pub among_same : (S : Stand) (ks : List ℕ) → MayGoAmong sig ks S.hand → IsCanonical sig S.hand → IsSameTold sig S (into_several sig ks S.hand S)
  among_same S ks m c =
      subst (λ t. IsSameTold sig (with_hand S t) (into_several sig ks t S)) (sym m.takes.term) (among_arguments_same S ks m.part m.takes m.proper (subst (IsCanonical sig) m.takes.term c))

pub out_same : (sig : Signature) (S : Stand) (o : Open) (os : List Open) → S.opens ≡ o ∷ os → IsSameTold sig S (going_out sig S.opens S)
out_same sig S o os e = subst (λ ps. IsSameTold sig (with_opens S ps) (going_out sig ps S)) (sym e) (refl, refl, refl, refl, refl)
