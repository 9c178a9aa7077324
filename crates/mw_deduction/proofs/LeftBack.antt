-- Out of a hole in which nothing was done comes what stood there before it was gone into.
use Rattle.std.specs.Prelude.{◌≡◌, ◌<◌, ℕ, List, [], ◌∷◌, ◌++◌, length}
use Rattle.std.proofs.Common.{sym, subst, ap, ◌∙◌, inl, inr}
use Rattle.mw_logic.specs.Term.{RawTerm, RawTerms, apply, cons, join}
use Rattle.mw_logic.specs.Signature.{Signature}
use Rattle.mw_logic.specs.Accepted.{IsAccepted}
use Rattle.mw_logic.specs.Parts.{number_of_terms}
use Rattle.mw_logic.specs.Module.{Module}
use Rattle.mw_logic.specs.Judgements.{admitted_judgements}
use Rattle.mw_logic.proofs.Canonical.{IsCanonical}
use Rattle.mw_arguments.specs.Places.{chosen, Takes}
use Rattle.mw_deduction.specs.Standing.{Open}
use Rattle.mw_deduction.specs.Replay.{Move, into, among, out, Stand, into_argument, into_several, going_out, play, plays, MayGoIn, MayGoAmong, IsMove, AreMoves, Leaves}
use Rattle.mw_deduction.specs.Stands.{AreStanding}
use Rattle.mw_deduction.proofs.Standing.{several_filled}
use Rattle.mw_deduction.proofs.Taking.{into_is, Taken, taken, cut_out}
use Rattle.mw_deduction.proofs.Moves.{plays-append, moves-append, first_moves, later_moves}
use Rattle.mw_deduction.proofs.MoveStands.{with_hand, moves_stand}

same_first : {S Q : Stand} {B C : List Stand} → S ∷ B ≡ Q ∷ C → S ≡ Q
same_first e = cc

same_rest : {S Q : Stand} {B C : List Stand} → S ∷ B ≡ Q ∷ C → B ≡ C
same_rest e = cc

-- out of where it stands
abbrev out_of : Signature → Stand → Stand
out_of sig S = going_out sig S.opens S

module _ (M : Module) (ok : IsAccepted M.signature) where
  abbrev sig : Signature
  sig = M.signature

  into_back : (S : Stand) (i : ℕ) → MayGoIn sig i S.hand → IsCanonical sig S.hand → out_of sig (into_argument sig i S.hand S) ≡ S
  into_back S i m k =
      let ts : RawTerms = join m.before (cons m.argument m.after) in
      let c : IsCanonical sig (apply m.operator ts) = subst (IsCanonical sig) m.is k in
      ap (λ t. out_of sig (into_argument sig i t S)) m.is ∙ ap (out_of sig) (into_is sig i m.operator m.before m.argument m.after S m.number) ∙ ap (with_hand S) (c.1 ∙ sym m.is)

  several_back : (S : Stand) (ks : List ℕ) (w : RawTerm) (m : Takes sig ks S.hand w) → length ks < number_of_terms m.args → IsCanonical sig (apply m.operator m.args) → out_of sig (into_several sig ks (apply m.operator m.args) S) ≡ with_hand S (apply m.operator m.args)
  several_back S [] w m p k = absurd m.several
  several_back S (n ∷ ns) w m p k =
      let x : Taken sig n ns m.operator m.args = taken sig ok n ns m.operator m.args k m.assoc m.rise m.follow in
      ap (out_of sig) (x.goes_in S)
      ∙ ap (with_hand S) (several_filled M ok (admitted_judgements M S.rank).Held (admitted_judgements M S.rank).Fails m.operator m.assoc m.args (chosen 1 (n ∷ ns) m.args) m.several (cut_out x) k)

  among_back : (S : Stand) (ks : List ℕ) → MayGoAmong sig ks S.hand → IsCanonical sig S.hand → out_of sig (into_several sig ks S.hand S) ≡ S
  among_back S ks m k =
      ap (λ t. out_of sig (into_several sig ks t S)) m.takes.term ∙ several_back S ks m.part m.takes m.proper (subst (IsCanonical sig) m.takes.term k) ∙ ap (with_hand S) (sym m.takes.term)

  into_left : (i : ℕ) (C : List Stand) (S : Stand) (T : List Stand) → AreStanding M C → IsMove M (into i) C → play M (into i) C ≡ S ∷ T → C ≡ out_of sig S ∷ T
  into_left i [] S T h m e = absurd m
  into_left i (Q ∷ C) S T h m e = ap (λ P. P ∷ C) (sym (into_back Q i m h.0.at.canonical)) ∙ ap (λ P. out_of sig P ∷ C) (same_first e) ∙ ap (λ B. out_of sig S ∷ B) (same_rest e)

  among_left : (ks : List ℕ) (C : List Stand) (S : Stand) (T : List Stand) → AreStanding M C → IsMove M (among ks) C → play M (among ks) C ≡ S ∷ T → C ≡ out_of sig S ∷ T
  among_left ks [] S T h m e = absurd m
  among_left ks (Q ∷ C) S T h m e = ap (λ P. P ∷ C) (sym (among_back Q ks m h.0.at.canonical)) ∙ ap (λ P. out_of sig P ∷ C) (same_first e) ∙ ap (λ B. out_of sig S ∷ B) (same_rest e)

  pub left_back : (ms ns : List Move) (B : List Stand) (S : Stand) (T : List Stand) (o : Open) (os : List Open) → AreStanding M B → AreMoves M ms B → plays M ms B ≡ S ∷ T → S.opens ≡ o ∷ os → Leaves ms ns
      → AreMoves M ns B × (plays M ns B ≡ going_out sig S.opens S ∷ T)
  left_back ms ns B S T o os h a e opens l = elim l [ inl k ↦ goes_on k | inr r ↦ elim r [ inl x ↦ never_into x.0 x.1 | inr x ↦ never_among x.0 x.1 ] ]
    where
      goes_on : ns ≡ ms ++ out ∷ [] → AreMoves M ns B × (plays M ns B ≡ going_out sig S.opens S ∷ T)
      goes_on k = (
        subst (λ l. AreMoves M l B) (sym k) (moves-append M ms (out ∷ []) B a (subst (AreMoves M (out ∷ [])) (sym e) ((o, os, opens), tt))),
        ap (λ l. plays M l B) k ∙ plays-append M ms (out ∷ []) B ∙ ap (plays M (out ∷ [])) e,
      )

      never_into : (i : ℕ) → ms ≡ ns ++ into i ∷ [] → AreMoves M ns B × (plays M ns B ≡ going_out sig S.opens S ∷ T)
      never_into i k =
          let b : AreMoves M (ns ++ into i ∷ []) B = subst (λ l. AreMoves M l B) k a in
          let first : AreMoves M ns B = first_moves M ns (into i ∷ []) B b in
          (first, into_left i (plays M ns B) S T (moves_stand M ok ns B h first) (later_moves M ns (into i ∷ []) B b).0 (sym (plays-append M ns (into i ∷ []) B) ∙ ap (λ l. plays M l B) (sym k) ∙ e))

      never_among : (ks : List ℕ) → ms ≡ ns ++ among ks ∷ [] → AreMoves M ns B × (plays M ns B ≡ going_out sig S.opens S ∷ T)
      never_among ks k =
          let b : AreMoves M (ns ++ among ks ∷ []) B = subst (λ l. AreMoves M l B) k a in
          let first : AreMoves M ns B = first_moves M ns (among ks ∷ []) B b in
          (first, among_left ks (plays M ns B) S T (moves_stand M ok ns B h first) (later_moves M ns (among ks ∷ []) B b).0 (sym (plays-append M ns (among ks ∷ []) B) ∙ ap (λ l. plays M l B) (sym k) ∙ e))
