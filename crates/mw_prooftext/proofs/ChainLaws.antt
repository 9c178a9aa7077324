-- One more move of proofs that stand one on another.
use Rattle.std.specs.Prelude.{◌≡◌, ◌-◌, ℕ, suc, List, [], ◌∷◌, ◌++◌, false, reverse, refl, ⊤}
use Rattle.std.proofs.Common.{sym, subst, ap, ◌∙◌, arith}
use Rattle.std.proofs.lemmas.List.{reverse-append}
use Rattle.mw_logic.specs.Term.{RawTerm, numeral, quoted, variable, apply}
use Rattle.mw_logic.specs.Signature.{Signature}
use Rattle.mw_logic.specs.Module.{Module}
use Rattle.mw_logic.proofs.Canonical.{IsCanonical}
use Rattle.mw_deduction.specs.Replay.{Move, into, among, out, begins, ends, applies, meets, Stand, begun, into_argument, into_several, going_out, showing, play, MayEnd, IsMove}
use Rattle.mw_deduction.specs.Standing.{Open}
use Rattle.mw_deduction.specs.Stands.{IsStanding, AreStanding}
use Rattle.mw_prooftext.specs.declared.chains.Chain.{Chain}
use Rattle.mw_prooftext.specs.Chains.{IsChain, AreChains, Goes, MayMove, moved}

pub reverse_behind : {A : Type 0} (xs : List A) (x : A) → reverse (xs ++ x ∷ []) ≡ x ∷ reverse xs
reverse_behind xs x = reverse-append xs (x ∷ [])

-- it neither begins a side nor ends one
abbrev pub IsInside : Move → Type 0
IsInside (into i) = ⊤
IsInside (among ks) = ⊤
IsInside out = ⊤
IsInside (begins t) = ⊥
IsInside ends = ⊥
IsInside (applies k r s vs) = ⊤
IsInside (meets t) = ⊤

-- the rank stays
into_rank : (sig : Signature) (i : ℕ) (t : RawTerm) (S : Stand) → (into_argument sig i t S).rank ≡ S.rank
into_rank sig i (numeral n) S = refl
into_rank sig i (quoted q) S = refl
into_rank sig i (variable x) S = refl
into_rank sig i (apply f ts) S = refl

among_rank : (sig : Signature) (ks : List ℕ) (t : RawTerm) (S : Stand) → (into_several sig ks t S).rank ≡ S.rank
among_rank sig [] t S = refl
among_rank sig (k ∷ ks) (numeral n) S = refl
among_rank sig (k ∷ ks) (quoted q) S = refl
among_rank sig (k ∷ ks) (variable x) S = refl
among_rank sig (k ∷ ks) (apply f ts) S = refl

out_rank : (sig : Signature) (os : List Open) (S : Stand) → (going_out sig os S).rank ≡ S.rank
out_rank sig [] S = refl
out_rank sig (o ∷ os) S = refl

module _ (M : Module) (head : List ℕ) where
  -- one is told further
  pub chain_goes : (c d : Chain) (cs : List Chain) (S T : Stand) (B : List Stand) → T.rank ≡ S.rank → Goes M S T c d → AreChains M head (c ∷ cs) (S ∷ B) → AreChains M head (d ∷ cs) (T ∷ B)
  chain_goes c d [] S T [] r (o, g) (e, h) = (o ∙ e, g head h)
  chain_goes c d [] S T (Q ∷ B) r g h = absurd h
  chain_goes c d (e ∷ cs) S T [] r g h = absurd h
  chain_goes c d (e ∷ cs) S T (Q ∷ B) r (o, g) (a, below, h, rest) = (o ∙ a, below ∙ ap suc (sym r), g [] h, rest)

  -- a side begins
  pub chain_begins : (t : RawTerm) (c d : Chain) (cs : List Chain) (B : List Stand) → IsMove M (begins t) B → d.outer ≡ false → ((n : ℕ) → IsCanonical M.signature t → IsChain M [] d (begun n t)) → AreChains M head (c ∷ cs) B
      → AreChains M head (d ∷ c ∷ cs) (play M (begins t) B)
  chain_begins t c d cs [] m o h a = absurd m
  chain_begins t c d cs (S ∷ B) m o h a = let above = m.above in (o, omega (arith, above), h (S.rank - 1) m.canonical, a)

  -- and ends
  pub chain_ends : (c d e : Chain) (cs : List Chain) (B : List Stand) → IsMove M ends B → ((S Q : Stand) → MayEnd S → Q.rank ≡ suc S.rank → c.outer ≡ false → IsChain M [] c S → Goes M Q (showing M.signature S Q) d e) → AreChains M head (c ∷ d ∷ cs) B
      → AreChains M head (e ∷ cs) (play M ends B)
  chain_ends c d e cs [] m g a = absurd m
  chain_ends c d e cs (S ∷ []) m g a = absurd m
  chain_ends c d e cs (S ∷ Q ∷ B) m g (o, below, h, a) = chain_goes d e cs Q (showing M.signature S Q) B refl (g S Q m below o h) a

  -- one that goes on inside itself
  pub chain_moves : (m : Move) (c d : Chain) (cs : List Chain) (B : List Stand) → AreStanding M B → IsMove M m B → IsInside m → ((S : Stand) → IsStanding M S → MayMove M m S → Goes M S (moved M m S) c d) → AreChains M head (c ∷ cs) B
      → AreChains M head (d ∷ cs) (play M m B)
  chain_moves m c d cs [] s i e g a = absurd i
  chain_moves (into i) c d cs (S ∷ B) s m e g a = chain_goes c d cs S _ B (into_rank M.signature i S.hand S) (g S s.0 m) a
  chain_moves (among ks) c d cs (S ∷ B) s m e g a = chain_goes c d cs S _ B (among_rank M.signature ks S.hand S) (g S s.0 m) a
  chain_moves out c d cs (S ∷ B) s m e g a = chain_goes c d cs S _ B (out_rank M.signature S.opens S) (g S s.0 m) a
  chain_moves (begins t) c d cs (S ∷ B) s m e g a = absurd e
  chain_moves ends c d cs (S ∷ B) s m e g a = absurd e
  chain_moves (applies k r s vs) c d cs (S ∷ B) st m e g a = chain_goes c d cs S _ B refl (g S st.0 m) a
  chain_moves (meets t) c d cs (S ∷ B) s m e g a = chain_goes c d cs S _ B refl (g S s.0 m) a

  -- The innermost stands last in the code. It goes on inside itself;
  pub told_inside : (m : Move) (c d : Chain) (old rest new : List Chain) (B : List Stand) → AreStanding M B → IsMove M m B → IsInside m → ((S : Stand) → IsStanding M S → MayMove M m S → Goes M S (moved M m S) c d)
      → old ≡ rest ++ c ∷ [] → new ≡ rest ++ d ∷ [] → AreChains M head (reverse old) B → AreChains M head (reverse new) (play M m B)
  told_inside m c d old rest new B s i n g e f h =
      let a : AreChains M head (c ∷ reverse rest) B = subst (λ xs. AreChains M head xs B) (ap reverse e ∙ reverse_behind rest c) h in
      subst (λ xs. AreChains M head xs (play M m B)) (sym (ap reverse f ∙ reverse_behind rest d)) (chain_moves m c d (reverse rest) B s i n g a)

  -- or it is a side, and ends.
  pub told_ended : (c d e : Chain) (old rest low new : List Chain) (B : List Stand) → IsMove M ends B → ((S Q : Stand) → MayEnd S → Q.rank ≡ suc S.rank → c.outer ≡ false → IsChain M [] c S → Goes M Q (showing M.signature S Q) d e)
      → old ≡ rest ++ c ∷ [] → rest ≡ low ++ d ∷ [] → new ≡ low ++ e ∷ [] → AreChains M head (reverse old) B → AreChains M head (reverse new) (play M ends B)
  told_ended c d e old rest low new B i g a b k h =
      let n : reverse old ≡ c ∷ d ∷ reverse low = ap reverse a ∙ reverse_behind rest c ∙ ap (λ xs. c ∷ reverse xs) b ∙ ap (λ xs. c ∷ xs) (reverse_behind low d) in
      subst (λ xs. AreChains M head xs (play M ends B)) (sym (ap reverse k ∙ reverse_behind low e)) (chain_ends c d e (reverse low) B i g (subst (λ xs. AreChains M head xs B) n h))
