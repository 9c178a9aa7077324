-- Moves one after another.
use Rattle.std.specs.Prelude.{◌≡◌, List, [], ◌∷◌, ◌++◌, refl}
use Rattle.std.proofs.Common.{sym, subst, ap, ◌∙◌}
use Rattle.mw_logic.specs.Module.{Module}
use Rattle.mw_deduction.specs.Replay.{Move, into, among, out, begins, ends, applies, meets, Stand, play, plays, IsMove, AreMoves}

pub plays-append : (M : Module) (ms ns : List Move) (B : List Stand) → plays M (ms ++ ns) B ≡ plays M ns (plays M ms B)
plays-append M [] ns B = refl
plays-append M (m ∷ ms) ns B = plays-append M ms ns (play M m B)

pub moves-append : (M : Module) (ms ns : List Move) (B : List Stand) → AreMoves M ms B → AreMoves M ns (plays M ms B) → AreMoves M (ms ++ ns) B
moves-append M [] ns B a b = b
moves-append M (m ∷ ms) ns B a b = (a.0, moves-append M ms ns (play M m B) a.1 b)

-- and back: the first of them, and the others behind those
pub first_moves : (M : Module) (ms ns : List Move) (B : List Stand) → AreMoves M (ms ++ ns) B → AreMoves M ms B
first_moves M [] ns B a = tt
first_moves M (m ∷ ms) ns B a = (a.0, first_moves M ms ns (play M m B) a.1)

pub later_moves : (M : Module) (ms ns : List Move) (B : List Stand) → AreMoves M (ms ++ ns) B → AreMoves M ns (plays M ms B)
later_moves M [] ns B a = a
later_moves M (m ∷ ms) ns B a = later_moves M ms ns (play M m B) a.1

-- What stands beneath stays as it is, and may be anything.
play_over : (M : Module) (m : Move) (B C : List Stand) → IsMove M m B → IsMove M m (B ++ C) × (play M m (B ++ C) ≡ play M m B ++ C)
play_over M m [] C i = absurd i
play_over M (into k) (S ∷ B) C i = (i, refl)
play_over M (among ks) (S ∷ B) C i = (i, refl)
play_over M out (S ∷ B) C i = (i, refl)
play_over M (begins t) (S ∷ B) C i = (i, refl)
play_over M ends (S ∷ []) C i = absurd i
play_over M ends (S ∷ Q ∷ B) C i = (i, refl)
play_over M (applies k r s vs) (S ∷ B) C i = (i, refl)
play_over M (meets t) (S ∷ B) C i = (i, refl)

pub plays_over : (M : Module) (ms : List Move) (B C : List Stand) → AreMoves M ms B → AreMoves M ms (B ++ C) × (plays M ms (B ++ C) ≡ plays M ms B ++ C)
plays_over M [] B C a = (tt, refl)
plays_over M (m ∷ ms) B C a =
    let (i, e) = play_over M m B C a.0 in
    let (b, f) = plays_over M ms (play M m B) C a.1 in ((i, subst (AreMoves M ms) (sym e) b), ap (plays M ms) e ∙ f)
