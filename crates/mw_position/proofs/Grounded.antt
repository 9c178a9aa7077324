-- Ground terms in contexts.
use Rattle.std.specs.Prelude.{◌≡◌, ◌&&◌, [], ◌∷◌, Bool, true, false, IsTrue, refl}
use Rattle.std.proofs.Common.{sym, true≢false}
use Rattle.mw_logic.specs.Term.{RawTerm, RawTerms, Frame, Context, plug, join, is_ground, are_ground}
use Rattle.mw_logic.specs.Term as term
use Rattle.mw_logic.proofs.Lifting.{fill}

both : (a b : Bool) → IsTrue (a && b) → IsTrue a × IsTrue b
both true b h = (refl, h)
both false b h = absurd (true≢false (sym h))

together : (a b : Bool) → IsTrue a → IsTrue b → IsTrue (a && b)
together true b h k = k
together false b h k = absurd (true≢false (sym h))

are_ground-join : (ts us : RawTerms) → IsTrue (are_ground (join ts us)) → IsTrue (are_ground ts) × IsTrue (are_ground us)
are_ground-join term.nil us h = (refl, h)
are_ground-join (term.cons t ts) us h =
    let a = both (is_ground t) (are_ground (join ts us)) h in let b = are_ground-join ts us a.1 in (together (is_ground t) (are_ground ts) a.0 b.0, b.1)

join-are_ground : (ts us : RawTerms) → IsTrue (are_ground ts) → IsTrue (are_ground us) → IsTrue (are_ground (join ts us))
join-are_ground term.nil us h k = k
join-are_ground (term.cons t ts) us h k = let a = both (is_ground t) (are_ground ts) h in together (is_ground t) (are_ground (join ts us)) a.0 (join-are_ground ts us a.1 k)

pub part_ground : (C : Context) (t : RawTerm) → IsTrue (is_ground (plug C t)) → IsTrue (is_ground t)
part_ground [] t h = h
part_ground (c ∷ C) t h =
    let a : IsTrue (is_ground (fill c t)) = part_ground C (fill c t) h in
    let b = are_ground-join c.before (term.cons t c.after) a in (both (is_ground t) (are_ground c.after) b.1).0

pub ground_again : (C : Context) (t u : RawTerm) → IsTrue (is_ground (plug C t)) → IsTrue (is_ground u) → IsTrue (is_ground (plug C u))
ground_again [] t u h g = g
ground_again (c ∷ C) t u h g =
    let a : IsTrue (is_ground (fill c t)) = part_ground C (fill c t) h in
    let b = are_ground-join c.before (term.cons t c.after) a in
    let d = (both (is_ground t) (are_ground c.after) b.1).1 in
    ground_again C (fill c t) (fill c u) h (join-are_ground c.before (term.cons u c.after) b.0 (together (is_ground u) (are_ground c.after) g d))
