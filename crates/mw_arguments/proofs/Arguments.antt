-- Each cut of a term's elements gives arguments on which the operator gives the term, and each list of such arguments
-- comes from one cut.
use Rattle.std.specs.Prelude.{◌≡◌, ◌≤◌, ℕ, suc, List, [], ◌∷◌, length, map, filter, Bool, true, Option, Some, None, refl}
use Rattle.std.proofs.Common.{ap, sym, subst, ◌∙◌, arith}
use Rattle.std.proofs.lemmas.Bool.{and_parts}
use Rattle.mw_logic.specs.Term.{RawTerm, RawTerms, apply, nil, cons, join}
use Rattle.mw_logic.specs.Signature.{Signature, Identity}
use Rattle.mw_logic.specs.Accepted.{IsAccepted}
use Rattle.mw_logic.specs.Parts.{is_assoc, number_of_terms}
use Rattle.mw_logic.specs.NormalForm.{is_comm, identity_of, elements, flattened, rebuilt, arranged, applied_in}
use Rattle.mw_logic.proofs.Canonical.{Each, Each-arranged, Backed, Backed-arranged, IsElement, IsCanonical, AreCanonical, all_canonical, elements_are, elements-backed, elements-rebuilt, flattened-elements, applied_canonical, arranged-nil, is_identity-arguments, nat_eq-refl}
use Rattle.mw_logic.proofs.CanonicalTerms.{elements-applied, flattened-backed}
use Rattle.mw_logic.proofs.Invariance.{elements_kept}
use Rattle.mw_logic.proofs.Holes.{Each-unarranged, Each-parts}
use Rattle.mw_split.specs.Lists.{AllOnce}
use Rattle.mw_arguments.specs.Arguments.{Gives, Spells}
use Rattle.mw_arguments.specs.Pieces.{joined, AreInOrder, ArePieces, is_backed, are_backed, arguments}
use Rattle.mw_arguments.proofs.Once.{once_mapped, once_filtered}

-- P holds of each term of each piece
abbrev EachIn : (RawTerm → Type 0) → List RawTerms → Type 0
EachIn P [] = Unit {0}
EachIn P (p ∷ ps) = Each P p × EachIn P ps

each_in : (P : RawTerm → Type 0) (ps : List RawTerms) → Each P (joined ps) → EachIn P ps
each_in P [] h = tt
each_in P (p ∷ ps) h = let r : _ = Each-parts P p (joined ps) h in (r.0, each_in P ps r.1)

pub backed : (e : Option Identity) (p : RawTerms) → is_backed e p ≡ true → Backed e p
backed None nil h = cc
backed None (cons t ts) h = tt
backed (Some i) nil h = refl
backed (Some i) (cons t ts) h = tt

pub from_backed : (e : Option Identity) (p : RawTerms) → Backed e p → is_backed e p ≡ true
from_backed None nil h = cc
from_backed None (cons t ts) h = refl
from_backed (Some i) p h = refl

module _ (sig : Signature) (ok : IsAccepted sig) (f : ℕ) (h : is_assoc sig f ≡ true) where
  abbrev e : Option Identity
  e = identity_of sig f

  abbrev c : Bool
  c = is_comm sig f

  -- pieces that are in order are the elements of their arguments again
  elements_again : (p : RawTerms) → is_backed e p ≡ true → Each (IsElement e f) p → elements e f (rebuilt e f p) ≡ p
  elements_again p b s = elements-rebuilt e f p (backed e p b) s

  pub rebuilt_again : (p : RawTerms) → arranged c p ≡ p → Each (IsElement e f) p → Each (IsCanonical sig) p → IsCanonical sig (rebuilt e f p)
  rebuilt_again p o s k =
      let a : applied_in sig f p ≡ rebuilt e f p = rw (h, flattened-elements e f p s, o) refl in
      subst (IsCanonical sig) a (applied_canonical sig ok f p (all_canonical sig p k))

  given_canonical : (ps : List RawTerms) → AreInOrder c ps → EachIn (IsElement e f) ps → EachIn (IsCanonical sig) ps → AreCanonical sig (arguments e f ps)
  given_canonical [] o s k = tt
  given_canonical (p ∷ ps) o s k = (rebuilt_again p o.0 s.0 k.0, given_canonical ps o.1 s.1 k.1)

  given_number : (ps : List RawTerms) → number_of_terms (arguments e f ps) ≡ length ps
  given_number [] = refl
  given_number (p ∷ ps) = ap suc (given_number ps)

  given_flattened : (ps : List RawTerms) → are_backed e ps ≡ true → EachIn (IsElement e f) ps → flattened e f (arguments e f ps) ≡ joined ps
  given_flattened [] b s = refl
  given_flattened (p ∷ ps) b s = let q = and_parts _ _ b in rw (elements_again p q.0 s.0, given_flattened ps q.1 s.1) refl

  -- the pieces of arguments
  abbrev pieces : RawTerms → List RawTerms
  pieces nil = []
  pieces (cons v vs) = elements e f v ∷ pieces vs

  pieces_number : (vs : RawTerms) → length (pieces vs) ≡ number_of_terms vs
  pieces_number nil = refl
  pieces_number (cons v vs) = ap suc (pieces_number vs)

  pieces_joined : (vs : RawTerms) → joined (pieces vs) ≡ flattened e f vs
  pieces_joined nil = refl
  pieces_joined (cons v vs) = ap (join (elements e f v)) (pieces_joined vs)

  -- a canonical term's elements are in order
  pub in_order : (v : RawTerm) → IsCanonical sig v → arranged c (elements e f v) ≡ elements e f v
  in_order v k =
      let s : Each (IsElement e f) (arranged c (elements e f v)) = Each-arranged _ c _ (elements_are sig ok f h v k).0 in
      sym (elements-rebuilt e f (arranged c (elements e f v)) (Backed-arranged e c _ (elements-backed e f v)) s) ∙ ap (elements e f) (elements_kept sig ok f h v k)

  -- the arguments of an associative operator in a canonical term are in order
  pub args_in_order : (ts : RawTerms) → IsCanonical sig (apply f ts) → arranged c ts ≡ ts
  args_in_order nil k = arranged-nil c
  args_in_order (cons t ts) k =
      let own : elements e f (apply f (cons t ts)) ≡ cons t ts = rw (is_identity-arguments e f t ts, nat_eq-refl f) refl in
      subst (λ us. arranged c us ≡ us) own (in_order (apply f (cons t ts)) k)

  pieces_in_order : (vs : RawTerms) → AreCanonical sig vs → AreInOrder c (pieces vs)
  pieces_in_order nil k = tt
  pieces_in_order (cons v vs) k = (in_order v k.0, pieces_in_order vs k.1)

  pieces_backed : (vs : RawTerms) → are_backed e (pieces vs) ≡ true
  pieces_backed nil = refl
  pieces_backed (cons v vs) = rw (from_backed e _ (elements-backed e f v), pieces_backed vs) refl

  pieces_again : (vs : RawTerms) → AreCanonical sig vs → arguments e f (pieces vs) ≡ vs
  pieces_again nil k = refl
  pieces_again (cons v vs) k =
      let a : rebuilt e f (elements e f v) ≡ v = ap (rebuilt e f) (sym (in_order v k.0)) ∙ elements_kept sig ok f h v k.0 in
      rw (a, pieces_again vs k.1) refl

  again_pieces : (ps : List RawTerms) → are_backed e ps ≡ true → EachIn (IsElement e f) ps → pieces (arguments e f ps) ≡ ps
  again_pieces [] b s = refl
  again_pieces (p ∷ ps) b s = let q = and_parts _ _ b in rw (elements_again p q.0 s.0, again_pieces ps q.1 s.1) refl

  -- pieces of a list of elements
  module _ (k : ℕ) (zs : RawTerms) (elements_are_zs : Each (IsElement e f) zs) (canonical_zs : Each (IsCanonical sig) zs) where
    of_pieces : (P : RawTerm → Type 0) (ps : List RawTerms) → Each P zs → ArePieces c k zs ps → EachIn P ps
    of_pieces P ps z a = each_in P ps (Each-unarranged P c (joined ps) (subst (Each P) (sym a.whole) z))

    there : (ps : List RawTerms) → ArePieces c k zs ps × (are_backed e ps ≡ true) → Spells sig f k zs (arguments e f ps)
    there ps (a, b) =
        let s : EachIn (IsElement e f) ps = of_pieces _ ps elements_are_zs a in
        let q : EachIn (IsCanonical sig) ps = of_pieces _ ps canonical_zs a in
        record {
          canonical = given_canonical ps a.order s q;
          size = given_number ps ∙ a.size;
          whole = ap (arranged c) (given_flattened ps b s) ∙ a.whole;
        }

    back : (vs : RawTerms) → Spells sig f k zs vs → (ps : List RawTerms) × (ArePieces c k zs ps × (are_backed e ps ≡ true)) × (arguments e f ps ≡ vs)
    back vs g = (
      pieces vs,
      (
        record {
          size = pieces_number vs ∙ g.size;
          order = pieces_in_order vs g.canonical;
          whole = ap (arranged c) (pieces_joined vs) ∙ g.whole;
        },
        pieces_backed vs,
      ),
      pieces_again vs g.canonical,
    )

    one : (ps qs : List RawTerms) → ArePieces c k zs ps × (are_backed e ps ≡ true) → ArePieces c k zs qs × (are_backed e qs ≡ true) → arguments e f ps ≡ arguments e f qs → ps ≡ qs
    one ps qs (a, b) (a2, b2) w =
        let s : EachIn (IsElement e f) ps = of_pieces _ ps elements_are_zs a in
        let s2 : EachIn (IsElement e f) qs = of_pieces _ qs elements_are_zs a2 in
        sym (again_pieces ps b s) ∙ ap pieces w ∙ again_pieces qs b2 s2

    pub spellings : (cuts : List (List RawTerms)) → AllOnce (ArePieces c k zs) cuts → AllOnce (Spells sig f k zs) (map (arguments e f) (filter (are_backed e) cuts))
    spellings cuts l = once_mapped (λ ps. ArePieces c k zs ps × (are_backed e ps ≡ true)) (Spells sig f k zs) (arguments e f) (filter (are_backed e) cuts) (once_filtered (ArePieces c k zs) (are_backed e) cuts l) there back one

  -- arguments that spell a term's elements give the term
  module _ (k : ℕ) (some : 1 ≤ k) (t : RawTerm) (kt : IsCanonical sig t) where
    flat_backed : (vs : RawTerms) → number_of_terms vs ≡ k → Backed e (flattened e f vs)
    flat_backed nil n = absurd (omega (arith, some, n))
    flat_backed (cons v vs) n = flattened-backed sig ok e f v vs

    pub spelled : (vs : RawTerms) → Gives sig f k t vs → Spells sig f k (elements e f t) vs
    spelled vs g = record {
      canonical = g.canonical;
      size = g.size;
      whole = sym (elements-applied sig ok f h vs g.canonical (flat_backed vs g.size)) ∙ ap (elements e f) g.gives;
    }

    pub given : (vs : RawTerms) → Spells sig f k (elements e f t) vs → Gives sig f k t vs
    given vs g = record {
      canonical = g.canonical;
      size = g.size;
      gives = rw (h, g.whole) (ap (rebuilt e f) (sym (in_order t kt)) ∙ elements_kept sig ok f h t kt);
    }

    pub as_given : (xs : List RawTerms) → AllOnce (Spells sig f k (elements e f t)) xs → AllOnce (Gives sig f k t) xs
    as_given xs l = record { once = l.once; all = λ vs. ((λ m. given vs ((l.all vs).0 m)), (λ g. (l.all vs).1 (spelled vs g))) }

    pub splits : (cuts : List (List RawTerms)) → AllOnce (ArePieces c k (elements e f t)) cuts → AllOnce (Gives sig f k t) (map (arguments e f) (filter (are_backed e) cuts))
    splits cuts l = as_given (map (arguments e f) (filter (are_backed e) cuts)) (spellings k (elements e f t) (elements_are sig ok f h t kt).0 (elements_are sig ok f h t kt).1 cuts l)
