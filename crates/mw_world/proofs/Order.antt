-- The same receipts, given back in two orders, leave pools that hold the same.
use Rattle.std.proofs.Common.{arith, suc, zero, ◌≡◌, ◌≢◌, ◌<◌, ℕ, ◌+◌, ◌-◌, List, [], ◌∷◌, ◌++◌, Option, None, Some, refl, sym, ◌∙◌, ap, subst, inl, inr, IsPermutation}
use Rattle.std.specs.Prelude.{option_map, Bool, true, false, cond, nat_eq}
use Rattle.std.proofs.lemmas.Bool.{eq-eqb, eqb-true}
use Rattle.std.proofs.lemmas.Bool.Decides.{eqb_tells}
use Rattle.std.proofs.lemmas.List.{append_assoc}
use Rattle.std.proofs.lemmas.List.Sorted.{IsPermutation-refl, IsPermutation-sym, IsPermutation-trans, IsPermutation-append_left, IsPermutation-append_right}
use Rattle.mw_logic.specs.Term.{RawTerm}
use Rattle.mw_logic.specs.Signature.{Signature}
use Rattle.mw_logic.specs.Proof.{rules, steps}
use Rattle.mw_multiset.specs.Together.{parts}
use Rattle.mw_world.specs.World.{World, claim_at, claimed}
use Rattle.mw_world.specs.Events.{IsSamePool}
use Rattle.mw_world.specs.Order.{Given, AfterAll, Reorders, no_more, also, exchanged, afterwards, HoldTheSame}
use Rattle.mw_world.proofs.Slots.{front_over, claimed_same}

-- the elements that come
abbrev come : Signature → ℕ → List Given → List RawTerm
come sig f [] = []
come sig f (g ∷ gs) = parts sig f g.proof.to ++ come sig f gs

abbrev spare_rules : List Given → ℕ
spare_rules [] = 0
spare_rules (g ∷ gs) = (1 - rules g.proof.proof) + spare_rules gs

abbrev spare_steps : List Given → ℕ
spare_steps [] = 0
spare_steps (g ∷ gs) = (g.claim.steps - steps g.proof.proof) + spare_steps gs

abbrev one_if : ℕ → ℕ → ℕ
one_if n k = cond (nat_eq n k) 1 0

-- how many of them have this number
abbrev numbered : ℕ → List Given → ℕ
numbered k [] = 0
numbered k (g ∷ gs) = one_if g.claim.number k + numbered k gs

come_reordered : (sig : Signature) (f : ℕ) (gs hs : List Given) → Reorders gs hs → IsPermutation (come sig f gs) (come sig f hs)
come_reordered sig f gs hs no_more = IsPermutation-refl []
come_reordered sig f gs hs (also {g} {gs = xs} {hs = ys} r) = IsPermutation-append_right (parts sig f g.proof.to) (come sig f xs) (come sig f ys) (come_reordered sig f xs ys r)
come_reordered sig f gs hs (exchanged {g} {h} {gs = xs}) = front_over (parts sig f g.proof.to) (parts sig f h.proof.to) (come sig f xs)
come_reordered sig f gs hs (afterwards {gs = xs} {hs = ys} {is = zs} r q) = IsPermutation-trans (come sig f xs) (come sig f ys) (come sig f zs) (come_reordered sig f xs ys r) (come_reordered sig f ys zs q)

rules_reordered : (gs hs : List Given) → Reorders gs hs → spare_rules gs ≡ spare_rules hs
rules_reordered gs hs no_more = refl
rules_reordered gs hs (also {g} {gs = xs} {hs = ys} r) = omega (arith, rules_reordered xs ys r)
rules_reordered gs hs (exchanged {g} {h} {gs = xs}) = omega arith
rules_reordered gs hs (afterwards {gs = xs} {hs = ys} {is = zs} r q) = rules_reordered xs ys r ∙ rules_reordered ys zs q

steps_reordered : (gs hs : List Given) → Reorders gs hs → spare_steps gs ≡ spare_steps hs
steps_reordered gs hs no_more = refl
steps_reordered gs hs (also {g} {gs = xs} {hs = ys} r) = omega (arith, steps_reordered xs ys r)
steps_reordered gs hs (exchanged {g} {h} {gs = xs}) = omega arith
steps_reordered gs hs (afterwards {gs = xs} {hs = ys} {is = zs} r q) = steps_reordered xs ys r ∙ steps_reordered ys zs q

numbered_reordered : (k : ℕ) (gs hs : List Given) → Reorders gs hs → numbered k gs ≡ numbered k hs
numbered_reordered k gs hs no_more = refl
numbered_reordered k gs hs (also {g} {gs = xs} {hs = ys} r) = omega (arith, numbered_reordered k xs ys r)
numbered_reordered k gs hs (exchanged {g} {h} {gs = xs}) = omega arith
numbered_reordered k gs hs (afterwards {gs = xs} {hs = ys} {is = zs} r q) = numbered_reordered k xs ys r ∙ numbered_reordered k ys zs q

-- What giving them all leaves.
record Left (w : World) (gs : List Given) (v : World) : Type 0 where
  pub same : IsSamePool w v
  pub free : IsPermutation (come w.over.signature w.operator gs ++ w.free) v.free
  pub others : (k : ℕ) → numbered k gs ≡ 0 → claim_at v.claims k ≡ claim_at w.claims k
  pub closed : (k : ℕ) → 0 < numbered k gs → claim_at v.claims k ≡ None
  pub rules : v.rules_left ≡ option_map (λ n. n + spare_rules gs) w.rules_left
  pub steps : v.steps_left ≡ w.steps_left + spare_steps gs

option_zero : (o : Option ℕ) → o ≡ option_map (λ n. n + 0) o
option_zero None = refl
option_zero (Some n) = ap Some (omega arith)

option_more : (o : Option ℕ) (a b : ℕ) → option_map (λ n. n + b) (option_map (λ n. n + a) o) ≡ option_map (λ n. n + (a + b)) o
option_more None a b = refl
option_more (Some n) a b = ap Some (omega arith)

same_again : (w u v : World) → IsSamePool w u → IsSamePool u v → IsSamePool w v
same_again w u v a b = record {
  over = b.over ∙ a.over;
  opening = b.opening ∙ a.opening;
  operator = b.operator ∙ a.operator;
  side = b.side ∙ a.side;
  rules_bound = b.rules_bound ∙ a.rules_bound;
  steps_bound = b.steps_bound ∙ a.steps_bound;
}

left_all : (w : World) (gs : List Given) (v : World) → AfterAll w gs v → Left w gs v
left_all w [] v h = subst (Left w []) (sym h) (record {
  same = record { over = refl; opening = refl; operator = refl; side = refl; rules_bound = refl; steps_bound = refl };
  free = IsPermutation-refl w.free;
  others = λ k z. refl;
  closed = λ k z. absurd (omega (arith, z));
  rules = option_zero w.rules_left;
  steps = omega arith;
})
left_all w (g ∷ gs) v (u, e, h) =
    let r = left_all u gs v h in
    let sig : Signature = w.over.signature in
    let f : ℕ = w.operator in
    let first : List RawTerm = parts sig f g.proof.to in
    let rest : List RawTerm = come sig f gs in
    let same_come : come u.over.signature u.operator gs ≡ rest = ap (λ M. come M.signature u.operator gs) e.same.over ∙ ap (λ k. come sig k gs) e.same.operator in
    let a : IsPermutation (rest ++ u.free) v.free = subst (λ z. IsPermutation (z ++ u.free) v.free) same_come r.free in
    let b : IsPermutation (rest ++ (first ++ w.free)) (rest ++ u.free) = IsPermutation-append_right rest (first ++ w.free) u.free e.come in
    let c : IsPermutation (first ++ (rest ++ w.free)) (rest ++ (first ++ w.free)) = front_over first rest w.free in
    record {
      same = same_again w u v e.same r.same;
      free = subst (λ z. IsPermutation z v.free) (sym (append_assoc first rest w.free))
          (IsPermutation-trans (first ++ (rest ++ w.free)) (rest ++ u.free) v.free (IsPermutation-trans (first ++ (rest ++ w.free)) (rest ++ (first ++ w.free)) (rest ++ u.free) c b) a);
      others = λ k z. r.others k (omega (arith, z)) ∙ e.others k (differs k z);
      closed = λ k z. shut k z r;
      rules = r.rules ∙ ap (option_map (λ n. n + spare_rules gs)) e.rules ∙ option_more w.rules_left (1 - rules g.proof.proof) (spare_rules gs);
      steps = (let x = r.steps in let y = e.steps in omega (arith, x, y));
    }
  where
    one_here : (k : ℕ) → k ≡ g.claim.number → one_if g.claim.number k ≡ 1
    one_here k q = ap (λ b. cond b 1 0) (eq-eqb g.claim.number k (sym q))

    differs : (k : ℕ) → one_if g.claim.number k + numbered k gs ≡ 0 → k ≢ g.claim.number
    differs k z q = let o = one_here k q in omega (arith, z, o)

    not_here : (k : ℕ) (b : Bool) → nat_eq g.claim.number k ≡ b → k ≢ g.claim.number → nat_eq g.claim.number k ≡ false
    not_here k false q d = q
    not_here k true q d = absurd (d (sym (eqb-true g.claim.number k q)))

    shut : (k : ℕ) → 0 < one_if g.claim.number k + numbered k gs → Left u gs v → claim_at v.claims k ≡ None
    shut k z r = by_rest (numbered k gs) refl
      where
        by_rest : (n : ℕ) → numbered k gs ≡ n → claim_at v.claims k ≡ None
        by_rest (suc n) q = r.closed k (omega (arith, q))
        by_rest zero q =
            elim (eqb_tells k g.claim.number) as (λ _. claim_at v.claims k ≡ None) [
              | inl p ↦ r.others k q ∙ ap (claim_at u.claims) p.1 ∙ e.closed
              | inr p ↦ absurd (let o : one_if g.claim.number k ≡ 0 = ap (λ b. cond b 1 0) (not_here k (nat_eq g.claim.number k) refl p.1) in omega (arith, z, q, o))
            ]

pub any_order : (w : World) (gs hs : List Given) (v u : World) → Reorders gs hs → AfterAll w gs v → AfterAll w hs u → HoldTheSame v u
any_order w gs hs v u r a b =
    let x = left_all w gs v a in
    let y = left_all w hs u b in
    let sig : Signature = w.over.signature in
    let f : ℕ = w.operator in
    let p : IsPermutation (come sig f gs ++ w.free) (come sig f hs ++ w.free) = IsPermutation-append_left w.free (come sig f gs) (come sig f hs) (come_reordered sig f gs hs r) in
    record {
      same = record {
        over = y.same.over ∙ sym x.same.over;
        opening = y.same.opening ∙ sym x.same.opening;
        operator = y.same.operator ∙ sym x.same.operator;
        side = y.same.side ∙ sym x.same.side;
        rules_bound = y.same.rules_bound ∙ sym x.same.rules_bound;
        steps_bound = y.same.steps_bound ∙ sym x.same.steps_bound;
      };
      free = IsPermutation-trans v.free (come sig f gs ++ w.free) u.free (IsPermutation-sym (come sig f gs ++ w.free) v.free x.free)
          (IsPermutation-trans (come sig f gs ++ w.free) (come sig f hs ++ w.free) u.free p y.free);
      claims = λ k. by_number k (numbered k gs) refl x y;
      rules = y.rules ∙ ap (λ n. option_map (λ m. m + n) w.rules_left) (sym (rules_reordered gs hs r)) ∙ sym x.rules;
      steps = (let i = x.steps in let j = y.steps in omega (arith, i, j, steps_reordered gs hs r));
    }
  where
    by_number : (k n : ℕ) → numbered k gs ≡ n → Left w gs v → Left w hs u → claim_at u.claims k ≡ claim_at v.claims k
    by_number k zero q x y = let m = numbered_reordered k gs hs r in y.others k (omega (arith, m, q)) ∙ sym (x.others k q)
    by_number k (suc n) q x y = let m = numbered_reordered k gs hs r in y.closed k (omega (arith, m, q)) ∙ sym (x.closed k (omega (arith, q)))

-- so the whole is the same: the free elements with those of all open parts
pub same_whole : (v u : World) → HoldTheSame v u → IsPermutation (v.free ++ claimed v.over.signature v.operator v.claims) (u.free ++ claimed u.over.signature u.operator u.claims)
same_whole v u h =
    let e : claimed u.over.signature u.operator u.claims ≡ claimed v.over.signature v.operator v.claims =
    ap (λ M. claimed M.signature u.operator u.claims) h.same.over ∙ ap (λ k. claimed v.over.signature k u.claims) h.same.operator ∙ claimed_same v.over.signature v.operator v.claims u.claims h.claims in
    subst (λ z. IsPermutation (v.free ++ claimed v.over.signature v.operator v.claims) (u.free ++ z)) (sym e) (IsPermutation-append_left (claimed v.over.signature v.operator v.claims) v.free u.free h.free)
