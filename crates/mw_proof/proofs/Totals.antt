-- What is counted of a trail, item by item.
use Rattle.std.specs.Prelude.{◌≡◌, ◌+◌, ◌-◌, ℕ, suc, List, [], ◌∷◌, ◌&&◌, cond, nat_eq, drop, refl}
use Rattle.std.proofs.Common.{ap, arith}
use Rattle.mw_logic.specs.Term.{RawTerm}
use Rattle.mw_logic.specs.Module.{Module}
use Rattle.mw_deduction.specs.Replay.{replacements, outer_steps, outer_rules}
use Rattle.mw_trail.specs.declared.trail.Item.{Item}
use Rattle.mw_trail.specs.declared.trail.Item.TheVariants.{Into, Among, Out, Begin, End, Apply, Row}
use Rattle.mw_trail.specs.Tracks.{Track, moves_of, is_rule}
use Rattle.mw_proof.specs.declared.counting.Counts.{Counts}
use Rattle.mw_proof.specs.Counting.{AreCounts, AreCapped, counted_to}

-- the terms and the numbers count nothing
module _ (M : Module) where
  same_replacements : (xs : List Item) (vs ws : List RawTerm) (ns os : List ℕ) → replacements (moves_of M xs vs ns) ≡ replacements (moves_of M xs ws os)
  same_replacements [] vs ws ns os = refl
  same_replacements (Into i ∷ xs) vs ws ns os = same_replacements xs (drop 0 vs) (drop 0 ws) (drop 0 ns) (drop 0 os)
  same_replacements (Among n ∷ xs) vs ws ns os = same_replacements xs (drop 0 vs) (drop 0 ws) (drop n ns) (drop n os)
  same_replacements (Out ∷ xs) vs ws ns os = same_replacements xs (drop 0 vs) (drop 0 ws) (drop 0 ns) (drop 0 os)
  same_replacements (Begin n ∷ xs) vs ws ns os = same_replacements xs (drop (suc n) vs) (drop (suc n) ws) (drop 0 ns) (drop 0 os)
  same_replacements (End ∷ xs) vs ws ns os = same_replacements xs (drop 0 vs) (drop 0 ws) (drop 0 ns) (drop 0 os)
  same_replacements (Apply n k ∷ xs) vs ws ns os = ap suc (same_replacements xs (drop n vs) (drop n ws) (drop 0 ns) (drop 0 os))
  same_replacements (Row ∷ xs) vs ws ns os = ap suc (same_replacements xs (drop 1 vs) (drop 1 ws) (drop 0 ns) (drop 0 os))

  same_steps : (d : ℕ) (xs : List Item) (vs ws : List RawTerm) (ns os : List ℕ) → outer_steps d (moves_of M xs vs ns) ≡ outer_steps d (moves_of M xs ws os)
  same_steps d [] vs ws ns os = refl
  same_steps d (Into i ∷ xs) vs ws ns os = same_steps d xs (drop 0 vs) (drop 0 ws) (drop 0 ns) (drop 0 os)
  same_steps d (Among n ∷ xs) vs ws ns os = same_steps d xs (drop 0 vs) (drop 0 ws) (drop n ns) (drop n os)
  same_steps d (Out ∷ xs) vs ws ns os = same_steps d xs (drop 0 vs) (drop 0 ws) (drop 0 ns) (drop 0 os)
  same_steps d (Begin n ∷ xs) vs ws ns os = same_steps (suc d) xs (drop (suc n) vs) (drop (suc n) ws) (drop 0 ns) (drop 0 os)
  same_steps d (End ∷ xs) vs ws ns os = same_steps (d - 1) xs (drop 0 vs) (drop 0 ws) (drop 0 ns) (drop 0 os)
  same_steps d (Apply n k ∷ xs) vs ws ns os = ap (λ m. cond (nat_eq d 0) 1 0 + m) (same_steps d xs (drop n vs) (drop n ws) (drop 0 ns) (drop 0 os))
  same_steps d (Row ∷ xs) vs ws ns os = ap (λ m. cond (nat_eq d 0) 1 0 + m) (same_steps d xs (drop 1 vs) (drop 1 ws) (drop 0 ns) (drop 0 os))

  same_rules : (d : ℕ) (xs : List Item) (vs ws : List RawTerm) (ns os : List ℕ) → outer_rules d (moves_of M xs vs ns) ≡ outer_rules d (moves_of M xs ws os)
  same_rules d [] vs ws ns os = refl
  same_rules d (Into i ∷ xs) vs ws ns os = same_rules d xs (drop 0 vs) (drop 0 ws) (drop 0 ns) (drop 0 os)
  same_rules d (Among n ∷ xs) vs ws ns os = same_rules d xs (drop 0 vs) (drop 0 ws) (drop n ns) (drop n os)
  same_rules d (Out ∷ xs) vs ws ns os = same_rules d xs (drop 0 vs) (drop 0 ws) (drop 0 ns) (drop 0 os)
  same_rules d (Begin n ∷ xs) vs ws ns os = same_rules (suc d) xs (drop (suc n) vs) (drop (suc n) ws) (drop 0 ns) (drop 0 os)
  same_rules d (End ∷ xs) vs ws ns os = same_rules (d - 1) xs (drop 0 vs) (drop 0 ws) (drop 0 ns) (drop 0 os)
  same_rules d (Apply n k ∷ xs) vs ws ns os = ap (λ m. cond (is_rule M k && nat_eq d 0) 1 0 + m) (same_rules d xs (drop n vs) (drop n ws) (drop 0 ns) (drop 0 os))
  same_rules d (Row ∷ xs) vs ws ns os = same_rules d xs (drop 1 vs) (drop 1 ws) (drop 0 ns) (drop 0 os)

  -- a trail as it is taken
  pub counted_all : (d : ℕ) (c z : Counts) (t : Track) → AreCapped c → z.count ≡ 0 → z.steps ≡ 0 → z.rules ≡ 0 → counted_to M d c [] ≡ counted_to M 0 z t.items → AreCounts M t c
  counted_all d c z t l f g h p =
      let a = l.count in let b = l.steps in let e = l.rules in
      let x = ap (λ (q : Counts). q.count) p in let y = ap (λ (q : Counts). q.steps) p in let w = ap (λ (q : Counts). q.rules) p in
      record {
        all = let i = same_replacements t.items [] t.values [] t.numbers in omega (arith, x, a, f, i);
        outer = let i = same_steps 0 t.items [] t.values [] t.numbers in omega (arith, y, b, g, i);
        by_rules = let i = same_rules 0 t.items [] t.values [] t.numbers in omega (arith, w, e, h, i);
      }
