-- What one more item tells, and one more group.
use Rattle.std.specs.Prelude.{◌≡◌, ℕ, suc, List, [], ◌∷◌, refl}
use Rattle.std.proofs.Common.{ap, sym, subst, ◌∙◌}
use Rattle.mw_logic.specs.Term.{RawTerm}
use Rattle.mw_logic.specs.Accepted.{IsAccepted}
use Rattle.mw_logic.specs.Substitution.{Substitution, instance}
use Rattle.mw_logic.specs.Parts.{nested}
use Rattle.mw_logic.specs.NormalForm.{normal_form}
use Rattle.mw_logic.specs.Module.{Module}
use Rattle.mw_logic.specs.Proof as proof
use Rattle.mw_logic.proofs.Canonical.{IsCanonical, canonical}
use Rattle.mw_logic.proofs.CanonicalTerms.{nested_inj}
use Rattle.mw_deduction.specs.Runs.{Done, Dones, both, one, Run, run, Runs, another, SameRuns}
use Rattle.mw_deduction.specs.Runs as runs
use Rattle.mw_deduction.specs.Replay.{Stand, put_behind, beginnings, begun_sides}
use Rattle.mw_deduction.specs.Stands.{IsStanding}
use Rattle.mw_items.specs.Items.{Item, Items, none, more, Groups, end, group, with_item, with_group}
use Rattle.mw_prooftext.specs.Tells.{Tells, TellsOne, TellsSides}
use Rattle.mw_prooftext.specs.Passing.{Passes, GroupsPass, no_side, a_side}
use Rattle.mw_prooftext.specs.Told.{ShowsSides}

module _ (M : Module) where
  pub tells_then : (is : Items) (i : Item) (t u v : RawTerm) (ds : Dones) (d : Done) → Tells M is t u ds → TellsOne M i u v d → Tells M (with_item is i) t v (both ds (one d))
  tells_then none i t u v ds d (e, n) h = (v, d, runs.none, ap (λ x. both x (one d)) n, subst (λ x. TellsOne M i x v d) (sym e) h, (refl, refl))
  tells_then (more j is) i t u v ds d (w, c, es, e, a, b) h = (w, c, both es (one d), ap (λ x. both x (one d)) e, a, tells_then is i w u v es d b h)

  pub shows-with : (n m : ℕ) (gs : Groups) (rs : Runs) (g : Items) (t u : RawTerm) (ds : Dones) → n ≡ suc m → ShowsSides M n gs rs → IsCanonical M.signature t → Tells M g t u ds → Passes M m g t u
      → ShowsSides M n (with_group gs g) (put_behind rs (run (nested M.signature t) (nested M.signature u) ds))
  shows-with n m end rs g t u ds i h k l p = (t, u, ds, runs.end, m, ap (λ q. put_behind q (run (nested M.signature t) (nested M.signature u) ds)) h, i, k, l, p, refl)
  shows-with n m (group f gs) rs g t u ds i (v, w, es, qs, j, e, x, a, b, y, c) k l p =
      let r : Run = run (nested M.signature t) (nested M.signature u) ds in
      (v, w, es, put_behind qs r, j, ap (λ q. put_behind q r) e, x, a, b, y, shows-with n m gs qs g t u ds i c k l p)

  -- where no side was shown, no group waits
  pub no_groups : (n : ℕ) (gs : Groups) → ShowsSides M n gs runs.end → gs ≡ end
  no_groups n end h = refl
  no_groups n (group g gs) (t, u, ds, qs, m, e, i, k, a, p, b) = absurd (apart e)
    where
      apart : {r : Run} {qs : Runs} → runs.end ≡ another r qs → ⊥
      apart e = cc

  none_same : (rs qs : Runs) → SameRuns M.signature rs qs → qs ≡ runs.end → rs ≡ runs.end
  none_same runs.end qs h e = refl
  none_same (another r rs) runs.end h e = absurd h
  none_same (another r rs) (another q qs) h e = absurd (apart e)
    where
      apart : {r : Run} {qs : Runs} → another r qs ≡ runs.end → ⊥
      apart e = cc

  -- where no evidence waits, no side was shown
  pub no_sides : (S : Stand) → IsStanding M S → S.read.ready ≡ proof.nil → S.sides ≡ runs.end
  no_sides S h e = none_same S.sides h.sides h.same_sides (rw e at h.shown)

  -- groups of sides that begin at the instances of these terms
  pub sides_told : IsAccepted M.signature → (n : ℕ) (gs : Groups) (rs : Runs) (s : Substitution) (ls : List RawTerm) → ShowsSides M n gs rs → beginnings rs ≡ begun_sides M.signature s ls
      → TellsSides M gs s ls rs × GroupsPass M n gs s ls
  sides_told ok n end rs s [] h e = (h, no_side)
  sides_told ok n end rs s (l ∷ ls) h e = absurd (apart (sym (ap beginnings h) ∙ e))
    where
      apart : {x : RawTerm} {xs : List RawTerm} → [] ≡ x ∷ xs → ⊥
      apart e = cc
  sides_told ok n (group g gs) rs s [] (t, u, ds, qs, m, is, i, k, a, p, b) e = absurd (apart (sym (ap beginnings is) ∙ e))
    where
      apart : {x : RawTerm} {xs : List RawTerm} → x ∷ xs ≡ [] → ⊥
      apart e = cc
  sides_told ok n (group g gs) rs s (l ∷ ls) (t, u, ds, qs, m, is, i, k, a, p, b) e =
      let w : RawTerm = normal_form M.signature (instance s l) in
      let f : nested M.signature t ∷ beginnings qs ≡ nested M.signature w ∷ begun_sides M.signature s ls = sym (ap beginnings is) ∙ e in
      let begins : nested M.signature t ≡ nested M.signature w = cc f in
      let others : beginnings qs ≡ begun_sides M.signature s ls = cc f in
      let same : t ≡ w = nested_inj M.signature ok t w k (canonical M.signature ok (instance s l)) begins in
      let (tell, pass) = sides_told ok n gs qs s ls b others in (
        (u, ds, qs, is ∙ ap (λ x. another (run x (nested M.signature u) ds) qs) begins, subst (λ x. Tells M g x u ds) same a, tell),
        subst (λ r. GroupsPass M r (group g gs) s (l ∷ ls)) (sym i) (a_side (subst (λ x. Passes M m g x u) same p) (subst (λ r. GroupsPass M r gs s ls) i pass)),
      )
