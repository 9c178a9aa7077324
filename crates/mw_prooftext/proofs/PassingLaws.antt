-- What the items of a text pass: one more item behind the others, what a row and a statement that may be applied give, and whole terms, which are admitted.
use Rattle.std.specs.Prelude.{◌≡◌, ℕ, zero, suc, List, [], ◌∷◌, Bool, false, IsTrue}
use Rattle.std.proofs.Common.{sym, subst, ◌∙◌}
use Rattle.std.proofs.lemmas.Option.{same_Some}
use Rattle.mw_logic.specs.Term.{RawTerm}
use Rattle.mw_logic.specs.Accepted.{IsAccepted}
use Rattle.mw_logic.specs.Substitution.{Substitution}
use Rattle.mw_logic.specs.Parts.{nested, IsAdmitted}
use Rattle.mw_logic.specs.Module.{Module, Statement, binds_statement}
use Rattle.mw_logic.specs.Judgements.{judgements_with, admitted_judgements, IsNormalBy, IsNormal, Fails}
use Rattle.mw_logic.proofs.AxiomLaws.{trans, sym as back}
use Rattle.mw_logic.proofs.EqualTerms.{IsAdmitted-equal}
use Rattle.mw_logic.proofs.Ranks.{normal, row_within, admitted_within}
use Rattle.mw_deduction.specs.Replay.{applies, meets, Stand, whole, becomes, MayApply, MayMeet}
use Rattle.mw_deduction.specs.Stands.{IsStanding}
use Rattle.mw_deduction.proofs.MoveStands.{whole_is, move_stands}
use Rattle.mw_items.specs.Items.{Spot, Item, built, Items, none, more, with_item}
use Rattle.mw_prooftext.specs.Tells.{ReplacesSpot}
use Rattle.mw_prooftext.specs.Passing.{TakesSome, PassesOne, a_row, Passes, nothing, then}

-- normal, by conditions that fail at a rank
normal_at : (M : Module) (n : ℕ) (u : RawTerm) → IsNormalBy M (Fails M n) u → IsNormal M n u
unfolding judgements_with
normal_at M zero u h = h
normal_at M (suc n) u h = h

-- and by those that fail over admitted terms
normal_admitted : (M : Module) (n : ℕ) (u : RawTerm) → IsNormalBy M (admitted_judgements M n).Fails u → IsNormal M n u
normal_admitted M n u h = normal_at M n u (normal M (admitted_judgements M n).Fails (Fails M n) (admitted_within M n).Fails u h)

module _ (M : Module) where
  -- one more item behind the others
  pub passes_then : (n : ℕ) (is : Items) (i : Item) (t u v : RawTerm) → Passes M n is t u → PassesOne M n i u v → IsAdmitted M.signature (nested M.signature v) → Passes M n (with_item is i) t v
  passes_then n none i t u v nothing p a = then p a nothing
  passes_then n (more j is) i t u v (then q b r) p a = then q b (passes_then n is i _ u v r p a)

  -- a row that may be met
  pub row_passes : (S : Stand) (t : RawTerm) (p : Spot) (x y : RawTerm) (m : MayMeet M t S) → ReplacesSpot M.signature false m.form m.result p x y → TakesSome p x → PassesOne M S.rank (built p) x y
  row_passes S t p x y m there takes = a_row (record {
    form = m.form;
    result = m.result;
    row = row_within (λ v n. normal_admitted M S.rank v n) m.meets;
    raw = m.may.raw_part;
    clean = m.clean;
    replaces = there;
  }) takes

  -- a statement that may be applied binds its variables
  pub all_bound : {k : ℕ} {r : Bool} {s : Substitution} {vs : List RawTerm} {S : Stand} (m : MayApply M k r s vs S) → IsTrue (binds_statement s m.statement)
  all_bound {s = s} m =
      let same : m.replaces.statement ≡ m.statement = same_Some m.replaces.statement m.statement (sym m.replaces.is_there.is_there ∙ m.is_there) in
      subst (λ (e : Statement). IsTrue (binds_statement s e)) same m.replaces.all_bound

  module _ (ok : IsAccepted M.signature) where
    -- the whole term of a stand is admitted,
    whole_admitted : (S : Stand) → IsStanding M S → IsAdmitted M.signature (nested M.signature (whole M.signature S.opens S.hand))
    whole_admitted S h =
        IsAdmitted-equal M.signature (trans (back h.at.is) (whole_is M ok (admitted_judgements M S.rank).Held (admitted_judgements M S.rank).Fails S.opens S.hand h.at)) h.at.admitted

    -- also behind a statement, and behind a row
    pub applied_admitted : (k : ℕ) (r : Bool) (s : Substitution) (vs : List RawTerm) (S : Stand) → IsStanding M S → MayApply M k r s vs S → IsAdmitted M.signature (nested M.signature (whole M.signature S.opens (becomes M k s S.hand)))
    applied_admitted k r s vs S h m = whole_admitted _ (move_stands M ok (applies k r s vs) (S ∷ []) (h, tt) m).0

    pub met_admitted : (t : RawTerm) (S : Stand) → IsStanding M S → MayMeet M t S → IsAdmitted M.signature (nested M.signature (whole M.signature S.opens t))
    met_admitted t S h m = whole_admitted _ (move_stands M ok (meets t) (S ∷ []) (h, tt) m).0
