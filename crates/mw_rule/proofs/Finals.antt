-- Where all rules were tried at all parts, and fail, the term is final.
use Rattle.std.specs.Prelude.{ℕ, List, [], true, IsTrue}
use Rattle.std.proofs.Common.{sym, subst}
use Rattle.mw_logic.specs.Term.{RawTerm}
use Rattle.mw_logic.specs.Accepted.{IsAccepted, IsWellSorted}
use Rattle.mw_logic.specs.Parts.{nested}
use Rattle.mw_logic.specs.CanonicalPart.{IsPartOf}
use Rattle.mw_logic.specs.Substitution.{Substitution, IsSolution}
use Rattle.mw_logic.specs.Module.{Module, Statement, IsStatement}
use Rattle.mw_logic.specs.Judgements.{AdmittedStep, admitted_judgements, IsNormal, Fails}
use Rattle.mw_logic.specs.Ends.{IsFinal}
use Rattle.mw_logic.proofs.Canonical.{IsCanonical, canonical}
use Rattle.mw_logic.proofs.Ranks.{admitted_within, normal}
use Rattle.mw_logic.proofs.SameConditions.{Fails-same}
use Rattle.mw_logic.proofs.SameSolutions.{same_solution-sym}
use Rattle.mw_deduction.specs.Tops.{IsNormalTerm}
use Rattle.mw_deduction.proofs.Ending.{final_found}
use Rattle.mw_least.specs.Workable.{IsWorkable}
use Rattle.mw_solving.specs.Values.{IsValue}
use Rattle.mw_index.specs.Index.{AreRulesOf}
use Rattle.mw_index.specs.Choices.{Tried, solution_of}
use Rattle.mw_index.specs.declared.index.Rule.{Rule}
use Rattle.mw_reduce.specs.Turns.{AreFailed}
use Rattle.mw_reduce.proofs.Ends.{normal_at}
use Rattle.mw_redexes.specs.Spots.{IsReached, AreWanted, AreAllSpots}
use Rattle.mw_redexes.specs.Redexes.{AreAllAsked}
use Rattle.mw_redexes.specs.declared.spots.Wanted.{Wanted}
use Rattle.mw_redexes.specs.declared.spots.Spot.{Spot}
use Rattle.mw_redexes.proofs.Everywhere.{value_reached, tried_everywhere}

module _ (M : Module) (work : IsWorkable M) (t : RawTerm) (n : IsNormalTerm M (admitted_judgements M 63).Fails t) where
  abbrev ok : IsAccepted M.signature
  ok = work.signature.accepted

  abbrev sorted : IsWellSorted M.signature
  sorted = work.signature.well_sorted

  pub is_canonical : IsCanonical M.signature t
  is_canonical = subst (IsCanonical M.signature) n.canonical (canonical M.signature ok (nested M.signature t))

  pub is_normal : IsNormal M 63 (nested M.signature t)
  is_normal = normal_at M 63 (nested M.signature t) (normal M (admitted_judgements M 63).Fails (Fails M 63) (admitted_within M 63).Fails (nested M.signature t) n.normal)

  is_value : IsValue M.signature t
  is_value = record { canonical = is_canonical; raw = n.raw; ground = n.normal.admitted.ground }

  -- what is reached in it is a value
  pub reached_value : (u : RawTerm) → IsReached M.signature t u → IsValue M.signature u
  reached_value u h = value_reached M.signature ok t u is_value h

  pub all_fail : (wanted : Wanted) (rules : List Rule) → AreRulesOf M rules → AreWanted rules wanted
      → (spots : List Spot) → AreAllSpots M.signature wanted t spots → (tried : List Tried) → AreFailed M 63 tried → AreAllAsked M rules spots tried → IsFinal M (nested M.signature t)
  all_fail wanted rules are asks spots listed tried failed all = final_found M ok sorted t n.raw n.canonical is_normal each
    where
      each : (w : RawTerm) → IsPartOf M.signature true t w → (k : ℕ) (r : Statement) → IsStatement M k r → IsTrue r.rule → (s : Substitution) → IsSolution M.signature r.left (nested M.signature w) [] s → Fails M 63 r.fragments s
      each w p k r is rule s sol =
          let (c, tried_it, number, alike) = tried_everywhere M work t is_value wanted rules are asks spots listed tried all w p k r is rule s sol in
          let f = failed c tried_it r (subst (λ i. IsStatement M i r) (sym number) is) in
          (admitted_within M 63).Fails r.fragments s
          (Fails-same M (AdmittedStep M) 63 r.fragments (solution_of M.signature r c.values) s (same_solution-sym M.signature s (solution_of M.signature r c.values) alike) f.substitution f.fails)
