-- Which variables can be printed as tokens.
use Rattle.std.proofs.Common.{◌≡◌, ◌==◌, ℕ, zero, suc, false, List, [], ◌∷◌, ◌++◌, All, codes, refl, sym, subst, inl, inr, arith, append_assoc}
use Rattle.std.proofs.lemmas.Bool.{cases_Bool, and_right}
use Rattle.std.proofs.lemmas.Option.{slice_get_within}
use Rattle.mw_lex.specs.Bytes.{is_punctuation}
use Rattle.mw_lex.specs.Texts.{IsRun, IsProper, IsTokenText}
use Rattle.mw_lex.proofs.Runs.{takes_next, takes_none, IsWhole, whole_one, whole_two, run_first, behind_one, behind_two}
use Rattle.mw_lex.proofs.Comments.{no_comment_before}
use Rattle.mw_logic.specs.Term.{Variable}
use Rattle.mw_logic.specs.Signature.{Signature, IsSortNamed}
use Rattle.mw_logic.specs.Preregular.{IsSortOf}
use Rattle.mw_text.specs.Mixfix.{IsVariableName}
use Rattle.mw_declare.specs.Proper.{IsProperVariable}
use Rattle.mw_declare.proofs.Proper.{all_at}
use Rattle.mw_print.specs.Laws.{IsPrintable}
use Rattle.mw_print.proofs.Bytes.{run_byte}
use Rattle.mw_build.proofs.Pairwise.{there}

-- a sort that has a name is there, and one that is there has a name
pub named_there : (sig : Signature) (S : ℕ) (name : List ℕ) → IsSortNamed sig S name → IsSortOf sig S
named_there sig zero name e = cc
named_there sig (suc i) name e = let h = slice_get_within sig.sorts i name e in (omega arith, omega (arith, h))

there_named : (sig : Signature) (S : ℕ) → IsSortOf sig S → (name : List ℕ) × IsSortNamed sig S name
there_named sig zero h = absurd (let low = h.0 in omega arith)
there_named sig (suc i) h = let high = h.1 in there sig.sorts i (omega (arith, high))

colon_apart : (b : ℕ) (rest : List ℕ) → takes_next b (58 ∷ rest) ≡ false
colon_apart b rest = and_right (b == 96) (is_punctuation 58) refl

-- a run, a colon and a run are one run
whole_joined : (x rest : List ℕ) → IsWhole x → IsWhole (58 ∷ rest) → IsWhole (x ++ 58 ∷ rest)
whole_joined [] rest h k = k
whole_joined (b ∷ []) rest h k = whole_one b (58 ∷ rest) (run_first b [] h) (colon_apart b rest) k
whole_joined (b ∷ c ∷ x) rest h k =
    elim (cases_Bool (takes_next b (c ∷ x))) [
      | inl t ↦ whole_two b c (x ++ 58 ∷ rest) t (whole_joined x rest (behind_two b c x t h) k)
      | inr t ↦ whole_one b (c ∷ x ++ 58 ∷ rest) (run_first b (c ∷ x) h) t (whole_joined (c ∷ x) rest (behind_one b (c ∷ x) t h) k)
    ]

colon_run : (x : List ℕ) → IsRun x → IsWhole (58 ∷ x)
colon_run [] h = absurd h
colon_run (b ∷ x) h = whole_one 58 (b ∷ x) refl (takes_none 58 (b ∷ x) refl) h.0

behind_colon : (x S : List ℕ) → IsRun x → IsRun S → IsRun (x ++ 58 ∷ S)
behind_colon [] S h k = absurd h
behind_colon (b ∷ x) S h k = (whole_joined (b ∷ x) S h.0 (colon_run S k), h.1, no_comment_before (b ∷ x) (58 ∷ S) h.2 (refl, refl))

run_joined : (x S : List ℕ) → IsRun x → IsRun S → IsRun (x ++ codes ":" ++ S)
run_joined x S h k = subst IsRun (sym (append_assoc x (codes ":") S)) (behind_colon x S h k)

-- a run may stand before a sort's name
run_named : (x : List ℕ) → IsRun x → IsVariableName x
run_named [] h = absurd h
run_named (b ∷ []) h = ((run_byte b (run_first b [] h.0)).plain, h.1)
run_named (b ∷ c ∷ x) h = h.1

-- a token that begins with such a name is proper
named_proper : (name rest : List ℕ) → IsVariableName name → IsTokenText (name ++ rest) → IsProper (name ++ rest)
named_proper [] rest n h = absurd n
named_proper (b ∷ name) rest n (inl proper) = proper
named_proper (b ∷ []) rest n (inr quoted) = absurd (n.1 quoted)
named_proper (b ∷ c ∷ name) rest n (inr quoted) = absurd (n quoted)

module _ (sig : Signature) where
  -- a variable that stands in a text with its sort
  pub with_sort_printable : (x : Variable) (S : List ℕ) → IsSortNamed sig x.sort S → IsVariableName x.name → IsTokenText (x.name ++ codes ":" ++ S) → IsPrintable sig x
  with_sort_printable x S named name token =
      let same = append_assoc x.name (codes ":") S in
      record { named = name; sort = S; sorted = named; proper = subst IsProper (sym same) (named_proper x.name (58 ∷ S) name (subst IsTokenText same token)) }

  -- one that is declared
  pub declared_printable : All IsRun sig.sorts → (x : Variable) → IsProperVariable sig x → IsPrintable sig x
  declared_printable sorts x (run, there) =
      let S = there_named sig x.sort there in
      record { named = run_named x.name run; sort = S.0; sorted = S.1; proper = inr (run_joined x.name S.0 run (all_at IsRun sig.sorts sorts x.sort S.0 S.1)) }
