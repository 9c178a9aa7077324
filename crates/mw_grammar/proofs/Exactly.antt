-- The chart's trees over a grammar's table are the terms that tokens spell.
use Rattle.std.proofs.Common.{ℕ, ◌≡◌, ◌∙◌, ◌≤◌, ◌+◌, List, [], length, Option, None, Some, refl, sym, ap, subst, arith, append-nil}
use Rattle.mw_logic.specs.Term.{Variable, RawTerm}
use Rattle.mw_logic.specs.Signature.{Signature, HasKind, of_numeral, of_quoted, of_variable, of_operator, same}
use Rattle.mw_logic.proofs.KindLaws.{SameKind-sym}
use Rattle.mw_logic.proofs.Soundness.{HasKind-same}
use Rattle.mw_chart.specs.Tree.{Tree}
use Rattle.mw_chart.specs.Spelling.{NextAt, IsItem}
use Rattle.mw_chart.specs.declared.table.Next.TheVariants.{Whole}
use Rattle.mw_chart.specs.declared.table.Table.{Table}
use Rattle.mw_chart.specs.declared.terminal.Terminal.{Terminal}
use Rattle.mw_text.specs.Mixfix.{Spells, declared, with_sort, numbered, identified, grouped, a_constant, prefixed, flattened, mixfix, IsWanted, IsSpelled, Reads}
use Rattle.mw_grammar.specs.Notations.{IsNotation}
use Rattle.mw_grammar.specs.Readable.{AreKinds, IsReadable, AreVariables}
use Rattle.mw_grammar.specs.Compiled.{IsCompiled}
use Rattle.mw_grammar.specs.Worded.{AreWords}
use Rattle.mw_grammar.specs.Meaning.{term_of}
use Rattle.mw_grammar.specs.Exact.{IsWantedKind, IsTree, AreExact}
use Rattle.mw_grammar.proofs.Spelled.{spelled, kind_within}
use Rattle.mw_grammar.proofs.Means.{Means, means_closed}
use Rattle.mw_grammar.proofs.Placed.{Stands, stands_closed}
use Rattle.mw_grammar.proofs.Read.{read_all}
use Rattle.mw_grammar.proofs.Telling.{told}
use Rattle.mw_grammar.proofs.RawSpelled.{spelled_raw}

module _ (sig : Signature) (variables : List Variable) (kind : ℕ → ℕ) (ks : AreKinds sig kind) (ok : IsReadable sig) (vs : AreVariables sig variables) where
  -- what is spelled has a kind
  some_kind : (t : RawTerm) (p : ℕ) (text : List (List ℕ)) → Spells sig variables t p text → (K : ℕ) × HasKind sig t K
  some_kind t p text (declared x m) = (x.sort, of_variable same)
  some_kind t p text (with_sort x S is name) = (x.sort, of_variable same)
  some_kind t p text (numbered n token h e) = let S = ok.numbers h in (S.0, of_numeral S.0 S.1 h same)
  some_kind t p text (identified q h i) = let S = ok.identifiers h in (S.0, of_quoted S.0 S.1 h same)
  some_kind t p text (grouped u q text2 d) = some_kind u q text2 d
  some_kind t p text (a_constant f o head is none h) = (o.result, of_operator o is same)
  some_kind t p text (prefixed f o u us head inner is h d) = (o.result, of_operator o is same)
  some_kind t p text (flattened f o u v head inner is a h q K text2 d m k n) = (o.result, of_operator o is same)
  some_kind t p text (mixfix f o ts text2 is h d) = (o.result, of_operator o is same)

  -- a kind that it has, the wanted one where one is wanted
  chosen_kind : (wanted : Option ℕ) (t : RawTerm) (p : ℕ) (text : List (List ℕ)) → Spells sig variables t p text → IsWanted sig variables wanted t → (S : ℕ) × HasKind sig t S × IsWantedKind kind wanted (kind S)
  chosen_kind None t p text d w = let r = some_kind t p text d in (r.0, r.1, tt)
  chosen_kind (Some S) t p text d w = (S, w, refl)

  module _ (names : List (List ℕ)) (g : Table) (compiled : IsCompiled (length sig.sorts) (IsNotation kind sig) names g) where
    module _ (leaves : List RawTerm) (tokens : List (List ℕ)) (words : List Terminal) (worded : AreWords sig variables kind names leaves tokens words) where
      complete : (wanted : Option ℕ) (t : RawTerm) → IsSpelled sig variables wanted tokens t → (tree : Tree) × IsTree sig kind g wanted words tree × (term_of leaves tree ≡ t)
      complete wanted t h =
          let S = chosen_kind wanted t h.precedence tokens h.spells h.kind in
          let stands = spelled sig variables kind ks ok vs (Stands sig variables kind ks vs names g compiled leaves tokens words worded) (stands_closed sig variables kind ks vs names g compiled leaves tokens words worded)
          t h.precedence tokens h.spells S.0 S.1 in
          let r = stands ([]) ([]) (sym (append-nil tokens)) in
          let len : length words ≡ 0 + length tokens = worded.count ∙ omega arith in
          let b : IsItem g words r.0 r.1 0 (length words) = subst (λ (n : ℕ). IsItem g words r.0 r.1 0 n) (sym len) r.2 in (
            r.1,
            record { K = kind S.0; within = kind_within sig variables kind ks ok vs t h.precedence tokens h.spells S.0 S.1; is_wanted = S.2; spelled = (h.precedence, (r.0, b, r.3)) },
            r.4,
          )

      meant : (K p w : ℕ) (tree : Tree) → IsItem g words w tree 0 (length words) → NextAt g w (Whole K p) → Means sig variables kind ks ok vs K p (term_of leaves tree) tokens
      meant K p w tree b wh =
          read_all sig variables kind ks vs names g compiled leaves tokens words worded (Means sig variables kind ks ok vs) (means_closed sig variables kind ks ok vs) w K p tree b wh

      as_wanted : (wanted : Option ℕ) (K : ℕ) (t : RawTerm) → IsWantedKind kind wanted K → HasKind sig t K → IsWanted sig variables wanted t
      as_wanted None K t w h = tt
      as_wanted (Some S) K t w h = HasKind-same (subst (HasKind sig t) w h) (SameKind-sym (ks.same S))

      sound : (wanted : Option ℕ) (tree : Tree) → IsTree sig kind g wanted words tree → IsSpelled sig variables wanted tokens (term_of leaves tree)
      sound wanted tree h =
          let d = h.spelled in
          let m = (meant h.K d.0 d.1.0 tree d.1.1 d.1.2).term h.within in
          record { precedence = d.0; spells = m.0; kind = as_wanted wanted h.K (term_of leaves tree) h.is_wanted m.1 }

      same_tree : (wanted : Option ℕ) (a b : Tree) → IsTree sig kind g wanted words a → IsTree sig kind g wanted words b → term_of leaves a ≡ term_of leaves b → a ≡ b
      same_tree wanted a b h k e =
          told sig variables kind ks vs names g compiled leaves tokens words worded h.spelled.1.0 k.spelled.1.0 a b 0 (length words) 0 (length words) h.spelled.1.1 k.spelled.1.1 e

      only : (wanted : Option ℕ) (tree : Tree) → length tokens ≤ 1024 → IsTree sig kind g wanted words tree → ((u : Tree) → IsTree sig kind g wanted words u → u ≡ tree)
          → Reads sig variables wanted tokens (term_of leaves tree)
      only wanted tree short h others = record {
        short = short;
        spelled = sound wanted tree h;
        only = λ u s. let r = complete wanted u s in sym r.2 ∙ ap (term_of leaves) (others r.0 r.1);
      }

      pub exactly : AreExact sig variables kind g leaves tokens words
      exactly = record {
        complete = complete;
        sound = sound;
        differ = λ wanted a b h k apart e. apart (same_tree wanted a b h k e);
        only = only;
        kinds = λ K tree w d. ((meant K d.0 d.1.0 tree d.1.1 d.1.2).term w).1;
        raw = λ wanted t h. spelled_raw sig variables kind ks ok vs t h.precedence tokens h.spells;
      }
