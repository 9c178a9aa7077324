-- The text of a raw term reads back.
use Rattle.std.proofs.Common.{◌++◌, ℕ, List, [], IsTrue, sym, ap, subst}
use Rattle.std.specs.Prelude.{codes, unwrap_or}
use Rattle.std.proofs.lemmas.Bool.{or_left, or_right}
use Rattle.mw_lex.specs.Texts.{IsProper}
use Rattle.mw_logic.specs.Term.{Variable, RawTerm, apply, RawTerms, nil, cons}
use Rattle.mw_logic.specs.Signature.{Signature, IsRawTerm, a_numeral, a_quoted, a_variable, an_operator, AreRawTerms, end, next}
use Rattle.mw_logic.specs.Substitution.{occurs, occurs_in}
use Rattle.mw_text.specs.Proper.{HasIdentifiers, HaveIdentifiers}
use Rattle.mw_print.specs.Tokens.{texts}
use Rattle.mw_print.specs.Printing.{printed, sort_name}
use Rattle.mw_print.specs.Laws.{IsNamed, AreNamed, HasProperLeaves, HaveProperLeaves, IsPrintable, ArePrintable, PrintedReadsBack}
use Rattle.mw_print.proofs.Spelled.{printed_spelled}
use Rattle.mw_print.proofs.Lexed.{printed_lexed}
use Rattle.mw_print.proofs.Proper.{printed_proper}
use Rattle.mw_logic.proofs.SameConditions.{same_variable-refl}

module _ (sig : Signature) where
  one_token : (x : Variable) → IsPrintable sig x → IsProper (x.name ++ codes ":" ++ sort_name sig x.sort)
  one_token x p = subst (λ (S : List ℕ). IsProper (x.name ++ codes ":" ++ S)) (sym (ap (λ o. unwrap_or o []) p.sorted)) p.proper

  mutual
    leaves : (t : RawTerm) → IsRawTerm sig t → ArePrintable sig t → HasIdentifiers t → IsNamed sig t × HasProperLeaves sig t
    leaves t (a_numeral b l) h q = (tt, l)
    leaves t (a_quoted b) h q = q
    leaves t (a_variable {x}) h q = let p = h x (same_variable-refl x) in ((p.named, p.sort, p.sorted), one_token x p)
    leaves (apply f ts) (an_operator o is args) h q = leaves_in ts o.args args h q

    leaves_in : (ts : RawTerms) (Ks : List ℕ) → AreRawTerms sig ts Ks → ((x : Variable) → IsTrue (occurs_in x ts) → IsPrintable sig x) → HaveIdentifiers ts → AreNamed sig ts × HaveProperLeaves sig ts
    leaves_in nil Ks end h q = (tt, tt)
    leaves_in (cons t ts) Ks (next r k rest) h q =
        let a = leaves t r (λ x o. h x (or_left (occurs x t) (occurs_in x ts) o)) q.0 in
        let b = leaves_in ts _ rest (λ x o. h x (or_right (occurs x t) (occurs_in x ts) o)) q.1 in
        ((a.0, b.0), (a.1, b.1))

pub printed_reads_back : PrintedReadsBack
printed_reads_back sig variables t binary names raw printable identifiers =
    let l = leaves sig t raw printable identifiers in
    record {
      words = texts (printed sig t).tokens;
      cut = printed_lexed sig t (printed_proper sig t names l.1);
      precedence = (printed sig t).precedence;
      spells = printed_spelled sig variables t binary raw l.0;
    }
