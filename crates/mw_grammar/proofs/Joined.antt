-- Lists of terms, one after another.
use Rattle.std.proofs.Common.{◌≡◌, refl, ap}
use Rattle.mw_logic.specs.Term.{RawTerm, RawTerms, nil, cons, join}

pub join-nil : (ts : RawTerms) → join ts nil ≡ ts
join-nil nil = refl
join-nil (cons t ts) = ap (cons t) (join-nil ts)

pub join-one : (us : RawTerms) (t : RawTerm) (ts : RawTerms) → join (join us (cons t nil)) ts ≡ join us (cons t ts)
join-one nil t ts = refl
join-one (cons u us) t ts = ap (cons u) (join-one us t ts)
