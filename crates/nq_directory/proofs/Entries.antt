-- The entries of a page, one after another.
use Rattle.std.proofs.Common.{◌≡◌, ◌<◌, ◌≤◌, ℕ, ◌+◌, List, [], ◌∷◌, ◌++◌, length, Ok, Err, refl, sym, ap, ◌∙◌, arith, append_assoc, append-nil, zero}
use Rattle.std.proofs.Common.{suc, drop, get_or, drop-cons}
use Rattle.std.proofs.lemmas.List.{drop_all}
use Rattle.nq_directory.specs.declared.names.FileName.{FileName}
use Rattle.nq_wire.specs.declared.Garbage.{Garbage}
use Rattle.nq_directory.specs.Messages.{entry_bytes, entries_bytes}
use Rattle.nq_directory.specs.Reading.{entry_at, entries_at}

-- one is read, and so many are left
pub entries_more : (done : List FileName) (n m : ℕ) (bytes : List ℕ) (e : FileName) (rest : List ℕ) → n ≡ m + 1 → entry_at bytes ≡ Ok (e, rest)
    → entries_at done n bytes ≡ entries_at (done ++ e ∷ []) m rest
entries_more done n m bytes e rest is read =
    let next : n ≡ suc m = omega arith in ap (λ k. entries_at done k bytes) next ∙ rw read refl

-- a fault in one is the fault of all
pub entries_fault : (done : List FileName) (n : ℕ) (bytes : List ℕ) (f : Garbage) → 0 < n → entry_at bytes ≡ Err f → entries_at done n bytes ≡ Err f
entries_fault done zero bytes f some read = absurd (omega arith)
entries_fault done (suc m) bytes f some read = rw read refl

-- nothing is left
pub entries_done : (done : List FileName) (n : ℕ) (bytes : List ℕ) → n ≡ 0 → entries_at done n bytes ≡ Ok (done, bytes)
entries_done done n bytes is = ap (λ k. entries_at done k bytes) is

-- one more is written
pub written_more : (old written more : List ℕ) (es : List FileName) (i : ℕ) (e : FileName) → i < length es → e ≡ get_or es i e → written
    ++ entries_bytes (drop i es) ≡ old → more ≡ written ++ entry_bytes e → more ++ entries_bytes (drop (i + 1) es) ≡ old
written_more old written more es i e lt is before adds =
    let next : i + 1 ≡ suc i = omega arith in
    let front : drop i es ≡ e ∷ drop (suc i) es = drop-cons es i e lt ∙ ap (λ x. x ∷ drop (suc i) es) (sym is) in
    let rest = entries_bytes (drop (suc i) es) in
    let first : written ++ entries_bytes (drop i es) ≡ written ++ (entry_bytes e ++ rest) = ap (λ l. written ++ entries_bytes l) front in
    ap (λ m. m ++ entries_bytes (drop (i + 1) es)) adds
    ∙ ap (λ n. (written ++ entry_bytes e) ++ entries_bytes (drop n es)) next
    ∙ append_assoc written (entry_bytes e) rest
    ∙ sym first
    ∙ before

-- all are written
pub written_all : (old written : List ℕ) (es : List FileName) (i : ℕ) → length es ≤ i → written ++ entries_bytes (drop i es) ≡ old → written ≡ old
written_all old written es i le before =
    sym (append-nil written) ∙ ap (λ l. written ++ entries_bytes l) (sym (drop_all i es le)) ∙ before

pub ruleset reading = (entries_more, entries_fault, entries_done)

pub ruleset writing = (written_more, written_all)
