-- Rows that are marked as evicting.
use Rattle.std.proofs.Common.{◌≡◌, ◌≤◌, ◌<◌, ◌==◌, ℕ, ◌+◌, Bool, true, false, List, [], ◌∷◌, ◌++◌, if◌then◌else◌, get_or, set, map, take, drop}
use Rattle.std.proofs.Common.{length, refl, sym, subst, ap, ◌∙◌, arith}
use Rattle.std.specs.List.{count_by, prefix_len}
use Rattle.std.proofs.lemmas.List.{take-map, take-append-drop, length-map, set-get_or}
use Rattle.std.proofs.lemmas.List.Edits.{map_over_more}
use Rattle.nq_base.specs.declared.Access.{Access}
use Rattle.nq_base.specs.declared.Row.{Row}
use Rattle.nq_model.specs.protocol.Ask.{conflicts, marked}
use Rattle.nq_model.specs.protocol.Table.{row_before}
use Rattle.nq_lease.specs.Rows.{StandsBefore, AreInOrder, is_of, is_below, is_upto}
use Rattle.nq_lease.specs.Ends.{end_of}
use Rattle.nq_lease.specs.declared.ends.End.{End}
use Rattle.nq_lease.specs.Kept.{IsKept}
use Rattle.nq_lease.proofs.OfFile.{parts-of, take-before, drop-behind}
use Rattle.nq_lease.proofs.Times.{sum-of-map}

-- a row that may be marked
abbrev pub mark : (file host : ℕ) → Access → Row → Row
mark file host access r = if conflicts file host access r then record r { evicting = true } else r

pub mark-yes : (file host : ℕ) (access : Access) (r : Row) → conflicts file host access r ≡ true → mark file host access r ≡ record r { evicting = true }
mark-yes file host access r h = step (conflicts file host access r) h
  where
    step : (b : Bool) → b ≡ true → (if b then record r { evicting = true } else r) ≡ record r { evicting = true }
    step true e = refl
    step false e = cc

pub mark-no : (file host : ℕ) (access : Access) (r : Row) → conflicts file host access r ≡ false → mark file host access r ≡ r
mark-no file host access r h = step (conflicts file host access r) h
  where
    step : (b : Bool) → b ≡ false → (if b then record r { evicting = true } else r) ≡ r
    step true e = cc
    step false e = refl

other-file : (file host : ℕ) (access : Access) (r : Row) → is_of file r ≡ false → conflicts file host access r ≡ false
other-file file host access r h = rw h refl

mark-other : (file host : ℕ) (access : Access) (r : Row) → is_of file r ≡ false → mark file host access r ≡ r
mark-other file host access r h = mark-no file host access r (other-file file host access r h)

-- ---- the loop over the rows of the file

pub marks-begin : (file host : ℕ) (access : Access) (rows : List Row) (first : ℕ) → AreInOrder rows → first ≡ prefix_len (is_below file) rows
    → rows ≡ marked file host access (take first rows) ++ drop first rows
marks-begin file host access rows first o is =
    let before = take-before (is_below file) (is_upto file) (is_of file) (mark file host access) (mark-other file host access) rows (parts-of file rows o) in
    let same : map (mark file host access) (take (prefix_len (is_below file) rows) rows) ≡ take (prefix_len (is_below file) rows) rows =
    sym (take-map (mark file host access) (prefix_len (is_below file) rows) rows) ∙ before in
    rw is (sym (ap (λ l. l ++ drop (prefix_len (is_below file) rows) rows) same ∙ take-append-drop (prefix_len (is_below file) rows) rows))

pub marks-end : (file host : ℕ) (access : Access) (rows : List Row) (end : ℕ) → AreInOrder rows → end ≡ prefix_len (is_upto file) rows
    → marked file host access (take end rows) ++ drop end rows ≡ marked file host access rows
marks-end file host access rows end o is =
    let behind = drop-behind (is_below file) (is_upto file) (is_of file) (mark file host access) (mark-other file host access) rows (parts-of file rows o) in
    let e = prefix_len (is_upto file) rows in
    let f = mark file host access in
    rw is (ap (λ l. l ++ drop e rows) (sym (take-map f e rows)) ∙ ap (λ l. take e (map f rows) ++ l) (sym behind) ∙ take-append-drop e (map f rows))

pub marks-one : (file host : ℕ) (access : Access) (rows seen : List Row) (place : ℕ) (row : Row) → place < length rows → seen ≡ marked file host
    access (take place rows) ++ drop place rows → row ≡ get_or seen place row → conflicts file host access row ≡ true
    → set seen place (record row { evicting = true }) ≡ marked file host access (take (place + 1) rows) ++ drop (place + 1) rows
marks-one file host access rows seen place row within is at hit =
    subst (λ r. set seen place r ≡ marked file host access (take (place + 1) rows) ++ drop (place + 1) rows) (mark-yes file host access row hit)
    (map_over_more (mark file host access) rows seen place row within is at)

pub marks-none : (file host : ℕ) (access : Access) (rows seen : List Row) (place : ℕ) (row : Row) → place < length rows → seen ≡ marked file host
    access (take place rows) ++ drop place rows → row ≡ get_or seen place row → conflicts file host access row ≡ false → seen ≡ marked file host
    access (take (place + 1) rows) ++ drop (place + 1) rows
marks-none file host access rows seen place row within is at miss =
    sym (set-get_or seen place row) ∙ ap (set seen place) (sym at)
    ∙ subst (λ r. set seen place r ≡ marked file host access (take (place + 1) rows) ++ drop (place + 1) rows) (mark-no file host access row miss)
    (map_over_more (mark file host access) rows seen place row within is at)

-- ---- what marks leave

-- a row with the same key, and that ends at the same time
record IsAs (was row : Row) : Type 0 where
  file : row.file ≡ was.file
  who : row.who ≡ was.who
  mode : row.mode ≡ was.mode
  until : row.until ≡ was.until
  heard : row.heard ≡ was.heard

mark-as : (file host : ℕ) (access : Access) (r : Row) → IsAs r (mark file host access r)
mark-as file host access r = step (conflicts file host access r)
  where
    step : (b : Bool) → IsAs r (if b then record r { evicting = true } else r)
    step true = record { file = refl; who = refl; mode = refl; until = refl; heard = refl }
    step false = record { file = refl; who = refl; mode = refl; until = refl; heard = refl }

before-as : (a b c d : Row) → IsAs a c → IsAs b d → row_before a b ≡ true → row_before c d ≡ true
before-as a b c d e f h = rw (e.file, e.who, f.file, f.who) h

end-as : (a b : Row) → IsAs a b → end_of b ≡ end_of a
end-as a b e = rw (e.mode, e.until, e.heard) refl

marked-stands : (file host : ℕ) (access : Access) (row : Row) (rows : List Row) → StandsBefore row rows → StandsBefore (mark file host access row)
    (marked file host access rows)
marked-stands file host access row [] h = tt
marked-stands file host access row (r ∷ rows) h =
    (before-as row r _ _ (mark-as file host access row) (mark-as file host access r) h.0, marked-stands file host access row rows h.1)

marked-in-order : (file host : ℕ) (access : Access) (rows : List Row) → AreInOrder rows → AreInOrder (marked file host access rows)
marked-in-order file host access [] h = tt
marked-in-order file host access (r ∷ rows) h = (marked-stands file host access r rows h.0, marked-in-order file host access rows h.1)

ends-as : (file host : ℕ) (access : Access) (rows : List Row) → map end_of (marked file host access rows) ≡ map end_of rows
ends-as file host access [] = refl
ends-as file host access (r ∷ rows) = rw (end-as r (mark file host access r) (mark-as file host access r))
    (ap (λ l. end_of r ∷ l) (ends-as file host access rows))

counts-as : (file host : ℕ) (access : Access) (time : ℕ) (rows : List Row) → count_by (λ r. end_of r == time) (marked file host access rows)
    ≡ count_by (λ r. end_of r == time) rows
counts-as file host access time rows =
    sym (sum-of-map (λ t. if t == time then 1 else 0) end_of (marked file host access rows))
    ∙ ap (count_by (λ t. t == time)) (ends-as file host access rows)
    ∙ sum-of-map (λ t. if t == time then 1 else 0) end_of rows

pub kept-marked : (file host : ℕ) (access : Access) (rows : List Row) (room : ℕ) (ends : List End) (ends_room room' : ℕ) → IsKept rows room ends
    ends_room → room ≤ room' → IsKept (marked file host access rows) room' ends ends_room
kept-marked file host access rows room ends ends_room room' kept bound = record {
  ordered = marked-in-order file host access rows kept.ordered;
  few = let few = kept.few in omega (arith, length-map rows (mark file host access));
  has_room = let h = kept.has_room in omega arith;
  are_ends = record { well = kept.are_ends.well; same = λ time. kept.are_ends.same time ∙ sym (counts-as file host access time rows) };
  as_many = let h = kept.as_many in omega (arith, length-map rows (mark file host access));
  has_room_of_ends = kept.has_room_of_ends;
}
