-- Other numbers of the server, and another row of a host.
use Rattle.std.proofs.Common.{◌≡◌, ◌≤◌, ◌<◌, ◌+◌, ◌-◌, ◌*◌, ◌&&◌, ◌==◌, ◌⊎◌, inl, inr, ℕ, zero, suc, Bool, true, false, List, [], ◌∷◌, ◌++◌, Option}
use Rattle.std.proofs.Common.{Some, None, take, drop, map, set, length, refl, sym, ap, subst, ◌∙◌, arith, length-drop}
use Rattle.std.specs.List.{list_any}
use Rattle.std.specs.Prelude.{nat_le, nat_lt, not, slice_set}
use Rattle.std.specs.Int.{w32, from_be_bytes}
use Rattle.std.proofs.lemmas.List.{drop-drop, drop_at, length-take-le}
use Rattle.std.proofs.lemmas.Nat.{from_be_bytes-to_be_bytes_4}
use Rattle.nq_base.specs.declared.Heads.{Heads}
use Rattle.nq_base.specs.declared.HostRow.{HostRow}
use Rattle.nq_model.specs.protocol.Change.{AreHeadsWithin, IsHostWithin, kept_as}
use Rattle.nq_model.specs.protocol.Kept.{File, Kept, with_row}
use Rattle.nq_image.specs.Heads.{front_checks, front_of}
use Rattle.nq_image.specs.Hosts.{host_checks, host_of, hosts_checks, hosts_of}
use Rattle.nq_image.specs.Image.{no_marks}
use Rattle.nq_image.specs.Layout.{are_zeros, block_place, piece, word_in}
use Rattle.nq_image.specs.Rows.{rows_checks, slots_of}
use Rattle.nq_image.specs.Standing.{AgreeBut, Standing, Stands, found_of, front_for, kept_at, overwritten, row_slot, rows_of_image, with_heads, with_host}
use Rattle.nq_image.specs.Tables.{ids_checks, ids_of, is_id}
use Rattle.nq_image.specs.Writing.{heads_bytes, host_bytes}
use Rattle.nq_image.specs.declared.heads.Front.{Front}
use Rattle.nq_image.specs.declared.rows.Slot.{Slot}
use Rattle.nq_image.specs.declared.rows.Version.{Version}
use Rattle.nq_image.proofs.Agreeing.{SameFrom, all-rows, begins-same, held-longer, hold-behind, hold-front, same-files, same-tables, tables-same}
use Rattle.nq_image.proofs.Holding.{each-three, test-le, test-lt}
use Rattle.nq_image.proofs.Parting.{HasParts, image-of-parts, parts-of}
use Rattle.nq_image.proofs.Pieces.{drop-first, drop-over, length-piece, piece-around, piece-beside, piece-of-first, take-first, take-over}
use Rattle.nq_image.proofs.ReadBack.{Hold, and-three, and-two, ge-true, hold-append, host-holds, host-is, le-both, le-true, length-host, lt-true, subst-two}

-- ---- one part of the numbers and rows is overwritten

-- what is known of bytes that agree but for one part
module _ (at : ℕ) (part : List ℕ) (old new : List ℕ) (long : 40960 ≤ length old) (fits : at + length part ≤ 28672) (rows : rows_of_image new
    ≡ overwritten at part (rows_of_image old)) where
  abbrev first : List ℕ
  first = piece 0 28672 old

  length-first : length first ≡ 28672
  length-first = length-piece 0 28672 old (omega arith)

  -- a piece beside the part is the same
  pub beside : (from size : ℕ) → from + size ≤ 28672 → (from + size ≤ at) ⊎ (at + length part ≤ from) → piece from size new ≡ piece from size old
  beside from size within side =
      sym (piece-of-first 28672 from size new within)
      ∙ ap (λ (b : List ℕ). piece from size b) rows
      ∙ piece-beside from size at part first (omega (arith, fits, length-first)) (omega (arith, within, length-first)) side
      ∙ piece-of-first 28672 from size old within

  -- a piece around it has it overwritten
  pub around : (from size : ℕ) → from + size ≤ 28672 → from ≤ at → at + length part ≤ from + size → piece from size new ≡ overwritten (at - from) part
      (piece from size old)
  around from size within begins ends =
      sym (piece-of-first 28672 from size new within)
      ∙ ap (λ (b : List ℕ). piece from size b) rows
      ∙ piece-around from size at part first (omega (arith, within, length-first)) begins ends
      ∙ ap (λ (b : List ℕ). overwritten (at - from) part b) (piece-of-first 28672 from size old within)

-- ---- the numbers of the server

record AreNumbersIn (heads : Heads) (old new : List ℕ) : Type 0 where
  boot : word_in 8 new ≡ heads.boot
  opened : word_in 12 new ≡ heads.opened
  longest : word_in 16 new ≡ heads.longest
  next : word_in 20 new ≡ heads.next
  tables : word_in 24 new ≡ word_in 24 old
  zeros : piece 28 36 new ≡ piece 28 36 old

module _ (next : ℕ) (heads : Heads) (within : AreHeadsWithin next heads) where
  abbrev part : List ℕ
  part = heads_bytes heads

  pub length-heads : length (heads_bytes heads) ≡ 16
  unfolding heads_bytes
  length-heads = refl

  boot-read : (rest : List ℕ) → from_be_bytes w32 (part ++ rest) ≡ heads.boot
  unfolding heads_bytes
  boot-read rest = let fits = within.boot in from_be_bytes-to_be_bytes_4 heads.boot (omega arith)

  opened-read : (rest : List ℕ) → from_be_bytes w32 (drop 4 (part ++ rest)) ≡ heads.opened
  unfolding heads_bytes
  opened-read rest = let fits = within.boot in let least = within.opened in from_be_bytes-to_be_bytes_4 heads.opened (omega arith)

  longest-read : (rest : List ℕ) → from_be_bytes w32 (drop 8 (part ++ rest)) ≡ heads.longest
  unfolding heads_bytes
  longest-read rest = let fits = within.short in from_be_bytes-to_be_bytes_4 heads.longest (omega arith)

  next-read : (rest : List ℕ) → from_be_bytes w32 (drop 12 (part ++ rest)) ≡ heads.next
  unfolding heads_bytes
  next-read rest = let fits = within.few_ids in from_be_bytes-to_be_bytes_4 heads.next (omega arith)

  module _ (front new : List ℕ) (long : length front ≡ 64) (is : new ≡ overwritten 8 (heads_bytes heads) front) where
    behind : drop 8 new ≡ part ++ drop 24 front
    unfolding overwritten
    behind =
        let e : 8 + length part ≡ 24 = omega (arith, length-heads) in
        ap (λ (b : List ℕ). drop 8 b) is
        ∙ drop_at (take 8 front) (part ++ drop (8 + length part) front) 8 (length-take-le 8 front (omega (arith, long)))
        ∙ ap (λ (n : ℕ). part ++ drop n front) e

    from-there : (k : ℕ) → drop (8 + k) new ≡ drop k (part ++ drop 24 front)
    from-there k = sym (drop-drop k 8 new) ∙ ap (λ (b : List ℕ). drop k b) behind

    past : drop 16 (part ++ drop 24 front) ≡ drop 24 front
    past = drop_at part (drop 24 front) 16 length-heads

    numbers-in : AreNumbersIn heads front new
    unfolding word_in piece
    numbers-in = record {
      boot = ap (λ (b : List ℕ). from_be_bytes w32 b) behind ∙ boot-read (drop 24 front);
      opened = ap (λ (b : List ℕ). from_be_bytes w32 b) (from-there 4) ∙ opened-read (drop 24 front);
      longest = ap (λ (b : List ℕ). from_be_bytes w32 b) (from-there 8) ∙ longest-read (drop 24 front);
      next = ap (λ (b : List ℕ). from_be_bytes w32 b) (from-there 12) ∙ next-read (drop 24 front);
      tables = ap (λ (b : List ℕ). from_be_bytes w32 b) (from-there 16 ∙ past);
      zeros = ap (λ (b : List ℕ). take 36 b) (from-there 20 ∙ sym (drop-drop 4 16 (part ++ drop 24 front)) ∙ ap (λ (b : List ℕ). drop 4 b) past
          ∙ drop-drop 4 24 front);
    }

    front-checked : 1 ≤ heads.next → Hold (front_checks front) → Hold (front_checks new)
    front-checked some hold =
        let n = numbers-in in
        let Near : ℕ → Type 0 = λ w. nat_le w 16384 ≡ true in
        let Zeros : List ℕ → Type 0 = λ b. are_zeros b ≡ true in (
          lt-true (word_in 8 new) heads.boot 2147483648 n.boot within.boot,
          (
            le-both (word_in 12 new) (word_in 8 new) heads.opened heads.boot n.opened n.boot within.opened,
            (
              and-two (nat_le 5 (word_in 16 new)) (nat_le (word_in 16 new) 600) (ge-true (word_in 16 new) heads.longest 5 n.longest within.long)
                  (le-true (word_in 16 new) heads.longest 600 n.longest within.short),
              (
                and-two (nat_le 1 (word_in 20 new)) (nat_le (word_in 20 new) 2147483648) (ge-true (word_in 20 new) heads.next 1 n.next some)
                    (le-true (word_in 20 new) heads.next 2147483648 n.next within.few_ids),
                (
                  subst Near (sym n.tables) hold.1.1.1.1.0,
                  (subst Zeros (sym n.zeros) hold.1.1.1.1.1.0, tt),
                ),
              ),
            ),
          ),
        )

    abbrev numbers-with : (boot opened longest next tables : ℕ) → Front
    numbers-with boot opened longest next tables = record { boot = boot; opened = opened; longest = longest; next = next; tables = tables }

    front-read : (tables : ℕ) → word_in 24 front ≡ tables → front_of new ≡ front_for heads tables
    unfolding front_of
    front-read tables at =
        let n = numbers-in in
        ap (λ (x : ℕ). numbers-with x (word_in 12 new) (word_in 16 new) (word_in 20 new) (word_in 24 new)) n.boot
        ∙ ap (λ (x : ℕ). numbers-with heads.boot x (word_in 16 new) (word_in 20 new) (word_in 24 new)) n.opened
        ∙ ap (λ (x : ℕ). numbers-with heads.boot heads.opened x (word_in 20 new) (word_in 24 new)) n.longest
        ∙ ap (λ (x : ℕ). numbers-with heads.boot heads.opened heads.longest x (word_in 24 new)) n.next
        ∙ ap (λ (x : ℕ). numbers-with heads.boot heads.opened heads.longest heads.next x) (n.tables ∙ at)

-- ids below the next one are below a later one
id-later : (next later : ℕ) (known : List ℕ) (slot : Option Slot) (id : ℕ) → next ≤ later → is_id next known slot id ≡ true → is_id later known slot id ≡ true
unfolding is_id
id-later next later known None id le h = h
id-later next later known (Some slot) id le h =
    let three = each-three (nat_le 1 id) (nat_lt id next) (not (list_any (λ k. k == id) known)) h in
    let lt = test-lt id next three.1 in
    and-three (nat_le 1 id) (nat_lt id later) (not (list_any (λ k. k == id) known)) three.0 (lt-true id id later refl (omega arith)) three.2

ids-later : (next later place : ℕ) (known : List ℕ) (slots : List (Option Slot)) (rest : List ℕ) → next ≤ later
    → Hold (ids_checks next place known slots rest) → Hold (ids_checks later place known slots rest)
unfolding ids_checks
ids-later next later place known [] rest le h = h
ids-later next later place known (slot ∷ slots) rest le h = (
  id-later next later known slot (word_in 0 rest) le h.0,
  ids-later next later (place + 4) (known ++ word_in 0 rest ∷ []) slots (drop 4 rest) le h.1,
)

pub first-id : (front : List ℕ) (f : Front) → Hold (front_checks front) → front_of front ≡ f → 1 ≤ f.next
unfolding front_of
first-id front f hold is =
    let e : word_in 20 front ≡ f.next = ap (λ (x : Front). x.next) is in
    let a = test-le 1 (word_in 20 front) (each-of (nat_le 1 (word_in 20 front)) (nat_le (word_in 20 front) 2147483648) hold.1.1.1.0) in
    omega (arith, e, a)
  where
    each-of : (a b : Bool) → (a && b) ≡ true → a ≡ true
    each-of true b h = refl
    each-of false b h = cc

tables-of : (front : List ℕ) (f : Front) → front_of front ≡ f → word_in 24 front ≡ f.tables
unfolding front_of
tables-of front f is = ap (λ (x : Front). x.tables) is

heads-parts : (s : Standing) (heads : Heads) (old new : List ℕ) → 40960 ≤ length old → AreHeadsWithin s.heads.next heads
    → AgreeBut 8 (heads_bytes heads) s old new → HasParts old (found_of s) → HasParts new (found_of (with_heads s heads))
heads-parts s heads old new long within agree p =
    let blocks = same-tables s old new agree.blocks in
    let longer = blocks.no_shorter in
    let place = block_place s.tables in
    let slots = map row_slot s.rows in
    let size = length-heads s.heads.next heads within in
    let fits : 8 + length (heads_bytes heads) ≤ 28672 = omega (arith, size) in
    let same = beside 8 (heads_bytes heads) old new long fits agree.rows in
    let hosts = same 64 2048 (omega arith) (inr (omega (arith, size))) in
    let rows = same 2112 24576 (omega arith) (inr (omega (arith, size))) in
    let gap = same 26688 1984 (omega arith) (inr (omega (arith, size))) in
    let front = around 8 (heads_bytes heads) old new long fits agree.rows 0 64 (omega arith) (omega arith) (omega (arith, size)) in
    let start = length-piece 0 64 old (omega arith) in
    let From : ℕ → Type 0 = λ n. SameFrom place n old new in
    let tables = tables-same s.tables place slots (no_marks 16641) old new longer (subst From (sym (all-rows s old p)) blocks.each) p.tables in
    let Hosts : List ℕ → Type 0 = λ b. Hold (hosts_checks 64 64 b) in
    let HostsAre : List ℕ → Type 0 = λ b. hosts_of 64 b ≡ s.hosts in
    let Rows : List ℕ → Type 0 = λ b. Hold (rows_checks Version.Two 256 2112 [] b) in
    let RowsAre : List ℕ → Type 0 = λ b. slots_of 256 b ≡ slots in
    let Gap : List ℕ → Type 0 = λ b. are_zeros b ≡ true in
    let Ids : List ℕ → Type 0 = λ b. Hold (ids_checks s.heads.next (place + 1048576) [] slots b) in
    let IdsAre : List ℕ → Type 0 = λ b. ids_of slots b ≡ (found_of s).tables.ids in
    let some = first-id (piece 0 64 old) (front_for s.heads s.tables) p.front p.front_is in
    let later = within.ids in
    record {
      front = front-checked s.heads.next heads within (piece 0 64 old) (piece 0 64 new) start front (omega arith) p.front;
      front_is = front-read s.heads.next heads within (piece 0 64 old) (piece 0 64 new) start front s.tables (tables-of (piece 0 64 old)
          (front_for s.heads s.tables) p.front_is);
      hosts = subst Hosts (sym hosts) p.hosts;
      hosts_are = subst HostsAre (sym hosts) p.hosts_are;
      rows = subst Rows (sym rows) p.rows;
      rows_are = subst RowsAre (sym rows) p.rows_are;
      gap = subst Gap (sym gap) p.gap;
      tables = tables.holds;
      blocks_are = tables.blocks ∙ p.blocks_are;
      marks_are = tables.marks_same ∙ p.marks_are;
      ids_whole = let whole = p.ids_whole in omega (arith, whole, longer);
      ids = ids-later s.heads.next heads.next (place + 1048576) [] slots (piece (place + 1048576) 4096 new) later (subst Ids (sym blocks.ids) p.ids);
      ids_are = subst IdsAre (sym blocks.ids) p.ids_are;
      held_all = held-longer (length old) (length new) (found_of s).tables.marks longer p.held_all;
    }

pub heads-stand : (s : Standing) (heads : Heads) (old new : List ℕ) → Stands old s → AreHeadsWithin s.heads.next heads
    → AgreeBut 8 (heads_bytes heads) s old new → Stands new (with_heads s heads)
heads-stand s heads old new stands within agree =
    let image = parts-of old (found_of s) stands.found in
    let long = image.begins.long in
    let size = length-heads s.heads.next heads within in
    let first = beside 8 (heads_bytes heads) old new long (omega (arith, size)) agree.rows 0 8 (omega arith) (inl (omega arith)) in
    record {
      found = image-of-parts new (found_of (with_heads s heads)) (begins-same old new agree.blocks.no_shorter first image.begins)
          (heads-parts s heads old new long within agree image.parts);
      numbered = stands.numbered;
    }

pub heads-kept : (s : Standing) (heads : Heads) (old new : List ℕ) → AgreeBut 8 (heads_bytes heads) s old new → kept_at new (with_heads s heads)
    ≡ kept_as (kept_at old s).files (kept_at old s).hosts heads
unfolding kept_at kept_as
heads-kept s heads old new agree =
    ap (λ (files : List File). kept_as files s.hosts heads) (same-files old new s.rows agree.blocks.bodies)

-- ---- the row of a host

pub hosts-over : (count host at place : ℕ) (row : HostRow) (bytes : List ℕ) → at ≡ 32 * host → host < count → length bytes ≡ 32 * count
    → IsHostWithin row → Hold (hosts_checks count place bytes) → Hold (hosts_checks count place (overwritten at (host_bytes row) bytes))
unfolding hosts_checks
hosts-over zero host at place row bytes is lt long within hold = absurd (omega arith)
hosts-over (suc count) zero at place row bytes is lt long within hold =
    let part = host_bytes row in
    let new = overwritten at part bytes in
    let P : List ℕ → List ℕ → Type 0 = λ t d. Hold (host_checks place t ++ hosts_checks count (place + 32) d) in
    subst-two P (take 32 new) part (drop 32 new) (drop 32 bytes)
    (take-first 32 at part bytes (omega (arith, is)) (length-host row)) (drop-first 32 at part bytes (omega (arith, is)) (length-host row))
    (hold-append (host_checks place part) (hosts_checks count (place + 32) (drop 32 bytes)) (host-holds place row within)
    (hold-behind (host_checks place (take 32 bytes)) (hosts_checks count (place + 32) (drop 32 bytes)) hold))
hosts-over (suc count) (suc host) at place row bytes is lt long within hold =
    let part = host_bytes row in
    let new = overwritten at part bytes in
    let own = host_checks place (take 32 bytes) in
    let behind = hosts_checks count (place + 32) (drop 32 bytes) in
    let fits : at + length part ≤ length bytes = omega (arith, is, lt, long, length-host row) in
    let P : List ℕ → List ℕ → Type 0 = λ t d. Hold (host_checks place t ++ hosts_checks count (place + 32) d) in
    subst-two P (take 32 new) (take 32 bytes) (drop 32 new) (overwritten (at - 32) part (drop 32 bytes))
    (take-over 32 at part bytes (omega (arith, is)) fits) (drop-over 32 at part bytes (omega (arith, is)) fits)
    (hold-append own (hosts_checks count (place + 32) (overwritten (at - 32) part (drop 32 bytes))) (hold-front own behind hold)
    (hosts-over count host (at - 32) (place + 32) row (drop 32 bytes) (omega (arith, is)) (omega (arith, lt))
    (omega (arith, long, length-drop 32 bytes)) within (hold-behind own behind hold)))

pub hosts-over-are : (count host at : ℕ) (row : HostRow) (bytes : List ℕ) → at ≡ 32 * host → host < count → length bytes ≡ 32 * count
    → IsHostWithin row → hosts_of count (overwritten at (host_bytes row) bytes) ≡ set (hosts_of count bytes) host row
unfolding hosts_of
hosts-over-are zero host at row bytes is lt long within = absurd (omega arith)
hosts-over-are (suc count) zero at row bytes is lt long within =
    let part = host_bytes row in
    ap (λ (t : List ℕ). host_of t ∷ hosts_of count (drop 32 (overwritten at part bytes))) (take-first 32 at part bytes (omega (arith, is)) (length-host row))
    ∙ ap (λ (d : List ℕ). host_of part ∷ hosts_of count d) (drop-first 32 at part bytes (omega (arith, is)) (length-host row))
    ∙ ap (λ (r : HostRow). r ∷ hosts_of count (drop 32 bytes)) (host-is row within)
hosts-over-are (suc count) (suc host) at row bytes is lt long within =
    let part = host_bytes row in
    let fits : at + length part ≤ length bytes = omega (arith, is, lt, long, length-host row) in
    ap (λ (t : List ℕ). host_of t ∷ hosts_of count (drop 32 (overwritten at part bytes))) (take-over 32 at part bytes (omega (arith, is)) fits)
    ∙ ap (λ (d : List ℕ). host_of (take 32 bytes) ∷ hosts_of count d) (drop-over 32 at part bytes (omega (arith, is)) fits)
    ∙ ap (λ (l : List HostRow). host_of (take 32 bytes) ∷ l) (hosts-over-are count host (at - 32) row (drop 32 bytes) (omega (arith, is))
    (omega (arith, lt)) (omega (arith, long, length-drop 32 bytes)) within)

host-parts : (s : Standing) (host : ℕ) (row : HostRow) (old new : List ℕ) → host < 64 → 40960 ≤ length old → IsHostWithin row
    → AgreeBut (64 + 32 * host) (host_bytes row) s old new → HasParts old (found_of s) → HasParts new (found_of (with_host s host row))
host-parts s host row old new lt long within agree p =
    let at = 64 + 32 * host in
    let part = host_bytes row in
    let blocks = same-tables s old new agree.blocks in
    let longer = blocks.no_shorter in
    let place = block_place s.tables in
    let slots = map row_slot s.rows in
    let size = length-host row in
    let fits : at + length part ≤ 28672 = omega (arith, lt, size) in
    let same = beside at part old new long fits agree.rows in
    let front = same 0 64 (omega arith) (inl (omega arith)) in
    let rows = same 2112 24576 (omega arith) (inr (omega (arith, lt, size))) in
    let gap = same 26688 1984 (omega arith) (inr (omega (arith, lt, size))) in
    let e : at - 64 ≡ 32 * host = omega arith in
    let hosts = around at part old new long fits agree.rows 64 2048 (omega arith) (omega arith) (omega (arith, lt, size)) in
    let table = length-piece 64 2048 old (omega arith) in
    let From : ℕ → Type 0 = λ n. SameFrom place n old new in
    let tables = tables-same s.tables place slots (no_marks 16641) old new longer (subst From (sym (all-rows s old p)) blocks.each) p.tables in
    let Front : List ℕ → Type 0 = λ b. Hold (front_checks b) in
    let FrontIs : List ℕ → Type 0 = λ b. front_of b ≡ (found_of s).front in
    let Hosts : List ℕ → Type 0 = λ b. Hold (hosts_checks 64 64 b) in
    let Rows : List ℕ → Type 0 = λ b. Hold (rows_checks Version.Two 256 2112 [] b) in
    let RowsAre : List ℕ → Type 0 = λ b. slots_of 256 b ≡ slots in
    let Gap : List ℕ → Type 0 = λ b. are_zeros b ≡ true in
    let Ids : List ℕ → Type 0 = λ b. Hold (ids_checks s.heads.next (place + 1048576) [] slots b) in
    let IdsAre : List ℕ → Type 0 = λ b. ids_of slots b ≡ (found_of s).tables.ids in
    record {
      front = subst Front (sym front) p.front;
      front_is = subst FrontIs (sym front) p.front_is;
      hosts = subst Hosts (sym hosts) (hosts-over 64 host (at - 64) 64 row (piece 64 2048 old) e lt table within p.hosts);
      hosts_are = ap (λ (b : List ℕ). hosts_of 64 b) hosts
          ∙ hosts-over-are 64 host (at - 64) row (piece 64 2048 old) e lt table within
          ∙ ap (λ (l : List HostRow). set l host row) p.hosts_are;
      rows = subst Rows (sym rows) p.rows;
      rows_are = subst RowsAre (sym rows) p.rows_are;
      gap = subst Gap (sym gap) p.gap;
      tables = tables.holds;
      blocks_are = tables.blocks ∙ p.blocks_are;
      marks_are = tables.marks_same ∙ p.marks_are;
      ids_whole = let whole = p.ids_whole in omega (arith, whole, longer);
      ids = subst Ids (sym blocks.ids) p.ids;
      ids_are = subst IdsAre (sym blocks.ids) p.ids_are;
      held_all = held-longer (length old) (length new) (found_of s).tables.marks longer p.held_all;
    }

pub host-stands : (s : Standing) (host : ℕ) (row : HostRow) (old new : List ℕ) → host < 64 → Stands old s → IsHostWithin row
    → AgreeBut (64 + 32 * host) (host_bytes row) s old new → Stands new (with_host s host row)
host-stands s host row old new lt stands within agree =
    let image = parts-of old (found_of s) stands.found in
    let long = image.begins.long in
    let size = length-host row in
    let first = beside (64 + 32 * host) (host_bytes row) old new long (omega (arith, lt, size)) agree.rows 0 8 (omega arith) (inl (omega arith)) in
    record {
      found = image-of-parts new (found_of (with_host s host row)) (begins-same old new agree.blocks.no_shorter first image.begins)
          (host-parts s host row old new lt long within agree image.parts);
      numbered = stands.numbered;
    }

pub host-kept : (s : Standing) (host : ℕ) (row : HostRow) (old new : List ℕ) → AgreeBut (64 + 32 * host) (host_bytes row) s old new
    → kept_at new (with_host s host row) ≡ with_row (kept_at old s) host row
unfolding kept_at with_row
host-kept s host row old new agree =
    let made : List File → Kept = λ files. record {
      files = files;
      hosts = slice_set s.hosts host row;
      boot = s.heads.boot;
      opened = s.heads.opened;
      longest = s.heads.longest;
      next = s.heads.next;
    } in
    ap made (same-files old new s.rows agree.blocks.bodies)
