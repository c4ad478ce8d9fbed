-- The test of a kept state's bounds.
use Rattle.std.proofs.Common.{◌≡◌, ◌<◌, ◌≤◌, ◌^◌, ℕ, ◌==◌, Bool, true, false, ◌&&◌, List, [], ◌∷◌, Option, Some, None, if◌then◌else◌, length, refl, arith}
use Rattle.std.specs.Bool.{Decides}
use Rattle.std.specs.List.{All, list_all}
use Rattle.std.specs.Prelude.{nat_lt, nat_le, is_none}
use Rattle.std.proofs.lemmas.Bool.Decides.{Decides-and, Decides-by_and, Decides-like, nat_tests}
use Rattle.std.proofs.lemmas.List.{length-replicate}
use Rattle.std.proofs.lemmas.List.Elements.{All-nil, All-replicate}
use Rattle.nq_base.specs.declared.HostRow.{HostRow}
use Rattle.nq_base.specs.Name.{is_name}
use Rattle.nq_base.proofs.NameTests.{name_decides}
use Rattle.nq_keeper.specs.StoredKeeper.{empty_kept, are_apart, are_heads_within, is_body, is_file_within, is_host_within, is_within, told_of}
use Rattle.nq_model.specs.protocol.Change.{AreApart, IsBody, IsFileWithin, IsHostWithin, IsWithinBounds}
use Rattle.nq_model.specs.protocol.Kept.{File, Kept, blocks_of, blocks_in_all, find_name, fresh_row}
use Rattle.nq_model.specs.protocol.Profile.{shortest_term, longest_term, most_hosts, most_files, most_blocks, most_blocks_of_file, most_ids, inc_end, seq_end}
use Rattle.nq_model.specs.protocol.Profile.{rev_end}

none-decides : {X : Type 0} (o : Option X) → Decides (is_none o) (o ≡ None)
none-decides None = (λ e. refl, λ e. refl)
none-decides (Some x) = (λ e. cc, λ e. cc)

lt-decides : (m n : ℕ) → Decides (nat_lt m n) (m < n)
lt-decides m n = grind (arith, nat_tests)

le-decides : (m n : ℕ) → Decides (nat_le m n) (m ≤ n)
le-decides m n = grind (arith, nat_tests)

eq-decides : (m n : ℕ) → Decides (m == n) (m ≡ n)
eq-decides m n = grind (arith, nat_tests)

-- a test of each
each-decides : {X : Type 0} (p : X → Bool) (P : X → Type 0) → ((x : X) → Decides (p x) (P x)) → (xs : List X) → Decides (list_all p xs) (All P xs)
each-decides p P each xs = Decides-by_and p P (list_all p) each refl (λ _ _. refl) xs

apart-decides : (files : List File) → Decides (are_apart files) (AreApart files)
apart-decides [] = (λ e. tt, λ e. refl)
apart-decides (file ∷ files) =
    Decides-like (are_apart (file ∷ files)) (λ h. (h.0.0, h.0.1, h.1)) (λ h. ((h.0, h.1), h.2))
    (Decides-and _ (are_apart files)
    (Decides-and (list_all (λ later. nat_lt file.id later.id) files) (is_none (find_name file.name files))
    (each-decides (λ later. nat_lt file.id later.id) (λ later. file.id < later.id) (λ later. lt-decides file.id later.id) files)
    (none-decides (find_name file.name files)))
    (apart-decides files))

body-decides : (body : List ℕ) → Decides (is_body body) (IsBody body)
body-decides body =
    Decides-like (is_body body) (λ h. record { size = h.0; bytes = h.1 }) (λ h. (h.size, h.bytes))
    (Decides-and (length body == 4096) (list_all (λ byte. nat_lt byte 256) body) (eq-decides (length body) 4096)
    (each-decides (λ byte. nat_lt byte 256) (λ byte. byte < 256) (λ byte. lt-decides byte 256) body))

-- tests, one behind the other
three : {A B C : Type 0} (a b c : Bool) → Decides a A → Decides b B → Decides c C → Decides (a && b && c) (A × B × C)
three a b c p q r = Decides-like (a && b && c) (λ h. (h.0.0, h.0.1, h.1)) (λ h. ((h.0, h.1), h.2)) (Decides-and (a && b) c (Decides-and a b p q) r)

four : {A B C D : Type 0} (a b c d : Bool) → Decides a A → Decides b B → Decides c C → Decides d D → Decides (a && b && c && d) (A × B × C × D)
four a b c d p q r s = Decides-like (a && b && c && d) (λ h. (h.0.0, h.0.1, h.0.2, h.1)) (λ h. ((h.0, h.1, h.2), h.3)) (Decides-and (a && b && c) d
    (three a b c p q r) s)

six : {A B C D E F : Type 0} (a b c d e f : Bool) → Decides a A → Decides b B → Decides c C → Decides d D → Decides e E → Decides f F
    → Decides (a && b && c && d && e && f) (A × B × C × D × E × F)
six a b c d e f p q r s t u =
    Decides-like (a && b && c && d && e && f) (λ h. (h.0.0, h.0.1, h.0.2, h.1, h.2, h.3)) (λ h. ((h.0, h.1, h.2), h.3, h.4, h.5))
    (four (a && b && c) d e f (three a b c p q r) s t u)

seven : {A B C D E F G : Type 0} (a b c d e f g : Bool) → Decides a A → Decides b B → Decides c C → Decides d D → Decides e E → Decides f F
    → Decides g G → Decides (a && b && c && d && e && f && g) (A × B × C × D × E × F × G)
seven a b c d e f g p q r s t u v =
    Decides-like (a && b && c && d && e && f && g) (λ h. (h.0.0, h.0.1, h.0.2, h.0.3, h.0.4, h.0.5, h.1)) (λ h. ((h.0, h.1, h.2, h.3, h.4, h.5), h.6))
    (Decides-and (a && b && c && d && e && f) g (six a b c d e f p q r s t u) v)

file-decides : (next : ℕ) (file : File) → Decides (is_file_within next file) (IsFileWithin next file)
file-decides next file =
    Decides-like (is_file_within next file)
    (λ h. record { from_one = h.0; below_next = h.1; name = h.2; rev = h.3; not_empty = h.4; short = h.5; bodies = h.6 })
    (λ h. (h.from_one, h.below_next, h.name, h.rev, h.not_empty, h.short, h.bodies))
    (seven (nat_le 1 file.id) (nat_lt file.id next) (is_name file.name) (nat_lt file.rev rev_end) (nat_le 1 (blocks_of file))
    (nat_le (blocks_of file) most_blocks_of_file) (list_all is_body file.bodies)
    (le-decides 1 file.id) (lt-decides file.id next) (name_decides file.name) (lt-decides file.rev rev_end) (le-decides 1 (blocks_of file))
    (le-decides (blocks_of file) most_blocks_of_file)
    (each-decides is_body IsBody body-decides file.bodies))

host-decides : (row : HostRow) → Decides (is_host_within row) (IsHostWithin row)
host-decides row =
    Decides-like (is_host_within row) (λ h. record { inc = h.0; seq = h.1; value = h.2 }) (λ h. (h.inc, h.seq, h.value))
    (three (nat_lt row.inc inc_end) (nat_lt row.seq seq_end) (nat_lt row.value (2 ^ 64)) (lt-decides row.inc inc_end) (lt-decides row.seq seq_end)
    (lt-decides row.value (2 ^ 64)))

-- the server's numbers are within their bounds
record AreNumbersWithin (kept : Kept) : Type 0 where
  opened : kept.opened ≤ kept.boot
  boot : kept.boot < 2 ^ 31
  long : shortest_term ≤ kept.longest
  short : kept.longest ≤ longest_term
  ids : 1 ≤ kept.next
  few_ids : kept.next ≤ most_ids

heads-decide : (kept : Kept) → Decides (are_heads_within kept) (AreNumbersWithin kept)
heads-decide kept =
    Decides-like (are_heads_within kept) (λ h. record { opened = h.0; boot = h.1; long = h.2; short = h.3; ids = h.4; few_ids = h.5 })
    (λ h. (h.opened, h.boot, h.long, h.short, h.ids, h.few_ids))
    (six (nat_le kept.opened kept.boot) (nat_lt kept.boot (2 ^ 31)) (nat_le shortest_term kept.longest) (nat_le kept.longest longest_term)
    (nat_le 1 kept.next) (nat_le kept.next most_ids)
    (le-decides kept.opened kept.boot) (lt-decides kept.boot (2 ^ 31)) (le-decides shortest_term kept.longest) (le-decides kept.longest longest_term)
    (le-decides 1 kept.next) (le-decides kept.next most_ids))

pub within-decides : (kept : Kept) → Decides (is_within kept) (IsWithinBounds kept)
unfolding is_within
within-decides kept =
    Decides-like _
    (λ h. record {
      files = h.0;
      apart = h.1;
      few_files = h.2;
      few_blocks = h.3;
      hosts = h.4;
      all_hosts = h.5;
      opened = h.6.opened;
      boot = h.6.boot;
      long = h.6.long;
      short = h.6.short;
      ids = h.6.ids;
      few_ids = h.6.few_ids;
    })
    (λ h. (
      h.files,
      h.apart,
      h.few_files,
      h.few_blocks,
      h.hosts,
      h.all_hosts,
      record {
        opened = h.opened;
        boot = h.boot;
        long = h.long;
        short =
            h.short;
        ids = h.ids;
        few_ids = h.few_ids;
      },
    ))
    (seven (list_all (is_file_within kept.next) kept.files) (are_apart kept.files) (nat_le (length kept.files) most_files)
    (nat_le (blocks_in_all kept.files) most_blocks) (list_all is_host_within kept.hosts) (length kept.hosts == most_hosts) (are_heads_within kept)
    (each-decides (is_file_within kept.next) (IsFileWithin kept.next) (file-decides kept.next) kept.files) (apart-decides kept.files)
    (le-decides (length kept.files) most_files) (le-decides (blocks_in_all kept.files) most_blocks)
    (each-decides is_host_within IsHostWithin host-decides kept.hosts) (eq-decides (length kept.hosts) most_hosts) (heads-decide kept))

-- the empty kept state is within its bounds
pub empty-within : IsWithinBounds empty_kept
empty-within = record {
  files = All-nil _;
  apart = tt;
  few_files = omega arith;
  few_blocks = omega arith;
  hosts = All-replicate IsHostWithin most_hosts fresh_row (record { inc = omega arith; seq = omega arith; value = omega arith });
  all_hosts = length-replicate most_hosts fresh_row;
  opened = omega arith;
  boot = omega arith;
  long = omega arith;
  short = omega arith;
  ids = omega arith;
  few_ids = omega arith;
}

-- what is within its bounds is told as it is
pub told-kept : (kept : Kept) → IsWithinBounds kept → told_of kept ≡ kept
unfolding told_of
told-kept kept within = rw ((within-decides kept).1 within) refl

-- whatever is told is within its bounds
pub told-within : (kept : Kept) → IsWithinBounds (told_of kept)
unfolding told_of
told-within kept = by (is_within kept) refl
  where
    by : (b : Bool) → is_within kept ≡ b → IsWithinBounds (if b then kept else empty_kept)
    by true e = (within-decides kept).0 e
    by false e = empty-within
