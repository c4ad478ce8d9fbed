-- Walks over the rows of an image, one row at a time.
use Rattle.std.proofs.Common.{◌≡◌, ◌<◌, ◌≤◌, ◌+◌, ◌-◌, ℕ, suc, nat_le, Bool, true, false, List, [], ◌∷◌, ◌++◌, Option, Result, Ok, Err, take, drop}
use Rattle.std.proofs.Common.{get_or, length, if◌then◌else◌, refl, sym, subst, ◌∙◌, arith}
use Rattle.std.proofs.lemmas.List.{append_assoc, append-nil, length-drop}
use Rattle.std.proofs.lemmas.List.Sums.{sum_by-append}
use Rattle.std.specs.List.{sum_by, All}
use Rattle.std.proofs.lemmas.Bool.Decides.{nat_tests}
use Rattle.std.proofs.Math.Seq.{drop-cons}
use Rattle.nq_base.specs.declared.HostRow.{HostRow}
use Rattle.nq_image.specs.Check.{tested}
use Rattle.nq_image.specs.Hosts.{host_checks, host_of, hosts_checks, hosts_of}
use Rattle.nq_image.specs.Layout.{piece, word_in, are_zeros}
use Rattle.nq_image.specs.Rows.{blocks_of, row_checks, rows_checks, slot_of, slots_of}
use Rattle.nq_image.specs.Tables.{is_entry, marked, marks_behind, table_checks, table_of, is_id, ids_checks, ids_of, slot_checks, slot_table}
use Rattle.nq_image.specs.Tables.{slot_marks, tables_checks, tables_blocks, tables_marks}
use Rattle.nq_image.specs.declared.fault.ImageFault.{ImageFault}
use Rattle.nq_image.specs.declared.fault.ImageFault.TheVariants.{NotAnImage, BadField, Memory}
use Rattle.nq_image.specs.declared.rows.Slot.{Slot}
use Rattle.nq_image.specs.declared.rows.Version.{Version}
use Rattle.nq_image.specs.Reading.{Reads}
use Rattle.nq_image.proofs.Checks.{passes, fails, tested-value}

pub one-less : (count i : ℕ) → i < count → count - i ≡ suc (count - (i + 1))
one-less count i lt = omega arith

-- a host row that is right leaves the answer to those behind it
pub host-passes : (count i at : ℕ) (hosts : List HostRow) (rest : List ℕ) (row : HostRow) (whole : Result (List HostRow) ℕ) → i < count
    → tested (host_checks at (take 32 rest)) (host_of (take 32 rest)) ≡ Ok row → tested (hosts_checks (count - i) at rest)
    (hosts ++ hosts_of (count - i) rest) ≡ whole → tested (hosts_checks (count - (i + 1)) (at + 32) (drop 32 rest)) ((hosts ++ row ∷ [])
    ++ hosts_of (count - (i + 1)) (drop 32 rest)) ≡ whole
unfolding hosts_checks hosts_of
host-passes count i at hosts rest row whole lt right same =
    let n = count - (i + 1) in
    let behind = drop 32 rest in
    let own = host_of (take 32 rest) in
    let P : ℕ → Type 0 = λ m. tested (hosts_checks m at rest) (hosts ++ hosts_of m rest) ≡ whole in
    let s = subst P (one-less count i lt) same in
    let p = sym (passes (host_checks at (take 32 rest)) (hosts_checks n (at + 32) behind) own row (hosts ++ own ∷ hosts_of n behind) right) ∙ s in
    let R : List HostRow → Type 0 = λ v. tested (hosts_checks n (at + 32) behind) v ≡ whole in
    let Q : HostRow → Type 0 = λ o. tested (hosts_checks n (at + 32) behind) ((hosts ++ o ∷ []) ++ hosts_of n behind) ≡ whole in
    subst Q (tested-value (host_checks at (take 32 rest)) own row right) (subst R (sym (append_assoc hosts (own ∷ []) (hosts_of n behind))) p)

-- one that is wrong is the answer
pub host-fails : (count i at : ℕ) (hosts : List HostRow) (rest : List ℕ) (p : ℕ) (whole : Result (List HostRow) ℕ) → i < count
    → tested (host_checks at (take 32 rest)) (host_of (take 32 rest)) ≡ Err p → tested (hosts_checks (count - i) at rest)
    (hosts ++ hosts_of (count - i) rest) ≡ whole → Err p ≡ whole
unfolding hosts_checks hosts_of
host-fails count i at hosts rest p whole lt wrong same =
    let n = count - (i + 1) in
    let behind = drop 32 rest in
    let own = host_of (take 32 rest) in
    let P : ℕ → Type 0 = λ m. tested (hosts_checks m at rest) (hosts ++ hosts_of m rest) ≡ whole in
    sym (fails (host_checks at (take 32 rest)) (hosts_checks n (at + 32) behind) own (hosts ++ own ∷ hosts_of n behind) p wrong)
    ∙ subst P (one-less count i lt) same

-- behind the last row no field is wrong
pub no-host-left : (count i at : ℕ) (hosts : List HostRow) (rest : List ℕ) (whole : Result (List HostRow) ℕ) → count ≤ i
    → tested (hosts_checks (count - i) at rest) (hosts ++ hosts_of (count - i) rest) ≡ whole → whole ≡ Ok hosts
unfolding hosts_checks hosts_of
no-host-left count i at hosts rest whole le same =
    let P : ℕ → Type 0 = λ m. tested (hosts_checks m at rest) (hosts ++ hosts_of m rest) ≡ whole in
    let none : count - i ≡ 0 = omega arith in
    let s : Ok (hosts ++ []) ≡ whole = subst P none same in
    let Q : List HostRow → Type 0 = λ v. whole ≡ Ok v in
    subst Q (append-nil hosts) (sym s)

-- ---- answers

pub reads-wrong : {X Y : Type 0} (view : X → Y) (answer : Result X ImageFault) (p : ℕ) (told : Result Y ℕ) → answer ≡ Err (BadField p) → Err p ≡ told
    → Reads view answer told
reads-wrong view answer p told is same = let P : Result _ ImageFault → Type 0 = λ a. Reads view a told in subst P (sym is) (sym same)

pub reads-nothing : {X Y : Type 0} (view : X → Y) (answer : Result X ImageFault) (told : Result Y ℕ) → answer ≡ Err Memory → Reads view answer told
reads-nothing view answer told is = let P : Result _ ImageFault → Type 0 = λ a. Reads view a told in subst P (sym is) tt

pub reads-on : {X Y Z W : Type 0} (first : X → Y) (second : Z → W) (answer : Result Z ImageFault) (fault : ImageFault) (told : Result Y ℕ)
    (whole : Result W ℕ) → answer ≡ Err fault → Reads first (Err fault) told → ((p : ℕ) → told ≡ Err p → Err p ≡ whole) → Reads second answer whole
reads-on first second answer NotAnImage told whole is read on = absurd read
reads-on first second answer (BadField p) told whole is read on = reads-wrong second answer p whole is (on p read)
reads-on first second answer Memory told whole is read on = reads-nothing second answer whole is

pub then-true : {X : Type 0} (b : Bool) (x y z : X) → b ≡ true → (if b then x else y) ≡ z → x ≡ z
then-true true x y z e h = h
then-true false x y z e h = cc

pub then-false : {X : Type 0} (b : Bool) (x y z : X) → b ≡ false → (if b then x else y) ≡ z → y ≡ z
then-false true x y z e h = cc
then-false false x y z e h = h

-- ---- rows of files

pub row-passes : (version : Version) (count i at : ℕ) (slots : List (Option Slot)) (rest : List ℕ) (slot : Option Slot)
    (whole : Result (List (Option Slot)) ℕ) → i < count → tested (row_checks version at slots (take 96 rest)) (slot_of (take 96 rest)) ≡ Ok slot
    → tested (rows_checks version (count - i) at slots rest) (slots ++ slots_of (count - i) rest) ≡ whole
    → tested (rows_checks version (count - (i + 1)) (at + 96) (slots ++ slot ∷ []) (drop 96 rest)) ((slots ++ slot ∷ []) ++ slots_of (count - (i + 1))
    (drop 96 rest)) ≡ whole
unfolding rows_checks slots_of
row-passes version count i at slots rest slot whole lt right same =
    let n = count - (i + 1) in
    let behind = drop 96 rest in
    let own = slot_of (take 96 rest) in
    let P : ℕ → Type 0 = λ m. tested (rows_checks version m at slots rest) (slots ++ slots_of m rest) ≡ whole in
    let s = subst P (one-less count i lt) same in
    let p = sym (passes (row_checks version at slots (take 96 rest)) (rows_checks version n (at + 96) (slots ++ own ∷ []) behind) own slot
    (slots ++ own ∷ slots_of n behind) right) ∙ s in
    let R : List (Option Slot) → Type 0 = λ v. tested (rows_checks version n (at + 96) (slots ++ own ∷ []) behind) v ≡ whole in
    let Q : Option Slot → Type 0 = λ o. tested (rows_checks version n (at + 96) (slots ++ o ∷ []) behind) ((slots ++ o ∷ []) ++ slots_of n behind) ≡ whole in
    subst Q (tested-value (row_checks version at slots (take 96 rest)) own slot right) (subst R (sym (append_assoc slots (own ∷ []) (slots_of n behind))) p)

pub row-fails : (version : Version) (count i at : ℕ) (slots : List (Option Slot)) (rest : List ℕ) (p : ℕ) (whole : Result (List (Option Slot)) ℕ)
    → i < count → tested (row_checks version at slots (take 96 rest)) (slot_of (take 96 rest)) ≡ Err p
    → tested (rows_checks version (count - i) at slots rest) (slots ++ slots_of (count - i) rest) ≡ whole → Err p ≡ whole
unfolding rows_checks slots_of
row-fails version count i at slots rest p whole lt wrong same =
    let n = count - (i + 1) in
    let behind = drop 96 rest in
    let own = slot_of (take 96 rest) in
    let P : ℕ → Type 0 = λ m. tested (rows_checks version m at slots rest) (slots ++ slots_of m rest) ≡ whole in
    sym (fails (row_checks version at slots (take 96 rest)) (rows_checks version n (at + 96) (slots ++ own ∷ []) behind) own (slots ++ own
    ∷ slots_of n behind) p wrong) ∙ subst P (one-less count i lt) same

pub no-row-left : (version : Version) (count i at : ℕ) (slots : List (Option Slot)) (rest : List ℕ) (whole : Result (List (Option Slot)) ℕ)
    → count ≤ i → tested (rows_checks version (count - i) at slots rest) (slots ++ slots_of (count - i) rest) ≡ whole → whole ≡ Ok slots
unfolding rows_checks slots_of
no-row-left version count i at slots rest whole le same =
    let P : ℕ → Type 0 = λ m. tested (rows_checks version m at slots rest) (slots ++ slots_of m rest) ≡ whole in
    let none : count - i ≡ 0 = omega arith in
    let s : Ok (slots ++ []) ≡ whole = subst P none same in
    let Q : List (Option Slot) → Type 0 = λ v. whole ≡ Ok v in
    subst Q (append-nil slots) (sym s)

pub few-more : (slots : List (Option Slot)) (slot : Option Slot) → sum_by blocks_of slots + blocks_of slot ≤ 16384
    → sum_by blocks_of (slots ++ slot ∷ []) ≤ 16384
few-more slots slot few = omega (arith, sum_by-append blocks_of slots (slot ∷ []))

-- ---- entries of tables

pub entry-passes : (count i tables at : ℕ) (marks : List Bool) (rest blocks : List ℕ) (whole : Result (List ℕ) ℕ) → i < count → is_entry tables marks
    (word_in 0 rest) ≡ true → tested (table_checks (count - i) tables at marks rest) (blocks ++ table_of (count - i) rest) ≡ whole
    → tested (table_checks (count - (i + 1)) tables (at + 4) (marked marks (word_in 0 rest)) (drop 4 rest)) ((blocks ++ (word_in 0 rest - 1) ∷ [])
    ++ table_of (count - (i + 1)) (drop 4 rest)) ≡ whole
unfolding table_checks table_of
entry-passes count i tables at marks rest blocks whole lt right same =
    let n = count - (i + 1) in
    let own = word_in 0 rest - 1 in
    let P : ℕ → Type 0 = λ m. tested (table_checks m tables at marks rest) (blocks ++ table_of m rest) ≡ whole in
    let s = subst P (one-less count i lt) same in
    let behind = table_checks n tables (at + 4) (marked marks (word_in 0 rest)) (drop 4 rest) in
    let R : List ℕ → Type 0 = λ v. tested behind v ≡ whole in
    subst R (sym (append_assoc blocks (own ∷ []) (table_of n (drop 4 rest))))
    (then-true (is_entry tables marks (word_in 0 rest)) (tested behind (blocks ++ own ∷ table_of n (drop 4 rest))) (Err at) whole right s)

pub entry-fails : (count i tables at : ℕ) (marks : List Bool) (rest blocks : List ℕ) (whole : Result (List ℕ) ℕ) → i < count → is_entry tables marks
    (word_in 0 rest) ≡ false → tested (table_checks (count - i) tables at marks rest) (blocks ++ table_of (count - i) rest) ≡ whole → Err at ≡ whole
unfolding table_checks table_of
entry-fails count i tables at marks rest blocks whole lt wrong same =
    let n = count - (i + 1) in
    let own = word_in 0 rest - 1 in
    let P : ℕ → Type 0 = λ m. tested (table_checks m tables at marks rest) (blocks ++ table_of m rest) ≡ whole in
    let s = subst P (one-less count i lt) same in
    then-false (is_entry tables marks (word_in 0 rest)) (tested (table_checks n tables (at + 4) (marked marks (word_in 0 rest)) (drop 4 rest))
    (blocks ++ own ∷ table_of n (drop 4 rest))) (Err at) whole wrong s

pub marks-pass : (count i : ℕ) (marks : List Bool) (rest : List ℕ) (last : List Bool) → i < count → marks_behind (count - i) marks rest ≡ last
    → marks_behind (count - (i + 1)) (marked marks (word_in 0 rest)) (drop 4 rest) ≡ last
unfolding marks_behind
marks-pass count i marks rest last lt same =
    let P : ℕ → Type 0 = λ m. marks_behind m marks rest ≡ last in
    subst P (one-less count i lt) same

pub no-entry-left : (count i tables at : ℕ) (marks : List Bool) (rest blocks : List ℕ) (whole : Result (List ℕ) ℕ) → count ≤ i → are_zeros rest ≡ true
    → tested (table_checks (count - i) tables at marks rest) (blocks ++ table_of (count - i) rest) ≡ whole → whole ≡ Ok blocks
unfolding table_checks table_of
no-entry-left count i tables at marks rest blocks whole le zeros same =
    let P : ℕ → Type 0 = λ m. tested (table_checks m tables at marks rest) (blocks ++ table_of m rest) ≡ whole in
    let none : count - i ≡ 0 = omega arith in
    let s = then-true (are_zeros rest) (Ok (blocks ++ [])) (Err at) whole zeros (subst P none same) in
    let Q : List ℕ → Type 0 = λ v. whole ≡ Ok v in
    subst Q (append-nil blocks) (sym s)

pub rest-is-wrong : (count i tables at : ℕ) (marks : List Bool) (rest blocks : List ℕ) (whole : Result (List ℕ) ℕ) → count ≤ i → are_zeros rest
    ≡ false → tested (table_checks (count - i) tables at marks rest) (blocks ++ table_of (count - i) rest) ≡ whole → whole ≡ Err at
unfolding table_checks table_of
rest-is-wrong count i tables at marks rest blocks whole le wrong same =
    let P : ℕ → Type 0 = λ m. tested (table_checks m tables at marks rest) (blocks ++ table_of m rest) ≡ whole in
    let none : count - i ≡ 0 = omega arith in
    sym (then-false (are_zeros rest) (Ok (blocks ++ [])) (Err at) whole wrong (subst P none same))

pub no-mark-left : (count i : ℕ) (marks : List Bool) (rest : List ℕ) (last : List Bool) → count ≤ i → marks_behind (count - i) marks rest ≡ last → marks ≡ last
unfolding marks_behind
no-mark-left count i marks rest last le same =
    let P : ℕ → Type 0 = λ m. marks_behind m marks rest ≡ last in
    let none : count - i ≡ 0 = omega arith in
    subst P none same

-- ---- ids

pub one-more : {X : Type 0} (xs : List X) (i : ℕ) (x : X) → i < length xs → x ≡ get_or xs i x → drop i xs ≡ x ∷ drop (i + 1) xs
one-more xs i x lt is =
    let e : drop i xs ≡ get_or xs i x ∷ drop (suc i) xs = drop-cons xs i x lt in
    let f : suc i ≡ i + 1 = omega arith in
    cc

pub id-passes : (next at i : ℕ) (ids rest : List ℕ) (slots : List (Option Slot)) (slot : Option Slot) (whole : Result (List ℕ) ℕ) → i < length slots
    → slot ≡ get_or slots i slot → is_id next ids slot (word_in 0 rest) ≡ true → tested (ids_checks next at ids (drop i slots) rest)
    (ids ++ ids_of (drop i slots) rest) ≡ whole → tested (ids_checks next (at + 4) (ids ++ word_in 0 rest ∷ []) (drop (i + 1) slots) (drop 4 rest))
    ((ids ++ word_in 0 rest ∷ []) ++ ids_of (drop (i + 1) slots) (drop 4 rest)) ≡ whole
unfolding ids_checks ids_of
id-passes next at i ids rest slots slot whole lt is right same =
    let P : List (Option Slot) → Type 0 = λ left. tested (ids_checks next at ids left rest) (ids ++ ids_of left rest) ≡ whole in
    let s = subst P (one-more slots i slot lt is) same in
    let behind = ids_checks next (at + 4) (ids ++ word_in 0 rest ∷ []) (drop (i + 1) slots) (drop 4 rest) in
    let R : List ℕ → Type 0 = λ v. tested behind v ≡ whole in
    subst R (sym (append_assoc ids (word_in 0 rest ∷ []) (ids_of (drop (i + 1) slots) (drop 4 rest))))
    (then-true (is_id next ids slot (word_in 0 rest)) (tested behind (ids ++ word_in 0 rest ∷ ids_of (drop (i + 1) slots) (drop 4 rest))) (Err at)
    whole right s)

pub id-fails : (next at i : ℕ) (ids rest : List ℕ) (slots : List (Option Slot)) (slot : Option Slot) (whole : Result (List ℕ) ℕ) → i < length slots
    → slot ≡ get_or slots i slot → is_id next ids slot (word_in 0 rest) ≡ false → tested (ids_checks next at ids (drop i slots) rest)
    (ids ++ ids_of (drop i slots) rest) ≡ whole → whole ≡ Err at
unfolding ids_checks ids_of
id-fails next at i ids rest slots slot whole lt is wrong same =
    let P : List (Option Slot) → Type 0 = λ left. tested (ids_checks next at ids left rest) (ids ++ ids_of left rest) ≡ whole in
    let s = subst P (one-more slots i slot lt is) same in
    let behind = ids_checks next (at + 4) (ids ++ word_in 0 rest ∷ []) (drop (i + 1) slots) (drop 4 rest) in
    sym (then-false (is_id next ids slot (word_in 0 rest)) (tested behind (ids ++ word_in 0 rest ∷ ids_of (drop (i + 1) slots) (drop 4 rest)))
    (Err at) whole wrong s)

length-zero : {X : Type 0} (xs : List X) → length xs ≡ 0 → xs ≡ []
length-zero [] e = refl
length-zero (x ∷ xs) e = absurd (omega arith)

pub drop-all : {X : Type 0} (xs : List X) (i : ℕ) → length xs ≤ i → drop i xs ≡ []
drop-all xs i le = length-zero (drop i xs) (omega (arith, length-drop i xs))

pub no-id-left : (next at i : ℕ) (ids rest : List ℕ) (slots : List (Option Slot)) (whole : Result (List ℕ) ℕ) → length slots ≤ i → are_zeros rest
    ≡ true → tested (ids_checks next at ids (drop i slots) rest) (ids ++ ids_of (drop i slots) rest) ≡ whole → whole ≡ Ok ids
unfolding ids_checks ids_of
no-id-left next at i ids rest slots whole le zeros same =
    let P : List (Option Slot) → Type 0 = λ left. tested (ids_checks next at ids left rest) (ids ++ ids_of left rest) ≡ whole in
    let s = then-true (are_zeros rest) (Ok (ids ++ [])) (Err at) whole zeros (subst P (drop-all slots i le) same) in
    let Q : List ℕ → Type 0 = λ v. whole ≡ Ok v in
    subst Q (append-nil ids) (sym s)

pub rest-behind-ids : (next at i : ℕ) (ids rest : List ℕ) (slots : List (Option Slot)) (whole : Result (List ℕ) ℕ) → length slots ≤ i → are_zeros rest
    ≡ false → tested (ids_checks next at ids (drop i slots) rest) (ids ++ ids_of (drop i slots) rest) ≡ whole → whole ≡ Err at
unfolding ids_checks ids_of
rest-behind-ids next at i ids rest slots whole le wrong same =
    let P : List (Option Slot) → Type 0 = λ left. tested (ids_checks next at ids left rest) (ids ++ ids_of left rest) ≡ whole in
    sym (then-false (are_zeros rest) (Ok (ids ++ [])) (Err at) whole wrong (subst P (drop-all slots i le) same))

-- ---- tables

same-blocks : (given own found behind : List ℕ) → found ≡ own → given ++ (found ++ behind) ≡ (given ++ own) ++ behind
same-blocks given own found behind e = rw e (sym (append_assoc given own behind))

pub table-passes : (tables at i : ℕ) (slots : List (Option Slot)) (slot : Option Slot) (marks : List Bool) (bytes given own : List ℕ)
    (whole : Result (List ℕ) ℕ) → i < length slots → slot ≡ get_or slots i slot → nat_le (at + 4096) (length bytes) ≡ true
    → tested (slot_checks tables at slot marks (piece at 4096 bytes)) (slot_table slot (piece at 4096 bytes)) ≡ Ok own
    → tested (tables_checks tables at (drop i slots) marks bytes) (given ++ tables_blocks at (drop i slots) bytes) ≡ whole
    → tested (tables_checks tables (at + 4096) (drop (i + 1) slots) (slot_marks slot marks (piece at 4096 bytes)) bytes) ((given ++ own)
    ++ tables_blocks (at + 4096) (drop (i + 1) slots) bytes) ≡ whole
unfolding tables_checks tables_blocks
table-passes tables at i slots slot marks bytes given own whole lt is held right same =
    let P : List (Option Slot) → Type 0 = λ left. tested (tables_checks tables at left marks bytes) (given ++ tables_blocks at left bytes) ≡ whole in
    let s = subst P (one-more slots i slot lt is) same in
    let found = slot_table slot (piece at 4096 bytes) in
    let front = slot_checks tables at slot marks (piece at 4096 bytes) in
    let behind = tables_checks tables (at + 4096) (drop (i + 1) slots) (slot_marks slot marks (piece at 4096 bytes)) bytes in
    let last = tables_blocks (at + 4096) (drop (i + 1) slots) bytes in
    let value = given ++ (found ++ last) in
    let t = then-true (nat_le (at + 4096) (length bytes)) (tested (front ++ behind) value) (Err at) whole held s in
    let R : List ℕ → Type 0 = λ v. tested behind v ≡ whole in
    subst R (same-blocks given own found last (tested-value front found own right)) (sym (passes front behind found own value right) ∙ t)

pub table-fails : (tables at i : ℕ) (slots : List (Option Slot)) (slot : Option Slot) (marks : List Bool) (bytes given : List ℕ) (p : ℕ)
    (whole : Result (List ℕ) ℕ) → i < length slots → slot ≡ get_or slots i slot → nat_le (at + 4096) (length bytes) ≡ true
    → tested (slot_checks tables at slot marks (piece at 4096 bytes)) (slot_table slot (piece at 4096 bytes)) ≡ Err p
    → tested (tables_checks tables at (drop i slots) marks bytes) (given ++ tables_blocks at (drop i slots) bytes) ≡ whole → Err p ≡ whole
unfolding tables_checks tables_blocks
table-fails tables at i slots slot marks bytes given p whole lt is held wrong same =
    let P : List (Option Slot) → Type 0 = λ left. tested (tables_checks tables at left marks bytes) (given ++ tables_blocks at left bytes) ≡ whole in
    let s = subst P (one-more slots i slot lt is) same in
    let found = slot_table slot (piece at 4096 bytes) in
    let front = slot_checks tables at slot marks (piece at 4096 bytes) in
    let behind = tables_checks tables (at + 4096) (drop (i + 1) slots) (slot_marks slot marks (piece at 4096 bytes)) bytes in
    let value = given ++ (found ++ tables_blocks (at + 4096) (drop (i + 1) slots) bytes) in
    sym (fails front behind found value p wrong) ∙ then-true (nat_le (at + 4096) (length bytes)) (tested (front ++ behind) value) (Err at) whole held s

pub table-is-missing : (tables at i : ℕ) (slots : List (Option Slot)) (slot : Option Slot) (marks : List Bool) (bytes given : List ℕ)
    (whole : Result (List ℕ) ℕ) → i < length slots → slot ≡ get_or slots i slot → nat_le (at + 4096) (length bytes) ≡ false
    → tested (tables_checks tables at (drop i slots) marks bytes) (given ++ tables_blocks at (drop i slots) bytes) ≡ whole → whole ≡ Err at
unfolding tables_checks tables_blocks
table-is-missing tables at i slots slot marks bytes given whole lt is missing same =
    let P : List (Option Slot) → Type 0 = λ left. tested (tables_checks tables at left marks bytes) (given ++ tables_blocks at left bytes) ≡ whole in
    let s = subst P (one-more slots i slot lt is) same in
    let found = slot_table slot (piece at 4096 bytes) in
    let front = slot_checks tables at slot marks (piece at 4096 bytes) in
    let behind = tables_checks tables (at + 4096) (drop (i + 1) slots) (slot_marks slot marks (piece at 4096 bytes)) bytes in
    let value = given ++ (found ++ tables_blocks (at + 4096) (drop (i + 1) slots) bytes) in
    sym (then-false (nat_le (at + 4096) (length bytes)) (tested (front ++ behind) value) (Err at) whole missing s)

pub table-marks : (at i : ℕ) (slots : List (Option Slot)) (slot : Option Slot) (marks : List Bool) (bytes : List ℕ) (last : List Bool)
    → i < length slots → slot ≡ get_or slots i slot → tables_marks at (drop i slots) marks bytes ≡ last → tables_marks (at + 4096)
    (drop (i + 1) slots) (slot_marks slot marks (piece at 4096 bytes)) bytes ≡ last
unfolding tables_marks
table-marks at i slots slot marks bytes last lt is same =
    let P : List (Option Slot) → Type 0 = λ left. tables_marks at left marks bytes ≡ last in
    subst P (one-more slots i slot lt is) same

pub no-table-left : (tables at i : ℕ) (slots : List (Option Slot)) (marks : List Bool) (bytes given : List ℕ) (whole : Result (List ℕ) ℕ)
    → length slots ≤ i → tested (tables_checks tables at (drop i slots) marks bytes) (given ++ tables_blocks at (drop i slots) bytes) ≡ whole
    → whole ≡ Ok given
unfolding tables_checks tables_blocks
no-table-left tables at i slots marks bytes given whole le same =
    let P : List (Option Slot) → Type 0 = λ left. tested (tables_checks tables at left marks bytes) (given ++ tables_blocks at left bytes) ≡ whole in
    let s : Ok (given ++ []) ≡ whole = subst P (drop-all slots i le) same in
    let Q : List ℕ → Type 0 = λ v. whole ≡ Ok v in
    subst Q (append-nil given) (sym s)

pub no-marks-left : (at i : ℕ) (slots : List (Option Slot)) (marks : List Bool) (bytes : List ℕ) (last : List Bool) → length slots ≤ i
    → tables_marks at (drop i slots) marks bytes ≡ last → marks ≡ last
unfolding tables_marks
no-marks-left at i slots marks bytes last le same =
    let P : List (Option Slot) → Type 0 = λ left. tables_marks at left marks bytes ≡ last in
    subst P (drop-all slots i le) same

pub slot-is-short : (slots : List (Option Slot)) (i : ℕ) (slot : Option Slot) → i < length slots → slot ≡ get_or slots i slot
    → All (λ s. blocks_of s ≤ 1024) slots → blocks_of slot ≤ 1024
slot-is-short slots i slot lt is all = let P : Option Slot → Type 0 = λ s. blocks_of s ≤ 1024 in subst P (sym is) (all i slot lt)

pub is-held : (place size : ℕ) → place + 4096 ≤ size → nat_le (place + 4096) size ≡ true
is-held place size h = grind (arith, nat_tests)

pub is-missing : (place size : ℕ) → size < place + 4096 → nat_le (place + 4096) size ≡ false
is-missing place size h = grind (arith, nat_tests)
