-- What is found in an image of version 2, from its parts.
use Rattle.std.proofs.Common.{◌≡◌, ◌≤◌, ◌+◌, ℕ, Bool, List, [], ◌++◌, Option, Result, Ok, Err, drop, length, take, if◌then◌else◌, refl, sym, ap}
use Rattle.std.proofs.Common.{subst, ◌∙◌, arith}
use Rattle.std.proofs.lemmas.List.{append-nil, drop_all, take_all}
use Rattle.nq_image.specs.Check.{tested}
use Rattle.nq_image.specs.Heads.{front_checks, front_of}
use Rattle.nq_image.specs.Hosts.{hosts_checks, hosts_of}
use Rattle.nq_image.specs.Image.{FoundRows, FoundTables, FoundTwo, ◌>>=◌, ids_in, image_two, no_marks, rows_in, tables_in}
use Rattle.nq_image.specs.Layout.{are_zeros, block_place, piece}
use Rattle.nq_image.specs.Reading.{Reads}
use Rattle.nq_image.specs.Rows.{rows_checks, slots_of}
use Rattle.nq_image.specs.Standing.{PlacedFile, standing_in}
use Rattle.nq_image.specs.Tables.{held, tables_blocks, tables_checks, tables_marks}
use Rattle.nq_image.specs.declared.heads.Front.{Front}
use Rattle.nq_image.specs.declared.fault.ImageFault.{ImageFault}
use Rattle.nq_image.specs.declared.fault.ImageFault.TheVariants.{NotAnImage, BadField, Memory}
use Rattle.nq_image.specs.declared.rows.Version.{Version}
use Rattle.nq_image.proofs.Checks.{tested-value}
use Rattle.nq_image.proofs.Pieces.{piece-of-first}
use Rattle.nq_plan.proofs.Shifting.{rows-are}
use Rattle.nq_plan.specs.Held.{HeldTables}
use Rattle.nq_plan.specs.Reading.{ArePartsOf, HoldsIn, held_in, rows_of}

goes : {A B : Type 0} (r : Result A ℕ) (x : A) (f : A → Result B ℕ) → r ≡ Ok x → (r >>= f) ≡ f x
goes r x f is = ap (λ (q : Result _ ℕ). q >>= f) is

stops : {A B : Type 0} (r : Result A ℕ) (p : ℕ) (f : A → Result B ℕ) → r ≡ Err p → (r >>= f) ≡ Err p
stops r p f is = ap (λ (q : Result _ ℕ). q >>= f) is

-- ---- the rows

abbrev rows-by : (a b c : List ℕ) → Result FoundRows ℕ
rows-by a b c =
    tested (hosts_checks 64 64 a) (hosts_of 64 a) >>= λ hosts.
    (tested (rows_checks Version.Two 256 2112 [] b) (slots_of 256 b) >>= λ slots.
    (if are_zeros c then Ok (record { hosts = hosts; slots = slots }) else Err 26688))

rows-are-by : (bytes : List ℕ) → rows_in Version.Two bytes ≡ rows-by (piece 64 2048 bytes) (piece 2112 24576 bytes) (piece 26688 1984 bytes)
unfolding rows_in
rows-are-by bytes = refl

rows-of-first : (bytes : List ℕ) → rows_in Version.Two (piece 0 28672 bytes) ≡ rows_in Version.Two bytes
rows-of-first bytes =
    let head = piece 0 28672 bytes in
    rows-are-by head
    ∙ ap (λ (a : List ℕ). rows-by a (piece 2112 24576 head) (piece 26688 1984 head)) (piece-of-first 28672 64 2048 bytes (omega arith))
    ∙ ap (λ (b : List ℕ). rows-by (piece 64 2048 bytes) b (piece 26688 1984 head)) (piece-of-first 28672 2112 24576 bytes (omega arith))
    ∙ ap (λ (c : List ℕ). rows-by (piece 64 2048 bytes) (piece 2112 24576 bytes) c) (piece-of-first 28672 26688 1984 bytes (omega arith))
    ∙ sym (rows-are-by bytes)

-- ---- one part after another

module _ (bytes head window : List ℕ) (front : Front) (size : ℕ) (parts : ArePartsOf bytes front head window size) where
  abbrev place : ℕ
  place = block_place front.tables

  abbrev none : List Bool
  none = no_marks 16641

  abbrev with-tables : FoundRows → FoundTables → Result FoundTwo ℕ
  with-tables rows tables = Ok (record { front = front; rows = rows; tables = tables })

  abbrev with-rows : FoundRows → Result FoundTwo ℕ
  with-rows rows = tables_in front rows.slots none bytes >>= λ tables. with-tables rows tables

  front-read : image_two none bytes ≡ (rows_in Version.Two bytes >>= λ rows. with-rows rows)
  unfolding image_two
  front-read =
      goes (tested (front_checks (piece 0 64 bytes)) (front_of (piece 0 64 bytes))) front (λ f. (rows_in Version.Two bytes >>= λ rows.
      (tables_in f rows.slots none bytes >>= λ tables. Ok (record { front = f; rows = rows; tables = tables })))) parts.front_is

  rows-here : rows_in Version.Two head ≡ rows_in Version.Two bytes
  rows-here = ap (rows_in Version.Two) parts.head_is ∙ rows-of-first bytes

  pub rows-wrong : (p : ℕ) → rows_in Version.Two head ≡ Err p → image_two none bytes ≡ Err p
  rows-wrong p is = front-read ∙ stops (rows_in Version.Two bytes) p (λ rows. with-rows rows) (sym rows-here ∙ is)

  module _ (rows : FoundRows) (rows_are : rows_in Version.Two head ≡ Ok rows) where
    rows-read : image_two none bytes ≡ with-rows rows
    rows-read = front-read ∙ goes (rows_in Version.Two bytes) rows (λ r. with-rows r) (sym rows-here ∙ rows_are)

    abbrev blocks-told : Result (List ℕ) ℕ
    blocks-told = tested (tables_checks front.tables place rows.slots none bytes) (tables_blocks place rows.slots bytes)

    abbrev marks-told : List Bool
    marks-told = tables_marks place rows.slots none bytes

    abbrev with-ids : (blocks ids : List ℕ) → Result FoundTables ℕ
    with-ids blocks ids = held (length bytes) marks-told >>= λ holds. Ok (record { ids = ids; blocks = blocks; marks = marks-told })

    abbrev with-blocks : (blocks : List ℕ) → Result FoundTables ℕ
    with-blocks blocks = ids_in (place + 1048576) front.next rows.slots bytes >>= λ ids. with-ids blocks ids

    tables-are : tables_in front rows.slots none bytes ≡ (blocks-told >>= λ blocks. with-blocks blocks)
    unfolding tables_in
    tables-are = refl

    tables-wrong : (p : ℕ) → tables_in front rows.slots none bytes ≡ Err p → image_two none bytes ≡ Err p
    tables-wrong p is = rows-read ∙ stops (tables_in front rows.slots none bytes) p (λ tables. with-tables rows tables) is

    pub blocks-wrong : (p : ℕ) → blocks-told ≡ Err p → image_two none bytes ≡ Err p
    blocks-wrong p is = tables-wrong p (tables-are ∙ stops blocks-told p (λ blocks. with-blocks blocks) is)

    module _ (blocks : List ℕ) (blocks_are : blocks-told ≡ Ok blocks) where
      blocks-read : tables_in front rows.slots none bytes ≡ with-blocks blocks
      blocks-read = tables-are ∙ goes blocks-told blocks (λ b. with-blocks b) blocks_are

      pub ids-wrong : (p : ℕ) → ids_in (place + 1048576) front.next rows.slots bytes ≡ Err p → image_two none bytes ≡ Err p
      ids-wrong p is = tables-wrong p (blocks-read ∙ stops (ids_in (place + 1048576) front.next rows.slots bytes) p (λ ids. with-ids blocks ids) is)

      module _ (ids : List ℕ) (ids_are : ids_in (place + 1048576) front.next rows.slots bytes ≡ Ok ids) (marks : List Bool) (marks_are : marks
          ≡ marks-told) where
        ids-read : tables_in front rows.slots none bytes ≡ with-ids blocks ids
        ids-read = blocks-read ∙ goes (ids_in (place + 1048576) front.next rows.slots bytes) ids (λ i. with-ids blocks i) ids_are

        held-here : held size marks ≡ held (length bytes) marks-told
        held-here = ap (λ (n : ℕ). held n marks) parts.size_is ∙ ap (held (length bytes)) marks_are

        pub held-wrong : (p : ℕ) → held size marks ≡ Err p → image_two none bytes ≡ Err p
        held-wrong p is = tables-wrong p (ids-read ∙ stops (held (length bytes) marks-told) p
            (λ holds. Ok (record { ids = ids; blocks = blocks; marks = marks-told })) (sym held-here ∙ is))

        abbrev found : FoundTwo
        found = record { front = front; rows = rows; tables = record { ids = ids; blocks = blocks; marks = marks-told } }

        abbrev read-so : (files : List (Option PlacedFile)) → HeldTables
        read-so files = record {
          standing = record {
            heads = record { boot = front.boot; opened = front.opened; longest = front.longest; next = front.next };
            tables = front.tables;
            hosts = rows.hosts;
            rows = files;
          };
          marks = marks;
        }

        pub all-read : (files : List (Option PlacedFile)) → held size marks ≡ Ok tt → files ≡ rows_of 0 rows.slots ids blocks → (f : FoundTwo)
            × (image_two none bytes ≡ Ok f) × (read-so files ≡ held_in bytes f)
        all-read files is files_are =
            let value = tested-value (tables_checks front.tables place rows.slots none bytes) (tables_blocks place rows.slots bytes) blocks blocks_are in
            let With : List (Option PlacedFile) → List Bool → HeldTables = λ l m. record {
              standing = record {
                heads = record { boot = front.boot; opened = front.opened; longest = front.longest; next = front.next };
                tables = front.tables;
                hosts = rows.hosts;
                rows = l;
              };
              marks = m;
            } in (
              found,
              rows-read
                  ∙ goes (tables_in front rows.slots none bytes) found.tables (λ tables. with-tables rows tables)
                  (ids-read ∙ goes (held (length bytes) marks-told) tt (λ holds. Ok (record { ids = ids; blocks = blocks; marks = marks-told }))
                  (sym held-here ∙ is)),
              ap (λ (l : List (Option PlacedFile)). With l marks) (files_are ∙ ap (rows_of 0 rows.slots ids) (sym value) ∙ rows-are rows.slots 0 place
                  ids bytes)
                  ∙ ap (λ (m : List Bool). With (standing_in bytes found).rows m) marks_are,
            )

-- ---- what a read answers

pub holds-on : {X Y : Type 0} (view : X → Y) (bytes : List ℕ) (answer : Result HeldTables ImageFault) (fault : ImageFault) (told : Result Y ℕ)
    (whole : Result FoundTwo ℕ) → answer ≡ Err fault → Reads view (Err fault) told → ((p : ℕ) → told ≡ Err p → whole ≡ Err p) → HoldsIn bytes answer whole
holds-on view bytes answer (BadField place) told whole is reads wrong = let P : Result HeldTables ImageFault → Type 0 = λ a. HoldsIn bytes a whole in
    subst P (sym is) (wrong place reads)
holds-on view bytes answer NotAnImage told whole is reads wrong = absurd reads
holds-on view bytes answer Memory told whole is reads wrong = let P : Result HeldTables ImageFault → Type 0 = λ a. HoldsIn bytes a whole in subst P (sym is) tt

pub holds-wrong : (bytes : List ℕ) (answer : Result HeldTables ImageFault) (place : ℕ) (whole : Result FoundTwo ℕ) → answer ≡ Err (BadField place)
    → whole ≡ Err place → HoldsIn bytes answer whole
holds-wrong bytes answer at whole is wrong = let P : Result HeldTables ImageFault → Type 0 = λ a. HoldsIn bytes a whole in subst P (sym is) wrong

-- ---- marks

-- a vector whose elements were written as a slice has what was written
pub written-back : (size : ℕ) (now before : List Bool) → length now ≡ length before → length before ≤ size → take size (now ++ drop (length now) before) ≡ now
written-back size now before same le =
    ap (λ (d : List Bool). take size (now ++ d)) (drop_all (length now) before (omega arith)) ∙ ap (λ (l : List Bool). take size l) (append-nil now)
    ∙ take_all size now (omega arith)
