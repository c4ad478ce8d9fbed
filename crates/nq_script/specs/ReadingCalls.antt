-- Reading the words of a call.
use Rattle.nq_base.specs.Steps.{◌>>=◌}
use Rattle.std.specs.Prelude.{ℕ, ◌==◌, Bool, true, ◌&&◌, List, Option, Some, None, codes, if◌then◌else◌}
use Rattle.std.specs.Str.{bytes_eq}
use Rattle.nq_base.specs.declared.Told.{Told}
use Rattle.nq_script.specs.declared.words.calls.Verb.{Verb}
use Rattle.nq_script.specs.WordsReading.{only_if, is_done, word_at, u32_at, name_at, place_at}

-- what stands behind the word `create`
unfoldable pub create_at : List (List ℕ) → Option (Told × List (List ℕ))
create_at words = do
  name ← name_at words
  blocks ← u32_at name.1
  Some (Told.Create name.0 blocks.0, blocks.1)

-- what stands behind `lookup`
unfoldable pub lookup_at : List (List ℕ) → Option (Told × List (List ℕ))
lookup_at words = do
  name ← name_at words
  Some (Told.Lookup name.0, name.1)

-- what stands behind `attr`
unfoldable pub attr_at : List (List ℕ) → Option (Told × List (List ℕ))
attr_at words = do
  file ← u32_at words
  Some (Told.Attr file.0, file.1)

-- what stands behind `read`
unfoldable pub read_at : List (List ℕ) → Option (Told × List (List ℕ))
read_at words = do
  place ← place_at words
  Some (Told.Read place.0.0 place.0.1, place.1)

-- what stands behind `fetch`
unfoldable pub fetch_at : List (List ℕ) → Option (Told × List (List ℕ))
fetch_at words = do
  place ← place_at words
  Some (Told.Fetch place.0.0 place.0.1, place.1)

-- what stands behind `write`
unfoldable pub write_at : List (List ℕ) → Option (Told × List (List ℕ))
write_at words = do
  place ← place_at words
  value ← u32_at place.1
  Some (Told.Write place.0.0 place.0.1 value.0, value.1)

-- what stands behind `put`
unfoldable pub put_at : List (List ℕ) → Option (Told × List (List ℕ))
put_at words = do
  place ← place_at words
  value ← u32_at place.1
  Some (Told.Put place.0.0 place.0.1 value.0, value.1)

-- what stands behind `sync`
unfoldable pub sync_at : List (List ℕ) → Option (Told × List (List ℕ))
sync_at words = do
  file ← u32_at words
  Some (Told.Sync file.0, file.1)

-- what stands behind `resize`
unfoldable pub resize_at : List (List ℕ) → Option (Told × List (List ℕ))
resize_at words = do
  file ← u32_at words
  blocks ← u32_at file.1
  Some (Told.Resize file.0 blocks.0, blocks.1)

-- what stands behind `remove`
unfoldable pub remove_at : List (List ℕ) → Option (Told × List (List ℕ))
remove_at words = do
  file ← u32_at words
  Some (Told.Remove file.0, file.1)

-- what a word asks for
unfoldable pub verb_of : List ℕ → Option Verb
verb_of word =
    if bytes_eq word (codes "create") then Some Verb.Create
    else (if bytes_eq word (codes "lookup") then Some Verb.Lookup
    else (if bytes_eq word (codes "attr") then Some Verb.Attr
    else (if bytes_eq word (codes "read") then Some Verb.Read
    else (if bytes_eq word (codes "fetch") then Some Verb.Fetch
    else (if bytes_eq word (codes "write") then Some Verb.Write
    else (if bytes_eq word (codes "put") then Some Verb.Put
    else (if bytes_eq word (codes "sync") then Some Verb.Sync
    else (if bytes_eq word (codes "resize") then Some Verb.Resize
    else (if bytes_eq word (codes "remove") then Some Verb.Remove
    else None)))))))))

-- the word of what is asked for
abbrev pub verb_word : Verb → List ℕ
verb_word Verb.Create = codes "create"
verb_word Verb.Lookup = codes "lookup"
verb_word Verb.Attr = codes "attr"
verb_word Verb.Read = codes "read"
verb_word Verb.Fetch = codes "fetch"
verb_word Verb.Write = codes "write"
verb_word Verb.Put = codes "put"
verb_word Verb.Sync = codes "sync"
verb_word Verb.Resize = codes "resize"
verb_word Verb.Remove = codes "remove"

-- the call behind its first word
abbrev pub told_by : Verb → List (List ℕ) → Option (Told × List (List ℕ))
told_by Verb.Create words = create_at words
told_by Verb.Lookup words = lookup_at words
told_by Verb.Attr words = attr_at words
told_by Verb.Read words = read_at words
told_by Verb.Fetch words = fetch_at words
told_by Verb.Write words = write_at words
told_by Verb.Put words = put_at words
told_by Verb.Sync words = sync_at words
told_by Verb.Resize words = resize_at words
told_by Verb.Remove words = remove_at words

-- the words of a call
unfoldable pub told_at : List (List ℕ) → Option (Told × List (List ℕ))
told_at words = do
  word ← word_at words
  verb ← verb_of word.0
  told_by verb word.1

-- whether a version has a call
abbrev pub has_told : (version : ℕ) → Told → Bool
has_told version (Told.Resize file blocks) = version == 2
has_told version (Told.Remove file) = version == 2
has_told version other = true

-- the call that these words, all of them, spell in a version
unfoldable pub told_in : (version : ℕ) → List (List ℕ) → Option Told
told_in version words = do
  told ← told_at words
  only_if (is_done told.1 && has_told version told.0) told.0
