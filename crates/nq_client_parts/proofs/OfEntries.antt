-- Entries as delayed writes: a block is found where its key is, and at one place only.
use Rattle.std.proofs.Common.{suc, ◌≡◌, ℕ, ◌+◌, ◌==◌, Bool, true, false, not, ◌&&◌, ◌||◌, cond, List, [], ◌∷◌, ◌++◌, length, filter, map, Option}
use Rattle.std.proofs.Common.{Some, None, is_some, refl, sym, ap, ◌∙◌, arith, append_assoc, add-one}
use Rattle.std.specs.Cmp.{IsEquivalence}
use Rattle.std.specs.List.{list_any, find, IsDistinct}
use Rattle.std.specs.Map.{keys_of, lookup, lookup_entry, remove_entry, set_value}
use Rattle.std.specs.Option.{option_map}
use Rattle.std.proofs.lemmas.Bool.Decides.{nat_tests}
use Rattle.std.proofs.lemmas.List.{map_push}
use Rattle.std.proofs.lemmas.Map.{NonePasses}
use Rattle.std.proofs.lemmas.Map.Entries.{none_past_head}
use Rattle.std.proofs.lemmas.Map.Keys.{IsDistinct-tail}
use Rattle.nq_base.specs.declared.Loss.{Loss}
use Rattle.nq_base.specs.declared.Push.{Push}
use Rattle.nq_client_parts.specs.DirtyEntries.{push_of, delayed, is_of_other}
use Rattle.nq_client_parts.specs.declared.dirty.entries.Key.{Key}
use Rattle.nq_client_parts.specs.declared.dirty.entries.Writes.{Writes}
use Rattle.nq_client_parts.proofs.DirtyKeyLaws.{same, same_key}
use Rattle.nq_model.specs.protocol.Client.{is_push_of, dirty_at, first_dirty, drop_dirty, other_dirty}
use Rattle.nq_model.specs.protocol.Hear.{loss_of}
use Rattle.nq_model.specs.protocol.Settle.{overwritten_at, with_write, write_in}

-- the delayed writes have one of the file where there is a first key of it
pub any_of_file : (file : ℕ) (es : List (Key × Writes)) → list_any (is_push_of file) (delayed es) ≡ is_some (find (λ k. k.file == file) (keys_of es))
any_of_file file [] = refl
any_of_file file (e ∷ es) = any-step (e.0.file == file) e.0 _ _ (any_of_file file es)
  where
    any-step : (b : Bool) (k : Key) (c : Bool) (o : Option Key) → c ≡ is_some o → (b || c) ≡ is_some (cond b (Some k) o)
    any-step true k c o h = refl
    any-step false k c o h = h

one-more : {A B : Type 0} (b : Bool) (x : A) (y : B) (xs : List A) (ys : List B) → length xs ≡ length ys → length (cond b (x ∷ xs) xs)
    ≡ length (cond b (y ∷ ys) ys)
one-more true x y xs ys h = ap (λ n. suc n) h
one-more false x y xs ys h = h

-- the delayed writes of the file are as many as its keys
pub count_of_file : (file : ℕ) (es : List (Key × Writes)) → length (filter (is_push_of file) (delayed es)) ≡ length (filter (λ k. k.file == file) (keys_of es))
count_of_file file [] = refl
count_of_file file (e ∷ es) = one-more (e.0.file == file) (push_of e) e.0 _ _ (count_of_file file es)

others-step : (b : Bool) (e : Key × Writes) (es : List (Key × Writes)) (rest : List Push) → delayed es ≡ rest → delayed (cond b (e ∷ es) es)
    ≡ cond b (push_of e ∷ rest) rest
others-step true e es rest h = ap (λ xs. push_of e ∷ xs) h
others-step false e es rest h = h

-- the entries of other files are the delayed writes of other files
pub other_dirty-entries : (file : ℕ) (es : List (Key × Writes)) → delayed (filter (is_of_other file) es) ≡ other_dirty file (delayed es)
other_dirty-entries file [] = refl
other_dirty-entries file (e ∷ es) = others-step (is_of_other file e) e (filter (is_of_other file) es) _ (other_dirty-entries file es)

mapped : {A B : Type 0} (f : A → B) (o : Option A) → is_some (option_map f o) ≡ is_some o
mapped f None = refl
mapped f (Some x) = refl

found-step : (b : Bool) (e : Key × Writes) (a : Option Push) (o : Option (Key × Writes)) → a ≡ option_map push_of o → cond b (Some (push_of e)) a
    ≡ option_map push_of (cond b (Some e) o)
found-step true e a o h = refl
found-step false e a o h = h

-- the delayed writes of a block are those of the first entry with its key
pub dirty_at-entries : (key : Key) (es : List (Key × Writes)) → dirty_at key.file key.block (delayed es) ≡ option_map push_of (lookup_entry (same key) es)
dirty_at-entries key [] = refl
dirty_at-entries key (e ∷ es) = rw (same_key key e.0) (found-step (e.0.file == key.file && e.0.block == key.block) e _ (lookup_entry (same key) es)
    (dirty_at-entries key es))

value-step : (b : Bool) (e : Key × Writes) (v : Option Writes) (o : Option (Key × Writes)) → v ≡ option_map (λ f. f.1) o → cond b (Some e.1) v
    ≡ option_map (λ f. f.1) (cond b (Some e) o)
value-step true e v o h = refl
value-step false e v o h = h

value-entry : (key : Key) (es : List (Key × Writes)) → lookup (same key) es ≡ option_map (λ f. f.1) (lookup_entry (same key) es)
value-entry key [] = refl
value-entry key (e ∷ es) = value-step (same key e.0) e (lookup (same key) es) (lookup_entry (same key) es) (value-entry key es)

-- they are there exactly where the key is
pub is_there : (key : Key) (es : List (Key × Writes)) → is_some (dirty_at key.file key.block (delayed es)) ≡ is_some (lookup (same key) es)
is_there key es = ap is_some (dirty_at-entries key es) ∙ mapped push_of (lookup_entry (same key) es) ∙ sym (ap is_some (value-entry key es)
    ∙ mapped (λ f. f.1) (lookup_entry (same key) es))

body-step : (o : Option (Key × Writes)) → option_map (λ p. p.body) (option_map push_of o) ≡ option_map (λ w. w.body) (option_map (λ f. f.1) o)
body-step None = refl
body-step (Some e) = refl

-- the body of a block is that of its key
pub body_at-entries : (key : Key) (es : List (Key × Writes)) → option_map (λ p. p.body) (dirty_at key.file key.block (delayed es))
    ≡ option_map (λ w. w.body) (lookup (same key) es)
body_at-entries key es = ap (option_map (λ p. p.body)) (dirty_at-entries key es) ∙ body-step (lookup_entry (same key) es)
    ∙ ap (option_map (λ w. w.body)) (sym (value-entry key es))

parts : (a b m n : ℕ) → ((a == b) && (m == n)) ≡ true → (a ≡ b) × (m ≡ n)
parts a b m n h = grind (arith, nat_tests)

reflexive : (m n : ℕ) → ((m == m) && (n == n)) ≡ true
reflexive m n = grind (arith, nat_tests)

symmetric : (a b m n : ℕ) → ((a == b) && (m == n)) ≡ ((b == a) && (n == m))
symmetric a b m n = grind (arith, nat_tests)

congruent : (a b m n x y : ℕ) → ((a == b) && (m == n)) ≡ true → ((x == b) && (y == n)) ≡ ((x == a) && (y == m))
congruent a b m n x y h = let e = parts a b m n h in rw (e.0, e.1) refl

is_equivalence : IsEquivalence same
is_equivalence = record {
  refl = λ k. same_key k k ∙ reflexive k.file k.block;
  symm = λ j k. same_key j k ∙ symmetric k.file j.file k.block j.block ∙ sym (same_key k j);
  congr = λ j k l h. same_key j l ∙ congruent k.file j.file k.block j.block l.file l.block (sym (same_key j k) ∙ h) ∙ sym (same_key k l);
}

kept-step : (b : Bool) (p : Push) (ps rest : List Push) → b ≡ false → rest ≡ ps → cond (not b) (p ∷ rest) rest ≡ p ∷ ps
kept-step true p ps rest off h = absurd cc
kept-step false p ps rest off h = ap (λ xs. p ∷ xs) h

-- where no entry has the key there is nothing to drop
none-dropped : (key : Key) (es : List (Key × Writes)) → NonePasses (same key) es → drop_dirty key.file key.block (delayed es) ≡ delayed es
none-dropped key [] none = refl
none-dropped key (e ∷ es) none = kept-step (e.0.file == key.file && e.0.block == key.block) (push_of e) (delayed es) _ (sym (same_key key e.0)
    ∙ none.0) (none-dropped key es none.1)

dropped-step : (b : Bool) (e : Key × Writes) (es rest : List (Key × Writes)) (dropped : List Push) → (b ≡ true → dropped ≡ delayed es) → dropped
    ≡ delayed rest → cond (not b) (push_of e ∷ dropped) dropped ≡ delayed (cond b es (e ∷ rest))
dropped-step true e es rest dropped here h = here refl
dropped-step false e es rest dropped here h = ap (λ xs. push_of e ∷ xs) h

-- without the first entry of a key there is none of it
pub drop_dirty-entries : (key : Key) (es : List (Key × Writes)) → IsDistinct same (keys_of es) → drop_dirty key.file key.block (delayed es)
    ≡ delayed (remove_entry (same key) es)
drop_dirty-entries key [] d = refl
drop_dirty-entries key (e ∷ es) d =
    rw (same_key key e.0)
    (dropped-step
    (e.0.file == key.file && e.0.block == key.block)
    e
    es
    (remove_entry (same key) es)
    (drop_dirty key.file key.block (delayed es))
    (λ h. none-dropped key es (none_past_head is_equivalence key e es d (same_key key e.0 ∙ h)))
    (drop_dirty-entries key es (IsDistinct-tail same e.0 (keys_of es) d)))

-- where no entry has the key nothing is written over
none-written : (key : Key) (number : ℕ) (body : List ℕ) (es : List (Key × Writes)) → NonePasses (same key) es
    → map (overwritten_at key.file key.block number body) (delayed es) ≡ delayed es
none-written key number body [] none = refl
none-written key number body (e ∷ es) none = let off : (e.0.file == key.file && e.0.block == key.block) ≡ false = sym (same_key key e.0) ∙ none.0 in
    rw off (ap (λ xs. push_of e ∷ xs) (none-written key number body es none.1))

-- delayed writes of a block with another last one
abbrev pub IsRewritten : (number : ℕ) (body : List ℕ) → (before after : Writes) → Type 0
IsRewritten number body before after = (after.first ≡ before.first) × (after.last ≡ number) × (after.body ≡ body)

rewritten : (number : ℕ) (body : List ℕ) (key : Key) (before after : Writes) → IsRewritten number body before after → push_of (key, after)
    ≡ record (push_of (key, before)) { last = number; body = body }
rewritten number body key before after h = rw (h.0, h.1, h.2) refl

overwritten-step : (number : ℕ) (body : List ℕ) (b : Bool) (e : Key × Writes) (v w : Writes) (o : Option Writes) (es done : List (Key × Writes))
    (rest : List Push)
    → cond b (Some e.1) o ≡ Some v → IsRewritten number body v w → (b ≡ true → rest ≡ delayed es) → (o ≡ Some v → rest ≡ delayed done)
    → cond b (record (push_of e) { last = number; body = body }) (push_of e) ∷ rest ≡ delayed (cond b ((e.0, w) ∷ es) (e ∷ done))
overwritten-step number body true e v w o es done rest found h here there =
    let at : v ≡ e.1 = cc in
    let head = rewritten number body e.0 e.1 w (rw (sym at) h) in
    rw (head, here refl) refl
overwritten-step number body false e v w o es done rest found h here there = ap (λ xs. push_of e ∷ xs) (there found)

-- a block that is there gets another last write in its place
pub overwritten-entries : (key : Key) (number : ℕ) (body : List ℕ) (v w : Writes) (es : List (Key × Writes)) → IsDistinct same (keys_of es)
    → lookup (same key) es ≡ Some v → IsRewritten number body v w → delayed (set_value (same key) es w) ≡ map (overwritten_at key.file key.block
    number body) (delayed es)
overwritten-entries key number body v w [] d found h = absurd cc
overwritten-entries key number body v w (e ∷ es) d found h =
    sym (rw (sym (same_key key e.0))
    (overwritten-step number body (same key e.0) e v w (lookup (same key) es) es (set_value (same key) es w)
    (map (overwritten_at key.file key.block number body) (delayed es))
    found h
    (λ on. none-written key number body es (none_past_head is_equivalence key e es d on))
    (λ at. sym (overwritten-entries key number body v w es (IsDistinct-tail same e.0 (keys_of es) d) at h))))

written-there : (key : Key) (number : ℕ) (body : List ℕ) (dirty : List Push) (o : Option Push) → is_some o ≡ true → with_write key.file key.block
    number body dirty o ≡ map (overwritten_at key.file key.block number body) dirty
written-there key number body dirty None h = absurd cc
written-there key number body dirty (Some p) h = refl

-- the write of a block that is there
pub write_in-there : (key : Key) (number : ℕ) (body : List ℕ) (v w : Writes) (es : List (Key × Writes)) → IsDistinct same (keys_of es)
    → lookup (same key) es ≡ Some v → IsRewritten number body v w → delayed (set_value (same key) es w) ≡ write_in key.file key.block number body (delayed es)
write_in-there key number body v w es d found h =
    overwritten-entries key number body v w es d found h
    ∙ sym (written-there key number body (delayed es) (dirty_at key.file key.block (delayed es)) (is_there key es ∙ ap is_some found))

written-new : (key : Key) (number : ℕ) (body : List ℕ) (dirty : List Push) (o : Option Push) → is_some o ≡ false → with_write key.file key.block
    number body dirty o ≡ dirty ++ record { file = key.file; block = key.block; first = number; last = number; body = body } ∷ []
written-new key number body dirty None h = refl
written-new key number body dirty (Some p) h = absurd cc

-- the write of another block
pub write_in-new : (key : Key) (number : ℕ) (body : List ℕ) (w : Writes) (es : List (Key × Writes))
    → is_some (dirty_at key.file key.block (delayed es)) ≡ false → w.first ≡ number → w.last ≡ number → w.body ≡ body → delayed (es ++ (key, w) ∷ [])
    ≡ write_in key.file key.block number body (delayed es)
write_in-new key number body w es absent f l b =
    map_push push_of es (key, w)
    ∙ rw (f, l, b) (sym (written-new key number body (delayed es) (dirty_at key.file key.block (delayed es)) absent))

not-there : {A : Type 0} (o : Option A) → is_some o ≡ false → o ≡ None
not-there None h = refl
not-there (Some e) h = absurd cc

-- a block that is not there has no entry
pub none-at : (key : Key) (es : List (Key × Writes)) → is_some (dirty_at key.file key.block (delayed es)) ≡ false → lookup (same key) es ≡ None
none-at key es absent = not-there (lookup (same key) es) (sym (is_there key es) ∙ absent)

-- a file of which no key is has no delayed writes
pub first-none : (file : ℕ) (es : List (Key × Writes)) → find (λ k. k.file == file) (keys_of es) ≡ None → first_dirty file (delayed es) ≡ None
first-none file [] h = refl
first-none file (e ∷ es) h = (elim (e.0.file == file) as (λ b. (e.0.file == file) ≡ b → first_dirty file (delayed (e ∷ es)) ≡ None) [
  | true ↦ λ on. let h' = rw on at h in absurd cc
  | false ↦ λ off. rw off (first-none file es (rw off at h))
]) refl

abbrev pub IsFirst : (file : ℕ) → Key → List (Key × Writes) → Type 0
IsFirst file key es = (v : Writes) × (lookup (same key) es ≡ Some v) × (first_dirty file (delayed es) ≡ Some (push_of (key, v))) × ((key.file == file) ≡ true)

other-file : (file : ℕ) (key k : Key) → (key.file == file) ≡ true → (k.file == file) ≡ false → same key k ≡ false
other-file file key k on off = same_key key k ∙ apart file key.file k.file (k.block == key.block) on off
  where
    apart : (f m n : ℕ) (c : Bool) → (m == f) ≡ true → (n == f) ≡ false → ((n == m) && c) ≡ false
    apart f m n c on off = grind (arith, nat_tests)

-- the first key of a file has the first delayed writes of the file
pub first-at : (file : ℕ) (key : Key) (es : List (Key × Writes)) → find (λ k. k.file == file) (keys_of es) ≡ Some key → IsFirst file key es
first-at file key [] h = absurd cc
first-at file key (e ∷ es) h = (elim (e.0.file == file) as (λ b. (e.0.file == file) ≡ b → IsFirst file key (e ∷ es)) [
  | true ↦ λ on.
      let h' = rw on at h in
      let k : e.0 ≡ key = cc in
      let self : same key e.0 ≡ true = ap (same key) k ∙ is_equivalence.refl key in
      (e.1, rw self refl, rw on (ap (λ x. Some (push_of (x, e.1))) k), ap (λ x. x.file == file) (sym k) ∙ on)
  | false ↦ λ off.
      let rest = first-at file key es (rw off at h) in
      let apart = other-file file key e.0 rest.3 off in
      (rest.0, rw apart rest.1, rw off rest.2, rest.3)
]) refl

-- the losses of a file among entries
abbrev pub lost : ℕ → List (Key × Writes) → List Loss
lost file es = map loss_of (filter (is_push_of file) (delayed es))

-- how many there are
abbrev pub lost_count : ℕ → List (Key × Writes) → ℕ
lost_count file es = length (filter (is_push_of file) (delayed es))

-- the first entry is of the file: its loss comes first
pub lost-more : (file : ℕ) (items : List Loss) (e : Key × Writes) (es rest : List (Key × Writes)) → es ≡ e ∷ rest → (e.0.file == file) ≡ true
    → (items ++ loss_of (push_of e) ∷ []) ++ lost file rest ≡ items ++ lost file es
lost-more file items e es rest split on = append_assoc items (loss_of (push_of e) ∷ []) (lost file rest) ∙ rw (split, on) refl

pub lost_count-more : (file : ℕ) (e : Key × Writes) (es rest : List (Key × Writes)) → es ≡ e ∷ rest → (e.0.file == file) ≡ true → lost_count file es
    ≡ lost_count file rest + 1
lost_count-more file e es rest split on = rw (split, on) (sym (add-one (lost_count file rest)))

-- it is of another file: it makes no loss
pub lost-less : (file : ℕ) (e : Key × Writes) (es rest : List (Key × Writes)) → es ≡ e ∷ rest → (e.0.file == file) ≡ false → filter (is_push_of file)
    (delayed rest) ≡ filter (is_push_of file) (delayed es)
lost-less file e es rest split off = rw (split, off) refl
