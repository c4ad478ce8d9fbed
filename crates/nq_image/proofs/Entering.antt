-- A walk over the entries of a table as they are spelled.
use Rattle.std.proofs.Common.{◌≡◌, ◌≤◌, ◌<◌, ◌+◌, ℕ, List, ◌++◌, drop, get_or, length, sym, subst, ◌∙◌}
use Rattle.std.specs.Int.{w32, to_be_bytes}
use Rattle.std.proofs.lemmas.List.{append-nil, append_assoc, drop_all, drop_more}
use Rattle.nq_image.specs.Writing.{entries_of}

pub entry-passes : (i : ℕ) (bytes blocks : List ℕ) → i < length blocks → bytes ++ entries_of (drop i blocks) ≡ entries_of blocks
    → (bytes ++ to_be_bytes w32 (get_or blocks i 0 + 1)) ++ entries_of (drop (i + 1) blocks) ≡ entries_of blocks
unfolding entries_of
entry-passes i bytes blocks lt same =
    let own = to_be_bytes w32 (get_or blocks i 0 + 1) in
    let P : List ℕ → Type 0 = λ left. bytes ++ entries_of left ≡ entries_of blocks in
    append_assoc bytes own (entries_of (drop (i + 1) blocks)) ∙ subst P (drop_more blocks i 0 lt) same

pub entries-done : (i : ℕ) (bytes blocks : List ℕ) → length blocks ≤ i → bytes ++ entries_of (drop i blocks) ≡ entries_of blocks → bytes ≡ entries_of blocks
unfolding entries_of
entries-done i bytes blocks le same =
    let P : List ℕ → Type 0 = λ left. bytes ++ entries_of left ≡ entries_of blocks in
    sym (append-nil bytes) ∙ subst P (drop_all i blocks le) same
