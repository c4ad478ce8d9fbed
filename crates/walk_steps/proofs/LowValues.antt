-- A request that an attached client may send does not go out of bounds in a run of few events.
use Rattle.std.proofs.Common.{◌≡◌, ◌≤◌, ◌<◌, ℕ, ◌+◌, ◌==◌, Bool, true, false, not, ◌&&◌, ◌||◌, List, Option, Some, None, if◌then◌else◌, length, refl, arith}
use Rattle.std.specs.Prelude.{nat_lt, nat_le}
use Rattle.std.proofs.lemmas.Bool.{or_parts}
use Rattle.std.proofs.lemmas.Bool.Decides.{nat_tests}
use Rattle.nq_base.specs.declared.Asked.{Asked}
use Rattle.nq_base.specs.declared.HostRow.{HostRow}
use Rattle.nq_base.specs.declared.PushBase.{PushBase}
use Rattle.nq_base.specs.declared.Request.{Request}
use Rattle.nq_base.specs.declared.Row.{Row}
use Rattle.nq_base.specs.declared.Verdict.{Verdict}
use Rattle.nq_base.specs.declared.Who.{Who}
use Rattle.nq_model.specs.protocol.Ask.{ask}
use Rattle.nq_model.specs.protocol.Decide.{Decision, decides, creates, writes_through, stores, stores_recovering, resizes, removes, puts_off, to_change}
use Rattle.nq_model.specs.protocol.Decide.{unless_told, unless_conflict, decide_create, decide_push, decide_write_in, decide_write, decide_push_recovering}
use Rattle.nq_model.specs.protocol.Decide.{decide_write_recovering, decide_resize, decide_remove, decide_in, decide, row_after}
use Rattle.nq_model.specs.protocol.Kept.{File, blocks_in_all, find_file, can_be_kept}
use Rattle.nq_model.specs.protocol.Message.{sequence_of}
use Rattle.nq_model.specs.protocol.Profile.{inc_end, seq_end, rev_end, most_files, most_blocks, most_ids}
use Rattle.nq_model.specs.protocol.Server.{Phase, serving, recovering, Server}
use Rattle.nq_model.specs.protocol.ServerStep.{row_of_attach}
use Rattle.nq_model.specs.protocol.Stepped.{most_events, most_sent}
use Rattle.nq_model.specs.protocol.Table.{Table, find_row}
use Rattle.nq_model.proofs.FreshFits.{found-has}
use Rattle.nq_model.specs.laws.RepliesAreOwed.{goes_out, is_out_of_bounds}
use Rattle.walk_steps.proofs.Rows.{choice}
use Rattle.walk_steps.proofs.Tests.{is-not-at-most}
use Rattle.walk_steps.specs.Within.{RevisionsUpTo}

-- ---- the value of a decision

-- the value that is kept is below the end of the revisions
record IsLow (d : Decision) : Type 0 where
  low : d.value < rev_end

either-low : (b : Bool) (x y : Decision) → IsLow x → IsLow y → IsLow (if b then x else y)
either-low true x y this that = this
either-low false x y this that = that

module _ (n : ℕ) (s : Server) (few : n ≤ most_events) (g : RevisionsUpTo n s.kept.files) where
  declined : (verdict : Verdict) → IsLow (decides s verdict)
  unfolding decides
  declined verdict = record { low = omega arith }

  put-off : (who : Who) (file : ℕ) (table : Table) → IsLow (puts_off s who file table)
  unfolding puts_off
  put-off who file table = record { low = omega arith }

  made : (name : List ℕ) (blocks : ℕ) → s.kept.next < most_ids → IsLow (creates s name blocks)
  unfolding creates
  made name blocks few_ids = record { low = omega arith }

  -- the next revision of a kept file
  raised : (id : ℕ) (f : File) → find_file id s.kept.files ≡ Some f → f.rev + 1 < rev_end
  raised id f found = let low : f.rev ≤ n = found-has (λ file. file.rev ≤ n) id s.kept.files f g found in omega arith

  told : (who : Who) (file : ℕ) (table : Table) (asked : Asked) (change : Decision) → IsLow change → IsLow (unless_told s who file table asked change)
  told who file table (Asked.TryLater clash) change low = put-off who file table
  told who file table Asked.Free change low = low
  told who file table (Asked.Granted grant) change low = low
  told who file table Asked.NoLease change low = low

  unless-conflict : (who : Who) (f : File) (change : Decision) → IsLow change → IsLow (unless_conflict s who f change)
  unless-conflict who f change low = told who f.id (ask s.table (to_change s who f)).table (ask s.table (to_change s who f)).asked change low

  created : (name : List ℕ) (blocks : ℕ) → IsLow (decide_create s name blocks)
  created name blocks =
      either-low _ _ _ (declined Verdict.Invalid) (
      either-low _ _ _ (declined Verdict.Exist) (
      choice IsLow (nat_le most_files (length s.kept.files) || nat_lt most_blocks (blocks_in_all s.kept.files + blocks) || nat_le most_ids
      s.kept.next) (decides s Verdict.NoSpace) (creates s name blocks)
      (λ none. declined Verdict.NoSpace)
      (λ room. made name blocks (is-not-at-most most_ids s.kept.next (or_parts _ _ room).1))))

  module _ (who : Who) (id : ℕ) (f : File) (found : find_file id s.kept.files ≡ Some f) where
    through : (block first : ℕ) (body : List ℕ) → IsLow (writes_through s who f block first body)
    unfolding writes_through
    through block first body = record { low = raised id f found }

    stored : (row : Row) (block first last : ℕ) (body : List ℕ) → IsLow (stores s who f row block first last body)
    unfolding stores
    stored row block first last body = record { low = raised id f found }

    stored-recovering :
        (until : ℕ) (last : Option Table) (block first final : ℕ) (body : List ℕ) → IsLow (stores_recovering s until last who f block first final body)
    unfolding stores_recovering
    stored-recovering until last block first final body = record { low = raised id f found }

    resized : (q blocks : ℕ) → IsLow (resizes s who q f blocks)
    unfolding resizes
    resized q blocks = record { low = raised id f found }

    removed : (q : ℕ) → IsLow (removes s who q f)
    unfolding removes
    removed q = record { low = omega arith }

    pushed : (block first last : ℕ) (base : PushBase) (body : List ℕ) (o : Option Row) → IsLow (decide_push s who f block first last base body o)
    pushed block first last base body None = declined Verdict.Fenced
    pushed block first last base body (Some row) = either-low _ _ _ (stored row block first last body) (declined Verdict.Fenced)

    written-in : (block first last : ℕ) (push : Option PushBase) (body : List ℕ) → IsLow (decide_write_in s who f block first last push body)
    written-in block first last None body = unless-conflict who f (writes_through s who f block first body) (through block first body)
    written-in block first last (Some base) body = pushed block first last base body (find_row f.id who.host s.table.rows)

  written :
      (who : Who) (id block first last : ℕ) (push : Option PushBase) (body : List ℕ) (o : Option File) → find_file id s.kept.files ≡ o
      → IsLow (decide_write s who o block first last push body)
  written who id block first last push body None found = declined Verdict.Stale
  written who id block first last push body (Some f) found =
      either-low _ _ _ (declined Verdict.Invalid) (written-in who id f found block first last push body)

  pushed-recovering :
      (until : ℕ) (last : Option Table) (who : Who) (id block first final : ℕ) (base : PushBase) (body : List ℕ) (o : Option File)
      → find_file id s.kept.files ≡ o → IsLow (decide_push_recovering s until last who o block first final base body)
  pushed-recovering until last who id block first final base body None found = declined Verdict.Stale
  pushed-recovering until last who id block first final base body (Some f) found =
      either-low _ _ _ (declined Verdict.Invalid) (
      either-low _ _ _ (stored-recovering who id f found until last block first final body) (declined Verdict.Fenced))

  written-recovering :
      (until : ℕ) (last : Option Table) (who : Who) (file block first final : ℕ) (push : Option PushBase) (body : List ℕ)
      → IsLow (decide_write_recovering s until last who file block first final push body)
  written-recovering until last who file block first final None body = declined Verdict.TryLater
  written-recovering until last who file block first final (Some base) body =
      pushed-recovering until last who file block first final base body (find_file file s.kept.files) refl

  resized-if : (who : Who) (q id blocks : ℕ) (o : Option File) → find_file id s.kept.files ≡ o → IsLow (decide_resize s who q o blocks)
  resized-if who q id blocks None found = declined Verdict.Stale
  resized-if who q id blocks (Some f) found =
      either-low _ _ _ (declined Verdict.Invalid) (
      either-low _ _ _ (declined Verdict.NoSpace) (unless-conflict who f (resizes s who q f blocks) (resized who id f found q blocks)))

  removed-if : (who : Who) (q id : ℕ) (o : Option File) → find_file id s.kept.files ≡ o → IsLow (decide_remove s who q o)
  removed-if who q id None found = declined Verdict.Stale
  removed-if who q id (Some f) found = unless-conflict who f (removes s who q f) (removed who id f found q)

  decided-low : (phase : Phase) (who : Who) (r : Request) → IsLow (decide_in s phase who r)
  decided-low serving who (Request.Create w seq name blocks) = created name blocks
  decided-low serving who (Request.Write w seq file block first last push body) = written who file block first last push body
      (find_file file s.kept.files) refl
  decided-low serving who (Request.Resize w seq q file blocks) = resized-if who q file blocks (find_file file s.kept.files) refl
  decided-low serving who (Request.Remove w seq q file) = removed-if who q file (find_file file s.kept.files) refl
  decided-low serving who other = declined Verdict.TryLater
  decided-low (recovering until heard last) who (Request.Write w seq file block first final push body) =
      written-recovering until last who file block first final push body
  decided-low (recovering until heard last) who other = declined Verdict.TryLater

-- ---- the row that is left

can-be : (row : HostRow) → row.inc < inc_end → row.seq < seq_end → row.value < rev_end → can_be_kept row ≡ true
can-be row inc seq value = grind (arith, nat_tests)

stays-attached : (later can : Bool) → can ≡ true → (later && not can) ≡ false
stays-attached true true e = refl
stays-attached false true e = refl
stays-attached later false e = absurd (cc)

stays-in : (now above can : Bool) → can ≡ true → (now && above && not can) ≡ false
stays-in true true true e = refl
stays-in true false true e = refl
stays-in false above true e = refl
stays-in now above false e = absurd (cc)

module _ (n : ℕ) (s : Server) (few : n ≤ most_events) (g : RevisionsUpTo n s.kept.files) (who : Who) (low : who.inc ≤ n + 1) (line : HostRow) where
  not-attach : (r : Request) (seq : ℕ) → seq ≤ most_sent → goes_out s who r line (Some seq) ≡ false
  not-attach r seq below =
      stays-in (who.inc == line.inc) (nat_lt line.seq seq) (can_be_kept (row_after who seq (decide s who r)))
      (can-be (row_after who seq (decide s who r)) (omega arith) (omega arith) (decided-low n s few g s.phase who r).low)

  pub stays-within : (r : Request) → ((seq : ℕ) → sequence_of r ≡ Some seq → seq ≤ most_sent) → is_out_of_bounds s who r line ≡ false
  stays-within (Request.Attach w) below =
      stays-attached (nat_lt line.inc who.inc) (can_be_kept (row_of_attach who)) (can-be (row_of_attach who) (omega arith) (omega arith) (omega arith))
  stays-within (Request.Create w seq name blocks) below = not-attach (Request.Create w seq name blocks) seq (below seq refl)
  stays-within (Request.Write w seq file block first last push body) below =
      not-attach (Request.Write w seq file block first last push body) seq (below seq refl)
  stays-within (Request.Resize w seq q file blocks) below = not-attach (Request.Resize w seq q file blocks) seq (below seq refl)
  stays-within (Request.Remove w seq q file) below = not-attach (Request.Remove w seq q file) seq (below seq refl)
  stays-within other below = refl
