-- The server's step on a request that is decided once is what was decided of the kept state, and what is done aside.
use Rattle.std.proofs.Common.{◌≡◌, ◌<◌, ℕ, ◌==◌, Bool, true, false, ◌&&◌, List, [], ◌∷◌, ◌++◌, Option, Some, None, if◌then◌else◌, refl, sym, subst}
use Rattle.std.proofs.Common.{ap, ◌∙◌, arith}
use Rattle.std.specs.List.{find}
use Rattle.std.specs.Prelude.{is_some, nat_lt, nat_le}
use Rattle.std.proofs.lemmas.Bool.Decides.{nat_tests}
use Rattle.nq_base.specs.Block.{value_of}
use Rattle.nq_base.specs.declared.Access.{Access}
use Rattle.nq_base.specs.declared.Change.{Change}
use Rattle.nq_base.specs.declared.Decided.{Decided}
use Rattle.nq_base.specs.declared.Decided.TheVariants.{Fresh, Again, Old, OldIncarnation, NotAttached, OutOfBounds}
use Rattle.nq_base.specs.declared.Effect.{Effect}
use Rattle.nq_base.specs.declared.Entry.{Entry}
use Rattle.nq_base.specs.declared.HostRow.{HostRow}
use Rattle.nq_base.specs.declared.PushBase.{PushBase}
use Rattle.nq_base.specs.declared.Refusal.{Refusal}
use Rattle.nq_base.specs.declared.Reply.{Reply as Answer}
use Rattle.nq_base.specs.declared.Request.{Request}
use Rattle.nq_base.specs.declared.Request.TheVariants.{Attach, Create, Write, Resize, Remove}
use Rattle.nq_base.specs.declared.Row.{Row}
use Rattle.nq_base.specs.declared.Verdict.{Verdict}
use Rattle.nq_base.specs.declared.Who.{Who}
use Rattle.nq_model.specs.protocol.Ask.{ask_past, conflicts, marked, put_off, free}
use Rattle.nq_model.specs.protocol.Change.{row_of, row_of_found, heads_of, space_of, IsNextFree, kept_as, applied}
use Rattle.nq_model.specs.protocol.Decide.{Decision, decides, creates, writes_through, stores, wrote, stores_recovering, resizes, removes, to_change, puts_off}
use Rattle.nq_model.specs.protocol.Decide.{unless_asked, lets_push, decide_create, decide_push, decide_write_in, decide_write, decide_push_recovering}
use Rattle.nq_model.specs.protocol.Decide.{decide_write_recovering, decide_resize, decide_remove, decide_in, decide, verdict_reply, row_after, commits}
use Rattle.nq_model.specs.protocol.Decide.{commits_within}
use Rattle.nq_model.specs.protocol.Decided.{no_effect, creation, block_write, length_change, removal, effect_of_create, effect_of_push, effect_of_write_in}
use Rattle.nq_model.specs.protocol.Decided.{effect_of_write, effect_of_write_recovering, effect_of_resize, effect_of_remove, effect_of, row_with}
use Rattle.nq_model.specs.protocol.Decided.{fresh_decided, or_fresh, decided, is_decided_once, change_with, file_to_change, is_held_writing, gate_in, gate_of}
use Rattle.nq_model.specs.protocol.Decided.{Aside, nothing_aside, entry_aside, rows_aside, heard_aside, put_off_aside, stored_aside, kept_length, aside_in}
use Rattle.nq_model.specs.protocol.Decided.{decided_answer, fresh_step, decided_step}
use Rattle.nq_model.specs.protocol.Kept.{File, Kept, blocks_of, blocks_in_all, find_file, find_name, replace_file, drop_file, written_file, resized_file}
use Rattle.nq_model.specs.protocol.Kept.{with_row, with_files, with_new_file, can_be_kept, host_row}
use Rattle.nq_model.specs.protocol.Message.{reply, request, asker, old_incarnation, out_of_bounds, wrong_host}
use Rattle.nq_model.specs.protocol.Profile.{most_hosts}
use Rattle.nq_model.specs.protocol.Server.{Phase, serving, recovering, Server, ServerStep, taken, to_host, drops, refuses, replies, keeping, keeping_with}
use Rattle.nq_model.specs.protocol.Server.{after_notices}
use Rattle.nq_model.specs.protocol.ServerStep.{row_of_attach, attaches, admit, answer_request, receive}
use Rattle.nq_model.specs.protocol.Table.{Table, find_row, drop_rows_of, with_rows}
use Rattle.nq_model.proofs.AppliedChanges.{applied-none, applied-write, applied-resize, applied-removal, applied-creation}
use Rattle.nq_model.proofs.Files.{found-id}

-- the step that leaves this kept state, does this aside and gives this reply
abbrev step_of : Server → Who → (xid : ℕ) → Kept → Aside → Answer → ServerStep
step_of s who xid kept beside answer = record {
  server = record { kept = kept; phase = beside.phase; table = beside.table; longest = s.longest; notice = beside.notice; now = s.now };
  sends = beside.sends ++ to_host who.host (reply xid answer) ∷ [];
  entries = beside.entries;
  outcome = taken;
}

fresh-is : (s : Server) (who : Who) (xid : ℕ) (change : Change) (beside : Aside) (answer : Answer) (kept : Kept) → applied s.kept change ≡ kept
    → step_of s who xid kept beside answer ≡ fresh_step s who xid change beside answer
unfolding fresh_step
fresh-is s who xid change beside answer kept e = ap (λ k. step_of s who xid k beside answer) (sym e)

module _ (s : Server) (phase : Phase) (who : Who) (seq xid : ℕ) (r : Request) (plain : (verdict : Verdict) (value : ℕ) → decided_answer who.inc
    verdict value r ≡ verdict_reply who.inc verdict value r) where
  -- a decision is an effect, and what is done aside; both leave the same row of the host
  abbrev Does : Decision → Effect → Type 0
  Does d e =
      (commits who seq xid r d ≡ fresh_step s who xid (change_with who seq e) (aside_in s phase who r e.verdict) (decided_answer who.inc e.verdict e.value r))
      × (row_after who seq d ≡ row_with who seq e)

  -- a choice of two
  either : (b : Bool) (x y : Decision) (e f : Effect) → Does x e → Does y f → Does (if b then x else y) (if b then e else f)
  either true x y e f this that = this
  either false x y e f this that = that

  -- whatever is done aside, once the kept state and the rest are as said
  does :
      (d : Decision) (e : Effect) (kept : Kept) (beside : Aside) → applied s.kept (change_with who seq e) ≡ kept → aside_in s phase who r e.verdict ≡ beside
      → commits who seq xid r d ≡ step_of s who xid kept beside (verdict_reply who.inc e.verdict e.value r) → row_after who seq d ≡ row_with who seq e
      → Does d e
  does d e kept beside k a c row = (
    c
        ∙ ap (λ answer. step_of s who xid kept beside answer) (sym (plain e.verdict e.value))
        ∙ ap (λ b. step_of s who xid kept b (decided_answer who.inc e.verdict e.value r)) (sym a)
        ∙ fresh-is s who xid (change_with who seq e) (aside_in s phase who r e.verdict) (decided_answer who.inc e.verdict e.value r) kept k,
    row,
  )

  -- a decision without effect, and with nothing done aside
  declines : (verdict : Verdict) → aside_in s phase who r verdict ≡ nothing_aside s → Does (decides s verdict) (no_effect verdict)
  unfolding decides no_effect commits keeping nothing_aside
  declines verdict a =
      does (decides s verdict) (no_effect verdict) (with_row s.kept who.host (row_with who seq (no_effect verdict))) (nothing_aside s)
      (applied-none s.kept who seq verdict) a refl refl

  -- the change is put off, where a row conflicts
  puts-off : (file : ℕ) → aside_in s phase who r Verdict.TryLater ≡ put_off_aside s who file
      → Does (puts_off s who file (with_rows s.table (marked file who.host Access.Write s.table.rows))) (no_effect Verdict.TryLater)
  unfolding puts_off no_effect commits keeping put_off_aside after_notices
  puts-off file a =
      does _ (no_effect Verdict.TryLater) (with_row s.kept who.host (row_with who seq (no_effect Verdict.TryLater))) (put_off_aside s who file)
      (applied-none s.kept who seq Verdict.TryLater) a refl refl

  unless-conflict-by : (f : File) (change : Decision) (e : Effect) (o own : Option Row) → aside_in s phase who r Verdict.TryLater ≡ put_off_aside s
      who f.id → Does change e → Does (unless_asked s who f.id (ask_past s.table (to_change s who f) o own) change) (if is_some o
      then no_effect Verdict.TryLater else e)
  unfolding put_off free
  unless-conflict-by f change e None own a d = d
  unless-conflict-by f change e (Some clash) own a d = puts-off f.id a

-- ---- while serving

creates-does : (s : Server) (who w : Who) (seq n xid : ℕ) (name : List ℕ) (blocks : ℕ) → IsNextFree s.kept → Does s serving who seq xid
    (Create w n name blocks) (λ v x. refl) (creates s name blocks) (creation (heads_of s.kept) name blocks)
unfolding creates creation commits keeping nothing_aside
creates-does s who w seq n xid name blocks free =
    does s serving who seq xid (Create w n name blocks) (λ v x. refl) (creates s name blocks) (creation (heads_of s.kept) name blocks)
    (with_row (with_new_file s.kept name blocks) who.host (row_with who seq (creation (heads_of s.kept) name blocks))) (nothing_aside s)
    (applied-creation s.kept who seq name blocks free) refl refl refl

create-does : (s : Server) (who w : Who) (seq n xid : ℕ) (name : List ℕ) (blocks : ℕ) → IsNextFree s.kept → Does s serving who seq xid
    (Create w n name blocks) (λ v x. refl) (decide_create s name blocks) (effect_of_create (space_of s.kept) (heads_of s.kept)
    (is_some (find_name name s.kept.files)) name blocks)
create-does s who w seq n xid name blocks free =
    let r : Request = Create w n name blocks in
    let declined : (v : Verdict) → aside_in s serving who r v ≡ nothing_aside s → Does s serving who seq xid r (λ v x. refl) (decides s v)
    (no_effect v) = declines s serving who seq xid r (λ v x. refl) in
    either s serving who seq xid r (λ v x. refl) _ _ _ _ _ (declined Verdict.Invalid refl)
    (either s serving who seq xid r (λ v x. refl) _ _ _ _ _ (declined Verdict.Exist refl)
    (either s serving who seq xid r (λ v x. refl) _ _ _ _ _ (declined Verdict.NoSpace refl) (creates-does s who w seq n xid name blocks free)))

module _ (s : Server) (who w : Who) (seq n xid block first last : ℕ) (body : List ℕ) (f : File) (found : find_file f.id s.kept.files ≡ Some f) where
  abbrev Writes : Option PushBase → Decision → Effect → Type 0
  Writes push d e = Does s serving who seq xid (Write w n f.id block first last push body) (λ v x. refl) d e

  goes-through : Writes None (writes_through s who f block first body) (block_write (row_of f) block body)
  unfolding writes_through block_write commits keeping entry_aside
  goes-through =
      does s serving who seq xid (Write w n f.id block first last None body) (λ v x. refl) (writes_through s who f block first body)
      (block_write (row_of f) block body) (with_row (with_files s.kept (replace_file (written_file f block body) s.kept.files)) who.host
      (row_with who seq (block_write (row_of f) block body))) (entry_aside s (Entry.W who f.id block first (value_of body) true))
      (applied-write s.kept who seq f block body found) refl refl refl

  is-stored : (base : PushBase) (row : Row) → find_row f.id who.host s.table.rows ≡ Some row → Writes (Some base) (stores s who f row block first last
      body) (block_write (row_of f) block body)
  unfolding stores block_write commits keeping keeping_with rows_aside
  is-stored base row own =
      does s serving who seq xid (Write w n f.id block first last (Some base) body) (λ v x. refl) (stores s who f row block first last body)
      (block_write (row_of f) block body) (with_row (with_files s.kept (replace_file (written_file f block body) s.kept.files)) who.host
      (row_with who seq (block_write (row_of f) block body))) (stored_aside s (Some row) (Entry.S who f.id block first last s.now))
      (applied-write s.kept who seq f block body found) (ap (λ o. stored_aside s o (Entry.S who f.id block first last s.now)) own) refl refl

  pushes : (base : PushBase) (o : Option Row) → find_row f.id who.host s.table.rows ≡ o → Writes (Some base) (decide_push s who f block first last
      base body o) (effect_of_push s.kept.boot (is_held_writing who o) (row_of f) block base body)
  pushes base None own = declines s serving who seq xid (Write w n f.id block first last (Some base) body) (λ v x. refl) Verdict.Fenced refl
  pushes base (Some row) own =
      either s serving who seq xid (Write w n f.id block first last (Some base) body) (λ v x. refl) (lets_push s who f base row) _ _ _ _
      (is-stored base row own) (declines s serving who seq xid (Write w n f.id block first last (Some base) body) (λ v x. refl) Verdict.Fenced refl)

  writes-in : (push : Option PushBase) → Writes push (decide_write_in s who f block first last push body) (effect_of_write_in s.kept.boot
      (is_some (find (conflicts f.id who.host Access.Write) s.table.rows)) (is_held_writing who (find_row f.id who.host s.table.rows)) (row_of f)
      block push body)
  writes-in None = unless-conflict-by s serving who seq xid (Write w n f.id block first last None body) (λ v x. refl) f (writes_through s who f block
      first body) (block_write (row_of f) block body) (find (conflicts f.id who.host Access.Write) s.table.rows) (find_row f.id who.host s.table.rows)
      refl goes-through
  writes-in (Some base) = pushes base (find_row f.id who.host s.table.rows) refl

  writes : (push : Option PushBase) → Writes push (decide_write s who (Some f) block first last push body) (effect_of_write s.kept.boot
      (is_some (find (conflicts f.id who.host Access.Write) s.table.rows)) (is_held_writing who (find_row f.id who.host s.table.rows))
      (Some (row_of f)) block push body)
  writes push = either s serving who seq xid (Write w n f.id block first last push body) (λ v x. refl) (nat_le (blocks_of f) block) _ _ _ _
      (declines s serving who seq xid (Write w n f.id block first last push body) (λ v x. refl) Verdict.Invalid refl) (writes-in push)

-- a WRITE of a file that may be kept
writes-found : (s : Server) (who w : Who) (seq n xid file block first last : ℕ) (push : Option PushBase) (body : List ℕ) (o : Option File)
    → find_file file s.kept.files ≡ o → Does s serving who seq xid (Write w n file block first last push body) (λ v x. refl)
    (decide_write s who o block first last push body) (effect_of_write s.kept.boot (is_some (find (conflicts file who.host Access.Write)
    s.table.rows)) (is_held_writing who (find_row file who.host s.table.rows)) (row_of_found o) block push body)
writes-found s who w seq n xid file block first last push body None found = declines s serving who seq xid (Write w n file block first last push body)
    (λ v x. refl) Verdict.Stale refl
writes-found s who w seq n xid file block first last push body (Some f) found =
    let same : f.id ≡ file = found-id file s.kept.files f found in
    let here : find_file f.id s.kept.files ≡ Some f = ap (λ i. find_file i s.kept.files) same ∙ found in
    subst (λ i. Does s serving who seq xid (Write w n i block first last push body) (λ v x. refl) (decide_write s who (Some f) block first last push
    body) (effect_of_write s.kept.boot (is_some (find (conflicts i who.host Access.Write) s.table.rows))
    (is_held_writing who (find_row i who.host s.table.rows)) (Some (row_of f)) block push body)) same (writes s who w seq n xid block first last
    body f here push)

-- RESIZE
module _ (s : Server) (who w : Who) (seq n xid q blocks : ℕ) (f : File) (found : find_file f.id s.kept.files ≡ Some f) where
  abbrev Resizes : Decision → Effect → Type 0
  Resizes d e = Does s serving who seq xid (Resize w n q f.id blocks) (λ v x. refl) d e

  is-resized : Resizes (resizes s who q f blocks) (length_change (row_of f) blocks)
  unfolding resizes length_change commits keeping entry_aside
  is-resized =
      does s serving who seq xid (Resize w n q f.id blocks) (λ v x. refl) (resizes s who q f blocks) (length_change (row_of f) blocks)
      (with_row (with_files s.kept (replace_file (resized_file f blocks) s.kept.files)) who.host
      (row_with who seq (length_change (row_of f) blocks))) (entry_aside s (Entry.Z who q f.id (blocks_of f) blocks)) (applied-resize s.kept who
      seq f blocks found) (ap (λ o. entry_aside s (Entry.Z who q f.id (kept_length (row_of_found o)) blocks)) found) refl refl

  resizing : Resizes (decide_resize s who q (Some f) blocks) (effect_of_resize (blocks_in_all s.kept.files)
      (is_some (find (conflicts f.id who.host Access.Write) s.table.rows)) (Some (row_of f)) blocks)
  resizing =
      let r : Request = Resize w n q f.id blocks in
      let declined : (v : Verdict) → aside_in s serving who r v ≡ nothing_aside s → Does s serving who seq xid r (λ v x. refl) (decides s v)
      (no_effect v) = declines s serving who seq xid r (λ v x. refl) in
      either s serving who seq xid r (λ v x. refl) _ _ _ _ _ (declined Verdict.Invalid refl)
      (either s serving who seq xid r (λ v x. refl) _ _ _ _ _ (declined Verdict.NoSpace refl)
      (unless-conflict-by s serving who seq xid r (λ v x. refl) f (resizes s who q f blocks) (length_change (row_of f) blocks)
      (find (conflicts f.id who.host Access.Write) s.table.rows) (find_row f.id who.host s.table.rows) refl is-resized))

resizes-found : (s : Server) (who w : Who) (seq n xid q file blocks : ℕ) (o : Option File) → find_file file s.kept.files ≡ o → Does s serving who seq
    xid (Resize w n q file blocks) (λ v x. refl) (decide_resize s who q o blocks) (effect_of_resize (blocks_in_all s.kept.files)
    (is_some (find (conflicts file who.host Access.Write) s.table.rows)) (row_of_found o) blocks)
resizes-found s who w seq n xid q file blocks None found = declines s serving who seq xid (Resize w n q file blocks) (λ v x. refl) Verdict.Stale refl
resizes-found s who w seq n xid q file blocks (Some f) found =
    let same : f.id ≡ file = found-id file s.kept.files f found in
    let here : find_file f.id s.kept.files ≡ Some f = ap (λ i. find_file i s.kept.files) same ∙ found in
    subst (λ i. Does s serving who seq xid (Resize w n q i blocks) (λ v x. refl) (decide_resize s who q (Some f) blocks)
    (effect_of_resize (blocks_in_all s.kept.files) (is_some (find (conflicts i who.host Access.Write) s.table.rows)) (Some (row_of f)) blocks))
    same (resizing s who w seq n xid q blocks f here)

-- REMOVE
module _ (s : Server) (who w : Who) (seq n xid q : ℕ) (f : File) (found : find_file f.id s.kept.files ≡ Some f) where
  is-removed : Does s serving who seq xid (Remove w n q f.id) (λ v x. refl) (removes s who q f) (removal (row_of f))
  unfolding removes removal commits keeping keeping_with rows_aside
  is-removed =
      does s serving who seq xid (Remove w n q f.id) (λ v x. refl) (removes s who q f) (removal (row_of f))
      (with_row (with_files s.kept (drop_file f.id s.kept.files)) who.host (row_with who seq (removal (row_of f))))
      (rows_aside s (drop_rows_of f.id s.table.rows) (Entry.Z who q f.id (blocks_of f) 0 ∷ [])) (applied-removal s.kept who seq f)
      (ap (λ o. rows_aside s (drop_rows_of f.id s.table.rows) (Entry.Z who q f.id (kept_length (row_of_found o)) 0 ∷ [])) found) refl refl

  removing : Does s serving who seq xid (Remove w n q f.id) (λ v x. refl) (decide_remove s who q (Some f))
      (effect_of_remove (is_some (find (conflicts f.id who.host Access.Write) s.table.rows)) (Some (row_of f)))
  removing = unless-conflict-by s serving who seq xid (Remove w n q f.id) (λ v x. refl) f (removes s who q f) (removal (row_of f))
      (find (conflicts f.id who.host Access.Write) s.table.rows) (find_row f.id who.host s.table.rows) refl is-removed

removes-found : (s : Server) (who w : Who) (seq n xid q file : ℕ) (o : Option File) → find_file file s.kept.files ≡ o → Does s serving who seq xid
    (Remove w n q file) (λ v x. refl) (decide_remove s who q o) (effect_of_remove (is_some (find (conflicts file who.host Access.Write) s.table.rows))
    (row_of_found o))
removes-found s who w seq n xid q file None found = declines s serving who seq xid (Remove w n q file) (λ v x. refl) Verdict.Stale refl
removes-found s who w seq n xid q file (Some f) found =
    let same : f.id ≡ file = found-id file s.kept.files f found in
    let here : find_file f.id s.kept.files ≡ Some f = ap (λ i. find_file i s.kept.files) same ∙ found in
    subst (λ i. Does s serving who seq xid (Remove w n q i) (λ v x. refl) (decide_remove s who q (Some f))
    (effect_of_remove (is_some (find (conflicts i who.host Access.Write) s.table.rows)) (Some (row_of f)))) same (removing s who w seq n xid q f here)

-- ---- while recovering

module _ (s : Server) (until heard : ℕ) (known : Option Table) (who w : Who) (seq n xid block first last : ℕ) (body : List ℕ) (base : PushBase) where
  is-stored-recovering : (f : File) → find_file f.id s.kept.files ≡ Some f → Does s (recovering until heard known) who seq xid
      (Write w n f.id block first last (Some base) body) (λ v x. refl) (stores_recovering s until known who f block first last body)
      (block_write (row_of f) block body)
  unfolding stores_recovering wrote block_write commits keeping heard_aside
  is-stored-recovering f found =
      does s (recovering until heard known) who seq xid (Write w n f.id block first last (Some base) body) (λ v x. refl) (stores_recovering s until
      known who f block first last body) (block_write (row_of f) block body)
      (with_row (with_files s.kept (replace_file (written_file f block body) s.kept.files)) who.host
      (row_with who seq (block_write (row_of f) block body))) (heard_aside s until known (Entry.S who f.id block first last s.now))
      (applied-write s.kept who seq f block body found) refl refl refl

  pushes-recovering : (f : File) → find_file f.id s.kept.files ≡ Some f → Does s (recovering until heard known) who seq xid
      (Write w n f.id block first last (Some base) body) (λ v x. refl) (decide_push_recovering s until known who (Some f) block first last base body)
      (effect_of_write s.kept.opened false true (Some (row_of f)) block (Some base) body)
  pushes-recovering f found =
      let p : Phase = recovering until heard known in
      let r : Request = Write w n f.id block first last (Some base) body in
      either s p who seq xid r (λ v x. refl) (nat_le (blocks_of f) block) _ _ _ _ (declines s p who seq xid r (λ v x. refl) Verdict.Invalid refl)
      (either s p who seq xid r (λ v x. refl) (base.boot == s.kept.opened && base.base == f.rev) _ _ _ _ (is-stored-recovering f found)
      (declines s p who seq xid r (λ v x. refl) Verdict.Fenced refl))

  pushes-found : (file : ℕ) (o : Option File) → find_file file s.kept.files ≡ o → Does s (recovering until heard known) who seq xid
      (Write w n file block first last (Some base) body) (λ v x. refl) (decide_push_recovering s until known who o block first last base body)
      (effect_of_write s.kept.opened false true (row_of_found o) block (Some base) body)
  pushes-found file None found = declines s (recovering until heard known) who seq xid (Write w n file block first last (Some base) body)
      (λ v x. refl) Verdict.Stale refl
  pushes-found file (Some f) found =
      let same : f.id ≡ file = found-id file s.kept.files f found in
      let here : find_file f.id s.kept.files ≡ Some f = ap (λ i. find_file i s.kept.files) same ∙ found in
      subst (λ i. Does s (recovering until heard known) who seq xid (Write w n i block first last (Some base) body) (λ v x. refl)
      (decide_push_recovering s until known who (Some f) block first last base body) (effect_of_write s.kept.opened false true (Some (row_of f))
      block (Some base) body)) same (pushes-recovering f here)

writes-recovering : (s : Server) (until heard : ℕ) (known : Option Table) (who w : Who) (seq n xid file block first last : ℕ) (push : Option PushBase)
    (body : List ℕ) → Does s (recovering until heard known) who seq xid (Write w n file block first last push body) (λ v x. refl)
    (decide_write_recovering s until known who file block first last push body) (effect_of_write_recovering s.kept.opened
    (row_of_found (find_file file s.kept.files)) block push body)
writes-recovering s until heard known who w seq n xid file block first last None body = declines s (recovering until heard known) who seq xid
    (Write w n file block first last None body) (λ v x. refl) Verdict.TryLater refl
writes-recovering s until heard known who w seq n xid file block first last (Some base) body = pushes-found s until heard known who w seq n xid block
    first last body base file (find_file file s.kept.files) refl

-- ---- in both phases

-- a fresh request, by the phase
abbrev Decides : (s : Server) (phase : Phase) (who : Who) (seq xid : ℕ) (r : Request) → ((verdict : Verdict) (value : ℕ) → decided_answer who.inc
    verdict value r ≡ verdict_reply who.inc verdict value r) → Type 0
Decides s phase who seq xid r plain =
    Does s phase who seq xid r plain (decide_in s phase who r) (effect_of s.kept (gate_in s phase who (file_to_change r)) r)

create-by : (s : Server) (phase : Phase) (who w : Who) (seq n xid : ℕ) (name : List ℕ) (blocks : ℕ) → IsNextFree s.kept → Decides s phase who seq xid
    (Create w n name blocks) (λ v x. refl)
create-by s serving who w seq n xid name blocks free = create-does s who w seq n xid name blocks free
create-by s (recovering until heard known) who w seq n xid name blocks free = declines s (recovering until heard known) who seq xid
    (Create w n name blocks) (λ v x. refl) Verdict.TryLater refl

write-by : (s : Server) (phase : Phase) (who w : Who) (seq n xid file block first last : ℕ) (push : Option PushBase) (body : List ℕ)
    → Decides s phase who seq xid (Write w n file block first last push body) (λ v x. refl)
write-by s serving who w seq n xid file block first last push body = writes-found s who w seq n xid file block first last push body
    (find_file file s.kept.files) refl
write-by s (recovering until heard known) who w seq n xid file block first last push body = writes-recovering s until heard known who w seq n xid file
    block first last push body

resize-by : (s : Server) (phase : Phase) (who w : Who) (seq n xid q file blocks : ℕ) → Decides s phase who seq xid (Resize w n q file blocks) (λ v x. refl)
resize-by s serving who w seq n xid q file blocks = resizes-found s who w seq n xid q file blocks (find_file file s.kept.files) refl
resize-by s (recovering until heard known) who w seq n xid q file blocks = declines s (recovering until heard known) who seq xid
    (Resize w n q file blocks) (λ v x. refl) Verdict.TryLater refl

remove-by : (s : Server) (phase : Phase) (who w : Who) (seq n xid q file : ℕ) → Decides s phase who seq xid (Remove w n q file) (λ v x. refl)
remove-by s serving who w seq n xid q file = removes-found s who w seq n xid q file (find_file file s.kept.files) refl
remove-by s (recovering until heard known) who w seq n xid q file = declines s (recovering until heard known) who seq xid (Remove w n q file)
    (λ v x. refl) Verdict.TryLater refl

-- ---- by the kept row of the host

-- the four tests of incarnation and sequence choose alike
tests-alike :
    (s : Server) (who : Who) (seq xid : ℕ) (r : Request) (line : HostRow) (step : ServerStep) (fresh : Decided) (late early same below : Bool)
    → decided_answer who.inc line.verdict line.value r ≡ verdict_reply who.inc line.verdict line.value r → step ≡ decided_step s who xid r fresh
    → (if late then drops s old_incarnation else (if early then refuses s who xid Refusal.NotAttached
    else (if same then replies s who.host xid (verdict_reply who.inc line.verdict line.value r) else (if below then refuses s who xid Refusal.Old
    else step)))) ≡ decided_step s who xid r (or_fresh (if late then Some OldIncarnation else (if early then Some NotAttached
    else (if same then Some (Again line.verdict line.value) else (if below then Some Old else None)))) fresh)
tests-alike s who seq xid r line step fresh true early same below plain f = refl
tests-alike s who seq xid r line step fresh false true same below plain f = refl
tests-alike s who seq xid r line step fresh false false true below plain f = ap (replies s who.host xid) (sym plain)
tests-alike s who seq xid r line step fresh false false false true plain f = refl
tests-alike s who seq xid r line step fresh false false false false plain f = f

-- and so does the test of the row that is left
within-alike :
    (s : Server) (who : Who) (seq xid : ℕ) (r : Request) (d : Decision) (e : Effect)
    → commits who seq xid r d ≡ decided_step s who xid r (Fresh e.verdict e.value) → row_after who seq d ≡ row_with who seq e
    → commits_within s who seq xid r d ≡ decided_step s who xid r (fresh_decided who seq e)
within-alike s who seq xid r d e step row =
    ap (λ line. if can_be_kept line then commits who seq xid r d else drops s out_of_bounds) row ∙ by (can_be_kept (row_with who seq e))
  where
    by :
        (b : Bool)
        → (if b then commits who seq xid r d else drops s out_of_bounds) ≡ decided_step s who xid r (if b then Fresh e.verdict e.value else OutOfBounds)
    by true = step
    by false = refl

attaches-fresh : (s : Server) (who : Who) (xid : ℕ) → attaches s who xid ≡ decided_step s who xid (Attach who) (Fresh Verdict.Done 0)
unfolding attaches keeping_with rows_aside no_effect fresh_step change_with kept_as with_row
attaches-fresh s who xid = refl

attach-alike :
    (s : Server) (who : Who) (xid : ℕ) (line : HostRow) (later within earlier : Bool)
    → (if later then (if within then attaches s who xid else drops s out_of_bounds) else (if earlier then drops s old_incarnation
    else replies s who.host xid (Answer.Attach who.inc))) ≡ decided_step s who xid (Attach who)
    (if later then (if within then Fresh Verdict.Done 0 else OutOfBounds) else (if earlier then OldIncarnation else Again line.verdict line.value))
attach-alike s who xid line true true earlier = attaches-fresh s who xid
attach-alike s who xid line true false earlier = refl
attach-alike s who xid line false within true = refl
attach-alike s who xid line false within false = refl

-- what the lemmas below say
abbrev AdmitsDecided : (s : Server) (who : Who) (xid next : ℕ) (r : Request) → Type 0
AdmitsDecided s who xid next r = admit s who xid next r (host_row s.kept who.host) ≡ decided_step s who xid r (decided s.kept (gate_of s who r) r)

admits-create : (s : Server) (who : Who) (xid next seq : ℕ) (name : List ℕ) (blocks : ℕ) → IsNextFree s.kept → AdmitsDecided s who xid next
    (Create who seq name blocks)
admits-create s who xid next seq name blocks free =
    let r : Request = Create who seq name blocks in
    let does = create-by s s.phase who who seq seq xid name blocks free in
    tests-alike s who seq xid r (host_row s.kept who.host) (commits_within s who seq xid r (decide s who r)) _ _ _ _ _ refl
    (within-alike s who seq xid r (decide s who r) (effect_of s.kept (gate_of s who r) r) does.0 does.1)

admits-write : (s : Server) (who : Who) (xid next seq file block first last : ℕ) (push : Option PushBase) (body : List ℕ) → AdmitsDecided s who xid
    next (Write who seq file block first last push body)
admits-write s who xid next seq file block first last push body =
    let r : Request = Write who seq file block first last push body in
    let does = write-by s s.phase who who seq seq xid file block first last push body in
    tests-alike s who seq xid r (host_row s.kept who.host) (commits_within s who seq xid r (decide s who r)) _ _ _ _ _ refl
    (within-alike s who seq xid r (decide s who r) (effect_of s.kept (gate_of s who r) r) does.0 does.1)

admits-resize : (s : Server) (who : Who) (xid next seq q file blocks : ℕ) → AdmitsDecided s who xid next (Resize who seq q file blocks)
admits-resize s who xid next seq q file blocks =
    let r : Request = Resize who seq q file blocks in
    let does = resize-by s s.phase who who seq seq xid q file blocks in
    tests-alike s who seq xid r (host_row s.kept who.host) (commits_within s who seq xid r (decide s who r)) _ _ _ _ _ refl
    (within-alike s who seq xid r (decide s who r) (effect_of s.kept (gate_of s who r) r) does.0 does.1)

admits-remove : (s : Server) (who : Who) (xid next seq q file : ℕ) → AdmitsDecided s who xid next (Remove who seq q file)
admits-remove s who xid next seq q file =
    let r : Request = Remove who seq q file in
    let does = remove-by s s.phase who who seq seq xid q file in
    tests-alike s who seq xid r (host_row s.kept who.host) (commits_within s who seq xid r (decide s who r)) _ _ _ _ _ refl
    (within-alike s who seq xid r (decide s who r) (effect_of s.kept (gate_of s who r) r) does.0 does.1)

-- a request of a host that is decided once is answered as it is decided
pub admits-decided : (s : Server) (who : Who) (xid next : ℕ) (r : Request) → asker r ≡ Some who → is_decided_once r ≡ true → IsNextFree s.kept
    → AdmitsDecided s who xid next r
unfolding no_effect
admits-decided s who xid next (Attach w) by once free =
    let same : w ≡ who = cc in
    subst (λ v. AdmitsDecided s v xid next (Attach w)) same (attach-alike s w xid (host_row s.kept w.host) (nat_lt (host_row s.kept w.host).inc w.inc)
    (can_be_kept (row_of_attach w)) (nat_lt w.inc (host_row s.kept w.host).inc))
admits-decided s who xid next (Create w seq name blocks) by once free =
    let same : w ≡ who = cc in
    subst (λ v. AdmitsDecided s v xid next (Create w seq name blocks)) same (admits-create s w xid next seq name blocks free)
admits-decided s who xid next (Write w seq file block first last push body) by once free =
    let same : w ≡ who = cc in
    subst (λ v. AdmitsDecided s v xid next (Write w seq file block first last push body)) same (admits-write s w xid next seq file block first last push body)
admits-decided s who xid next (Resize w seq q file blocks) by once free =
    let same : w ≡ who = cc in
    subst (λ v. AdmitsDecided s v xid next (Resize w seq q file blocks)) same (admits-resize s w xid next seq q file blocks)
admits-decided s who xid next (Remove w seq q file) by once free =
    let same : w ≡ who = cc in
    subst (λ v. AdmitsDecided s v xid next (Remove w seq q file)) same (admits-remove s w xid next seq q file)
admits-decided s who xid next other by once free = absurd (cc)

is-admitted : (who : Who) (sender : ℕ) → who.host ≡ sender → who.host < most_hosts → (who.host == sender && nat_lt who.host most_hosts) ≡ true
is-admitted who sender same few = grind (arith, nat_tests)

chosen : {A : Type 0} (b : Bool) (x y : A) → b ≡ true → (if b then x else y) ≡ x
chosen true x y e = refl
chosen false x y e = absurd (cc)

-- the server's step on a request that is decided once, of the host that sent it
pub receives-decided : (s : Server) (sender xid next : ℕ) (r : Request) (who : Who) → asker r ≡ Some who → is_decided_once r ≡ true → who.host
    ≡ sender → who.host < most_hosts → IsNextFree s.kept → receive s sender next (request xid r) ≡ decided_step s who xid r
    (decided s.kept (gate_of s who r) r)
receives-decided s sender xid next r who by once same few free =
    ap (answer_request s sender xid next r) by
    ∙ chosen (who.host == sender && nat_lt who.host most_hosts) (admit s who xid next r (host_row s.kept who.host)) (drops s wrong_host)
    (is-admitted who sender same few)
    ∙ admits-decided s who xid next r by once free
