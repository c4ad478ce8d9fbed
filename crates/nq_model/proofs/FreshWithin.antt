-- The numbers of what a fresh request changes are within their bounds, where those of the kept state are.
use Rattle.std.proofs.Common.{◌≡◌, ◌<◌, ◌≤◌, ◌^◌, ℕ, ◌+◌, ◌-◌, ◌==◌, Bool, true, false, ◌||◌, List, Option, Some, None, if◌then◌else◌, length, refl, arith}
use Rattle.std.specs.Option.{IfSome}
use Rattle.std.specs.Prelude.{is_some, nat_lt, nat_le}
use Rattle.std.proofs.lemmas.Bool.Decides.{nat_tests}
use Rattle.nq_base.specs.Name.{IsName}
use Rattle.nq_base.specs.declared.Decided.TheVariants.{Fresh, Again, Old, OldIncarnation, NotAttached, OutOfBounds}
use Rattle.nq_base.specs.declared.Effect.{Effect}
use Rattle.nq_base.specs.declared.Gate.{Gate}
use Rattle.nq_base.specs.declared.Gate.TheVariants.{Recovering, Serving}
use Rattle.nq_base.specs.declared.HostRow.{HostRow}
use Rattle.nq_base.specs.declared.PushBase.{PushBase}
use Rattle.nq_base.specs.declared.Request.{Request}
use Rattle.nq_base.specs.declared.Request.TheVariants.{Attach, Create, Write, Resize, Remove}
use Rattle.nq_base.specs.declared.Verdict.{Verdict}
use Rattle.nq_base.specs.declared.Who.{Who}
use Rattle.nq_model.specs.protocol.Change.{IsBody, IsFileWithin, IsWithinBounds, IsChangeWithin, AreHeadsWithin, row_of, row_of_found, raised_row, heads_of}
use Rattle.nq_model.specs.protocol.Change.{space_of, fencing, change_of_heads, booted_heads, opened_heads}
use Rattle.nq_model.specs.protocol.Decided.{no_effect, creation, block_write, length_change, removal, effect_of_create, effect_of_push, effect_of_write_in}
use Rattle.nq_model.specs.protocol.Decided.{effect_of_write, effect_of_write_recovering, effect_of_resize, effect_of_remove, effect_of, row_with}
use Rattle.nq_model.specs.protocol.Decided.{sequence_decided, attach_decided, or_fresh, decided, change_with, fresh_change, HasText}
use Rattle.nq_model.specs.protocol.Kept.{File, Kept, blocks_of, blocks_in_all, find_file, find_name, can_be_kept, can_rise, host_row}
use Rattle.nq_model.specs.protocol.Profile.{shortest_term, longest_term, most_files, most_blocks, most_blocks_of_file, most_ids, inc_end, seq_end, rev_end}
use Rattle.nq_model.proofs.Finding.{choice}
use Rattle.nq_model.proofs.FreshFits.{found-has}

-- a row that can be kept has its numbers below their ends
record IsBelowEnds (row : HostRow) : Type 0 where
  inc : row.inc < inc_end
  seq : row.seq < seq_end
  value : row.value < rev_end

below-ends : (row : HostRow) → can_be_kept row ≡ true → IsBelowEnds row
below-ends row can = record { inc = grind (arith, nat_tests); seq = grind (arith, nat_tests); value = grind (arith, nat_tests) }

-- only a request whose row can be kept is decided as fresh
fresh-by :
    (verdict v : Verdict) (value n : ℕ) (older early same below can : Bool) (line : HostRow)
    → or_fresh (if older then Some OldIncarnation else (if early then Some NotAttached else (if same then Some (Again line.verdict line.value)
    else (if below then Some Old else None)))) (if can then Fresh v n else OutOfBounds) ≡ Fresh verdict value
    → can ≡ true
fresh-by verdict v value n true early same below can line is = absurd (cc)
fresh-by verdict v value n false true same below can line is = absurd (cc)
fresh-by verdict v value n false false true below can line is = absurd (cc)
fresh-by verdict v value n false false false true can line is = absurd (cc)
fresh-by verdict v value n false false false false true line is = refl
fresh-by verdict v value n false false false false false line is = absurd (cc)

sequence-can :
    (who : Who) (seq : ℕ) (line : HostRow) (effect : Effect) (verdict : Verdict) (value : ℕ) → sequence_decided who seq line effect ≡ Fresh verdict value
    → can_be_kept (row_with who seq effect) ≡ true
sequence-can who seq line effect verdict value is =
    fresh-by verdict effect.verdict value effect.value (nat_lt who.inc line.inc) (nat_lt line.inc who.inc) (seq == line.seq) (nat_lt seq line.seq)
    (can_be_kept (row_with who seq effect)) line is

attached-by :
    (verdict v : Verdict) (value n : ℕ) (later older can : Bool) (line : HostRow)
    → (if later then (if can then Fresh v n else OutOfBounds) else (if older then OldIncarnation else Again line.verdict line.value)) ≡ Fresh verdict value
    → can ≡ true
attached-by verdict v value n true older true line is = refl
attached-by verdict v value n true older false line is = absurd (cc)
attached-by verdict v value n false true can line is = absurd (cc)
attached-by verdict v value n false false can line is = absurd (cc)

attach-can :
    (who : Who) (line : HostRow) (verdict : Verdict) (value : ℕ) → attach_decided who line ≡ Fresh verdict value
    → can_be_kept (row_with who 0 (no_effect Verdict.Done)) ≡ true
unfolding no_effect
attach-can who line verdict value is =
    attached-by verdict Verdict.Done value 0 (nat_lt line.inc who.inc) (nat_lt who.inc line.inc)
    (can_be_kept (row_with who 0 (no_effect Verdict.Done))) line is

-- the numbers of an effect are within their bounds
record IsEffectWithin (kept : Kept) (effect : Effect) : Type 0 where
  file : IfSome effect.change.file (λ row. IsName row.name × (row.rev < rev_end))
  block : IfSome effect.change.block (λ b. IsBody b.body)
  heads : IfSome effect.change.heads (AreHeadsWithin kept.next)

module _ (kept : Kept) (within : IsWithinBounds kept) where
  -- so are they where the value, which is the revision that a file gets, is below the end of the revisions
  abbrev StaysWithin : Effect → Type 0
  StaysWithin effect = effect.value < rev_end → IsEffectWithin kept effect

  none-within : (verdict : Verdict) → StaysWithin (no_effect verdict)
  unfolding no_effect
  none-within verdict below = record { file = tt; block = tt; heads = tt }

  creation-within : (name : List ℕ) (blocks : ℕ) → IsName name → kept.next < most_ids → StaysWithin (creation (heads_of kept) name blocks)
  unfolding creation
  creation-within name blocks named room below = record {
    file = (named, omega arith);
    block = tt;
    heads = record { opened = within.opened; boot = within.boot; long = within.long; short = within.short; ids = omega arith; few_ids = omega arith };
  }

  module _ (id : ℕ) (f : File) (found : find_file id kept.files ≡ Some f) where
    named : IsName f.name
    named = (found-has (IsFileWithin kept.next) id kept.files f within.files found).name

    write-within : (block : ℕ) (body : List ℕ) → IsBody body → StaysWithin (block_write (row_of f) block body)
    unfolding block_write raised_row
    write-within block body is_body below = record { file = (named, below); block = is_body; heads = tt }

    length-within : (blocks : ℕ) → StaysWithin (length_change (row_of f) blocks)
    unfolding length_change raised_row
    length-within blocks below = record { file = (named, below); block = tt; heads = tt }

    removal-within : StaysWithin (removal (row_of f))
    unfolding removal
    removal-within below = record { file = tt; block = tt; heads = tt }

    push-within :
        (boot : ℕ) (held : Bool) (block : ℕ) (base : PushBase) (body : List ℕ) → IsBody body
        → StaysWithin (effect_of_push boot held (row_of f) block base body)
    push-within boot held block base body is_body = choice StaysWithin _ _ _ (λ lets. write-within block body is_body) (λ late. none-within Verdict.Fenced)

    write-in-within :
        (boot : ℕ) (conflict held : Bool) (block : ℕ) (push : Option PushBase) (body : List ℕ) → IsBody body
        → StaysWithin (effect_of_write_in boot conflict held (row_of f) block push body)
    write-in-within boot conflict held block None body is_body =
        choice StaysWithin conflict _ _ (λ c. none-within Verdict.TryLater) (λ c. write-within block body is_body)
    write-in-within boot conflict held block (Some base) body is_body = push-within boot held block base body is_body

  writes-within :
      (boot : ℕ) (conflict held : Bool) (file block : ℕ) (push : Option PushBase) (body : List ℕ) → IsBody body → (o : Option File)
      → find_file file kept.files ≡ o → StaysWithin (effect_of_write boot conflict held (row_of_found o) block push body)
  writes-within boot conflict held file block push body is_body None found = none-within Verdict.Stale
  writes-within boot conflict held file block push body is_body (Some f) found =
      choice StaysWithin _ _ _ (λ past. none-within Verdict.Invalid) (λ below. write-in-within file f found boot conflict held block push body is_body)

  create-within :
      (name : List ℕ) (blocks : ℕ) → IsName name
      → StaysWithin (effect_of_create (space_of kept) (heads_of kept) (is_some (find_name name kept.files)) name blocks)
  create-within name blocks named =
      choice StaysWithin (blocks == 0 || nat_lt most_blocks_of_file blocks) _ _ (λ bad. none-within Verdict.Invalid) (λ good.
      choice StaysWithin (is_some (find_name name kept.files)) _ _ (λ there. none-within Verdict.Exist) (λ free.
      choice StaysWithin (nat_le most_files (length kept.files) || nat_lt most_blocks (blocks_in_all kept.files + blocks) || nat_le most_ids
      kept.next) _ _ (λ full. none-within Verdict.NoSpace) (λ room.
      creation-within name blocks named (grind (arith, nat_tests)))))

  resize-within :
      (conflict : Bool) (file blocks : ℕ) (o : Option File) → find_file file kept.files ≡ o
      → StaysWithin (effect_of_resize (blocks_in_all kept.files) conflict (row_of_found o) blocks)
  resize-within conflict file blocks None found = none-within Verdict.Stale
  resize-within conflict file blocks (Some f) found =
      choice StaysWithin (blocks == 0 || nat_lt most_blocks_of_file blocks) _ _ (λ bad. none-within Verdict.Invalid) (λ good.
      choice StaysWithin (nat_lt most_blocks ((blocks_in_all kept.files - blocks_of f) + blocks)) _ _ (λ full. none-within Verdict.NoSpace) (λ room.
      choice StaysWithin conflict _ _ (λ c. none-within Verdict.TryLater) (λ c. length-within file f found blocks)))

  remove-within : (conflict : Bool) (file : ℕ) (o : Option File) → find_file file kept.files ≡ o → StaysWithin (effect_of_remove conflict (row_of_found o))
  remove-within conflict file None found = none-within Verdict.Stale
  remove-within conflict file (Some f) found = choice StaysWithin _ _ _ (λ c. none-within Verdict.TryLater) (λ c. removal-within file f found)

  recovering-within :
      (opened file block : ℕ) (push : Option PushBase) (body : List ℕ) → IsBody body
      → StaysWithin (effect_of_write_recovering opened (row_of_found (find_file file kept.files)) block push body)
  recovering-within opened file block None body is_body = none-within Verdict.TryLater
  recovering-within opened file block (Some base) body is_body = writes-within opened false true file block (Some base) body is_body
      (find_file file kept.files) refl

  effect-within : (gate : Gate) (r : Request) → HasText r → StaysWithin (effect_of kept gate r)
  effect-within gate (Attach w) text = none-within Verdict.Done
  effect-within (Serving boot conflict held) (Create w n name blocks) text = create-within name blocks text
  effect-within (Serving boot conflict held) (Write w n file block first last push body) text =
      writes-within boot conflict held file block push body text (find_file file kept.files) refl
  effect-within (Serving boot conflict held) (Resize w n q file blocks) text = resize-within conflict file blocks (find_file file kept.files) refl
  effect-within (Serving boot conflict held) (Remove w n q file) text = remove-within conflict file (find_file file kept.files) refl
  effect-within (Serving boot conflict held) other text = none-within Verdict.TryLater
  effect-within (Recovering opened) (Write w n file block first last push body) text = recovering-within opened file block push body text
  effect-within (Recovering opened) other text = none-within Verdict.TryLater

  change-within :
      (who : Who) (seq : ℕ) (effect : Effect) → can_be_kept (row_with who seq effect) ≡ true → StaysWithin effect
      → IsChangeWithin kept (change_with who seq effect)
  unfolding change_with
  change-within who seq effect can stays =
      let ends = below-ends (row_with who seq effect) can in
      let own : IsEffectWithin kept effect = stays ends.value in
      record {
        file = own.file;
        block = own.block;
        host = record { inc = ends.inc; seq = ends.seq; value = let below = ends.value in omega arith };
        heads = own.heads;
      }

  -- the numbers of the change of a fresh request
  pub fresh-within :
      (gate : Gate) (r : Request) (verdict : Verdict) (value : ℕ) → decided kept gate r ≡ Fresh verdict value → HasText r
      → IsChangeWithin kept (fresh_change kept gate r)
  fresh-within gate (Attach w) verdict value is text =
      change-within w 0 _ (attach-can w (host_row kept w.host) verdict value is) (effect-within gate (Attach w) text)
  fresh-within gate (Create w n name blocks) verdict value is text =
      let effect : Effect = effect_of kept gate (Create w n name blocks) in
      change-within w n effect (sequence-can w n (host_row kept w.host) effect verdict value is) (effect-within gate (Create w n name blocks) text)
  fresh-within gate (Write w n file block first last push body) verdict value is text =
      let effect : Effect = effect_of kept gate (Write w n file block first last push body) in
      change-within w n effect (sequence-can w n (host_row kept w.host) effect verdict value is) (effect-within gate (Write w n file block first last
      push body) text)
  fresh-within gate (Resize w n q file blocks) verdict value is text =
      let effect : Effect = effect_of kept gate (Resize w n q file blocks) in
      change-within w n effect (sequence-can w n (host_row kept w.host) effect verdict value is) (effect-within gate (Resize w n q file blocks) text)
  fresh-within gate (Remove w n q file) verdict value is text =
      let effect : Effect = effect_of kept gate (Remove w n q file) in
      change-within w n effect (sequence-can w n (host_row kept w.host) effect verdict value is) (effect-within gate (Remove w n q file) text)
  fresh-within gate other verdict value is text = absurd (cc)

  -- and of the change by which a file is fenced, where its revision can rise
  pub fencing-within : (id : ℕ) (f : File) → find_file id kept.files ≡ Some f → can_rise (Some f) ≡ true → IsChangeWithin kept (fencing (row_of f))
  unfolding fencing raised_row
  fencing-within id f found can = record { file = (named id f found, grind (arith, nat_tests)); block = tt; host = tt; heads = tt }

-- the numbers after a boot, where one more boot is within the bound
pub booted-within : (kept : Kept) (longest : ℕ) → IsWithinBounds kept → kept.boot + 1 < 2 ^ 31 → shortest_term ≤ longest → longest ≤ longest_term
    → IsChangeWithin kept (change_of_heads (booted_heads kept longest))
unfolding change_of_heads
booted-within kept longest within more long short = record {
  file = tt;
  block = tt;
  host = tt;
  heads = choice (AreHeadsWithin kept.next) (kept.opened == 0) _ _
      (λ first. record { opened = omega arith; boot = more; long = long; short = short; ids = omega arith; few_ids = within.few_ids })
      (λ later. record {
        opened = let before = within.opened in omega arith;
        boot = more;
        long = within.long;
        short = within.short;
        ids = omega arith;
        few_ids = within.few_ids;
      });
}

-- and after a recovery
pub opened-within : (kept : Kept) (longest : ℕ) → IsWithinBounds kept → shortest_term ≤ longest → longest ≤ longest_term
    → IsChangeWithin kept (change_of_heads (opened_heads kept longest))
unfolding change_of_heads opened_heads
opened-within kept longest within long short = record {
  file = tt;
  block = tt;
  host = tt;
  heads = record { opened = omega arith; boot = within.boot; long = long; short = short; ids = omega arith; few_ids = within.few_ids };
}
