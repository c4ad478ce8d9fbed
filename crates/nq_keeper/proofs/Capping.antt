-- What code keeps is what the definitions say, where the kept numbers are within their bounds; and it can be kept in any case.
use Rattle.std.proofs.Common.{◌≡◌, ◌≤◌, ℕ, ◌+◌, ◌==◌, Bool, true, false, ◌||◌, ◌-◌, List, Option, Some, None, length, refl, ap, ◌∙◌, arith}
use Rattle.std.specs.Prelude.{is_some, nat_lt, nat_le}
use Rattle.std.specs.Option.{IfSome}
use Rattle.nq_base.specs.declared.Change.{Change}
use Rattle.nq_base.specs.declared.Effect.{Effect}
use Rattle.nq_base.specs.declared.FileRow.{FileRow}
use Rattle.nq_base.specs.declared.Gate.{Gate}
use Rattle.nq_base.specs.declared.Gate.TheVariants.{Recovering, Serving}
use Rattle.nq_base.specs.declared.Heads.{Heads}
use Rattle.nq_base.specs.declared.PushBase.{PushBase}
use Rattle.nq_base.specs.declared.Request.{Request}
use Rattle.nq_base.specs.declared.Request.TheVariants.{Attach, Create, Write, Resize, Remove}
use Rattle.nq_base.specs.declared.Verdict.{Verdict}
use Rattle.nq_base.specs.declared.Who.{Who}
use Rattle.nq_model.specs.protocol.Change.{Fits, FitsRemoval, IsFileWithin, IsWithinBounds, raised_row, row_of, row_of_found, heads_of, space_of}
use Rattle.nq_model.specs.protocol.Decided.{no_effect, creation, block_write, length_change, removal, effect_of_create, effect_of_push, effect_of_write_in}
use Rattle.nq_model.specs.protocol.Decided.{effect_of_write, effect_of_write_recovering, effect_of_resize, effect_of_remove, effect_of, change_with}
use Rattle.nq_model.specs.protocol.Kept.{File, Kept, blocks_of, blocks_in_all, find_file, find_name}
use Rattle.nq_model.specs.protocol.Profile.{most_files, most_blocks, most_blocks_of_file, most_ids}
use Rattle.nq_model.proofs.Finding.{choice}
use Rattle.nq_model.proofs.FreshFits.{found-has}
use Rattle.nq_keeper.specs.Capped.{last_number, capped_row, capped_file}
use Rattle.nq_keeper.proofs.CappedRows.{stays, row-stays, files-capped, blocks-capped}
use Rattle.nq_keeper.specs.RequestsCapped.{capped}

-- ---- within the bounds nothing is capped

none-stays : (verdict : Verdict) → capped (no_effect verdict) ≡ no_effect verdict
unfolding capped no_effect
none-stays verdict = refl

creation-stays : (heads : Heads) (name : List ℕ) (blocks : ℕ) → heads.next ≤ last_number → capped (creation heads name blocks) ≡ creation heads name blocks
unfolding capped creation
creation-stays heads name blocks below =
    ap (λ value. record {
      verdict = Verdict.Done;
      value = value;
      change = record {
        file = capped_file (Some (record {
          id = heads.next;
          name = name;
          blocks = blocks;
          rev = 0;
        }));
        block = None;
        host = None;
        heads = Some (record heads { next = heads.next + 1 });
        removed = None;
      };
    }) (stays heads.next below)
    ∙ ap (λ row. record {
      verdict = Verdict.Done;
      value = heads.next;
      change = record {
        file = Some row;
        block = None;
        host = None;
        heads =
            Some (record heads { next = heads.next + 1 });
        removed = None;
      };
    }) (row-stays (record {
      id = heads.next;
      name = name;
      blocks = blocks;
      rev = 0;
    }) (omega arith))

raised-stays : (row : FileRow) (blocks : ℕ) → row.rev + 1 ≤ last_number → capped_row (raised_row row blocks) ≡ raised_row row blocks
unfolding raised_row
raised-stays row blocks below = row-stays (record row { blocks = blocks; rev = row.rev + 1 }) below

write-stays : (row : FileRow) (block : ℕ) (body : List ℕ) → row.rev + 1 ≤ last_number → capped (block_write row block body) ≡ block_write row block body
unfolding capped block_write
write-stays row block body below =
    ap (λ value. record {
      verdict = Verdict.Done;
      value = value;
      change = record {
        file = Some (capped_row (raised_row row row.blocks));
        block =
            Some (record { file = row.id; block = block; body = body });
        host = None;
        heads = None;
        removed = None;
      };
    }) (stays (row.rev + 1) below)
    ∙ ap (λ raised. record {
      verdict = Verdict.Done;
      value = row.rev + 1;
      change = record {
        file = Some raised;
        block =
            Some (record { file = row.id; block = block; body = body });
        host = None;
        heads = None;
        removed = None;
      };
    }) (raised-stays row row.blocks below)

length-stays : (row : FileRow) (blocks : ℕ) → row.rev + 1 ≤ last_number → capped (length_change row blocks) ≡ length_change row blocks
unfolding capped length_change
length-stays row blocks below =
    ap (λ value. record {
      verdict = Verdict.Done;
      value = value;
      change = record {
        file = Some (capped_row (raised_row row blocks));
        block = None;
        host = None;
        heads = None;
        removed = None;
      };
    }) (stays (row.rev + 1) below)
    ∙ ap (λ raised. record { verdict = Verdict.Done; value = row.rev + 1; change = record { file = Some raised; block = None; host = None; heads = None; removed = None } })
    (raised-stays row blocks below)

removal-stays : (row : FileRow) → capped (removal row) ≡ removal row
unfolding capped removal
removal-stays row = refl

module _ (kept : Kept) (within : IsWithinBounds kept) where
  abbrev Stays : Effect → Type 0
  Stays effect = capped effect ≡ effect

  has-room : (id : ℕ) (f : File) → find_file id kept.files ≡ Some f → f.rev + 1 ≤ last_number
  has-room id f found = let rev = (found-has (IsFileWithin kept.next) id kept.files f within.files found).rev in omega arith

  push-stays : (boot : ℕ) (held : Bool) (row : FileRow) (block : ℕ) (base : PushBase) (body : List ℕ) → row.rev + 1 ≤ last_number
      → Stays (effect_of_push boot held row block base body)
  push-stays boot held row block base body room = choice Stays _ _ _ (λ lets. write-stays row block body room) (λ late. none-stays Verdict.Fenced)

  write-in-stays : (boot : ℕ) (conflict held : Bool) (row : FileRow) (block : ℕ) (push : Option PushBase) (body : List ℕ) → row.rev + 1 ≤ last_number
      → Stays (effect_of_write_in boot conflict held row block push body)
  write-in-stays boot conflict held row block None body room = choice Stays conflict _ _ (λ c. none-stays Verdict.TryLater)
      (λ c. write-stays row block body room)
  write-in-stays boot conflict held row block (Some base) body room = push-stays boot held row block base body room

  writes-stay : (boot : ℕ) (conflict held : Bool) (file block : ℕ) (push : Option PushBase) (body : List ℕ) (o : Option File)
      → find_file file kept.files ≡ o → Stays (effect_of_write boot conflict held (row_of_found o) block push body)
  writes-stay boot conflict held file block push body None found = none-stays Verdict.Stale
  writes-stay boot conflict held file block push body (Some f) found = choice Stays (nat_le (blocks_of f) block) _ _
      (λ past. none-stays Verdict.Invalid) (λ below. write-in-stays boot conflict held (row_of f) block push body (has-room file f found))

  create-stays : (name : List ℕ) (blocks : ℕ) → Stays (effect_of_create (space_of kept) (heads_of kept) (is_some (find_name name kept.files)) name blocks)
  create-stays name blocks =
      choice Stays (blocks == 0 || nat_lt most_blocks_of_file blocks) _ _ (λ bad. none-stays Verdict.Invalid) (λ good.
      choice Stays (is_some (find_name name kept.files)) _ _ (λ there. none-stays Verdict.Exist) (λ free.
      choice Stays (nat_le most_files (length kept.files) || nat_lt most_blocks (blocks_in_all kept.files + blocks) || nat_le most_ids kept.next) _ _
      (λ full. none-stays Verdict.NoSpace) (λ room.
      creation-stays (heads_of kept) name blocks (let few = within.few_ids in omega arith))))

  resize-stays : (conflict : Bool) (file blocks : ℕ) (o : Option File) → find_file file kept.files ≡ o
      → Stays (effect_of_resize (blocks_in_all kept.files) conflict (row_of_found o) blocks)
  resize-stays conflict file blocks None found = none-stays Verdict.Stale
  resize-stays conflict file blocks (Some f) found =
      choice Stays (blocks == 0 || nat_lt most_blocks_of_file blocks) _ _ (λ bad. none-stays Verdict.Invalid) (λ good.
      choice Stays (nat_lt most_blocks ((blocks_in_all kept.files - blocks_of f) + blocks)) _ _ (λ full. none-stays Verdict.NoSpace) (λ room.
      choice Stays conflict _ _ (λ c. none-stays Verdict.TryLater) (λ c. length-stays (row_of f) blocks (has-room file f found))))

  remove-stays : (conflict : Bool) (o : Option File) → Stays (effect_of_remove conflict (row_of_found o))
  remove-stays conflict None = none-stays Verdict.Stale
  remove-stays conflict (Some f) = choice Stays conflict _ _ (λ c. none-stays Verdict.TryLater) (λ c. removal-stays (row_of f))

  recovering-stays : (opened file block : ℕ) (push : Option PushBase) (body : List ℕ)
      → Stays (effect_of_write_recovering opened (row_of_found (find_file file kept.files)) block push body)
  recovering-stays opened file block None body = none-stays Verdict.TryLater
  recovering-stays opened file block (Some base) body = writes-stay opened false true file block (Some base) body (find_file file kept.files) refl

  -- within the bounds code keeps what the definitions say
  pub effect-stays : (gate : Gate) (r : Request) → capped (effect_of kept gate r) ≡ effect_of kept gate r
  effect-stays gate (Attach w) = none-stays Verdict.Done
  effect-stays (Serving boot conflict held) (Create w n name blocks) = create-stays name blocks
  effect-stays (Serving boot conflict held) (Write w n file block first last push body) = writes-stay boot conflict held file block push body
      (find_file file kept.files) refl
  effect-stays (Serving boot conflict held) (Resize w n q file blocks) = resize-stays conflict file blocks (find_file file kept.files) refl
  effect-stays (Serving boot conflict held) (Remove w n q file) = remove-stays conflict (find_file file kept.files)
  effect-stays (Serving boot conflict held) other = none-stays Verdict.TryLater
  effect-stays (Recovering opened) (Write w n file block first last push body) = recovering-stays opened file block push body
  effect-stays (Recovering opened) other = none-stays Verdict.TryLater

-- ---- whatever its revision, an effect fits as well

removed-capped : (kept : Kept) (change capped : Change) (removed : Option ℕ) → (change.file ≡ None → capped.file ≡ None) → capped.block ≡ change.block
    → IfSome removed (FitsRemoval kept change) → IfSome removed (FitsRemoval kept capped)
removed-capped kept change capped None file block fits = fits
removed-capped kept change capped (Some id) file block fits = record { is_kept = fits.is_kept; no_file = file fits.no_file; no_block = block ∙ fits.no_block }

none-capped : (file : Option FileRow) → file ≡ None → capped_file file ≡ None
none-capped file e = ap capped_file e

-- what code keeps can be kept
pub capped-fits : (kept : Kept) (who : Who) (seq : ℕ) (effect : Effect) → Fits kept (change_with who seq effect)
    → Fits kept (change_with who seq (capped effect))
unfolding change_with capped
capped-fits kept who seq effect fits = record {
  file = files-capped kept effect.change.heads effect.change.file fits.file;
  block = blocks-capped kept effect.change.file effect.change.block fits.block;
  host = fits.host;
  heads = fits.heads;
  removed = removed-capped kept (change_with who seq effect) (change_with who seq (capped effect)) effect.change.removed (none-capped effect.change.file) refl fits.removed;
}
