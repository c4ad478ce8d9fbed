-- What the parts of a change that fits ask of a keeper in memory.
use Rattle.std.proofs.Common.{◌≡◌, ℕ, Bool, true, false, List, Option, Some, None, Result, Ok, Err, if◌then◌else◌, refl, subst, ap, ◌∙◌, arith}
use Rattle.std.specs.Option.{IfSome}
use Rattle.nq_base.specs.declared.Change.{Change}
use Rattle.nq_base.specs.declared.FileRow.{FileRow}
use Rattle.nq_base.specs.declared.Heads.{Heads}
use Rattle.nq_base.specs.declared.HostRow.{HostRow}
use Rattle.nq_io.specs.Calls.{CallCounts, is_next_listed, after_call, after_fault}
use Rattle.nq_keeper.specs.declared.keeper.KeepFault.{KeepFault}
use Rattle.nq_keeper.specs.declared.keeper.KeepFault.TheVariants.{Failed}
use Rattle.nq_keeper.specs.InOrder.{FitsAmong, IsRowAmong}
use Rattle.nq_keeper.specs.StoredKeeper.{asked}
use Rattle.nq_model.specs.protocol.Change.{FitsFile, FitsRemoval, IsOrderly, IsRowOf, applied, blocks_with, files_with, files_without, heads_with, hosts_with}
use Rattle.nq_model.specs.protocol.Change.{kept_as}
use Rattle.nq_model.specs.protocol.Kept.{File, Kept, find_file}

pub if-some : {X : Type 0} (o : Option X) (x : X) (P : X → Type 0) → IfSome o P → o ≡ Some x → P x
if-some None x P holds e = cc
if-some (Some y) x P holds e = let same : y ≡ x = cc in subst P same holds

row-among : (kept : Kept) (heads : Option Heads) (row : FileRow) (found : Option File) → IsOrderly kept → IsRowOf kept heads row found
    → IsRowAmong row kept.files found
row-among kept heads row None o is = ((λ k d i. let own = o.below k d i in let next = is.0 in omega arith), is.1)
row-among kept heads row (Some f) o is = is

-- a file row that fits can stand among the files
pub fits-among : (kept : Kept) (heads : Option Heads) (row : FileRow) → IsOrderly kept → FitsFile kept heads row → FitsAmong row kept.files
fits-among kept heads row o fits = record {
  among = row-among kept heads row (find_file row.id kept.files) o fits.of_file;
  short = fits.short;
  few_files = fits.few_files;
  few_blocks = fits.few_blocks;
}

-- a file that is taken away comes alone
pub alone : (kept : Kept) (change : Change) (id : ℕ) → FitsRemoval kept change id → (change.file ≡ None) × (change.block ≡ None)
alone kept change id fits = (fits.no_file, fits.no_block)

-- a change is applied part by part
pub as-applied : (files new : List File) (hosts rows : List HostRow) (heads numbers : Heads) (change : Change) → new ≡ blocks_with change.block
    (files_with change.file (files_without change.removed files)) → rows ≡ hosts_with change.host hosts → numbers ≡ heads_with change.heads heads
    → kept_as new rows numbers ≡ applied (kept_as files hosts heads) change
unfolding kept_as
as-applied files new hosts rows heads numbers change a b c =
    ap (λ fs. kept_as fs rows numbers) a
    ∙ ap (λ hs. kept_as (blocks_with change.block (files_with change.file (files_without change.removed files))) hs numbers) b
    ∙ ap (λ ns. kept_as (blocks_with change.block (files_with change.file (files_without change.removed files))) (hosts_with change.host hosts) ns) c

abbrev chosen : Bool → Result (Unit {0}) KeepFault
chosen b = if b then Err Failed else Ok tt

-- a call that does not fail counts no fault
pub calm : (calls : CallCounts) (done : Unit {0}) → chosen (is_next_listed calls) ≡ Ok done → (asked calls).faults ≡ calls.faults
calm calls done answer = by (is_next_listed calls) answer
  where
    by : (b : Bool) → chosen b ≡ Ok done → (if b then after_fault calls else after_call calls).faults ≡ calls.faults
    by true e = cc
    by false e = refl
