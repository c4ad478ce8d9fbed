-- The parts of a change, one after another: the numbers, a host, a file, a block, a file that goes.
use Rattle.std.proofs.Common.{◌≡◌, ◌≤◌, ◌<◌, ◌+◌, ◌*◌, ℕ, List, Option, Some, None, length, refl, sym, subst, ◌∙◌, arith}
use Rattle.std.specs.List.{All}
use Rattle.std.specs.Prelude.{IfSome}
use Rattle.nq_base.specs.declared.Heads.{Heads}
use Rattle.nq_base.specs.declared.HostChange.{HostChange}
use Rattle.nq_base.specs.declared.HostRow.{HostRow}
use Rattle.nq_image.specs.Standing.{Standing, Stands, kept_at, overwritten, with_heads, with_host}
use Rattle.nq_image.specs.Writing.{heads_bytes, host_bytes}
use Rattle.nq_image.proofs.Changing.{heads-kept, heads-stand, host-kept, host-stands}
use Rattle.nq_image.proofs.Overwriting.{long-enough, rows-written}
use Rattle.nq_model.specs.protocol.Change.{AreHeadsWithin, IsHostWithin, heads_of, heads_with, hosts_with, kept_as}
use Rattle.nq_model.specs.protocol.Kept.{Kept, with_row}
use Rattle.nq_plan.proofs.Sizes.{length-heads, length-host}
use Rattle.nq_plan.specs.Ranges.{heads_ranges, host_ranges}
use Rattle.nq_disk.specs.Ranges.{applied}
use Rattle.nq_store.specs.Changing.{HasZeros}
use Rattle.nq_store.proofs.ImagesWriting.{written-over, zeros-behind}

-- new bytes in which other things stand, for another kept state. The blocks that a file gets have their zeros still
pub record IsStep (old new fresh : List ℕ) (t : Standing) (k : Kept) : Type 0 where
  pub stands : Stands new t
  pub kept : kept_at new t ≡ k
  pub zeros : All (HasZeros old) fresh → All (HasZeros new) fresh
  pub no_shorter : length old ≤ length new

as-itself : (k : Kept) → k ≡ kept_as k.files k.hosts (heads_of k)
unfolding kept_as
as-itself k = refl

-- ---- the numbers

pub heads-step : (heads : Option Heads) (s : Standing) (old fresh : List ℕ) → Stands old s → IfSome heads (AreHeadsWithin s.heads.next)
    → IsStep old (applied (heads_ranges heads) old) fresh (with_heads s (heads_with heads s.heads)) (kept_as (kept_at old s).files
    (kept_at old s).hosts (heads_with heads (heads_of (kept_at old s))))
heads-step None s old fresh stands within = record { stands = stands; kept = as-itself (kept_at old s); zeros = λ all. all; no_shorter = omega arith }
heads-step (Some heads) s old fresh stands within =
    let part = heads_bytes heads in
    let new = overwritten 8 part old in
    let size = length-heads heads in
    let long = long-enough old s stands in
    let agree = rows-written old s stands 8 part (omega (arith, size)) in
    let is = written-over 8 part old (omega (arith, long)) in
    let k = kept_as (kept_at old s).files (kept_at old s).hosts heads in
    let Step : List ℕ → Type 0 = λ b. IsStep old b fresh (with_heads s heads) k in
    subst Step (sym is) (record {
      stands = heads-stand s heads old new stands within agree;
      kept = heads-kept s heads old new agree;
      zeros = λ all. zeros-behind old s stands 8 part fresh (omega (arith, size)) all;
      no_shorter = agree.blocks.no_shorter;
    })

-- ---- a host

with-row-as : (k : Kept) (host : ℕ) (row : HostRow) → with_row k host row ≡ kept_as k.files (hosts_with (Some (record { host = host; row = row }))
    k.hosts) (heads_of k)
unfolding kept_as with_row
with-row-as k host row = refl

pub host-step : (change : Option HostChange) (s : Standing) (old fresh : List ℕ) → Stands old s → IfSome change (λ h. h.host < 64)
    → IfSome change (λ h. IsHostWithin h.row)
    → IsStep old (applied (host_ranges change) old) fresh (record s { hosts = hosts_with change s.hosts }) (kept_as (kept_at old s).files
    (hosts_with change (kept_at old s).hosts) (heads_of (kept_at old s)))
host-step None s old fresh stands lt within = record { stands = stands; kept = as-itself (kept_at old s); zeros = λ all. all; no_shorter = omega arith }
host-step (Some change) s old fresh stands lt within =
    let part = host_bytes change.row in
    let place = 64 + 32 * change.host in
    let new = overwritten place part old in
    let size = length-host change.row in
    let long = long-enough old s stands in
    let agree = rows-written old s stands place part (omega (arith, size, lt)) in
    let is = written-over place part old (omega (arith, long, lt)) in
    let k = kept_as (kept_at old s).files (hosts_with (Some change) (kept_at old s).hosts) (heads_of (kept_at old s)) in
    let Step : List ℕ → Type 0 = λ b. IsStep old b fresh (with_host s change.host change.row) k in
    subst Step (sym is) (record {
      stands = host-stands s change.host change.row old new lt stands within agree;
      kept = host-kept s change.host change.row old new agree ∙ with-row-as (kept_at old s) change.host change.row;
      zeros = λ all. zeros-behind old s stands place part fresh (omega (arith, size, lt)) all;
      no_shorter = agree.blocks.no_shorter;
    })
