-- A host may write, another wants to read, the server crashes, and the first host's push is stored while it recovers.
use Rattle.std.proofs.Common.{◌≡◌, true, List, [], ◌∷◌, ◌++◌, Some, refl}
use Rattle.nq_base.specs.Block.{filled, zeros}
use Rattle.nq_base.specs.declared.Mode.{Mode}
use Rattle.nq_base.specs.declared.Request.{Request}
use Rattle.nq_base.specs.declared.Who.{Who}
use Rattle.nq_model.specs.protocol.Ask.{grant_of, sharing_row, caching_row, shared_again, renewed_row, put_off, free, put_off_by_own, granted, no_lease}
use Rattle.nq_model.specs.protocol.Decide.{decides, creates, writes_through, stores, wrote, stores_recovering, resizes, removes, puts_off, commits}
use Rattle.nq_model.specs.protocol.Kept.{Kept, new_file, written_file, resized_file, fenced_file, with_row, with_files, with_new_file}
use Rattle.nq_model.specs.protocol.Message.{request}
use Rattle.nq_model.specs.protocol.Server.{Server, recovering, quiet, drops, says, after_notices, keeping, keeping_with, with_table}
use Rattle.nq_model.specs.protocol.ServerStep.{attaches, tells_later, serves, leases, vacates, ends_writing, opens, at_time, boot, crash}
use Rattle.nq_model.specs.protocol.Table.{Table, empty_table, with_rows, after_draw, find_row}
use Rattle.nq_model.specs.protocol.World.{first_kept}
use Rattle.walk_steps.specs.RecoveriesAreMet.{is_writer_to_go, RecoveriesAreMet}
use Rattle.nq_model.specs.laws.RecoveriesWait.{WasStoredAt}
use Rattle.nq_model.specs.protocol.ServerAlone.{Coming, datagram, ticks, crashes, server_after, first_boot, entries_since_boot}

-- two hosts, one file of one block
abbrev kept : Kept
kept = first_kept (record { hosts = 2; term = 30; longest = 60; files = (97 ∷ [], 1) ∷ [] })

abbrev writer : Who
writer = record { host = 0; inc = 1 }

abbrev reader : Who
reader = record { host = 1; inc = 1 }

abbrev first : Server
first = first_boot kept 60 0

-- host 0 asks to write, then host 1 to read; the latest first
abbrev asked : List Coming
asked =
    datagram 1 1 (request 1 (Request.GetLease reader 1 (record { mode = Mode.Reading; term = 30 })))
    ∷ datagram 0 0 (request 1 (Request.GetLease writer 1 (record { mode = Mode.Writing; term = 30 })))
    ∷ []

-- the server crashes, ten ticks pass, and host 0 pushes what it wrote
abbrev pushed : List Coming
pushed =
    datagram 0 4 (request 2 (Request.Write writer 1 1 0 1 1 (Some (record { boot = 1; base = 0 })) (filled 5)))
    ∷ ticks 10
    ∷ crashes 60
    ∷ []

abbrev served : Table
served = (server_after first asked).table

to-go : is_writer_to_go (find_row 1 0 served.rows) ≡ true
unfolding filled zeros grant_of sharing_row caching_row shared_again renewed_row put_off free put_off_by_own granted no_lease decides creates
    writes_through stores wrote stores_recovering resizes removes puts_off commits new_file written_file resized_file fenced_file with_row with_files
    with_new_file quiet drops says after_notices keeping keeping_with with_table attaches tells_later serves leases vacates ends_writing opens at_time
    boot crash empty_table with_rows after_draw
to-go = refl

recovers : (server_after first (pushed ++ asked)).phase ≡ recovering 68 10 (Some served)
unfolding filled zeros grant_of sharing_row caching_row shared_again renewed_row put_off free put_off_by_own granted no_lease decides creates
    writes_through stores wrote stores_recovering resizes removes puts_off commits new_file written_file resized_file fenced_file with_row with_files
    with_new_file quiet drops says after_notices keeping keeping_with with_table attaches tells_later serves leases vacates ends_writing opens at_time
    boot crash empty_table with_rows after_draw
recovers = refl

stored : WasStoredAt (entries_since_boot first (pushed ++ asked)) 10
unfolding filled zeros grant_of sharing_row caching_row shared_again renewed_row put_off free put_off_by_own granted no_lease decides creates
    writes_through stores wrote stores_recovering resizes removes puts_off commits new_file written_file resized_file fenced_file with_row with_files
    with_new_file quiet drops says after_notices keeping keeping_with with_table attaches tells_later serves leases vacates ends_writing opens at_time
    boot crash empty_table with_rows after_draw
stored = record { place = 0; who = writer; file = 1; block = 0; first = 1; last = 1; there = refl }

pub recoveries-are-met : RecoveriesAreMet
recoveries-are-met = record {
  kept = kept;
  longest = 60;
  now = 0;
  came = asked;
  later = pushed;
  file = 1;
  host = 0;
  until = 68;
  heard = 10;
  last = Some served;
  at = 10;
  to_go = to-go;
  recovers = recovers;
  in_mind = to-go;
  stored = stored;
}
