-- What the run of a given schedule computes with.
use Rattle.nq_model.specs.protocol.Ask.{grant_of, sharing_row, caching_row, shared_again, renewed_row, put_off, free, put_off_by_own, granted, no_lease}
use Rattle.nq_model.specs.protocol.ClientStep.{begins_call, is_called, says_busy, at_time, sends_again, fresh_client, attached_client, starts}
use Rattle.nq_model.specs.protocol.Decide.{decides, creates, writes_through, stores, wrote, stores_recovering, resizes, removes, puts_off, commits}
use Rattle.nq_model.specs.protocol.Hear.{vacates_lease, loses, without_lease, granted_lease, holds, caches_block, purges, knows_revision, marks_through}
use Rattle.nq_model.specs.protocol.Hear.{ends_push, spends, attached, pauses, cancels, notes_notice}
use Rattle.nq_model.specs.protocol.Kept.{new_file, written_file, resized_file, fenced_file, with_row, with_files, with_new_file}
use Rattle.nq_model.specs.protocol.Send.{sends_request, after_seq, after_number, takes_push, gives_up}
use Rattle.nq_model.specs.protocol.Server.{quiet, drops, says, after_notices, keeping, keeping_with, with_table}
use Rattle.nq_model.specs.protocol.ServerStep.{attaches, tells_later, serves, leases, vacates, ends_writing, opens, boot, crash, at_time as at_server_time}
use Rattle.nq_model.specs.protocol.Settle.{answers, after_read, reads_cached, after_write, marks_written}
use Rattle.nq_model.specs.protocol.Table.{empty_table, with_rows, after_draw}
use Rattle.nq_model.specs.protocol.World.{after_server, after_client, start}

-- the line `unfolding given-run` opens all of it, but for bodies
unfoldable pub given-run : Unit {0}
unfolding grant_of sharing_row caching_row shared_again renewed_row put_off free put_off_by_own granted no_lease begins_call is_called
    says_busy at_time sends_again fresh_client attached_client starts decides creates writes_through stores wrote stores_recovering resizes
    removes puts_off commits vacates_lease loses without_lease granted_lease holds caches_block purges knows_revision marks_through
    ends_push spends attached pauses cancels notes_notice new_file written_file resized_file fenced_file with_row with_files with_new_file
    sends_request after_seq after_number takes_push gives_up quiet drops says after_notices keeping keeping_with with_table attaches
    tells_later serves leases vacates ends_writing opens boot crash answers after_read reads_cached after_write marks_written empty_table
    with_rows after_draw after_server after_client start at_server_time
given-run = tt
