-- A client writes, its delayed write is staged and acknowledged, and a COMMIT stands for its push.
use Rattle.std.proofs.Common.{◌≡◌, ℕ, false, List, [], ◌∷◌, Option, Some, length, map, get_or, refl, sym, subst, ap, ◌∙◌, inl, inr, arith}
use Rattle.std.specs.Prelude.{All, slice_get}
use Rattle.std.proofs.lemmas.List.Elements.{All-nil, All-cons}
use Rattle.nq_base.specs.Block.{filled, zeros}
use Rattle.nq_base.specs.declared.Call.{Call}
use Rattle.nq_base.specs.declared.Entry.{Entry}
use Rattle.nq_base.specs.declared.Event.{Event}
use Rattle.nq_base.specs.declared.Mode.{Mode}
use Rattle.nq_base.specs.declared.Party.{Party}
use Rattle.nq_base.specs.declared.Said.{Said}
use Rattle.nq_base.specs.declared.Told.{Told}
use Rattle.nq_base.specs.declared.Who.{Who}
use Rattle.nq_datagrams.specs.Messages.{bytes_of}
use Rattle.nq_model.proofs.SkewTest.{skew-test-is-sound}
use Rattle.nq_model.specs.protocol.Ask.{grant_of, sharing_row, caching_row, shared_again, renewed_row, put_off, free, put_off_by_own, granted, no_lease}
use Rattle.nq_model.specs.protocol.ClientStep.{begins_call, is_called, says_busy, at_time, sends_again, fresh_client, attached_client, starts}
use Rattle.nq_model.specs.protocol.Decide.{decides, creates, writes_through, stores, wrote, stores_recovering, resizes, removes, puts_off, commits}
use Rattle.nq_model.specs.protocol.Hear.{vacates_lease, loses, without_lease, granted_lease, holds, caches_block, purges, knows_revision, marks_through}
use Rattle.nq_model.specs.protocol.Hear.{ends_push, spends, attached, pauses, cancels, notes_notice}
use Rattle.nq_model.specs.protocol.Client.{Client}
use Rattle.nq_model.specs.laws.Journal.{Each, Exists, Covers}
use Rattle.nq_model.specs.protocol.Kept.{new_file, written_file, resized_file, fenced_file, with_row, with_files, with_new_file}
use Rattle.nq_model.specs.protocol.Message.{Packet}
use Rattle.nq_model.specs.protocol.Send.{sends_request, after_seq, after_number, takes_push, gives_up}
use Rattle.nq_model.specs.protocol.Server.{quiet, drops, says, after_notices, keeping, keeping_with, with_table}
use Rattle.nq_model.specs.protocol.ServerStep.{attaches, tells_later, serves, leases, vacates, ends_writing, opens, at_time as at_server_time, boot, crash}
use Rattle.nq_model.specs.protocol.Settle.{answers, after_read, reads_cached, after_write, marks_written}
use Rattle.nq_model.specs.protocol.Table.{empty_table, with_rows, after_draw}
use Rattle.nq_model.specs.protocol.World.{Head, World, after_server, after_client, start}
use Rattle.nq_stage.specs.Answering.{Answer, write, answered, own_commit, commit_if_own}
use Rattle.nq_stage.specs.Bodies.{Bodies, with_body}
use Rattle.nq_model.specs.laws.Bounds.{BootsWithin}
use Rattle.nq_model.specs.laws.WritesAreAccounted.{WaitingAreUnsaved, IsDelayedBy, StillHas}
use Rattle.nq_xdr.specs.Message.{auth, numbers, outcome, spelling}
use Rattle.nq_xdr.specs.RpcReading.{behind_auth, call_at, ended, bounds_at, accepted_as, accepted_at, denied_as, denied_at, outcome_at, reply_at, message_at}
use Rattle.nq_stage.specs.declared.messages.Commit.{Commit}
use Rattle.nq_stage.specs.declared.messages.Pushed.{Pushed}
use Rattle.nq_stage.specs.declared.messages.Written.{Written}
use Rattle.nq_stage.specs.Messages.{written_bytes, stage_bytes, staged_bytes, pushed_bytes, commit_bytes, unstaged_bytes, write_bytes, IsPushed}
use Rattle.nq_stage.specs.Reading.{call_as, call_in, results_of, results_in, end_at, written_at, body_at, base_at, front_at, stage_at, commit_at}
use Rattle.nq_stage.specs.Reading.{push_at, staged_at, unstaged_at, stage_in, commit_in, push_in, verifier_in, is_unstaged_in}
use Rattle.nq_stage.proofs.Again.{commits-are-read}
use Rattle.nq_stage.specs.declared.run.event.StagedEvent.{StagedEvent}
use Rattle.nq_stage.specs.Outer.{Outer, Outside, outside_start}
use Rattle.nq_stage.specs.Outside.{sends, takes_stage, sends_stage, outside_step, outside_run}
use Rattle.nq_stage.specs.Theorem.{IsStagedSchedule, Travels, IsInnerPacket}
use Rattle.nq_wire.specs.Parts.{head, tag_bytes, want_bytes, grant_bytes, base_bytes, optional}
use Rattle.nq_wire.specs.Reply.{ok, results}
use Rattle.nq_wire.specs.Request.{arguments}
use Rattle.nq_xdr.specs.Item.{word, hyper, boolean, padding, opaque}
use Rattle.nq_xdr.specs.Reading.{bytes_at, word_at, hyper_at, boolean_at, body_at as xdr_body_at, opaque_at}
use Rattle.nq_stage.specs.Lawful.{plain_events, IsLawful}
use Rattle.nq_stage.specs.Met.{forgets, CommitIsRefused, pool_of, StagingIsMet}
use Rattle.nq_stage.proofs.Boots.{crashes-lose-all}
use Rattle.nq_stage.proofs.Rebuilt.{rebuilds-what-was-meant}
use Rattle.walk_steps.proofs.ClientMoves.{some-same, none-some}

-- one host, one file of one block
abbrev one-host : Head
one-host = record { hosts = 1; term = 30; longest = 60; files = (97 ∷ [], 1) ∷ [] }

-- a write is delayed, staged and acknowledged, and a sync pushes it; the newest event first
abbrev one-commit : List StagedEvent
one-commit =
    StagedEvent.Plain (Event.Call 0 (Call.Sync 1)) ∷
    StagedEvent.Plain (Event.Deliver 3) ∷
    StagedEvent.Plain (Event.Deliver 2) ∷
    StagedEvent.Stage 0 ∷
    StagedEvent.Plain (Event.Deliver 1) ∷
    StagedEvent.Plain (Event.Deliver 0) ∷
    StagedEvent.Plain (Event.Call 0 (Call.Write 1 0 (filled 5))) ∷ []

abbrev first : Who
first = record { host = 0; inc = 1 }

-- the push, without its body
abbrev pushed : Pushed
pushed = record { xid = 2; who = first; seq = 1; file = 1; block = 0; first = 1; last = 1; base = record { boot = 1; base = 0 } }

abbrev commit : Commit
commit = record { pushed = pushed; verifier = 1 }

-- its COMMIT
abbrev packet : Outer
packet = record { sender = Party.Client 0; to = Party.Server; bytes = commit_bytes pushed 1; stands = Some 2 }

abbrev reached : Outside
reached = outside_run one-host one-commit

filled-length : length (filled 5) ≡ 4096
unfolding filled
filled-length = refl

-- the write of which it is
abbrev of-write : Written
of-write = record { host = 0; inc = 1; file = 1; block = 0; last = 1 }

-- what is seen of the world to which these events lead
record Seen : Type 0 where
  sent : Option Outer
  answer : Answer
  journal : List Entry
  hosts : List Who
  bodies : ℕ
  acknowledged : List (List (Written × ℕ))
  crashed : Option Outer

abbrev seen-of : Outside → Seen
seen-of o = record {
  sent = slice_get o.sent 4;
  answer = answered o.pool commit;
  journal = o.world.journal;
  hosts = map (λ c. c.who) o.world.clients;
  bodies = length o.pool.bodies;
  acknowledged = map (λ s. s.stager.acknowledged) o.sides;
  crashed = slice_get (outside_step o (StagedEvent.Plain (Event.Crash 60))).sent 4;
}

-- the write, and what was told around it
abbrev written : Entry
written = Entry.W first 1 0 1 5 false

abbrev journal : List Entry
journal =
    Entry.C first 2 (Told.Sync 1) ∷ Entry.A first 1 Said.Ok ∷ written ∷ Entry.G first 1 Mode.Writing (record { boot = 1; number = 1 }) 30 0 ∷
    Entry.C first 1 (Told.Write 1 0 5) ∷ []

seen : seen-of reached ≡ record {
  sent = Some packet;
  answer = write (write_bytes pushed (filled 5));
  journal = journal;
  hosts = first ∷ [];
  bodies =
      1;
  acknowledged = ((of-write, 1) ∷ []) ∷ [];
  crashed = Some packet;
}
unfolding filled zeros grant_of sharing_row caching_row shared_again renewed_row put_off free put_off_by_own granted no_lease begins_call is_called
    says_busy at_time sends_again fresh_client attached_client starts decides creates writes_through stores wrote stores_recovering resizes removes
    puts_off commits vacates_lease loses without_lease granted_lease holds caches_block purges knows_revision marks_through ends_push spends attached
    pauses cancels notes_notice new_file written_file resized_file fenced_file with_row with_files with_new_file sends_request after_seq after_number
    takes_push gives_up quiet drops says after_notices keeping keeping_with with_table attaches tells_later serves leases vacates ends_writing opens
    at_server_time boot crash answers after_read reads_cached after_write marks_written empty_table with_rows after_draw after_server after_client
    start bytes_of with_body auth numbers outcome spelling behind_auth call_at ended bounds_at accepted_as accepted_at denied_as denied_at outcome_at
    reply_at message_at written_bytes stage_bytes staged_bytes pushed_bytes commit_bytes unstaged_bytes call_as call_in results_of results_in end_at
    written_at body_at base_at front_at stage_at commit_at push_at staged_at unstaged_at stage_in commit_in push_in verifier_in is_unstaged_in
    outside_start sends takes_stage sends_stage head tag_bytes want_bytes grant_bytes base_bytes optional ok results arguments word hyper boolean
    padding opaque bytes_at word_at hyper_at boolean_at xdr_body_at opaque_at
seen = refl

-- ---- the premises

schedule : IsStagedSchedule one-host one-commit
schedule = record { hosts = omega arith; few = omega arith; brings = (tt, (tt, (tt, (tt, (tt, (tt, ((omega arith, omega arith, filled-length), tt))))))) }

all-within : (events : List Event) → Each (BootsWithin 60) events → All (BootsWithin 60) events
all-within [] h = All-nil (BootsWithin 60)
all-within (e ∷ events) h = All-cons (BootsWithin 60) e events h.0 (all-within events h.1)

boots : All (BootsWithin 60) (plain_events one-commit)
boots = all-within (plain_events one-commit) (tt, (tt, (tt, (tt, (tt, (tt, tt))))))

lawful : IsLawful 60 one-host (plain_events one-commit)
lawful = record {
  bounds = record { hosts = omega arith; first_long = omega arith; first_short = omega arith; boots = boots };
  skew = skew-test-is-sound 1 60 (plain_events one-commit) refl;
}

-- ---- the COMMIT

fits : IsPushed pushed
fits = record {
  xid = omega arith;
  front = record {
    host = omega arith;
    inc = omega arith;
    seq = omega arith;
    file = omega arith;
    block = omega arith;
    first = omega arith;
    last =
        omega arith;
  };
  base = record { boot = omega arith; base = omega arith };
}

own : own_commit 0 (commit_bytes pushed 1) ≡ Some commit
own = ap (commit_if_own 0) (commits-are-read pushed 1 fits (omega arith))

travels : Travels reached 4 0 packet commit
travels = record { is = ap (λ s. s.sent) seen; sender = refl; commit = own }

rebuilt : answered reached.pool commit ≡ write (write_bytes pushed (filled 5))
rebuilt = ap (λ s. s.answer) seen

meant : IsInnerPacket reached.world 0 packet (write_bytes pushed (filled 5))
meant = rebuilds-what-was-meant one-host one-commit schedule 4 0 packet commit (write_bytes pushed (filled 5)) travels rebuilt

-- a byte of its body
byte-five : get_or (write_bytes pushed (filled 5)) 103 0 ≡ 5
unfolding bytes_of spelling numbers auth arguments optional head base_bytes filled word hyper boolean opaque padding
byte-five = refl

byte-six : get_or (write_bytes pushed (filled 6)) 103 0 ≡ 6
unfolding bytes_of spelling numbers auth arguments optional head base_bytes filled word hyper boolean opaque padding
byte-six = refl

-- two packets for which it stands are one
one-packet : (w : World) (a b : List ℕ) → IsInnerPacket w 0 packet a → IsInnerPacket w 0 packet b → a ≡ b
one-packet w a b i j =
    let number : i.number ≡ j.number = some-same i.number j.number (sym i.stands ∙ j.stands) in
    let inner : i.packet ≡ j.packet = some-same i.packet j.packet (sym i.is ∙ ap (slice_get w.packets) number ∙ j.is) in
    i.same ∙ ap (λ (q : Packet). bytes_of q.message) inner ∙ sym j.same

apart : (a b : ℕ) → a ≡ 6 → b ≡ 5 → a ≡ b → ⊥
apart a b is other same = omega arith

other-body : IsInnerPacket reached.world 0 packet (write_bytes pushed (filled 6)) → ⊥
other-body i =
    let same : write_bytes pushed (filled 6) ≡ write_bytes pushed (filled 5) = one-packet reached.world _ _ i meant in
    apart _ _ byte-six byte-five (ap (λ bytes. get_or bytes 103 0) same)

no-packet : (w : World) → IsInnerPacket (record w { packets = [] }) 0 packet (write_bytes pushed (filled 5)) → ⊥
no-packet w i = none-some i.packet i.is

-- ---- the write

uncovered : Exists (λ entry. Covers entry written) journal → ⊥
uncovered (inl x) = absurd x
uncovered (inr (inl x)) = absurd x
uncovered (inr (inr (inl x))) = absurd x
uncovered (inr (inr (inr (inl x)))) = absurd x
uncovered (inr (inr (inr (inr (inl x))))) = absurd x
uncovered (inr (inr (inr (inr (inr x))))) = absurd x

-- what is promised of the writes of a journal
abbrev AllUnsaved : List Client → List Entry → Type 0
AllUnsaved clients entries =
    (host : ℕ) (c : Client) → slice_get clients host ≡ Some c
    → Each (λ write. IsDelayedBy c.who write → ¬ Exists (λ entry. Covers entry write) entries → StillHas c write) entries

forgot : (clients : List Client) → map (λ c. c.who) clients ≡ first ∷ [] → AllUnsaved (map forgets clients) journal → ⊥
forgot [] hosts h = absurd cc
forgot (c ∷ clients) hosts h = still (each.1.1.0 (sym who) uncovered)
  where
    who : c.who ≡ first
    who = cc

    each : Each (λ write. IsDelayedBy c.who write → ¬ Exists (λ entry. Covers entry write) journal → StillHas (forgets c) write) journal
    each = h 0 (forgets c) refl

    still : StillHas (forgets c) written → ⊥
    still (inl x) = absurd x
    still (inr x) = absurd x

forgotten : WaitingAreUnsaved (record reached.world { clients = map forgets reached.world.clients }) → ⊥
forgotten h = forgot reached.world.clients (ap (λ s. s.hosts) seen) (subst (AllUnsaved (map forgets reached.world.clients)) (ap (λ s. s.journal) seen) h)

-- ---- the pool

kept-over : (bodies : List (Written × List ℕ)) → length bodies ≡ 1 → pool_of 2 bodies ≡ pool_of 2 [] → ⊥
kept-over bodies one same = let none : length bodies ≡ 0 = ap (λ (b : Bodies). length b.bodies) same in absurd (omega arith)

refused : CommitIsRefused (outside_run one-host (StagedEvent.Plain (Event.Crash 60) ∷ one-commit))
refused = record {
  k = 4;
  packet = packet;
  commit = commit;
  bytes = unstaged_bytes 2 1;
  travels = record { is = ap (λ s. s.crashed) seen; sender = refl; commit = own };
  to = refl;
  answers = crashes-lose-all one-host one-commit 60 commit;
}

pub staging-is-met : StagingIsMet
staging-is-met = record {
  head = one-host;
  most = 60;
  events = one-commit;
  schedule = schedule;
  lawful = lawful;
  rebuilt = record {
    k = 4;
    packet = packet;
    commit = commit;
    travels = travels;
    answers = rebuilt;
    other_body = other-body;
    no_packet =
        no-packet reached.world;
  };
  waits = record { made = made; acknowledged = ap (λ s. s.acknowledged) seen; forgotten = forgotten };
  lost = record { refused = refused; kept = λ same. kept-over reached.pool.bodies (ap (λ s. s.bodies) seen) same };
}
  where
    made : Exists (λ entry. entry ≡ written) reached.world.journal
    made = subst (Exists (λ entry. entry ≡ written)) (sym (ap (λ s. s.journal) seen)) (inr (inr (inl refl)))
