-- Requests for a lease, by what the ask table tells.
use Rattle.std.proofs.Common.{◌≡◌, ℕ, Bool, true, false, List, [], ◌++◌, Option, Some, None, if◌then◌else◌, length, map, Result, Ok, Err, refl, sym}
use Rattle.std.proofs.Common.{ap, subst, ◌∙◌}
use Rattle.std.specs.Prelude.{is_some, nat_lt, min, reverse, ◌+◌}
use Rattle.std.specs.List.{find, list_any}
use Rattle.nq_base.specs.declared.Access.{Access}
use Rattle.nq_base.specs.declared.Asked.{Asked}
use Rattle.nq_base.specs.declared.Clash.{Clash}
use Rattle.nq_base.specs.declared.Question.{Question}
use Rattle.nq_base.specs.declared.Row.{Row}
use Rattle.nq_base.specs.declared.Want.{Want}
use Rattle.nq_base.specs.declared.Who.{Who}
use Rattle.nq_datagrams.specs.Sent.{sent}
use Rattle.nq_lease.specs.declared.evict.notifying.NoticeTo.{NoticeTo}
use Rattle.nq_lease.specs.declared.evict.notifying.NoticeTo.TheVariants.{Others, Own}
use Rattle.nq_lease.specs.Telling.{told_rows, own_rows}
use Rattle.nq_base.specs.Entries.{EntryList}
use Rattle.nq_model.specs.protocol.Ask.{Reply as Told, ask, ask_past, ask_freely, ask_for, renew, share_again, put_off, put_off_by_own, granted, free}
use Rattle.nq_model.specs.protocol.Ask.{no_lease, caching_row, sharing_row, conflicts, shares, term_of}
use Rattle.nq_model.specs.protocol.Kept.{File, Kept}
use Rattle.nq_model.specs.protocol.Profile.{most_rows}
use Rattle.nq_model.specs.protocol.Server.{Server, ServerStep, serving}
use Rattle.nq_model.specs.protocol.ServerStep.{noticed, lease_asked, leases, read_asked, serves, tells_later}
use Rattle.nq_model.specs.protocol.Table.{Table, caches, find_row}
use Rattle.nq_keeper.specs.declared.KeepFault.{KeepFault}
use Rattle.nq_keeper.specs.declared.KeepFault.TheVariants.{Failed, Memory}
use Rattle.nq_server.specs.declared.received.EventTaken.{EventTaken}
use Rattle.nq_server.specs.declared.state.Phase.{Phase as Held}
use Rattle.nq_server.specs.declared.state.Phase.TheVariants.{Serving, Recovering}
use Rattle.nq_server.specs.Leasing.{Does, MakesBeside, own_to_tell, to_tell, granted_in}
use Rattle.nq_server.specs.Sound.{IsOfBoot}
use Rattle.nq_server.specs.State.{Beside, phase_of}
use Rattle.nq_server.specs.Stepping.{Takes, Makes, SaysNothing, next_of, outcome_of}
use Rattle.nq_wire.specs.Outbox.{Datagrams}

-- ---- who is put off, and who is told of it

-- an asker is put off by a row, and these holders are told
record PutsOff (s : Server) (q : Question) (to : NoticeTo) (told : Told) : Type 0 where
  clash : Clash
  asked : told.asked ≡ Asked.TryLater clash
  rows : noticed s q.file q.who.host q.access clash.row clash.own ≡ told_rows q.file to s.table.rows

own-puts-off : (s : Server) (q : Question) (own : Row) → Some own ≡ find_row q.file q.who.host s.table.rows → PutsOff s q (Own q.who.host)
    (put_off_by_own s.table own)
unfolding put_off_by_own
own-puts-off s q own e = record { clash = record { row = own; own = true }; asked = refl; rows = ap own_rows e }

for-puts-off : (s : Server) (q : Question) (want : Want) (own : Option Row) (to : NoticeTo) → own ≡ find_row q.file q.who.host s.table.rows
    → own_to_tell q.who.host (Some want) own ≡ Some to → PutsOff s q to (ask_for s.table q want own)
for-puts-off s q want None to e told = absurd (cc)
for-puts-off s q want (Some own) to e told = step own.evicting told
  where
    step : (b : Bool) → (if b then Some (Own q.who.host) else None) ≡ Some to → PutsOff s q to (if b then put_off_by_own s.table own
        else (if caches own.mode then renew s.table q want own else share_again s.table q own))
    step true h =
        let is : Own q.who.host ≡ to = cc in
        subst (λ t. PutsOff s q t (put_off_by_own s.table own)) is (own-puts-off s q own e)
    step false h = absurd (cc)

freely-puts-off : (s : Server) (q : Question) (want : Option Want) (own : Option Row) (to : NoticeTo) → own ≡ find_row q.file q.who.host s.table.rows
    → own_to_tell q.who.host want own ≡ Some to → PutsOff s q to (ask_freely s.table q want own)
freely-puts-off s q None own to e told = absurd (cc)
freely-puts-off s q (Some want) own to e told = for-puts-off s q want own to e told

past-puts-off : (s : Server) (q : Question) (clash own : Option Row) (to : NoticeTo) → own ≡ find_row q.file q.who.host s.table.rows
    → (if is_some clash then Some (Others q.who.host q.access) else own_to_tell q.who.host q.want own) ≡ Some to
    → PutsOff s q to (ask_past s.table q clash own)
unfolding put_off
past-puts-off s q (Some clash) own to e told =
    let is : Others q.who.host q.access ≡ to = cc in
    subst (λ t. PutsOff s q t (ask_past s.table q (Some clash) own)) is (record { clash = record { row = clash; own = false }; asked = refl; rows = refl })
past-puts-off s q None own to e told = freely-puts-off s q q.want own to e told

puts-off : (s : Server) (q : Question) (to : NoticeTo) → to_tell s.table q ≡ Some to → PutsOff s q to (ask s.table q)
puts-off s q to told =
    past-puts-off s q (find (conflicts q.file q.who.host q.access) s.table.rows) (find_row q.file q.who.host s.table.rows) to refl told

-- ---- who is not put off

-- an asker is told to go on
abbrev GoesOn : Asked → Type 0
GoesOn (Asked.TryLater clash) = ⊥
GoesOn other = Unit {0}

for-goes-on : (table : Table) (q : Question) (want : Want) (own : Option Row) → own_to_tell q.who.host (Some want) own ≡ None
    → GoesOn (ask_for table q want own).asked
unfolding granted no_lease
for-goes-on table q want None told = step (nat_lt (length table.rows) most_rows) (list_any (shares q.file q.who.host) table.rows)
  where
    step : (room shared : Bool) → GoesOn (if room then (if shared then granted table q (sharing_row table q (term_of q want)) (term_of q want)
        else granted table q (caching_row table q want.mode (term_of q want)) (term_of q want)) else no_lease table).asked
    step true true = tt
    step true false = tt
    step false shared = tt
for-goes-on table q want (Some own) told = step own.evicting (caches own.mode) told
  where
    step : (b c : Bool) → (if b then Some (Own q.who.host) else None) ≡ None → GoesOn (if b then put_off_by_own table own
        else (if c then renew table q want own else share_again table q own)).asked
    step true c h = absurd (cc)
    step false true h = tt
    step false false h = tt

past-goes-on : (table : Table) (q : Question) (clash own : Option Row) (want : Option Want) → q.want ≡ want
    → (if is_some clash then Some (Others q.who.host q.access) else own_to_tell q.who.host want own) ≡ None → GoesOn (ask_past table q clash own).asked
unfolding free
past-goes-on table q (Some clash) own want e told = absurd (cc)
past-goes-on table q None own want e told = subst (λ w. GoesOn (ask_freely table q w own).asked) (sym e) (freely want told)
  where
    freely : (w : Option Want) → own_to_tell q.who.host w own ≡ None → GoesOn (ask_freely table q w own).asked
    freely None h = tt
    freely (Some w) h = for-goes-on table q w own h

goes-on : (table : Table) (q : Question) → to_tell table q ≡ None → GoesOn (ask table q).asked
goes-on table q told =
    past-goes-on table q (find (conflicts q.file q.who.host q.access) table.rows) (find_row q.file q.who.host table.rows) q.want refl told

-- ---- GETLEASE

pub lease-later : (s : Server) (xid : ℕ) (q : Question) (to : NoticeTo) → to_tell s.table q ≡ Some to → tells_later s q.who xid (ask s.table q).table
    (told_rows q.file to s.table.rows) ≡ lease_asked s q.who xid q.file q.access (ask s.table q).table (ask s.table q).asked
lease-later s xid q to told =
    let p = puts-off s q to told in
    ap (tells_later s q.who xid (ask s.table q).table) (sym p.rows) ∙ ap (lease_asked s q.who xid q.file q.access (ask s.table q).table) (sym p.asked)

lease-on : (s : Server) (who : Who) (xid file : ℕ) (access : Access) (table : Table) (asked : Asked) → GoesOn asked → leases s who xid file table
    (granted_in asked) ≡ lease_asked s who xid file access table asked
lease-on s who xid file access table (Asked.TryLater clash) h = absurd h
lease-on s who xid file access table (Asked.Granted grant) h = refl
lease-on s who xid file access table Asked.Free h = refl
lease-on s who xid file access table Asked.NoLease h = refl

pub lease-given : (s : Server) (xid : ℕ) (q : Question) → to_tell s.table q ≡ None → leases s q.who xid q.file (ask s.table q).table
    (granted_in (ask s.table q).asked) ≡ lease_asked s q.who xid q.file q.access (ask s.table q).table (ask s.table q).asked
lease-given s xid q told =
    lease-on s q.who xid q.file q.access (ask s.table q).table (ask s.table q).asked (goes-on s.table q told)

-- ---- READ

pub read-later : (s : Server) (xid next call : ℕ) (q : Question) (file : File) (block : ℕ) (body : List ℕ) (to : NoticeTo) → file.id ≡ q.file
    → to_tell s.table q ≡ Some to → tells_later s q.who xid (ask s.table q).table (told_rows q.file to s.table.rows) ≡ read_asked s q.who xid next
    call file block body q.access (ask s.table q).table (ask s.table q).asked
read-later s xid next call q file block body to same told =
    let p = puts-off s q to told in
    ap (tells_later s q.who xid (ask s.table q).table) (sym p.rows ∙ ap (λ f. noticed s f q.who.host q.access p.clash.row p.clash.own) (sym same))
    ∙ ap (read_asked s q.who xid next call file block body q.access (ask s.table q).table) (sym p.asked)

read-on : (s : Server) (who : Who) (xid next call : ℕ) (file : File) (block : ℕ) (body : List ℕ) (access : Access) (table : Table) (asked : Asked)
    → GoesOn asked → serves s who xid next call file block body table (granted_in asked) ≡ read_asked s who xid next call file block body access table asked
read-on s who xid next call file block body access table (Asked.TryLater clash) h = absurd h
read-on s who xid next call file block body access table (Asked.Granted grant) h = refl
read-on s who xid next call file block body access table Asked.Free h = refl
read-on s who xid next call file block body access table Asked.NoLease h = refl

pub read-given : (s : Server) (xid next call : ℕ) (q : Question) (file : File) (block : ℕ) (body : List ℕ) → to_tell s.table q ≡ None
    → serves s q.who xid next call file block body (ask s.table q).table (granted_in (ask s.table q).asked) ≡ read_asked s q.who xid next call file
    block body q.access (ask s.table q).table (ask s.table q).asked
read-given s xid next call q file block body told =
    read-on s q.who xid next call file block body q.access (ask s.table q).table (ask s.table q).asked (goes-on s.table q told)

-- a READ is answered alike for two files of one id and revision
serves-alike : (s : Server) (who : Who) (xid next call : ℕ) (file other : File) (block : ℕ) (body : List ℕ) (table : Table) (grant : _) → file.id
    ≡ other.id → file.rev ≡ other.rev → serves s who xid next call file block body table grant ≡ serves s who xid next call other block body table grant
unfolding serves
serves-alike s who xid next call file other block body table grant e f = rw (e, f) refl

pub read-alike : (s : Server) (who : Who) (xid next call : ℕ) (file other : File) (block : ℕ) (body : List ℕ) (access : Access) (table : Table)
    (asked : Asked) → file.id ≡ other.id → file.rev ≡ other.rev → read_asked s who xid next call file block body access table asked ≡ read_asked s who
    xid next call other block body access table asked
read-alike s who xid next call file other block body access table (Asked.TryLater clash) e f =
    ap (λ i. tells_later s who xid table (noticed s i who.host access clash.row clash.own)) e
read-alike s who xid next call file other block body access table (Asked.Granted grant) e f =
    serves-alike s who xid next call file other block body table (Some grant) e f
read-alike s who xid next call file other block body access table Asked.Free e f =
    serves-alike s who xid next call file other block body table None e f
read-alike s who xid next call file other block body access table Asked.NoLease e f =
    serves-alike s who xid next call file other block body table None e f

-- ---- steps that keep what is kept

pub some-kept : Kept
some-kept = record { files = []; hosts = []; boot = 0; opened = 0; longest = 0; next = 0 }

-- a step that keeps what is kept is made, after that was read
pub takes-does : (step base : Kept → ServerStep) (result : Result EventTaken KeepFault) (told tells : Option Kept) (before count : ℕ) (held after : Beside)
    (out out' : Datagrams) (log log' : EntryList) → tells ≡ told → count ≡ before → ((kept : Kept) → Does (base kept) result held after out out' log
    log') → ((kept : Kept) → told ≡ Some kept → step kept ≡ base kept) → ((kept : Kept) → (base kept).server.kept ≡ kept) → Takes step result told
    tells before count held after out out' log log'
takes-does step base (Ok how) told tells before count held after out out' log log' stays same does is keeps = (
  λ kept e.
      subst
      (λ s. (s.outcome ≡ outcome_of how) × Makes s tells after out out' log log')
      (sym (is kept e)) (
        (does kept).0,
        record {
          keeps = stays ∙ e ∙ ap Some (sym (keeps kept));
          holds = (does kept).1.holds;
          sends = (does kept).1.sends;
          enters =
              (does kept).1.enters;
        },
      ),
  same,
)
takes-does step base (Err Memory) told tells before count held after out out' log log' stays same does is keeps =
    (stays, same, (does some-kept).0, (does some-kept).1)
takes-does step base (Err Failed) told tells before count held after out out' log log' stays same does is keeps =
    absurd (does some-kept)

-- a boot that serves may have any rows
pub of-serving : (longest : ℕ) (phase : Held) (rows : List Row) → phase_of phase ≡ serving → IsOfBoot longest phase rows
of-serving longest (Serving boot) rows h = tt
of-serving longest (Recovering recovery last) rows h = absurd (cc)

-- ---- steps for which room was made

pub after-room : (step : ServerStep) (after : Beside) (out between out' : Datagrams) (log middle log' : EntryList) → SaysNothing out between log
    middle → MakesBeside step after between out' middle log' → MakesBeside step after out out' log log'
after-room step after out between out' log middle log' nothing made = record {
  holds = made.holds;
  sends = record {
    first = made.sends.first ∙ nothing.first;
    added = made.sends.added ∙ ap (λ d. d ++ map sent step.sends) nothing.datagrams;
    fit = made.sends.fit;
  };
  enters = made.enters ∙ ap (λ l. l ++ reverse step.entries) nothing.entries;
}

pub next-same : (out between : Datagrams) (log middle : EntryList) → SaysNothing out between log middle → next_of between ≡ next_of out
next-same out between log middle nothing =
    ap (λ f. min (f + length between.datagrams) 18446744073709551615) nothing.first
    ∙ ap (λ d. min (out.first + length d) 18446744073709551615) nothing.datagrams
