-- READ and GETLEASE, by what was found of the file.
use Rattle.std.proofs.Common.{◌≡◌, ℕ, List, Option, Some, None, refl, sym, ap, ◌∙◌}
use Rattle.std.specs.Prelude.{slice_get}
use Rattle.nq_base.specs.declared.Access.{Access}
use Rattle.nq_base.specs.declared.Asked.{Asked}
use Rattle.nq_base.specs.declared.FileRow.{FileRow}
use Rattle.nq_base.specs.declared.Question.{Question}
use Rattle.nq_base.specs.declared.Refusal.{Refusal}
use Rattle.nq_base.specs.declared.Reply.{Reply as Answer}
use Rattle.nq_base.specs.declared.Want.{Want}
use Rattle.nq_base.specs.declared.Who.{Who}
use Rattle.nq_keeper.specs.Reading.{read_in, read_out}
use Rattle.nq_keeper.specs.declared.requests.reading.ReadOut.{ReadOut}
use Rattle.nq_model.specs.protocol.Ask.{ask}
use Rattle.nq_model.specs.protocol.Change.{row_of, row_of_found}
use Rattle.nq_model.specs.protocol.Kept.{File, Kept}
use Rattle.nq_model.specs.protocol.Message.{reply}
use Rattle.nq_model.specs.protocol.Server.{Server, ServerStep, says, after_notices, with_table}
use Rattle.nq_model.specs.protocol.ServerStep.{get_lease, lease_asked, leases, read, read_asked, read_block, read_of, to_read, serves, tells_later}
use Rattle.nq_model.specs.protocol.Table.{Table}
use Rattle.nq_server.proofs.LeasedSteps.{read-alike}
use Rattle.nq_server.specs.Leasing.{asks, file_asked}
use Rattle.nq_server.specs.State.{Beside, server_of}

-- ---- what a question leaves

-- a server that was asked has another table, and may have another number of the next notice
abbrev pub with_asked : Server → Table → (notice : ℕ) → Server
with_asked s table notice = record s { table = table; notice = notice }

pub lease-leaves : (s : Server) (who : Who) (xid file : ℕ) (access : Access) (table : Table) (asked : Asked)
    → (lease_asked s who xid file access table asked).server ≡ with_asked s table (lease_asked s who xid file access table asked).server.notice
unfolding tells_later leases after_notices with_table
lease-leaves s who xid file access table (Asked.TryLater clash) = refl
lease-leaves s who xid file access table (Asked.Granted grant) = refl
lease-leaves s who xid file access table Asked.Free = refl
lease-leaves s who xid file access table Asked.NoLease = refl

pub read-leaves : (s : Server) (who : Who) (xid next call : ℕ) (file : File) (block : ℕ) (body : List ℕ) (access : Access) (table : Table)
    (asked : Asked) → (read_asked s who xid next call file block body access table asked).server ≡ with_asked s table (read_asked s who xid next call
    file block body access table asked).server.notice
unfolding tells_later serves after_notices with_table
read-leaves s who xid next call file block body access table (Asked.TryLater clash) = refl
read-leaves s who xid next call file block body access table (Asked.Granted grant) = refl
read-leaves s who xid next call file block body access table Asked.Free = refl
read-leaves s who xid next call file block body access table Asked.NoLease = refl

-- ---- GETLEASE

pub get-lease-stale : (s : Server) (who : Who) (xid : ℕ) (want : Want) (found : Option File) → None ≡ row_of_found found → get_lease s who xid want
    found ≡ says s who.host (reply xid (Answer.Refused who.inc Refusal.Stale))
get-lease-stale s who xid want None h = refl
get-lease-stale s who xid want (Some file) h = absurd (cc)

-- what a question gives
abbrev leased : Server → (xid : ℕ) → Question → ServerStep
leased s xid q = lease_asked s q.who xid q.file q.access (ask s.table q).table (ask s.table q).asked

pub get-lease-found : (held : Beside) (kept : Kept) (who : Who) (xid : ℕ) (want : Want) (found : Option File) (row : FileRow) (q : Question)
    → Some row ≡ row_of_found found → q ≡ asks held who row (Some want) → get_lease (server_of held kept) who xid want found
    ≡ lease_asked (server_of held kept) q.who xid q.file q.access (ask held.table q).table (ask held.table q).asked
get-lease-found held kept who xid want None row q h is = absurd (cc)
get-lease-found held kept who xid want (Some file) row q h is =
    let own : row_of file ≡ row = cc in
    ap (λ r. leased (server_of held kept) xid (asks held who r (Some want))) own ∙ ap (leased (server_of held kept) xid) (sym is)

-- ---- READ

pub read-stale : (s : Server) (who : Who) (xid next call block : ℕ) (want : Option Want) (found : Option File) → ReadOut.Stale ≡ read_out block found
    → read s who xid next call block want found ≡ says s who.host (reply xid (Answer.Refused who.inc Refusal.Stale))
read-stale s who xid next call block want None h = refl
read-stale s who xid next call block want (Some file) h = step (slice_get file.bodies block) h
  where
    step : (o : Option (List ℕ)) → ReadOut.Stale ≡ read_in file o → read s who xid next call block want (Some file) ≡ says s who.host
        (reply xid (Answer.Refused who.inc Refusal.Stale))
    step None e = absurd (cc)
    step (Some body) e = absurd (cc)

pub read-invalid : (s : Server) (who : Who) (xid next call block : ℕ) (want : Option Want) (found : Option File) → ReadOut.Invalid ≡ read_out block
    found → read s who xid next call block want found ≡ says s who.host (reply xid (Answer.Refused who.inc Refusal.Inval))
read-invalid s who xid next call block want None h = absurd (cc)
read-invalid s who xid next call block want (Some file) h = step (slice_get file.bodies block) refl h
  where
    step : (o : Option (List ℕ)) → slice_get file.bodies block ≡ o → ReadOut.Invalid ≡ read_in file o → read s who xid next call block want
        (Some file) ≡ says s who.host (reply xid (Answer.Refused who.inc Refusal.Inval))
    step None d e = ap (read_block s who xid next call file block want) d
    step (Some body) d e = absurd (cc)

-- the row and the body are those of the file
got-both : (block : ℕ) (file : File) (row : FileRow) (body : List ℕ) → ReadOut.Got row body ≡ read_out block (Some file) → (row_of file ≡ row)
    × (slice_get file.bodies block ≡ Some body)
got-both block file row body h = step (slice_get file.bodies block) refl h
  where
    step : (o : Option (List ℕ)) → slice_get file.bodies block ≡ o → ReadOut.Got row body ≡ read_in file o → (row_of file ≡ row)
        × (slice_get file.bodies block ≡ Some body)
    step None d e = absurd (cc)
    step (Some found) d e = let own : row_of file ≡ row = cc in let same : found ≡ body = cc in (own, d ∙ ap Some same)

-- what a question gives
abbrev served : Server → (xid next call block : ℕ) → (file : File) → (body : List ℕ) → Question → ServerStep
served s xid next call block file body q =
    read_asked s q.who xid next call file block body q.access (ask s.table q).table (ask s.table q).asked

read-has : (s : Server) (who : Who) (xid next call block : ℕ) (want : Option Want) (file : File) (body : List ℕ) → slice_get file.bodies block
    ≡ Some body → read s who xid next call block want (Some file) ≡ read_of s who xid next call file block body want (ask s.table (to_read s who file want))
read-has s who xid next call block want file body has = ap (read_block s who xid next call file block want) has

pub read-found : (held : Beside) (kept : Kept) (who : Who) (xid next call block : ℕ) (want : Option Want) (found : Option File) (row : FileRow)
    (body : List ℕ) (q : Question) → ReadOut.Got row body ≡ read_out block found → q ≡ asks held who row want → read (server_of held kept) who xid
    next call block want found ≡ read_asked (server_of held kept) q.who xid next call (file_asked q) block body q.access (ask held.table q).table
    (ask held.table q).asked
read-found held kept who xid next call block want None row body q h is = absurd (cc)
read-found held kept who xid next call block want (Some file) row body q h is =
    let s = server_of held kept in
    let both = got-both block file row body h in
    let own : row_of file ≡ row = both.0 in
    let asked : q ≡ asks held who (row_of file) want = is ∙ ap (λ r. asks held who r want) (sym own) in
    read-has s who xid next call block want file body both.1
    ∙ ap (served s xid next call block file body) (sym asked)
    ∙ read-alike s q.who xid next call file (file_asked q) block body q.access (ask held.table q).table (ask held.table q).asked
    (sym (ap (λ x. x.file) asked)) (sym (ap (λ x. x.rev) asked))
