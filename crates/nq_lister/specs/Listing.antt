-- What a server that is left running answers to a READDIRLOOK: without a lease, the files whose names begin with its prefix.
use Rattle.std.specs.List.{starts_with}
use Rattle.std.specs.Prelude.{◌≡◌, ℕ, ◌==◌, ◌&&◌, Bool, true, false, List, [], ◌++◌, Option, Some, None, is_some, nat_eq, nat_lt}
use Rattle.nq_base.specs.declared.Who.{Who}
use Rattle.nq_directory.specs.Asking.{last_id}
use Rattle.nq_directory.specs.Files.{Leaf, is_own_behind, leaf_of, own_behind}
use Rattle.nq_directory.specs.Messages.{Answer, Listing, answer_bytes, page, wait}
use Rattle.nq_directory.specs.Reading.{read_dir_in}
use Rattle.nq_directory.specs.declared.FileName.{FileName}
use Rattle.nq_directory.specs.declared.listing.messages.ReadDir.{ReadDir}
use Rattle.nq_model.specs.protocol.Change.{IsWithinBounds}
use Rattle.nq_model.specs.protocol.Kept.{File, Kept, host_row}
use Rattle.nq_model.specs.protocol.Profile.{most_hosts}
use Rattle.nq_model.specs.protocol.Server.{Phase, Server, recovering, serving}

-- ---- pages

-- whether a name begins with a prefix
unfoldable pub begins_with : (prefix name : List ℕ) → Bool
begins_with prefix name = starts_with nat_eq name prefix

-- whether a file's name begins with a prefix, and its id is above this one
abbrev pub is_behind : (prefix : List ℕ) → (after : ℕ) → File → Bool
is_behind prefix after f = is_own_behind (begins_with prefix) after f

-- the files behind an id whose names begin with a prefix, by id
abbrev pub names_behind : (prefix : List ℕ) → (after : ℕ) → List File → List FileName
names_behind prefix after files = own_behind (begins_with prefix) after files

-- a page without a lease as it is told
abbrev pub listing_of : Leaf → Listing
listing_of l = record { names = l.names; more = l.more; grant = None }

-- a page of these: at most 32 files, whether the list goes on behind them, and no lease
abbrev pub page_of : List FileName → Listing
page_of names = listing_of (leaf_of names)

-- ---- answers

-- what is told of the files that are kept: while the server recovers, that the host is to ask again later
abbrev pub told_by : Phase → List File → ReadDir → Answer
told_by serving files r = page (page_of (names_behind r.prefix r.after files))
told_by (recovering until heard last) files r = wait

-- whether a request is of the host that sent it, and of the incarnation that is kept for that
abbrev pub is_attached : Kept → (host : ℕ) → Who → Bool
is_attached kept host who = who.host == host && (nat_lt host most_hosts && who.inc == (host_row kept host).inc)

-- a request is answered, or gets no reply
abbrev pub reply_if : (attached : Bool) → Server → ReadDir → Option (List ℕ)
reply_if true s r = Some (answer_bytes r.xid r.who.inc (told_by s.phase s.kept.files r))
reply_if false s r = None

-- what is replied to a datagram of a host that is this READDIRLOOK, or none
abbrev pub reply_to : Server → (host : ℕ) → Option ReadDir → Option (List ℕ)
reply_to s host None = None
reply_to s host (Some r) = reply_if (is_attached s.kept host r.who) s r

-- what is replied to bytes of a host
abbrev pub reply_in : Server → (host : ℕ) → (bytes : List ℕ) → Option (List ℕ)
reply_in s host bytes = reply_to s host (read_dir_in bytes)

-- the datagrams that are answered so: each READDIRLOOK
abbrev pub is_lookup : (bytes : List ℕ) → Bool
is_lookup bytes = is_some (read_dir_in bytes)

-- ---- pages one behind the other

-- the names behind a page: none where the list does not go on, and else those behind its last id
abbrev pub names_beyond : (more : Bool) → (prefix : List ℕ) → (last : ℕ) → List File → List FileName
names_beyond false prefix last files = []
names_beyond true prefix last files = names_behind prefix last files

-- Each page goes on where the one before it ended: the names behind an id are those of the page, and then those behind its last id. So a host that
-- asks behind the last id of each page gets all names, each once, where nothing is made or removed meanwhile
abbrev pub PagesGoOn : Type 0
PagesGoOn =
    (kept : Kept) (prefix : List ℕ) (after : ℕ)
    → IsWithinBounds kept
    → names_behind prefix after kept.files
    ≡ (page_of (names_behind prefix after kept.files)).names
    ++ names_beyond (page_of (names_behind prefix after kept.files)).more prefix
    (last_id after (page_of (names_behind prefix after kept.files)).names) kept.files
