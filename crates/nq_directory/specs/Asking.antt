-- What a host asks for, and what it makes of what it is told.
use Rattle.std.specs.Prelude.{ℕ, Bool, true, false, not, ◌&&◌, List, [], ◌∷◌, ◌++◌, Option, Some, None, length, nat_lt, if◌then◌else◌}
use Rattle.nq_base.specs.declared.Grant.{Grant}
use Rattle.nq_base.specs.declared.Mode.{Mode}
use Rattle.nq_base.specs.declared.Mode.TheVariants.{NonCaching, Reading, Writing}
use Rattle.nq_base.specs.declared.Tag.{Tag}
use Rattle.nq_directory.specs.declared.names.FileName.{FileName}
use Rattle.nq_directory.specs.Names.{put_names}
use Rattle.nq_directory.specs.declared.listing.messages.DirTag.{DirTag}
use Rattle.nq_directory.specs.declared.listing.messages.ReadDir.{ReadDir}
use Rattle.nq_directory.specs.Messages.{Listing, Answer, page, wait, read_dir_bytes, dir_vacated_bytes}
use Rattle.nq_directory.specs.Reading.{dir_evicted_in, told_in}
use Rattle.nq_model.specs.protocol.Client.{Lease}
use Rattle.nq_model.specs.protocol.Hear.{breaks, granted_lease}
use Rattle.nq_model.specs.protocol.Profile.{same_bytes}
use Rattle.nq_model.specs.protocol.Table.{same_who, tag_below}
use Rattle.nq_directory.specs.NameCacheNames.{DirList, Request, Names, most_lists, empty_list, number_after, list_of, other_lists, forgets}

-- what a host keeps then, and the bytes that it sends, if any
pub record Asks : Type 0 where
  pub names : Names
  pub sends : Option (List ℕ)

-- nothing is sent
abbrev pub silent : Names → Asks
silent n = record { names = n; sends = None }

-- ---- asking

-- the READDIRLOOK for the page of a list behind an id
abbrev pub request_of : Names → (prefix : List ℕ) → (after term : ℕ) → ReadDir
request_of n prefix after term =
    record { xid = n.next; who = n.who; prefix = prefix; after = after; term = term }

-- the page of a list behind an id is asked for
abbrev pub asks_behind : Names → DirList → (after term now : ℕ) → Asks
asks_behind n part after term now = record {
  names = record n {
    next = number_after n.next;
    asked = Some (record { xid = n.next; after = after; sent = now; part = part });
  };
  sends = Some (read_dir_bytes (request_of n part.prefix after term));
}

-- where there are as many lists as there may be, all are forgotten
abbrev pub with_room : List DirList → List DirList
with_room lists = if nat_lt (length lists) most_lists then lists else []

-- a request under way is cancelled, and what came of its list is forgotten; so is the list of the directory
abbrev pub cleared : (prefix : List ℕ) → Names → Names
cleared prefix n = record n { lists = with_room (other_lists prefix n.lists); asked = None }

-- a directory is to be listed
abbrev pub lists_dir : Names → (prefix : List ℕ) → (term now : ℕ) → Asks
lists_dir n prefix term now = asks_behind (cleared prefix n) (empty_list prefix) 0 term now

-- ---- replies

-- whether a lease lets its holder read and write no more than that
abbrev pub is_reading : Mode → Bool
is_reading NonCaching = false
is_reading Reading = true
is_reading Writing = false

-- whether a page goes on with a list: it has a reading lease that is the first of the list or goes on in its chain
abbrev pub goes_on : DirList → Option Grant → Bool
goes_on part None = false
goes_on part (Some g) = is_reading g.mode && not (breaks g part.lease)

-- a list with the names of a page
abbrev pub with_page : DirList → (sent : ℕ) → Grant → List FileName → DirList
with_page part sent g names = record part { lease = Some (granted_lease 0 g sent); names = put_names names part.names }

-- the last id of a page, or the one behind which it begins
abbrev pub last_id : (after : ℕ) → List FileName → ℕ
last_id after [] = after
last_id after (e ∷ es) = last_id e.file es

-- a list goes on behind a page, or is whole
abbrev pub grown : Names → Request → DirList → (after : ℕ) → (more : Bool) → (term now : ℕ) → Asks
grown n r part after true term now = asks_behind n part after term now
grown n r part after false term now = silent (record n { lists = n.lists ++ part ∷ []; asked = None })

-- a page of a list under way
abbrev pub takes_page : Names → Request → Listing → Option Grant → (term now : ℕ) → Asks
takes_page n r l None term now = silent (record n { asked = None })
takes_page n r l (Some g) term now =
    if goes_on r.part (Some g)
    then grown n r (with_page r.part r.sent g l.names) (last_id r.after l.names) l.more term now
    else silent (record n { asked = None })

-- what a host makes of the reply to its request
abbrev pub told : Names → Request → Answer → (term now : ℕ) → Asks
told n r (page l) term now = takes_page n r l l.grant term now
told n r wait term now = silent (record n { asked = None })

-- ---- notices

-- the lease of what came of a list, where it is of a directory
abbrev pub lease_asked : (prefix : List ℕ) → Option Request → Option Lease
lease_asked prefix None = None
lease_asked prefix (Some r) = if same_bytes r.part.prefix prefix then r.part.lease else None

-- the lease that is held on a directory: that of its list, or of what came of it
abbrev pub lease_by : (prefix : List ℕ) → Option DirList → Option Request → Option Lease
lease_by prefix (Some l) asked = l.lease
lease_by prefix None asked = lease_asked prefix asked

-- whether a greater tag than this one is held
abbrev pub is_later : Tag → Option Lease → Bool
is_later tag None = false
is_later tag (Some lease) = tag_below tag lease.tag

-- the DIRVACATED that answers a DIREVICTED
abbrev pub vacated_of : Names → DirTag → DirTag
vacated_of n t = record { xid = n.next; who = n.who; prefix = t.prefix; tag = t.tag }

-- the list is given up
abbrev pub gives_up : Names → DirTag → Asks
gives_up n t = record {
  names = record (forgets t.prefix n) { next = number_after n.next };
  sends = Some (dir_vacated_bytes (vacated_of n t));
}

-- what a host makes of a DIREVICTED
abbrev pub evicted : Names → DirTag → Asks
evicted n t =
    if is_later t.tag (lease_by t.prefix (list_of t.prefix n.lists) n.asked) then silent n else gives_up n t

-- ---- whole datagrams

-- a DIREVICTED, where it is for this incarnation
abbrev pub noticed : Names → Option DirTag → Asks
noticed n None = silent n
noticed n (Some t) = if same_who t.who n.who then evicted n t else silent n

-- the reply to the request under way, or else a DIREVICTED
abbrev pub heard_by : Names → Request → (bytes : List ℕ) → Option Answer → (term now : ℕ) → Asks
heard_by n r bytes None term now = noticed n (dir_evicted_in bytes)
heard_by n r bytes (Some answer) term now = told n r answer term now

abbrev pub heard_as : Names → Option Request → (bytes : List ℕ) → (term now : ℕ) → Asks
heard_as n None bytes term now = noticed n (dir_evicted_in bytes)
heard_as n (Some r) bytes term now = heard_by n r bytes (told_in r.xid n.who.inc bytes) term now

-- what a host makes of bytes from the server
abbrev pub heard : Names → (bytes : List ℕ) → (term now : ℕ) → Asks
heard n bytes term now = heard_as n n.asked bytes term now

-- ---- the same in the order of the code, which takes all memory first

-- what bytes tell as the reply to the request under way
abbrev pub answer_in : Names → Option Request → (bytes : List ℕ) → Option Answer
answer_in n None bytes = None
answer_in n (Some r) bytes = told_in r.xid n.who.inc bytes

-- the READDIRLOOK for the page behind these names, where the list goes on behind them
abbrev pub next_bytes : Names → Request → List FileName → (more : Bool) → (term : ℕ) → Option (List ℕ)
next_bytes n r names true term = Some (read_dir_bytes (request_of n r.part.prefix (last_id r.after names) term))
next_bytes n r names false term = None

-- a list that has grown by these names: the next page is asked for by these bytes, or the list is whole
abbrev pub gone_on : Names → Request → List FileName → Option (List ℕ) → (now : ℕ) → Asks
gone_on n r names (Some bytes) now = record {
  names = record n {
    next = number_after n.next;
    asked = Some (record { xid = n.next; after = last_id r.after names; sent = now; part = r.part });
  };
  sends = Some bytes;
}
gone_on n r names None now = silent (record n { lists = n.lists ++ r.part ∷ []; asked = None })

-- a page that came with a lease
abbrev pub page_taken : Names → Request → List FileName → Grant → Option (List ℕ) → (now : ℕ) → Asks
page_taken n r names g next now =
    if goes_on r.part (Some g)
    then gone_on n (record r { part = with_page r.part r.sent g names }) names next now
    else silent (record n { asked = None })
