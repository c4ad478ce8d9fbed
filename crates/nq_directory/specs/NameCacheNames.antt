-- What a host keeps of the names of directories.
use Rattle.std.specs.Prelude.{ℕ, ◌+◌, ◌%◌, not, List, [], Option, Some, None, find, filter, if◌then◌else◌}
use Rattle.nq_base.specs.declared.Call.{Call}
use Rattle.nq_base.specs.declared.Who.{Who}
use Rattle.nq_client_parts.specs.HoldingLeases.{passes}
use Rattle.nq_directory.specs.declared.names.FileName.{FileName}
use Rattle.nq_directory.specs.Names.{named}
use Rattle.nq_directory.specs.Prefix.{directory}
use Rattle.nq_model.specs.protocol.Client.{Lease, is_live}
use Rattle.nq_model.specs.protocol.Profile.{same_bytes, xid_end}
use Rattle.nq_directory.specs.declared.name_cache.found.Found.{Found}

-- the names of a directory: its prefix, the lease under which they are held, and the files with their names, in order of the names
pub record DirList : Type 0 where
  pub prefix : List ℕ
  pub lease : Option Lease
  pub names : List FileName

-- a request for a page of a list: its number, the id behind which the page begins, when it was sent, and what came of the list so far
pub record Request : Type 0 where
  pub xid : ℕ
  pub after : ℕ
  pub sent : ℕ
  pub part : DirList

-- what a host keeps: its incarnation, the number of its next message, the lists that are whole, and the request under way
pub record Names : Type 0 where
  pub who : Who
  pub next : ℕ
  pub lists : List DirList
  pub asked : Option Request

-- the number of the first message of an incarnation
abbrev pub first_number : ℕ
first_number = 2147483648

-- the most directories of which names are kept
abbrev pub most_lists : ℕ
most_lists = 16

-- a new incarnation keeps nothing
abbrev pub new_names : Who → Names
new_names who = record { who = who; next = first_number; lists = []; asked = None }

-- a list of which nothing came yet
abbrev pub empty_list : (prefix : List ℕ) → DirList
empty_list prefix = record { prefix = prefix; lease = None; names = [] }

-- the number behind another one: numbers wrap
abbrev pub number_after : ℕ → ℕ
number_after n = (n + 1) % xid_end

-- ---- finding

-- the list of a directory
abbrev pub list_of : (prefix : List ℕ) → List DirList → Option DirList
list_of prefix lists = find (λ l. same_bytes l.prefix prefix) lists

-- the file of a name, or that no file has it
abbrev pub found_as : Option ℕ → Found
found_as None = Found.Absent
found_as (Some file) = Found.File file

-- what a list says of a name: nothing where its lease does not run
abbrev pub found_in : (name : List ℕ) → (now : ℕ) → Option DirList → Found
found_in name now None = Found.Unknown
found_in name now (Some l) = if passes (is_live now) l.lease then found_as (named name l.names) else Found.Unknown

-- what a host knows of a name
abbrev pub finds : Names → (name : List ℕ) → (now : ℕ) → Found
finds n name now = found_in name now (list_of (directory name) n.lists)

-- ---- forgetting

-- the lists of other directories
abbrev pub other_lists : (prefix : List ℕ) → List DirList → List DirList
other_lists prefix lists = filter (λ l. not (same_bytes l.prefix prefix)) lists

-- a request, where it is for another directory
abbrev pub other_request : (prefix : List ℕ) → Option Request → Option Request
other_request prefix None = None
other_request prefix (Some r) = if same_bytes r.part.prefix prefix then None else Some r

-- the list of a directory and a request for it are forgotten
abbrev pub forgets : (prefix : List ℕ) → Names → Names
forgets prefix n = record n { lists = other_lists prefix n.lists; asked = other_request prefix n.asked }

-- all lists and the request are forgotten
abbrev pub forgets_all : Names → Names
forgets_all n = record n { lists = []; asked = None }

-- before a call that creates a file its directory is forgotten, and before one that removes a file all are
abbrev pub before_call : Names → Call → Names
before_call n (Call.Create name blocks) = forgets (directory name) n
before_call n (Call.Remove file) = forgets_all n
before_call n other = n
