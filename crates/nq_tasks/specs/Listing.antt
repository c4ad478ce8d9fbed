-- A list of names that a host asks for, page by page.
use Rattle.std.specs.Fmt.{decimal}
use Rattle.std.specs.List.{flat_map}
use Rattle.std.specs.Prelude.{ℕ, ◌==◌, ◌-◌, Bool, true, false, not, ◌||◌, nat_le, List, [], ◌∷◌, ◌++◌, Option, Some, None, if◌then◌else◌}
use Rattle.nq_base.specs.declared.Who.{Who}
use Rattle.nq_directory.specs.Asking.{last_id}
use Rattle.nq_directory.specs.Messages.{Answer, page, wait}
use Rattle.nq_directory.specs.Reading.{told_in}
use Rattle.nq_directory.specs.declared.listing.messages.ReadDir.{ReadDir}
use Rattle.nq_directory.specs.declared.names.FileName.{FileName}
use Rattle.nq_tasks.specs.declared.listing.AskedPage.{AskedPage}
use Rattle.nq_tasks.specs.declared.listing.Listed.{Listed}

-- a list under way: how the names begin, the file behind which it goes on, the request for its next page, and its lines so far
pub record Lists : Type 0 where
  pub prefix : List ℕ
  pub after : ℕ
  pub asked : Option AskedPage
  pub lines : List ℕ

-- a list of which nothing came yet
abbrev pub begun : (prefix : List ℕ) → (after : ℕ) → Lists
begun prefix after = record { prefix = prefix; after = after; asked = None; lines = [] }

-- whether the next page is to be asked for: where none is asked for, or for 2 ticks
abbrev pub is_due : (now : ℕ) → Option AskedPage → Bool
is_due now None = true
is_due now (Some asked) = nat_le 2 (now - asked.sent)

-- the request for the next page, which wants no lease
abbrev pub request_of : Who → (number : ℕ) → Lists → ReadDir
request_of who number l = record { xid = number; who = who; prefix = l.prefix; after = l.after; term = 0 }

-- a list whose next page is asked for
abbrev pub asked_for : (number now : ℕ) → Lists → Lists
asked_for number now l =
    record { prefix = l.prefix; after = l.after; asked = Some (record { number = number; sent = now }); lines = l.lines }

-- whether a name begins with `~`, as those of the files do that have the bytes of whole ones
abbrev pub is_hidden : (name : List ℕ) → Bool
is_hidden [] = false
is_hidden (first ∷ rest) = first == 126

-- whether a file is told: one with a hidden name only among names that are asked for as such
abbrev pub is_shown : (prefix : List ℕ) → FileName → Bool
is_shown prefix entry = is_hidden prefix || not (is_hidden entry.name)

-- the line of a file, if it is told: its name and its number
unfoldable pub line_of : (prefix : List ℕ) → FileName → List ℕ
line_of prefix entry = if is_shown prefix entry then entry.name ++ (32 ∷ (decimal entry.file ++ 10 ∷ [])) else []

-- the lines of files
abbrev pub lines_of : (prefix : List ℕ) → List FileName → List ℕ
lines_of prefix names = flat_map (line_of prefix) names

-- what is said of a datagram, and the list then
pub record ListStep : Type 0 where
  pub said : Listed
  pub lists : Lists

-- whether the list goes on behind a page: where it says so, and has a file
abbrev pub goes_on : List FileName → (more : Bool) → Listed
goes_on [] more = Listed.Whole
goes_on (entry ∷ names) true = Listed.Goes
goes_on (entry ∷ names) false = Listed.Whole

-- a page: its lines are added, and the next one begins behind its last file
abbrev pub turned : List FileName → (more : Bool) → Lists → ListStep
turned names more l = record {
  said = goes_on names more;
  lists = record {
    prefix = l.prefix;
    after = last_id l.after names;
    asked = None;
    lines = l.lines ++ lines_of l.prefix names;
  };
}

-- the answer to the request
abbrev pub heard : Answer → Lists → ListStep
heard (page p) l = turned p.names p.more l
heard wait l = record { said = Listed.Later; lists = l }

-- what a datagram tells, if it answers the request
abbrev pub told : Option Answer → Lists → ListStep
told None l = record { said = Listed.Goes; lists = l }
told (Some answer) l = heard answer l

-- the same, where something was asked
abbrev pub taken_for : Option AskedPage → Who → (datagram : List ℕ) → Lists → ListStep
taken_for None who datagram l = told None l
taken_for (Some asked) who datagram l = told (told_in asked.number who.inc datagram) l

-- what a datagram makes of a list
abbrev pub taken : Who → (datagram : List ℕ) → Lists → ListStep
taken who datagram l = taken_for l.asked who datagram l
