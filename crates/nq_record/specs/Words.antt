-- Packets and entries in words.
use Rattle.std.specs.Prelude.{◌≡◌, ℕ, List, ◌++◌, codes, Bool, Option, Some, None, is_some, if◌then◌else◌}
use Rattle.std.specs.Fmt.{decimal}
use Rattle.nq_base.specs.declared.Entry.{Entry}
use Rattle.nq_base.specs.declared.Grant.{Grant}
use Rattle.nq_base.specs.declared.Mode.{Mode}
use Rattle.nq_base.specs.declared.Refusal.{Refusal}
use Rattle.nq_base.specs.declared.Reply.{Reply}
use Rattle.nq_base.specs.declared.Request.{Request}
use Rattle.nq_base.specs.declared.Want.{Want}
use Rattle.nq_record.specs.Page.{Extends}
use Rattle.nq_record.specs.declared.chart.chart.Sign.{Sign}

-- the word of a kind of lease
abbrev pub mode_word : Mode → List ℕ
mode_word Mode.NonCaching = codes "noncaching"
mode_word Mode.Reading = codes "reading"
mode_word Mode.Writing = codes "writing"

-- the word of a status
abbrev pub refusal_word : Refusal → List ℕ
refusal_word Refusal.NoEnt = codes "NOENT"
refusal_word Refusal.Exist = codes "EXIST"
refusal_word Refusal.Inval = codes "INVAL"
refusal_word Refusal.NoSpc = codes "NOSPC"
refusal_word Refusal.Stale = codes "STALE"
refusal_word Refusal.TryLater = codes "TRYLATER"
refusal_word Refusal.Fenced = codes "FENCED"
refusal_word Refusal.NotAttached = codes "NOTATTACHED"
refusal_word Refusal.Old = codes "OLD"

-- a procedure or a status, and a file
unfoldable pub filed : List ℕ → (file : ℕ) → List ℕ
filed procedure file = procedure ++ codes " " ++ decimal file

-- a READ that wants no lease
unfoldable pub plain_read : (file block : ℕ) → List ℕ
plain_read file block = codes "READ " ++ decimal file ++ codes ":" ++ decimal block

-- a READ that wants a lease
unfoldable pub wanting_read : (file block : ℕ) → Mode → List ℕ
wanting_read file block mode = codes "READ " ++ decimal file ++ codes ":" ++ decimal block ++ codes " want " ++ mode_word mode

-- a READ, by the lease that it wants
abbrev pub read_words : (file block : ℕ) → Option Want → List ℕ
read_words file block None = plain_read file block
read_words file block (Some want) = wanting_read file block want.mode

-- a WRITE: of delayed writes, or one that goes through
unfoldable pub write_words : (file block first last : ℕ) → (pushed : Bool) → List ℕ
write_words file block first last pushed =
    if pushed
    then codes "WRITE " ++ decimal file ++ codes ":" ++ decimal block ++ codes " delayed " ++ decimal first ++ codes "-" ++ decimal last
    else codes "WRITE " ++ decimal file ++ codes ":" ++ decimal block ++ codes " through " ++ decimal last

-- a GETLEASE
unfoldable pub lease_words : (file : ℕ) → Want → List ℕ
lease_words file want = codes "GETLEASE " ++ decimal file ++ codes " want " ++ mode_word want.mode

-- a RESIZE
unfoldable pub resize_words : (file blocks : ℕ) → List ℕ
resize_words file blocks = codes "RESIZE " ++ decimal file ++ codes " to " ++ decimal blocks

-- these are the words of a request or a notice; of one that carries a name they are the procedure and what follows it
abbrev pub SaysRequest : Request → (words : List ℕ) → Type 0
SaysRequest Request.Null words = words ≡ codes "NULL"
SaysRequest (Request.Attach who) words = words ≡ filed (codes "ATTACH incarnation") who.inc
SaysRequest (Request.Lookup who name) words = Extends (codes "LOOKUP ") words
SaysRequest (Request.Create who seq name blocks) words = Extends (codes "CREATE ") words
SaysRequest (Request.GetAttr who file) words = words ≡ filed (codes "GETATTR") file
SaysRequest (Request.Read who call file block want) words = words ≡ read_words file block want
SaysRequest (Request.Write who seq file block first last push body) words = words ≡ write_words file block first last (is_some push)
SaysRequest (Request.GetLease who file want) words = words ≡ lease_words file want
SaysRequest (Request.Vacated who file tag) words = words ≡ filed (codes "VACATED") file
SaysRequest (Request.Evicted who file tag) words = words ≡ filed (codes "EVICTED") file
SaysRequest (Request.Resize who seq call file blocks) words = words ≡ resize_words file blocks
SaysRequest (Request.Remove who seq call file) words = words ≡ filed (codes "REMOVE") file

-- a status and a revision
unfoldable pub revised : List ℕ → (rev : ℕ) → List ℕ
revised status rev = status ++ codes " rev " ++ decimal rev

-- a status, a revision and a grant of so many ticks
unfoldable pub with_grant : List ℕ → (rev : ℕ) → Mode → (term : ℕ) → List ℕ
with_grant status rev mode term = status ++ codes " rev " ++ decimal rev ++ codes ", grant " ++ mode_word mode ++ codes " " ++ decimal term

-- a status, a revision and a grant, if there is one
abbrev pub granted : List ℕ → (rev : ℕ) → Option Grant → List ℕ
granted status rev None = revised status rev
granted status rev (Some grant) = with_grant status rev grant.mode grant.term

-- the reply to a GETLEASE
abbrev pub lease_granted : Option Grant → List ℕ
lease_granted None = codes "GETLEASE ok, no grant"
lease_granted (Some grant) = with_grant (codes "GETLEASE ok") grant.rev grant.mode grant.term

-- the words of a reply
abbrev pub reply_text : Reply → List ℕ
reply_text Reply.Null = codes "NULL ok"
reply_text (Reply.Attach inc) = codes "ATTACH ok"
reply_text (Reply.Lookup inc file blocks) = filed (codes "LOOKUP ok") file
reply_text (Reply.Create inc file) = filed (codes "CREATE ok") file
reply_text (Reply.GetAttr inc blocks rev) = filed (codes "GETATTR ok") blocks
reply_text (Reply.Read inc rev body grant) = granted (codes "READ ok") rev grant
reply_text (Reply.Write inc rev) = revised (codes "WRITE ok") rev
reply_text (Reply.GetLease inc grant) = lease_granted grant
reply_text (Reply.Resize inc rev) = revised (codes "RESIZE ok") rev
reply_text (Reply.Remove inc) = codes "REMOVE ok"
reply_text (Reply.Refused inc status) = codes "refused " ++ refusal_word status

-- of what an entry tells
abbrev pub sign_of : Entry → Sign
sign_of (Entry.C who q told) = Sign.Call
sign_of (Entry.A who q said) = Sign.Call
sign_of (Entry.W who file block number value through) = Sign.Write
sign_of (Entry.S who file block first last now) = Sign.Write
sign_of (Entry.L who file block first last) = Sign.Loss
sign_of (Entry.F who file until heard now) = Sign.Loss
sign_of (Entry.B who) = Sign.Start
sign_of (Entry.X boot now longest) = Sign.Start
sign_of (Entry.O boot until heard now) = Sign.Start
sign_of other = Sign.Plain
