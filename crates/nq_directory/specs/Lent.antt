-- What the types of the code are to the definitions.
use Rattle.std.specs.Prelude.{ℕ, List, Option, Some, None}
use Rattle.nq_directory.specs.declared.listing.messages.Page.{Page}
use Rattle.nq_directory.specs.declared.listing.messages.PageTold.{PageTold}
use Rattle.nq_directory.specs.declared.listing.messages.PageTold.TheVariants as told
use Rattle.nq_directory.specs.declared.listing.reading.ProcedureCall.{ProcedureCall}
use Rattle.nq_directory.specs.Messages.{Listing, Answer, page, wait}

-- a call: its number and its arguments
abbrev pub lent_call : Option ProcedureCall → Option (ℕ × List ℕ)
lent_call None = None
lent_call (Some called) = Some (called.xid, called.arguments.now)

-- a page
abbrev pub listing_of : Page → Listing
listing_of p = record { names = p.names.items; more = p.more; grant = p.grant }

-- what a reply says
abbrev pub answer_of : PageTold → Answer
answer_of (told.Page p) = page (listing_of p)
answer_of told.Later = wait

-- the same, where there is one
abbrev pub answers_of : Option PageTold → Option Answer
answers_of None = None
answers_of (Some t) = Some (answer_of t)
