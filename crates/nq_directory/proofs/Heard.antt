-- What a host makes of bytes, in the order of the code.
use Rattle.std.proofs.Common.{◌≡◌, ℕ, Bool, true, false, List, Option, Some, None, refl, sym, ap, ◌∙◌}
use Rattle.nq_base.specs.declared.Grant.{Grant}
use Rattle.nq_directory.specs.declared.names.FileName.{FileName}
use Rattle.nq_directory.specs.Messages.{Answer}
use Rattle.nq_directory.specs.Reading.{dir_evicted_in}
use Rattle.nq_directory.specs.Asking.{Asks, answer_in, heard_as, heard_by, next_bytes, noticed, page_taken, takes_page, told}
use Rattle.nq_directory.specs.NameCacheNames.{Names, Request}

-- bytes that are no reply to the request under way may be a notice
pub heard_notice : (n : Names) (asked : Option Request) (bytes : List ℕ) (term now : ℕ) → answer_in n asked bytes ≡ None → heard_as n asked bytes term
    now ≡ noticed n (dir_evicted_in bytes)
heard_notice n None bytes term now h = refl
heard_notice n (Some r) bytes term now h = ap (λ a. heard_by n r bytes a term now) h

-- bytes that are the reply to the request under way
pub heard_reply : (n : Names) (asked : Option Request) (bytes : List ℕ) (term now : ℕ) (answer : Answer) (asks : Asks) → answer_in n asked bytes
    ≡ Some answer → ((r : Request) → asked ≡ Some r → asks ≡ told n r answer term now) → asks ≡ heard_as n asked bytes term now
heard_reply n None bytes term now answer asks h made = absurd (cc)
heard_reply n (Some r) bytes term now answer asks h made = made r refl ∙ sym (ap (λ a. heard_by n r bytes a term now) h)

-- a page that came with a lease
pub page_same : (n : Names) (r : Request) (names : List FileName) (more : Bool) (g : Grant) (term now : ℕ) → page_taken n r names g
    (next_bytes n r names more term) now ≡ takes_page n r (record { names = names; more = more; grant = Some g }) (Some g) term now
page_same n r names true g term now = refl
page_same n r names false g term now = refl

pub ruleset hearing = (heard_notice, heard_reply)
