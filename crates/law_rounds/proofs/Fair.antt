-- Verdicts that a request can have, and that a client takes for an answer to it.
use Rattle.std.proofs.Common.{◌≡◌, ℕ, Bool, true, false, List, Option, Some, None, refl, ap, ◌∙◌}
use Rattle.nq_base.specs.declared.PushBase.{PushBase}
use Rattle.nq_base.specs.declared.Refusal.{Refusal}
use Rattle.nq_base.specs.declared.Reply.{Reply}
use Rattle.nq_base.specs.declared.Request.{Request}
use Rattle.nq_base.specs.declared.Tag.{Tag}
use Rattle.nq_base.specs.declared.Verdict.{Verdict}
use Rattle.nq_base.specs.declared.Verdict.TheVariants.{Done, Fenced, Exist, NoSpace, Invalid, Stale, TryLater}
use Rattle.nq_base.specs.declared.Want.{Want}
use Rattle.nq_base.specs.declared.Who.{Who}
use Rattle.nq_model.specs.protocol.Client.{Job, attaching, for_call, renewing, pushing, Ticket}
use Rattle.nq_model.specs.protocol.Decide.{verdict_reply}
use Rattle.nq_model.specs.protocol.Hear.{inc_of, reply_counts}
use Rattle.nq_model.specs.laws.LeaseInterval.{requested_file}
use Rattle.nq_model.specs.protocol.Message.{sequence_of}
use Rattle.nq_model.specs.protocol.Server.{Server}
use Rattle.walk_steps.proofs.ClientFacts.{fits_job}
use Rattle.walk_steps.proofs.ServerOutcomes.{IsDeclined, bad_length, name_taken, no_room, not_kept, outside, no_row, not_under, not_over}
use Rattle.walk_steps.proofs.ServerOutcomes.{not_while_recovering, bad_size, no_room_to_grow, base_in, only_asks}

-- a reply counts for a request of this job
abbrev pub counts_for : Reply → Request → Job → Bool
counts_for a r job = reply_counts a (record { xid = 0; first = 0; last = 0; request = r; job = job })

pub counts-same : (a : Reply) (t : Ticket) → reply_counts a t ≡ counts_for a t.request t.job
counts-same Reply.Null t = refl
counts-same (Reply.Attach inc) t = refl
counts-same (Reply.Lookup inc file blocks) t = refl
counts-same (Reply.Create inc file) t = refl
counts-same (Reply.GetAttr inc blocks rev) t = refl
counts-same (Reply.Read inc rev body grant) t = refl
counts-same (Reply.Write inc rev) t = refl
counts-same (Reply.GetLease inc grant) t = refl
counts-same (Reply.Resize inc rev) t = refl
counts-same (Reply.Remove inc) t = refl
counts-same (Reply.Refused inc status) t = refl

-- ---- verdicts

abbrev pub fair_push : Verdict → Bool
fair_push Done = true
fair_push Fenced = true
fair_push Invalid = true
fair_push Stale = true
fair_push Exist = false
fair_push NoSpace = false
fair_push TryLater = false

abbrev pub fair_write : Verdict → Bool
fair_write Done = true
fair_write Fenced = false
fair_write Invalid = true
fair_write Stale = true
fair_write Exist = false
fair_write NoSpace = false
fair_write TryLater = true

abbrev pub fair_create : Verdict → Bool
fair_create Done = true
fair_create Fenced = false
fair_create Invalid = true
fair_create Stale = true
fair_create Exist = true
fair_create NoSpace = true
fair_create TryLater = true

abbrev pub fair_change : Verdict → Bool
fair_change Done = true
fair_change Fenced = false
fair_change Invalid = true
fair_change Stale = true
fair_change Exist = false
fair_change NoSpace = true
fair_change TryLater = true

abbrev pub fair_for : Option PushBase → Verdict → Bool
fair_for None v = fair_write v
fair_for (Some base) v = fair_push v

-- whether a request can have a verdict
abbrev pub fair : Request → Verdict → Bool
fair (Request.Write who seq file block first last push body) v = fair_for push v
fair (Request.Create who seq name blocks) v = fair_create v
fair other v = fair_change v

fair-write-counts : (inc value seq file block first last : ℕ) (who : Who) (body : List ℕ) (v : Verdict) → fair_write v ≡ true
    → counts_for (verdict_reply inc v value (Request.Write who seq file block first last None body)) (Request.Write who seq file block first last None
    body) for_call ≡ true
fair-write-counts inc value seq file block first last who body Done f = refl
fair-write-counts inc value seq file block first last who body Fenced f = absurd (cc)
fair-write-counts inc value seq file block first last who body Invalid f = refl
fair-write-counts inc value seq file block first last who body Stale f = refl
fair-write-counts inc value seq file block first last who body Exist f = absurd (cc)
fair-write-counts inc value seq file block first last who body NoSpace f = absurd (cc)
fair-write-counts inc value seq file block first last who body TryLater f = refl

fair-push-counts : (inc value seq file block first last : ℕ) (who : Who) (base : PushBase) (body : List ℕ) (v : Verdict) → fair_push v ≡ true
    → counts_for (verdict_reply inc v value (Request.Write who seq file block first last (Some base) body)) (Request.Write who seq file block first
    last (Some base) body) pushing ≡ true
fair-push-counts inc value seq file block first last who base body Done f = refl
fair-push-counts inc value seq file block first last who base body Fenced f = refl
fair-push-counts inc value seq file block first last who base body Invalid f = refl
fair-push-counts inc value seq file block first last who base body Stale f = refl
fair-push-counts inc value seq file block first last who base body Exist f = absurd (cc)
fair-push-counts inc value seq file block first last who base body NoSpace f = absurd (cc)
fair-push-counts inc value seq file block first last who base body TryLater f = absurd (cc)

fair-create-counts : (inc value seq blocks : ℕ) (who : Who) (name : List ℕ) (v : Verdict) → fair_create v ≡ true
    → counts_for (verdict_reply inc v value (Request.Create who seq name blocks)) (Request.Create who seq name blocks) for_call ≡ true
fair-create-counts inc value seq blocks who name Done f = refl
fair-create-counts inc value seq blocks who name Fenced f = absurd (cc)
fair-create-counts inc value seq blocks who name Invalid f = refl
fair-create-counts inc value seq blocks who name Stale f = refl
fair-create-counts inc value seq blocks who name Exist f = refl
fair-create-counts inc value seq blocks who name NoSpace f = refl
fair-create-counts inc value seq blocks who name TryLater f = refl

fair-resize-counts : (inc value seq q file blocks : ℕ) (who : Who) (v : Verdict) → fair_change v ≡ true
    → counts_for (verdict_reply inc v value (Request.Resize who seq q file blocks)) (Request.Resize who seq q file blocks) for_call ≡ true
fair-resize-counts inc value seq q file blocks who Done f = refl
fair-resize-counts inc value seq q file blocks who Fenced f = absurd (cc)
fair-resize-counts inc value seq q file blocks who Invalid f = refl
fair-resize-counts inc value seq q file blocks who Stale f = refl
fair-resize-counts inc value seq q file blocks who Exist f = absurd (cc)
fair-resize-counts inc value seq q file blocks who NoSpace f = refl
fair-resize-counts inc value seq q file blocks who TryLater f = refl

fair-remove-counts : (inc value seq q file : ℕ) (who : Who) (v : Verdict) → fair_change v ≡ true
    → counts_for (verdict_reply inc v value (Request.Remove who seq q file)) (Request.Remove who seq q file) for_call ≡ true
fair-remove-counts inc value seq q file who Done f = refl
fair-remove-counts inc value seq q file who Fenced f = absurd (cc)
fair-remove-counts inc value seq q file who Invalid f = refl
fair-remove-counts inc value seq q file who Stale f = refl
fair-remove-counts inc value seq q file who Exist f = absurd (cc)
fair-remove-counts inc value seq q file who NoSpace f = refl
fair-remove-counts inc value seq q file who TryLater f = refl

-- a reply by a verdict that a request can have counts for it
pub fair-counts : (job : Job) (r : Request) (n inc value : ℕ) (v : Verdict) → fits_job job r ≡ true → sequence_of r ≡ Some n → fair r v ≡ true
    → counts_for (verdict_reply inc v value r) r job ≡ true
fair-counts for_call (Request.Write who seq file block first last None body) n inc value v fits sq f = fair-write-counts inc value seq file block
    first last who body v f
fair-counts for_call (Request.Create who seq name blocks) n inc value v fits sq f = fair-create-counts inc value seq blocks who name v f
fair-counts for_call (Request.Resize who seq q file blocks) n inc value v fits sq f = fair-resize-counts inc value seq q file blocks who v f
fair-counts for_call (Request.Remove who seq q file) n inc value v fits sq f = fair-remove-counts inc value seq q file who v f
fair-counts pushing (Request.Write who seq file block first last (Some base) body) n inc value v fits sq f = fair-push-counts inc value seq file block
    first last who base body v f
fair-counts attaching (Request.Attach who) n inc value v fits sq f = absurd (cc)
fair-counts renewing (Request.GetLease who file want) n inc value v fits sq f = absurd (cc)
fair-counts job r n inc value v fits sq f = absurd (cc)

-- and it repeats the incarnation
pub verdict-inc : (inc value n : ℕ) (v : Verdict) (r : Request) → sequence_of r ≡ Some n → inc_of (verdict_reply inc v value r) ≡ inc
verdict-inc inc value n Done (Request.Write who seq file block first last push body) sq = refl
verdict-inc inc value n Done (Request.Create who seq name blocks) sq = refl
verdict-inc inc value n Done (Request.Resize who seq q file blocks) sq = refl
verdict-inc inc value n Done (Request.Remove who seq q file) sq = refl
verdict-inc inc value n Done r sq = absurd (cc)
verdict-inc inc value n Fenced r sq = refl
verdict-inc inc value n Exist r sq = refl
verdict-inc inc value n NoSpace r sq = refl
verdict-inc inc value n Invalid r sq = refl
verdict-inc inc value n Stale r sq = refl
verdict-inc inc value n TryLater r sq = refl

-- ---- decisions

fair-stale : (r : Request) → fair r Stale ≡ true
fair-stale (Request.Write who seq file block first last None body) = refl
fair-stale (Request.Write who seq file block first last (Some base) body) = refl
fair-stale (Request.Create who seq name blocks) = refl
fair-stale r = refl

pub fair-later : (r : Request) → base_in r ≡ None → fair r TryLater ≡ true
fair-later (Request.Write who seq file block first last None body) none = refl
fair-later (Request.Write who seq file block first last (Some base) body) none = absurd (cc)
fair-later (Request.Create who seq name blocks) none = refl
fair-later r none = refl

fair-outside : (push : Option PushBase) → fair_for push Invalid ≡ true
fair-outside None = refl
fair-outside (Some base) = refl

pub fair-done : (r : Request) → fair r Done ≡ true
fair-done (Request.Write who seq file block first last None body) = refl
fair-done (Request.Write who seq file block first last (Some base) body) = refl
fair-done (Request.Create who seq name blocks) = refl
fair-done r = refl

pub declined-fair : (s : Server) (who : Who) (r : Request) (v : Verdict) → IsDeclined s who r v → fair r v ≡ true
declined-fair s who r v (bad_length seq blocks name p on bad is) = ap (λ q. fair q v) on ∙ ap (λ u. fair_create u) is
declined-fair s who r v (name_taken seq blocks name p on taken is) = ap (λ q. fair q v) on ∙ ap (λ u. fair_create u) is
declined-fair s who r v (no_room seq blocks name p on full is) = ap (λ q. fair q v) on ∙ ap (λ u. fair_create u) is
declined-fair s who r v (not_kept file on none is) = ap (fair r) is ∙ fair-stale r
declined-fair s who r v (outside seq file block first last push body f on found out is) = ap (λ q. fair q v) on ∙ ap (λ u. fair_for push u) is
    ∙ fair-outside push
declined-fair s who r v (no_row seq file block first last base body f p on found none is) = ap (λ q. fair q v) on ∙ ap (λ u. fair_push u) is
declined-fair s who r v (not_under seq file block first last base body f row p on found some bars is) = ap (λ q. fair q v) on ∙ ap (λ u. fair_push u) is
declined-fair s who r v (not_over seq file block first last base body f rec on found bars is) = ap (λ q. fair q v) on ∙ ap (λ u. fair_push u) is
declined-fair s who r v (not_while_recovering rec none is) = ap (fair r) is ∙ fair-later r none
declined-fair s who r v (bad_size seq q file blocks f p on found bad is) = ap (λ z. fair z v) on ∙ ap (λ u. fair_change u) is
declined-fair s who r v (no_room_to_grow seq q file blocks f p on found full is) = ap (λ z. fair z v) on ∙ ap (λ u. fair_change u) is

-- ---- who only asks may be put off

pub later-counts : (job : Job) (r : Request) (inc : ℕ) → fits_job job r ≡ true → only_asks r ≡ true → counts_for (Reply.Refused inc Refusal.TryLater)
    r job ≡ true
later-counts for_call (Request.Lookup who name) inc fits asks = refl
later-counts for_call (Request.GetAttr who file) inc fits asks = refl
later-counts for_call (Request.Read who q file block want) inc fits asks = refl
later-counts for_call (Request.GetLease who file want) inc fits asks = refl
later-counts renewing (Request.GetLease who file want) inc fits asks = refl
later-counts attaching (Request.Attach who) inc fits asks = absurd (cc)
later-counts pushing (Request.Write who seq file block first last (Some base) body) inc fits asks = absurd (cc)
later-counts job r inc fits asks = absurd (cc)

pub requested-asks : (r : Request) (file : ℕ) → requested_file r ≡ Some file → only_asks r ≡ true
requested-asks (Request.Read who q f block want) file is = refl
requested-asks (Request.GetLease who f want) file is = refl
requested-asks r file is = absurd (cc)

pub stale-counts : (job : Job) (r : Request) (inc file : ℕ) → fits_job job r ≡ true → requested_file r ≡ Some file
    → counts_for (Reply.Refused inc Refusal.Stale) r job ≡ true
stale-counts for_call (Request.Read who q f block want) inc file fits asks = refl
stale-counts for_call (Request.GetLease who f want) inc file fits asks = refl
stale-counts renewing (Request.GetLease who f want) inc file fits asks = refl
stale-counts attaching (Request.Attach who) inc file fits asks = absurd (cc)
stale-counts pushing (Request.Write who seq f block first last (Some base) body) inc file fits asks = absurd (cc)
stale-counts job r inc file fits asks = absurd (cc)

-- requests that one job alone sends
pub lookup-counts : (job : Job) (who : Who) (name : List ℕ) (inc : ℕ) → fits_job job (Request.Lookup who name) ≡ true
    → counts_for (Reply.Refused inc Refusal.NoEnt) (Request.Lookup who name) job ≡ true
lookup-counts for_call who name inc fits = refl
lookup-counts job who name inc fits = absurd (cc)

pub attributes-count : (job : Job) (who : Who) (file inc : ℕ) → fits_job job (Request.GetAttr who file) ≡ true
    → counts_for (Reply.Refused inc Refusal.Stale) (Request.GetAttr who file) job ≡ true
attributes-count for_call who file inc fits = refl
attributes-count job who file inc fits = absurd (cc)

pub block-counts : (job : Job) (who : Who) (q file block inc : ℕ) (want : Option Want) → fits_job job (Request.Read who q file block want) ≡ true
    → counts_for (Reply.Refused inc Refusal.Inval) (Request.Read who q file block want) job ≡ true
block-counts for_call who q file block inc want fits = refl
block-counts job who q file block inc want fits = absurd (cc)

-- no job sends these
pub no-attach : (job : Job) (who : Who) → (job ≡ attaching → ⊥) → fits_job job (Request.Attach who) ≡ true → ⊥
no-attach attaching who other fits = other refl
no-attach job who other fits = cc

pub no-vacated : (job : Job) (who : Who) (file : ℕ) (tag : Tag) → fits_job job (Request.Vacated who file tag) ≡ true → ⊥
no-vacated attaching who file tag fits = cc
no-vacated for_call who file tag fits = cc
no-vacated renewing who file tag fits = cc
no-vacated pushing who file tag fits = cc
