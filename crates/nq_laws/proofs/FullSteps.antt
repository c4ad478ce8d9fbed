-- A step of a client answers `dirtyfull` only where the client was full before it, and `lost` only with a name.
use Rattle.std.proofs.Common.{◌≡◌, ◌≤◌, ℕ, Bool, true, false, List, [], ◌∷◌, ◌++◌, Option, Some, None, if◌then◌else◌, length}
use Rattle.std.proofs.Common.{map, refl, sym, ap, ◌∙◌, subst, arith}
use Rattle.std.proofs.lemmas.Bool.Decides.{nat_tests}
use Rattle.std.proofs.lemmas.Bool.{and_parts}
use Rattle.std.specs.Prelude.{◌&&◌, ◌||◌, ◌==◌, not, nat_le, filter, is_some, ⊤}
use Rattle.std.specs.List.{list_any}
use Rattle.nq_base.specs.declared.Answer.{Answer}
use Rattle.nq_base.specs.declared.Call.{Call}
use Rattle.nq_base.specs.declared.Entry.{Entry}
use Rattle.nq_base.specs.declared.Grant.{Grant}
use Rattle.nq_base.specs.declared.Loss.{Loss}
use Rattle.nq_base.specs.declared.Push.{Push}
use Rattle.nq_base.specs.declared.PushBase.{PushBase}
use Rattle.nq_base.specs.declared.Refusal.{Refusal}
use Rattle.nq_base.specs.declared.Reply.{Reply}
use Rattle.nq_base.specs.declared.Request.{Request}
use Rattle.nq_base.specs.declared.Said.{Said}
use Rattle.nq_base.specs.declared.Tag.{Tag}
use Rattle.nq_base.specs.declared.Value.{Value}
use Rattle.nq_base.specs.declared.Who.{Who}
use Rattle.nq_model.specs.protocol.Client.{Client, ClientStep, Notice, Ticket, pushing, begun, is_push_of, notice_on, losses_of, add_losses, file_of_loss}
use Rattle.nq_model.specs.protocol.Client.{span_of, is_clean_in}
use Rattle.nq_model.specs.protocol.ClientStep.{begins_call, is_called, says_busy, client_call, at_time, sends_again, client_tick, starts, restart, fresh_client}
use Rattle.nq_model.specs.protocol.Hear.{hear, spends, attached, vacates_lease, vacates_noticed, loses, loss_of, losses_in, all_dirty, all_dirty_in}
use Rattle.nq_model.specs.protocol.Hear.{other_push, reports, without_lease}
use Rattle.nq_model.specs.protocol.Hear.{push_refused, breaks_chain, if_broken, holds, takes_optional, answers_call, caches_block, then_caches, purges}
use Rattle.nq_model.specs.protocol.Hear.{knows_revision, read_done, marks_through, lease_done, caches_write, write_done, ends_push, caches_push, push_done}
use Rattle.nq_model.specs.protocol.Hear.{answer_of}
use Rattle.nq_model.specs.protocol.Hear.{pauses, replied, reply_counts, cancels, notes_notice, evicted}
use Rattle.nq_model.specs.laws.Journal.{Each}
use Rattle.nq_laws.proofs.Pushing.{HasPush}
use Rattle.nq_model.specs.laws.LossesAreNamed.{NameSome}
use Rattle.nq_model.proofs.ByFile.{of-added}
use Rattle.nq_model.specs.protocol.Message.{Message}
use Rattle.nq_model.specs.protocol.Profile.{most_dirty}
use Rattle.nq_model.specs.protocol.Send.{sends_request, after_seq, after_number, takes_push, gives_up, send_next}
use Rattle.nq_model.specs.protocol.Settle.{said, answers, reads_cached, after_read, after_write, marks_written, settle, pending}
use Rattle.walk_steps.proofs.ClientFacts.{Alone, fits_job, push_in}
use Rattle.walk_steps.proofs.ClientMoves.{some-same}
use Rattle.walk_steps.proofs.Rows.{same-number, number-same}
use Rattle.walk_steps.proofs.Losses.{fold-losses}
use Rattle.walk_steps.proofs.PartCases.{answers-call-cases, vacates-noticed-cases, reports-cases, if-broken-cases, takes-optional-cases}
use Rattle.walk_steps.proofs.PartCases.{lease-done-cases, then-caches-cases, caches-write-cases, caches-push-cases, vacates-if-clean-cases}
use Rattle.walk_steps.proofs.RepliedCases.{IsNamed, looked_up, created, attributes, replied-cases}
use Rattle.walk_steps.proofs.SendCases.{send-moves}
use Rattle.walk_steps.proofs.SettleCases.{settle-cases}
use Rattle.walk_steps.proofs.StepCases.{call-cases, unless-cached-cases, tick-cases, evicted-cases, heard-cases}

-- an A `dirtyfull` is of this client, which was full, and `lost` names some write
abbrev pub IsWell : Client → Entry → Type 0
IsWell c (Entry.A who q (Said.Lost spans)) = NameSome spans.items
IsWell c (Entry.A who q Said.DirtyFull) = (who ≡ c.who) × (most_dirty ≤ pending c)
IsWell c other = ⊤

-- numbers
enough : (most now before : ℕ) (other : Bool) → (nat_le most now && other) ≡ true → now ≤ before → most ≤ before
enough most now before other full less = let both = and_parts (nat_le most now) other full in at both.0
  where
    at : nat_le most now ≡ true → most ≤ before
    at e = let low : most ≤ now = grind (arith, nat_tests) in omega arith

fewer : (test : Push → Bool) (ps : List Push) → length (filter test ps) ≤ length ps
fewer test [] = omega arith
fewer test (p ∷ ps) = case (test p) (fewer test ps)
  where
    case : (b : Bool) → length (filter test ps) ≤ length ps → length (if b then p ∷ filter test ps else filter test ps) ≤ length (p ∷ ps)
    case true less = omega arith
    case false less = omega arith

-- ---- losses

-- there is an element
abbrev IsSome : {X : Type 0} → List X → Type 0
IsSome [] = ⊥
IsSome (x ∷ xs) = ⊤

some-right : {X : Type 0} (xs ys : List X) → IsSome ys → IsSome (xs ++ ys)
some-right [] ys some = some
some-right (x ∷ xs) ys some = tt

some-named : (losses : List Loss) → IsSome losses → NameSome (map span_of losses)
some-named [] none = none
some-named (loss ∷ losses) some = tt

-- those of a file are of it
all-on : (file : ℕ) (ps : List Push) → Each (λ l. l.file ≡ file) (map loss_of (filter (is_push_of file) ps))
all-on file [] = tt
all-on file (p ∷ ps) = case (p.file == file) refl (all-on file ps)
  where
    case : (b : Bool) → (p.file == file) ≡ b → Each (λ l. l.file ≡ file) (map loss_of (filter (is_push_of file) ps))
        → Each (λ l. l.file ≡ file) (map loss_of (if b then p ∷ filter (is_push_of file) ps else filter (is_push_of file) ps))
    case true e rest = (same-number p.file file e, rest)
    case false e rest = rest

both-on : (file : ℕ) (dirty : List Push) (push : Option Push) → Each (λ l. l.file ≡ file) (losses_in file dirty push)
both-on file dirty None = all-on file dirty
both-on file dirty (Some p) = case (p.file == file) refl
  where
    case : (b : Bool) → (p.file == file) ≡ b
        → Each (λ l. l.file ≡ file) (map loss_of ((if b then p ∷ [] else []) ++ filter (is_push_of file) dirty))
    case true e = (same-number p.file file e, all-on file dirty)
    case false e = all-on file dirty

-- where all are of a file, those of the file are some
some-of : (file : ℕ) (losses : List Loss) → Each (λ l. l.file ≡ file) losses → IsSome losses → IsSome (losses_of file losses)
some-of file [] all none = none
some-of file (loss ∷ losses) all some = case (loss.file == file) (number-same loss.file file all.0)
  where
    case : (b : Bool) → b ≡ true → IsSome (if b then loss ∷ losses_of file losses else losses_of file losses)
    case true e = tt
    case false e = absurd (cc)

-- what is lost is named then
lost-named : (file : ℕ) (dirty : List Push) (push : Option Push) (losses : List Loss) → IsSome (all_dirty_in file dirty push)
    → NameSome (map span_of (losses_of file (add_losses file (losses_in file dirty push) losses)))
lost-named file dirty push losses some =
    let added = of-added file_of_loss file file (losses_in file dirty push) losses (both-on file dirty push) in
    let found : IsSome (losses_of file (losses_in file dirty push)) =
    some-of file (losses_in file dirty push) (both-on file dirty push) (mapped (all_dirty_in file dirty push) some) in
    some-named (losses_of file (add_losses file (losses_in file dirty push) losses))
    (subst IsSome (sym added) (some-right (losses_of file losses) (losses_of file (losses_in file dirty push)) found))
  where
    mapped : (ps : List Push) → IsSome ps → IsSome (map loss_of ps)
    mapped [] none = none
    mapped (p ∷ ps) some = tt

-- a push under way of the file is one
pushed-some : (file : ℕ) (dirty : List Push) (p : Push) → p.file ≡ file → IsSome (all_dirty_in file dirty (Some p))
pushed-some file dirty p on = case (p.file == file) (number-same p.file file on)
  where
    case : (b : Bool) → b ≡ true → IsSome ((if b then p ∷ [] else []) ++ filter (is_push_of file) dirty)
    case true e = tt
    case false e = absurd (cc)

-- a file that is not clean has some
any-some : (file : ℕ) (ps : List Push) → list_any (is_push_of file) ps ≡ true → IsSome (filter (is_push_of file) ps)
any-some file [] any = absurd (cc)
any-some file (p ∷ ps) any = case (is_push_of file p) any (λ e. any-some file ps e)
  where
    case : (b : Bool) → (b || list_any (is_push_of file) ps) ≡ true
        → (list_any (is_push_of file) ps ≡ true → IsSome (filter (is_push_of file) ps))
        → IsSome (if b then p ∷ filter (is_push_of file) ps else filter (is_push_of file) ps)
    case true e rest = tt
    case false e rest = rest e

dirty-some : (file : ℕ) (dirty : List Push) (push : Option Push) → is_clean_in file dirty push ≡ false → IsSome (all_dirty_in file dirty push)
dirty-some file dirty None unclean = case (list_any (is_push_of file) dirty) refl unclean
  where
    case : (b : Bool) → list_any (is_push_of file) dirty ≡ b → (not b && true) ≡ false → IsSome (filter (is_push_of file) dirty)
    case true e f = any-some file dirty e
    case false e f = absurd (cc)
dirty-some file dirty (Some p) unclean = case (is_push_of file p) (list_any (is_push_of file) dirty) refl unclean
  where
    case : (b d : Bool) → list_any (is_push_of file) dirty ≡ d → (not d && not b) ≡ false
        → IsSome ((if b then p ∷ [] else []) ++ filter (is_push_of file) dirty)
    case true d e f = tt
    case false true e f = any-some file dirty e
    case false false e f = absurd (cc)

-- ---- how many are delayed

-- how many are under way
abbrev one_if : Option Push → ℕ
one_if push = if is_some push then 1 else 0

fewer-pushes : (file : ℕ) (o : Option Push) → one_if (other_push file o) ≤ one_if o
fewer-pushes file None = omega arith
fewer-pushes file (Some p) = case (is_push_of file p)
  where
    case : (b : Bool) → one_if (if b then None else Some p) ≤ 1
    case true = omega arith
    case false = omega arith

module _ (c : Client) where
  abbrev E : ClientStep → Type 0
  E t = Each (IsWell c) t.entries

  -- before the call is settled
  record K (t : ClientStep) : Type 0 where
    well : Each (IsWell c) t.entries
    same : t.client.who ≡ c.who
    less : pending t.client ≤ pending c

  settled : (t : ClientStep) → K t → E (settle t)
  unfolding answers reads_cached after_read after_write marks_written
  settled t k = settle-cases t E (record {
    idle = λ none. k.well;
    asking = λ u is own. k.well;
    read_out = λ u file block lease is read can out. (tt, k.well);
    reading = λ u file block lease body is read can within has. (tt, (tt, k.well));
    read_waits = λ u file block is read waits. k.well;
    write_out = λ u sync file block body lease is write can out. (tt, k.well);
    write_full = λ u sync file block body lease is write can within full.
        ((k.same, enough most_dirty (pending t.client) (pending c) _ full k.less), k.well);
    writing = λ u file block body lease is write can within room. (tt, (tt, k.well));
    putting = λ u file block body lease is write unwritten can within room. (tt, k.well);
    write_waits = λ u sync file block body is write waits. k.well;
    syncing = λ u file is sync clean. (tt, k.well);
    sync_waits = λ u file is sync dirty. k.well;
    others = λ u is needs. k.well;
  })

  sent : (in_tick : Bool) (t : ClientStep) → E t → E (send_next in_tick t)
  unfolding sends_request after_seq after_number takes_push gives_up
  sent in_tick t e = send-moves in_tick t E (record {
    kept = e;
    pushes = λ file p first. e;
    asks = λ job request. e;
    decides = λ request. e;
    writes = λ file block body. e;
    changes = λ file request. e;
  })

  went-on : (in_tick : Bool) (t : ClientStep) → K t → E (send_next in_tick (settle t))
  went-on in_tick t k = sent in_tick (settle t) (settled t k)

  -- ---- a reply

  -- an answer that says something else
  answered : (t : ClientStep) (q : ℕ) (a : Answer) (by : Option ℕ) → IsWell c (Entry.A t.client.who q (said a by)) → K t → K (answers t q a by)
  unfolding answers
  answered t q a by plain k = record { well = (plain, k.well); same = k.same; less = k.less }

  call-answered : (t : ClientStep) (a : Answer) (by : Option ℕ) → ((q : ℕ) → IsWell c (Entry.A t.client.who q (said a by))) → K t → K (answers_call t a by)
  call-answered t a by plain k = answers-call-cases t a by K (λ none. k) (λ u is. answered t u.q a by (plain u.q) k)

  lost : (t : ClientStep) (file : ℕ) → K t → K (loses t file)
  unfolding loses
  lost t file k = record {
    well = fold-losses (Each (IsWell c)) t.client.who (all_dirty t.client file) t.entries (λ p more there h. (tt, h)) k.well;
    same = k.same;
    less =
        let a = k.less in let b = fewer (λ p. not (is_push_of file p)) t.client.dirty in let d = fewer-pushes file t.client.push in
        omega arith;
  }

  told : (t : ClientStep) (file : ℕ) → NameSome (map span_of (losses_of file t.client.losses)) → K t → K (reports t file)
  unfolding answers
  told t file some k =
      reports-cases t file K (λ none. k) (λ u is other. k) (λ u is waits. record { well = (some, k.well); same = k.same; less = k.less })

  -- a file with some delayed writes, once they are lost
  lost-some : (t : ClientStep) (file : ℕ) → IsSome (all_dirty t.client file)
      → NameSome (map span_of (losses_of file (loses t file).client.losses))
  unfolding loses
  lost-some t file some = lost-named file t.client.dirty t.client.push t.client.losses some

  noticed-some : (t : ClientStep) (file : ℕ) (n : Option Notice) → NameSome (map span_of (losses_of file t.client.losses))
      → NameSome (map span_of (losses_of file (vacates_noticed t file n).client.losses))
  unfolding vacates_lease
  noticed-some t file None some = some
  noticed-some t file (Some n) some = some

  unleased-some : (t : ClientStep) (file : ℕ) → NameSome (map span_of (losses_of file t.client.losses))
      → NameSome (map span_of (losses_of file (without_lease t file).client.losses))
  unfolding without_lease
  unleased-some t file some = some

  vacated : (t : ClientStep) (file : ℕ) (tag : Tag) → K t → K (vacates_lease t file tag)
  unfolding vacates_lease
  vacated t file tag k = record { well = k.well; same = k.same; less = k.less }

  noticed-vacated : (t : ClientStep) (file : ℕ) (n : Option Notice) → K t → K (vacates_noticed t file n)
  noticed-vacated t file n k = vacates-noticed-cases t file n K (λ no. k) (λ notice is. vacated t file notice.tag k)

  unleased : (t : ClientStep) (file : ℕ) → K t → K (without_lease t file)
  unfolding without_lease
  unleased t file k = record { well = k.well; same = k.same; less = k.less }

  refused : (t : ClientStep) (file : ℕ) → IsSome (all_dirty t.client file) → K t → K (push_refused t file)
  refused t file some k =
      let u : ClientStep = without_lease (loses t file) file in
      let n = notice_on file t.client.notices in
      told (vacates_noticed u file n) file (noticed-some u file n (unleased-some (loses t file) file (lost-some t file some)))
      (noticed-vacated u file n (unleased (loses t file) file (lost t file k)))

  broken : (t : ClientStep) (file : ℕ) → IsSome (all_dirty t.client file) → K t → K (breaks_chain t file)
  broken t file some k =
      let u : ClientStep = loses t file in
      let n = notice_on file t.client.notices in
      told (vacates_noticed u file n) file (noticed-some u file n (lost-some t file some)) (noticed-vacated u file n (lost t file k))

  held : (t : ClientStep) (file : ℕ) (g : Grant) (sending : ℕ) → K t → K (holds t file g sending)
  unfolding holds
  held t file g sending k = record { well = k.well; same = k.same; less = k.less }

  optional : (t : ClientStep) (file : ℕ) (g : Option Grant) (sending : ℕ) → K t → K (takes_optional t file g sending)
  optional t file g sending k =
      takes-optional-cases t file g sending K (λ none. k)
      (λ given is. held (if_broken t file given) file given sending (if-broken-cases t file given K (λ whole. k)
      (λ l is below dirty. broken t file (dirty-some file t.client.dirty t.client.push dirty) k)))

  cached : (t : ClientStep) (file block : ℕ) (body : List ℕ) → K t → K (caches_block t file block body)
  unfolding caches_block
  cached t file block body k = record { well = k.well; same = k.same; less = k.less }

  purged : (t : ClientStep) (file : ℕ) → K t → K (purges t file)
  unfolding purges
  purged t file k = record { well = k.well; same = k.same; less = k.less }

  known : (t : ClientStep) (file rev : ℕ) → K t → K (knows_revision t file rev)
  unfolding knows_revision
  known t file rev k = record { well = k.well; same = k.same; less = k.less }

  marked : (on : Bool) (t : ClientStep) → K t → K (marks_through on t)
  unfolding marks_through
  marked on t k = record { well = k.well; same = k.same; less = k.less }

  paused : (t : ClientStep) → K t → K (pauses t)
  unfolding pauses marks_through
  paused t k = record { well = k.well; same = k.same; less = k.less }

  is-attached : (t : ClientStep) → K t → K (attached t)
  unfolding attached
  is-attached t k = record { well = k.well; same = k.same; less = k.less }

  push-ended : (t : ClientStep) → K t → K (ends_push t)
  unfolding ends_push
  push-ended t k = record { well = k.well; same = k.same; less = let a = k.less in let b = none-less t.client.push in omega arith }
    where
      none-less : (o : Option Push) → 0 ≤ one_if o
      none-less o = omega arith

  spent : K (spends (begun c))
  unfolding spends
  spent = record { well = tt; same = refl; less = omega arith }

  -- what a refusal answers is something else
  refusal-well : (who : Who) (q : ℕ) (status : Refusal) → IsWell c (Entry.A who q (said (answer_of status) None))
  refusal-well who q Refusal.NoEnt = tt
  refusal-well who q Refusal.Exist = tt
  refusal-well who q Refusal.Inval = tt
  refusal-well who q Refusal.NoSpc = tt
  refusal-well who q Refusal.Stale = tt
  refusal-well who q Refusal.TryLater = tt
  refusal-well who q Refusal.Fenced = tt
  refusal-well who q Refusal.NotAttached = tt
  refusal-well who q Refusal.Old = tt

  module _ (number : ℕ) (ticket : Ticket) (r : Reply) (has : c.ticket ≡ Some ticket) (alone : Alone c) (had : HasPush c) where
    abbrev t0 : ClientStep
    t0 = spends (begun c)

    named : (answer : Answer) → IsNamed ticket.request r answer → K (answers_call t0 answer None)
    named answer (looked_up who name i file blocks asks e) = call-answered t0 (Answer.Ok (Value.File file)) None (λ q. tt) spent
    named answer (created who seq name blocks i file asks e) = call-answered t0 (Answer.Ok (Value.File file)) None (λ q. tt) spent
    named answer (attributes who file i blocks rev asks e) = call-answered t0 (Answer.Ok (Value.Blocks blocks)) None (λ q. tt) spent

    read : (file block : ℕ) (body : List ℕ) (g : Option Grant) → K (read_done t0 file block body g ticket.first number)
    read file block body g =
        let t : ClientStep = takes_optional t0 file g ticket.first in
        let k : K t = optional t0 file g ticket.first spent in
        call-answered (then_caches t file block body g) (Answer.Ok (Value.Body body)) (Some number) (λ q. tt)
        (then-caches-cases t file block body g K (λ caching. cached t file block body k) (λ other. k))

    leased : (file : ℕ) (g : Option Grant) → K (lease_done t0 file g ticket.first)
    leased file g =
        let k : K (takes_optional t0 file g ticket.first) = optional t0 file g ticket.first spent in
        lease-done-cases t0 file g ticket.first K (λ caching. k) (λ other. marked true (takes_optional t0 file g ticket.first) k)

    wrote : (file block : ℕ) (body : List ℕ) (rev : ℕ) → K (write_done t0 file block body rev)
    wrote file block body rev =
        call-answered (knows_revision (caches_write t0 file block body rev) file rev) (Answer.Ok Value.Nothing) None (λ q. tt)
        (known (caches_write t0 file block body rev) file rev
        (caches-write-cases t0 file block body rev K (λ holding before. cached t0 file block body spent) (purged t0 file spent)))

    stored : (file block : ℕ) (body : List ℕ) (rev : ℕ) → K (push_done t0 file block body rev)
    stored file block body rev =
        let t : ClientStep = knows_revision (ends_push t0) file rev in
        let a : K t = known (ends_push t0) file rev (push-ended t0 spent) in
        let b : K (caches_push t file block body) = caches-push-cases t file block body K (λ dirty. a) (λ clean. cached t file block body a) in
        vacates-if-clean-cases (caches_push t file block body) file K b (λ n clean is. vacated (caches_push t file block body) file n.tag b)

    -- the push that is refused is of the file of its request
    push-some : (who : Who) (seq file block first last : ℕ) (base : PushBase) (body : List ℕ) → ticket.job ≡ pushing
        → ticket.request ≡ Request.Write who seq file block first last (Some base) body → IsSome (all_dirty t0.client file)
    unfolding spends
    push-some who seq file block first last base body job asks = case c.push refl (had ticket has job)
      where
        case : (o : Option Push) → c.push ≡ o → is_some o ≡ true → IsSome (all_dirty_in file c.dirty c.push)
        case None is some = absurd (cc)
        case (Some p) is some =
            let k = alone.delaying.under_way p is in
            let request : push_in ticket.request ≡ Some p =
            ap (λ (x : Ticket). push_in x.request) (some-same ticket k.request (sym has ∙ k.asks)) ∙ k.pushes in
            let one = some-same (record { file = file; block = block; first = first; last = last; body = body }) p (ap push_in (sym asks) ∙ request) in
            let on : p.file ≡ file = ap (λ (x : Push). x.file) (sym one) in
            subst (λ z. IsSome (all_dirty_in file c.dirty z)) (sym is) (pushed-some file c.dirty p on)

    reply-well : fits_job ticket.job ticket.request ≡ true → reply_counts r ticket ≡ true → K (replied (begun c) number ticket r)
    reply-well fits counts = replied-cases c number ticket r K fits counts (record {
      attaching = λ who inc job asks is. is-attached t0 spent;
      named = λ answer job is. named answer is;
      reading = λ who q file block want inc rev body grant of_call is. read file block body grant;
      leasing = λ who file want inc grant of_call is. leased file grant;
      writing = λ who seq file block first last body inc rev of_call is. wrote file block body rev;
      resizing = λ who seq q file blocks inc rev of_call is.
          call-answered (knows_revision t0 file rev) (Answer.Ok Value.Nothing) None (λ n. tt) (known t0 file rev spent);
      removing = λ who seq q file inc of_call is. call-answered t0 (Answer.Ok Value.Nothing) None (λ n. tt) spent;
      renewing = λ who file want inc grant job asks is. optional t0 file grant ticket.first spent;
      pushed = λ who seq file block first last base body inc rev job asks is. stored file block body rev;
      putting_off = λ inc status job is off. paused t0 spent;
      refusing = λ inc status job is counts off. call-answered t0 (answer_of status) None (λ q. refusal-well t0.client.who q status) spent;
      renewal_refused = λ inc status job is off. spent;
      push_refused = λ who seq file block first last base body inc status job asks is off.
          refused t0 file (push-some who seq file block first last base body job asks) spent;
    })

  cancelled : (file : ℕ) → K (cancels (begun c) file)
  unfolding cancels
  cancelled file = record { well = tt; same = refl; less = omega arith }

  noted : (t : ClientStep) (file : ℕ) (tag : Tag) → K t → K (notes_notice t file tag)
  unfolding notes_notice
  noted t file tag k = record { well = k.well; same = k.same; less = k.less }

  notice-well : (file : ℕ) (tag : Tag) → K (evicted (cancels (begun c) file) file tag)
  notice-well file tag = evicted-cases (cancels (begun c) file) file tag K (record {
    clean = λ clean. vacated (cancels (begun c) file) file tag (cancelled file);
    waiting = λ dirty. noted (cancels (begun c) file) file tag (cancelled file);
  })

  -- ---- each step

  called : (op : Call) → K (is_called (begins_call c op) op)
  unfolding is_called begins_call
  called op = record { well = (tt, tt); same = refl; less = omega arith }

  pub call-well : (op : Call) → E (client_call c op)
  unfolding says_busy begins_call answers
  call-well op = call-cases c op E (record {
    busy = λ why. (tt, (tt, tt));
    telling = λ file loss losses none on changes has. (some-named (losses_of file c.losses) (subst IsSome (sym has) tt), (tt, tt));
    going = λ none on no_loss.
        let t : ClientStep = settle (is_called (begins_call c op) op) in
        let e : E t = settled (is_called (begins_call c op) op) (called op) in
        unless-cached-cases t E (λ from_cache. e) (λ other. sent false t e);
  })

  timed : (now : ℕ) → K (begun (at_time c now))
  unfolding at_time
  timed now = record { well = tt; same = refl; less = omega arith }

  pub tick-well : (now : ℕ) → E (client_tick c now)
  unfolding at_time sends_again
  tick-well now = tick-cases c now E (record {
    again = λ ticket is due. tt;
    quiet = λ ticket is soon. tt;
    free = λ none. went-on true (begun (at_time c now)) (timed now);
  })

  pub hear-well : (k : ℕ) (m : Message) (t : ClientStep) → Alone c → HasPush c → hear c k m ≡ Some t → E t
  hear-well k m t alone had hears = heard-cases c k m t E hears (record {
    answered = λ xid r ticket is has same inc counts.
        went-on false (replied (begun c) k ticket r) (reply-well k ticket r has alone had (alone.asking.ticketed ticket has).fits counts);
    noticed = λ xid file tag is later. went-on false (evicted (cancels (begun c) file) file tag) (notice-well file tag);
  })

  pub restart-well : E (restart c)
  unfolding starts fresh_client
  restart-well = (tt, tt)
