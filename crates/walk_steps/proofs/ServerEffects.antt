-- What each outcome of a datagram does to the server, as one client sees it.
use Rattle.std.proofs.Common.{◌≡◌, ◌<◌, ◌≤◌, ◌⊎◌, ℕ, ◌+◌, ◌%◌, max, Bool, true, false, List, [], ◌∷◌, ◌++◌, Option, Some, None}
use Rattle.std.proofs.Common.{refl, sym, subst, ap, ◌∙◌, arith, inl, inr}
use Rattle.std.proofs.lemmas.Bool.Decides.{nat_tests}
use Rattle.nq_base.specs.declared.Access.{Access}
use Rattle.nq_base.specs.declared.Event.{Event}
use Rattle.nq_base.specs.declared.Question.{Question}
use Rattle.nq_base.specs.declared.Refusal.{Refusal}
use Rattle.nq_base.specs.declared.Reply.{Reply}
use Rattle.nq_base.specs.declared.Request.{Request}
use Rattle.nq_base.specs.declared.Row.{Row}
use Rattle.nq_base.specs.declared.Tag.{Tag}
use Rattle.nq_base.specs.declared.Want.{Want}
use Rattle.nq_base.specs.declared.Who.{Who}
use Rattle.walk_steps.proofs.Members.{in-filtered}
use Rattle.walk_steps.proofs.AskCases.{with_marked, with_waiter, IsGranted, shares_again, begins_sharing, begins_caching, renews_row}
use Rattle.walk_steps.proofs.ClientMoves.{some-same, none-some}
use Rattle.walk_steps.proofs.Covers.{GoesOnAt, same-goes-on, covered-goes-on, marked-goes-on, granted-goes-on, granted-key, AreOfBoot}
use Rattle.walk_steps.proofs.Hearing.{Hearing}
use Rattle.walk_steps.proofs.Packets.{In, in-append, Asked}
use Rattle.walk_steps.proofs.RowChanges.{find-put-same}
use Rattle.walk_steps.proofs.Rows.{found-row}
use Rattle.walk_steps.proofs.ServerFacts.{IncsFit, AreCurrent}
use Rattle.walk_steps.proofs.ServerKnows.{IsFreshGrant, IsNew, new_reply, new_error, new_notice, LineMoves, line_stays, IsClaimed, Effect}
use Rattle.walk_steps.proofs.ServerOutcomes.{error_for, IsFrom, IsPlain}
use Rattle.walk_steps.proofs.ServerOutcomes.{IsAsking}
use Rattle.walk_steps.proofs.ServerSays.{plain-inc, plain-grant}
use Rattle.walk_steps.proofs.ServerTables.{StandingFits}
use Rattle.walk_steps.proofs.TableFits.{TableFits}
use Rattle.walk_steps.proofs.TagFacts.{IsDrawn}
use Rattle.nq_model.specs.protocol.Ask.{conflicts, grant_of, sharing_row, caching_row, shared_again, renewed_row, term_of}
use Rattle.nq_model.specs.protocol.Client.{Lease, Notice, Ticket, lease_on}
use Rattle.nq_model.specs.protocol.Decide.{in_the_way}
use Rattle.nq_model.specs.protocol.Hear.{inc_of}
use Rattle.nq_model.specs.protocol.Kept.{File, host_row}
use Rattle.nq_model.specs.laws.LeaseInterval.{grant_in}
use Rattle.nq_model.specs.protocol.Message.{Message, Packet, reply, RpcError, asker, Reason, Datagram, request, too_long, no_message, no_call, other_rpc}
use Rattle.nq_model.specs.protocol.Message.{other_program, other_version, unknown_procedure, garbage_vacated, garbage, sequence_of}
use Rattle.nq_model.specs.protocol.Profile.{skew, xid_end}
use Rattle.nq_model.specs.protocol.Server.{serving, Server, ServerStep, standing, to_host, quiet, drops, says, replies, notices, after_notices, with_table}
use Rattle.nq_model.specs.protocol.ServerStep.{tells_later, serves, leases, to_read, is_attach}
use Rattle.nq_model.specs.protocol.Table.{Table, caches, tag_below, find_row, put_row, with_rows, after_draw, next_tag}
use Rattle.walk_steps.proofs.TermsDrawn.{drawn-serving, plain-attach, plain-decided, standing-serving, term-short, unique-in}

module _ (ps : List Packet) (s : Server) (most sender next : ℕ) (d : Datagram) (events : List Event) (who : Who) (now xid : ℕ) (attached : Bool)
    (ticket : Option Ticket) (leased : List Lease) (noticed : List Notice)
    (hearing : Hearing ps s most sender d events who now xid attached ticket leased noticed) where
  pub own-fits : s.phase ≡ serving → TableFits s.kept.files s.table.boot s.table.drawn s.table.rows
  own-fits p = subst (λ q. StandingFits s.kept.files q s.table) p hearing.stood

  pub own-boots : s.phase ≡ serving → AreOfBoot s.table
  own-boots p = λ file host row found. let k = (own-fits p).fits file host row found in (k.tag_boot, k.drawn_before, k.since_boot, k.in_order)

  pub own-current : s.phase ≡ serving → AreCurrent s.kept s.table.rows
  own-current p = subst (λ q. IncsFit s.kept q s.table) p hearing.incs

  -- nothing is claimed by a client that is not attached
  pub unclaimed : attached ≡ false → (file : ℕ) (tag : Tag) → IsClaimed ps who ticket leased file tag → ⊥
  unclaimed e file tag (inl c) = none-some c.0 (ap (lease_on file) (sym (hearing.idle e).0) ∙ c.1)
  unclaimed e file tag (inr c) = none-some file (sym ((hearing.idle e).1 c.1 c.2.asked) ∙ c.2.on_file)

  -- a claim is of an incarnation that is the kept one
  pub claimed-kept : (file : ℕ) (tag : Tag) → IsClaimed ps who ticket leased file tag → (host_row s.kept who.host).inc ≡ who.inc
  claimed-kept file tag c = step attached refl
    where
      step : (b : Bool) → attached ≡ b → (host_row s.kept who.host).inc ≡ who.inc
      step true e = hearing.knows.lined.current e
      step false e = absurd (unclaimed e file tag c)

  -- ---- what is said

  pub none-new : (t : Server) (q : Packet) → In [] q → IsNew ps s t q
  none-new t q bad = absurd bad

  pub one-new : (t : Server) (p : Packet) → IsNew ps s t p → (q : Packet) → In (p ∷ []) q → IsNew ps s t q
  one-new t p n q (inl e) = subst (λ z. IsNew ps s t z) e n
  one-new t p n q (inr bad) = absurd bad

  pub both-new : (t : Server) (xs ys : List Packet) → ((q : Packet) → In xs q → IsNew ps s t q) → ((q : Packet) → In ys q → IsNew ps s t q)
      → (q : Packet) → In (xs ++ ys) q → IsNew ps s t q
  both-new t xs ys a b q i = case (in-append xs ys q i)
    where
      case : In xs q ⊎ In ys q → IsNew ps s t q
      case (inl x) = a q x
      case (inr y) = b q y

  -- notices for rows of the table
  pub notices-new : (t : Server) (x : ℕ) (rows : List Row) → ((r : Row) → In rows r → find_row r.file r.who.host s.table.rows ≡ Some r)
      → ((r : Row) → In rows r → r.who.inc ≡ (host_row s.kept r.who.host).inc)
      → ((r : Row) → In rows r → IsDrawn (standing t).boot (standing t).drawn r.tag) → (q : Packet) → In (notices x rows) q → IsNew ps s t q
  notices-new t x [] there inc drawn q bad = absurd bad
  notices-new t x (row ∷ rows) there inc drawn q (inl e) = new_notice x row (sym e) (there row (inl refl)) (inc row (inl refl)) (drawn row (inl refl))
  notices-new t x (row ∷ rows) there inc drawn q (inr i) =
      notices-new t ((x + 1) % xid_end) rows (λ r k. there r (inr k)) (λ r k. inc r (inr k)) (λ r k. drawn r (inr k)) q i

  pub row-drawn : s.phase ≡ serving → (t : Server) → t.phase ≡ serving → t.table.boot ≡ s.table.boot → s.table.drawn ≤ t.table.drawn → (r : Row)
      → find_row r.file r.who.host s.table.rows ≡ Some r → IsDrawn (standing t).boot (standing t).drawn r.tag
  row-drawn p t q same more r found =
      let k = (own-fits p).fits r.file r.who.host r found in
      drawn-serving s t p q same more r.tag (subst (λ x. IsDrawn x.boot x.drawn r.tag) (sym (standing-serving s p)) (inr (k.tag_boot, k.drawn_before)))

  -- notices for some rows of the table
  pub rows-new : s.phase ≡ serving → (t : Server) → t.phase ≡ serving → t.table.boot ≡ s.table.boot → s.table.drawn ≤ t.table.drawn
      → (x : ℕ) (rows : List Row) → ((r : Row) → In rows r → In s.table.rows r) → (q : Packet) → In (notices x rows) q → IsNew ps s t q
  rows-new p t q same more x rows there =
      notices-new t x rows
      (λ r k. unique-in s.table.rows r (own-fits p).unique (there r k))
      (λ r k. own-current p r.file r.who.host r (unique-in s.table.rows r (own-fits p).unique (there r k)))
      (λ r k. row-drawn p t q same more r (unique-in s.table.rows r (own-fits p).unique (there r k)))

  -- a reply without a grant, to a request of this datagram
  pub reply-new : (t : Server) (x : ℕ) (w : Who) (r : Request) (a : Reply) → d ≡ request x r → asker r ≡ Some w → w.host ≡ sender → inc_of a ≡ w.inc
      → grant_in a ≡ None → ((i : ℕ) → a ≡ Reply.Attach i → (host_row t.kept w.host).inc ≡ i)
      → ((n : ℕ) → sequence_of r ≡ Some n
      → (((host_row t.kept w.host).inc ≡ w.inc) × (n ≤ (host_row t.kept w.host).seq))
      ⊎ (((host_row s.kept w.host).inc < w.inc) × (is_attach r ≡ false))) → IsNew ps s t (to_host w.host (reply x a))
  reply-new t x w r a e by from inc none att dec = new_reply w.host x a refl (record {
    asks = r;
    who = w;
    sent = subst (λ n. Asked ps n x r) (sym from) (hearing.was_sent x r e);
    by = by;
    same_host = refl;
    inc = inc;
    attached = att;
    decided = dec;
    fresh = λ g gives. none-some g (sym none ∙ gives);
    files = λ g gives. none-some g (sym none ∙ gives);
  })

  -- ---- outcomes that change nothing

  pub quiet-effect : Effect ps s (quiet s) who ticket leased
  unfolding quiet
  quiet-effect =
      record { line = line_stays refl; grows = λ tag k. k; opened = refl; longest = refl; covers = λ file mode tag until claim c k. k; said = none-new s }

  pub drops-effect : (reason : Reason) → Effect ps s (drops s reason) who ticket leased
  unfolding drops
  drops-effect reason =
      record { line = line_stays refl; grows = λ tag k. k; opened = refl; longest = refl; covers = λ file mode tag until claim c k. k; said = none-new s }

  pub says-effect : (host : ℕ) (n : Message) → IsNew ps s s (to_host host n) → Effect ps s (says s host n) who ticket leased
  unfolding says
  says-effect host n new =
      record {
        line = line_stays refl;
        grows = λ tag k. k;
        opened = refl;
        longest = refl;
        covers = λ file mode tag until claim c k. k;
        said = one-new s
            (to_host host n) new;
      }

  pub error-new : (dd : Datagram) (n : Message) → error_for dd ≡ Some n → IsNew ps s s (to_host sender n)
  error-new too_long n e = none-some n e
  error-new (no_message fault) n e = none-some n e
  error-new no_call n e = none-some n e
  error-new (other_rpc x) n e = new_error sender x RpcError.rpc_mismatch (ap (to_host sender) (sym (some-same _ n e)))
  error-new (other_program x) n e = new_error sender x RpcError.program_unavailable (ap (to_host sender) (sym (some-same _ n e)))
  error-new (other_version x) n e = new_error sender x RpcError.program_mismatch (ap (to_host sender) (sym (some-same _ n e)))
  error-new (unknown_procedure x) n e = new_error sender x RpcError.procedure_unavailable (ap (to_host sender) (sym (some-same _ n e)))
  error-new garbage_vacated n e = none-some n e
  error-new (garbage x) n e = new_error sender x RpcError.garbage_arguments (ap (to_host sender) (sym (some-same _ n e)))
  error-new (request x r) n e = none-some n e

  pub plain-effect : (x : ℕ) (w : Who) (r : Request) (a : Reply) → d ≡ request x r → asker r ≡ Some w → IsFrom sender w → IsPlain s w r a
      → Effect ps s (replies s w.host x a) who ticket leased
  plain-effect x w r a e by from plain =
      says-effect w.host (reply x a) (reply-new s x w r a e by from.host (plain-inc s w r a plain) (plain-grant s w r a plain)
      (plain-attach s w r a plain) (plain-decided s w r a plain))

  -- ---- outcomes while serving that let the client's rows go on

  pub goes-effect : (t : ServerStep) → s.phase ≡ serving → t.server.phase ≡ serving → t.server.table.boot ≡ s.table.boot
      → s.table.drawn ≤ t.server.table.drawn → t.server.kept.opened ≡ s.kept.opened → t.server.kept.longest ≡ s.kept.longest
      → LineMoves ps who.host (host_row s.kept who.host) (host_row t.server.kept who.host)
      → ((file : ℕ) → GoesOnAt file who.host s.table.rows t.server.table.rows) → ((q : Packet) → In t.sends q → IsNew ps s t.server q)
      → Effect ps s t who ticket leased
  goes-effect t p q same more opened longest line goes said = record {
    line = line;
    grows = drawn-serving s t.server p q same more;
    opened = opened;
    longest = longest;
    covers = λ file mode tag until claim c k. covered-goes-on s t.server who file mode tag until c p q (goes file) k;
    said = said;
  }

  pub all-go-on : (file : ℕ) → GoesOnAt file who.host s.table.rows s.table.rows
  all-go-on file was found c = (was, found, same-goes-on was)

  -- ---- an asker is put off

  pub later-effect : (x : ℕ) (w : Who) (r : Request) (table : Table) (rows : List Row) → d ≡ request x r → asker r ≡ Some w → w.host ≡ sender
      → sequence_of r ≡ None → s.phase ≡ serving → table.boot ≡ s.table.boot → s.table.drawn ≤ table.drawn
      → ((file : ℕ) → GoesOnAt file who.host s.table.rows table.rows) → ((k : Row) → In rows k → In s.table.rows k)
      → Effect ps s (tells_later s w x table rows) who ticket leased
  unfolding tells_later after_notices
  later-effect x w r table rows e by from no_seq p same more goes there =
      goes-effect (tells_later s w x table rows) p p same more refl refl (line_stays refl) goes
      (both-new (tells_later s w x table rows).server (notices s.notice rows) (to_host w.host (reply x (Reply.Refused w.inc Refusal.TryLater)) ∷ [])
      (rows-new p (tells_later s w x table rows).server p same more s.notice rows there)
      (one-new (tells_later s w x table rows).server (to_host w.host (reply x (Reply.Refused w.inc Refusal.TryLater)))
      (reply-new (tells_later s w x table rows).server x w r (Reply.Refused w.inc Refusal.TryLater) e by from refl refl (λ i bad. absurd (cc))
      (λ n q. none-some n (sym no_seq ∙ q)))))

  pub marked-boot : (q : Question) → (with_marked s.table q).boot ≡ s.table.boot
  unfolding with_rows
  marked-boot q = refl

  pub marked-drawn : (q : Question) → s.table.drawn ≤ (with_marked s.table q).drawn
  unfolding with_rows
  marked-drawn q = omega arith

  pub marked-rows : (q : Question) (file : ℕ) → GoesOnAt file who.host s.table.rows (with_marked s.table q).rows
  unfolding with_rows
  marked-rows q file = marked-goes-on file who.host q.file q.who.host q.access s.table.rows

  pub waiter-boot : (q : Question) (want : Want) → (with_waiter s.table q want).boot ≡ s.table.boot
  unfolding with_rows after_draw
  waiter-boot q want = refl

  pub waiter-drawn : (q : Question) (want : Want) → s.table.drawn ≤ (with_waiter s.table q want).drawn
  unfolding with_rows after_draw
  waiter-drawn q want = omega arith

  pub way-rows : (file host : ℕ) (access : Access) (k : Row) → In (in_the_way s file host access) k → In s.table.rows k
  way-rows file host access k i = in-filtered (conflicts file host access) s.table.rows k i

  -- ---- a block is read, or a lease is asked for, without a grant

  pub reads-effect : (x : ℕ) (w : Who) (q : ℕ) (f : File) (block : ℕ) (body : List ℕ) (want : Option Want)
      → d ≡ request x (Request.Read w q f.id block want) → w.host ≡ sender → Effect ps s (serves s w x next q f block body s.table None) who ticket leased
  unfolding serves with_table
  reads-effect x w q f block body want e from = record {
    line = line_stays refl;
    grows = λ tag k. k;
    opened = refl;
    longest = refl;
    covers = λ file mode tag until claim c k. k;
    said =
        one-new s (to_host w.host (reply x (Reply.Read w.inc f.rev body None)))
        (reply-new s x w (Request.Read w q f.id block want) (Reply.Read w.inc f.rev body None) e refl from refl refl (λ i bad. absurd (cc))
        (λ n k. none-some n k));
  }

  pub asks-effect : (x : ℕ) (w : Who) (f : File) (want : Want) → d ≡ request x (Request.GetLease w f.id want) → w.host ≡ sender
      → Effect ps s (leases s w x f.id s.table None) who ticket leased
  unfolding leases with_table
  asks-effect x w f want e from = record {
    line = line_stays refl;
    grows = λ tag k. k;
    opened = refl;
    longest = refl;
    covers = λ file mode tag until claim c k. k;
    said =
        one-new s (to_host w.host (reply x (Reply.GetLease w.inc None)))
        (reply-new s x w (Request.GetLease w f.id want) (Reply.GetLease w.inc None) e refl from refl refl (λ i bad. absurd (cc)) (λ n k. none-some n k));
  }

  -- ---- a lease is granted

  -- the table with a granted row
  granted-table : Row → Table
  granted-table row = after_draw s.table (put_row row s.table.rows)

  -- the tag of a granted row is the next one, and its chain began no later
  granted-tag : (q : Question) (want : Want) (row : Row) (term : ℕ) → IsGranted s.table q want row term → row.tag ≡ next_tag s.table
  unfolding sharing_row caching_row shared_again renewed_row
  granted-tag q want row term (shares_again own found stays shares is lasts) = ap (λ r. r.tag) is
  granted-tag q want row term (begins_sharing none room shared is lasts) = ap (λ r. r.tag) is
  granted-tag q want row term (begins_caching none room shared is lasts) = ap (λ r. r.tag) is
  granted-tag q want row term (renews_row own found stays caching is lasts) = ap (λ r. r.tag) is

  granted-began : s.phase ≡ serving → (q : Question) (want : Want) (row : Row) (term : ℕ) → IsGranted s.table q want row term
      → tag_below (next_tag s.table) row.since ≡ false
  unfolding sharing_row caching_row shared_again renewed_row
  granted-began p q want row term (shares_again own found stays shares is lasts) =
      subst (λ r. tag_below (next_tag s.table) r.since ≡ false) (sym is) (not-below (next_tag s.table))
    where
      not-below : (t : Tag) → tag_below t t ≡ false
      not-below t = grind (arith, nat_tests)
  granted-began p q want row term (begins_sharing none room shared is lasts) =
      subst (λ r. tag_below (next_tag s.table) r.since ≡ false) (sym is) (grind (arith, nat_tests))
  granted-began p q want row term (begins_caching none room shared is lasts) =
      subst (λ r. tag_below (next_tag s.table) r.since ≡ false) (sym is) (grind (arith, nat_tests))
  granted-began p q want row term (renews_row own found stays caching is lasts) =
      let b = own-boots p q.file q.who.host own found in
      subst (λ r. tag_below (next_tag s.table) r.since ≡ false) (sym is) (earlier s.table.boot s.table.drawn own.since own.tag b.0 b.1 b.2 b.3)
    where
      earlier : (boot drawn : ℕ) (since tag : Tag) → tag.boot ≡ boot → tag.number ≤ drawn → since.boot ≡ boot → since.number ≤ tag.number
          → tag_below (record { boot = boot; number = drawn + 1 }) since ≡ false
      earlier boot drawn since tag a b c e = grind (arith, nat_tests)

  granted-lasts : (q : Question) (want : Want) (row : Row) (term : ℕ) → IsGranted s.table q want row term → caches row.mode ≡ true
      → q.time + term + skew ≤ row.until
  unfolding sharing_row caching_row shared_again renewed_row
  granted-lasts q want row term (shares_again own found stays shares is lasts) c =
      let no : caches row.mode ≡ false = ap (λ r. caches r.mode) is ∙ shares in absurd (cc)
  granted-lasts q want row term (begins_sharing none room shared is lasts) c = let no : caches row.mode ≡ false = ap (λ r. caches r.mode) is in absurd (cc)
  granted-lasts q want row term (begins_caching none room shared is lasts) c =
      let u : row.until ≡ q.time + term_of q want + skew = ap (λ r. r.until) is in omega arith
  granted-lasts q want row term (renews_row own found stays caching is lasts) c =
      let u : row.until ≡ max own.until (q.time + term_of q want + skew) = ap (λ r. r.until) is in omega arith

  granted-short : (q : Question) (want : Want) (row : Row) (term : ℕ) → q.longest ≡ s.longest → IsGranted s.table q want row term
      → caches row.mode ≡ true → term ≤ s.longest
  unfolding sharing_row shared_again
  granted-short q want row term same (shares_again own found stays shares is lasts) c =
      let no : caches row.mode ≡ false = ap (λ r. caches r.mode) is ∙ shares in absurd (cc)
  granted-short q want row term same (begins_sharing none room shared is lasts) c = let no : caches row.mode ≡ false = ap (λ r. caches r.mode) is in
      absurd (cc)
  granted-short q want row term same (begins_caching none room shared is lasts) c =
      let t = term-short q.longest want.term (let l = hearing.terms.long in omega arith) in omega arith
  granted-short q want row term same (renews_row own found stays caching is lasts) c =
      let t = term-short q.longest want.term (let l = hearing.terms.long in omega arith) in omega arith

  -- the holder of a granted row that caches is the asker
  pub granted-holder : s.phase ≡ serving → (q : Question) (want : Want) (row : Row) (term : ℕ) → q.who.inc ≡ (host_row s.kept q.who.host).inc
      → IsGranted s.table q want row term → caches row.mode ≡ true → row.who ≡ q.who
  unfolding sharing_row caching_row shared_again renewed_row
  granted-holder p q want row term current (shares_again own found stays shares is lasts) c =
      let no : caches row.mode ≡ false = ap (λ r. caches r.mode) is ∙ shares in absurd (cc)
  granted-holder p q want row term current (begins_sharing none room shared is lasts) c =
      let no : caches row.mode ≡ false = ap (λ r. caches r.mode) is in absurd (cc)
  granted-holder p q want row term current (begins_caching none room shared is lasts) c = ap (λ r. r.who) is
  granted-holder p q want row term current (renews_row own found stays caching is lasts) c =
      let k = found-row q.file q.who.host s.table.rows own found in
      ap (λ r. r.who) is ∙ both-same own.who q.who k.1 (own-current p q.file q.who.host own found ∙ sym current)
    where
      both-same : (v w : Who) → v.host ≡ w.host → v.inc ≡ w.inc → v ≡ w
      both-same v w a b = let make : ℕ → ℕ → Who = λ i j. record { host = i; inc = j } in ap (λ i. make i v.inc) a ∙ ap (λ j. make w.host j) b

  above-drawn : s.phase ≡ serving → (v : Tag) → IsDrawn (standing s).boot (standing s).drawn v → tag_below v (next_tag s.table) ≡ true
  above-drawn p v k = above s.table.boot s.table.drawn v (subst (λ x. IsDrawn x.boot x.drawn v) (standing-serving s p) k)
    where
      above : (boot drawn : ℕ) (v : Tag) → IsDrawn boot drawn v → tag_below v (record { boot = boot; number = drawn + 1 }) ≡ true
      above boot drawn v (inl e) = grind (arith, nat_tests)
      above boot drawn v (inr e) = let a = e.0 in let b = e.1 in grind (arith, nat_tests)

  -- the fresh grant, in a server with the granted table
  fresh-grant : (t : Server) (w : Who) (f : File) (want : Want) (row : Row) (term : ℕ) → s.phase ≡ serving → t.phase ≡ serving
      → t.table ≡ granted-table row → w.inc ≡ (host_row s.kept w.host).inc → IsGranted s.table (to_read s w f (Some want)) want row term
      → IsFreshGrant s t w f.id (grant_of (to_read s w f (Some want)) row term)
  unfolding grant_of after_draw granted-table
  fresh-grant t w f want row term p q table current g =
      let question : Question = to_read s w f (Some want) in
      let key = granted-key s.table question want row term g in
      let tag = granted-tag question want row term g in
      record {
        serves = q;
        above = λ v k. subst (λ n. tag_below v n ≡ true) (sym tag) (above-drawn p v k);
        drawn =
            subst (λ x. IsDrawn x.boot x.drawn row.tag) (sym (standing-serving t q ∙ table))
            (inr (ap (λ n. n.boot) tag, let n : row.tag.number ≡ s.table.drawn + 1 = ap (λ n. n.number) tag in omega arith));
        row = row;
        stands =
            subst (λ x. find_row f.id w.host x.rows ≡ Some row) (sym table)
            (subst (λ n. find_row n w.host (put_row row s.table.rows) ≡ Some row) key.0
            (subst (λ n. find_row row.file n (put_row row s.table.rows) ≡ Some row) key.1 (find-put-same row s.table.rows)));
        holder = λ c. granted-holder p question want row term current g c;
        of_file = key.0;
        mode = refl;
        tag = refl;
        began = λ c. subst (λ n. tag_below n row.since ≡ false) (sym tag) (granted-began p question want row term g);
        lasts = λ c. granted-lasts question want row term g c;
        short = λ c. let a = granted-short question want row term refl g c in let same = hearing.terms.same p in omega arith;
      }

  granted-rows : s.phase ≡ serving → (q : Question) (want : Want) (row : Row) (term : ℕ) → IsGranted s.table q want row term → (file : ℕ)
      → GoesOnAt file who.host s.table.rows (put_row row s.table.rows)
  granted-rows p q want row term g file = granted-goes-on s.table q want row term file who.host (own-boots p) g

  pub reads-granted : (x : ℕ) (w : Who) (q : ℕ) (f : File) (block : ℕ) (body : List ℕ) (want : Want) (row : Row) (term : ℕ)
      → d ≡ request x (Request.Read w q f.id block (Some want)) → IsAsking s sender w f → IsGranted s.table (to_read s w f (Some want)) want row term
      → Effect ps s (serves s w x next q f block body (after_draw s.table (put_row row s.table.rows))
      (Some (grant_of (to_read s w f (Some want)) row term))) who ticket leased
  unfolding serves with_table after_draw granted-table
  reads-granted x w q f block body want row term e asking g =
      let p = asking.serves in
      let t : ServerStep = serves s w x next q f block body (after_draw s.table (put_row row s.table.rows))
      (Some (grant_of (to_read s w f (Some want)) row term)) in
      goes-effect t p p refl (omega arith) refl refl (line_stays refl) (granted-rows p (to_read s w f (Some want)) want row term g)
      (one-new t.server (to_host w.host (reply x (Reply.Read w.inc f.rev body (Some (grant_of (to_read s w f (Some want)) row term)))))
      (new_reply w.host x (Reply.Read w.inc f.rev body (Some (grant_of (to_read s w f (Some want)) row term))) refl (record {
        asks = Request.Read w q f.id block (Some want);
        who = w;
        sent =
            subst (λ n. Asked ps n x (Request.Read w q f.id block (Some want))) (sym asking.current.from.host)
            (hearing.was_sent x (Request.Read w q f.id block (Some want)) e);
        by = refl;
        same_host = refl;
        inc = refl;
        attached = λ i bad. absurd (cc);
        decided = λ n k. none-some n k;
        fresh =
            λ gr gives file on. subst (λ n. IsFreshGrant s t.server w n gr) (some-same f.id file on)
            (subst (λ n. IsFreshGrant s t.server w f.id n) (some-same _ gr gives) (fresh-grant t.server w f want row term p p refl asking.current.inc g));
        files = λ gr gives. (f.id, refl);
      })))

  pub leases-granted : (x : ℕ) (w : Who) (f : File) (want : Want) (row : Row) (term : ℕ) → d ≡ request x (Request.GetLease w f.id want)
      → IsAsking s sender w f → IsGranted s.table (to_read s w f (Some want)) want row term
      → Effect ps s (leases s w x f.id (after_draw s.table (put_row row s.table.rows)) (Some (grant_of (to_read s w f (Some want)) row term))) who
      ticket leased
  unfolding leases with_table after_draw granted-table
  leases-granted x w f want row term e asking g =
      let p = asking.serves in
      let t : ServerStep = leases s w x f.id (after_draw s.table (put_row row s.table.rows)) (Some (grant_of (to_read s w f (Some want)) row term)) in
      goes-effect t p p refl (omega arith) refl refl (line_stays refl) (granted-rows p (to_read s w f (Some want)) want row term g)
      (one-new t.server (to_host w.host (reply x (Reply.GetLease w.inc (Some (grant_of (to_read s w f (Some want)) row term)))))
      (new_reply w.host x (Reply.GetLease w.inc (Some (grant_of (to_read s w f (Some want)) row term))) refl (record {
        asks = Request.GetLease w f.id want;
        who = w;
        sent = subst (λ n. Asked ps n x (Request.GetLease w f.id want)) (sym asking.current.from.host) (hearing.was_sent x (Request.GetLease w f.id want) e);
        by = refl;
        same_host = refl;
        inc = refl;
        attached = λ i bad. absurd (cc);
        decided = λ n k. none-some n k;
        fresh =
            λ gr gives file on. subst (λ n. IsFreshGrant s t.server w n gr) (some-same f.id file on)
            (subst (λ n. IsFreshGrant s t.server w f.id n) (some-same _ gr gives) (fresh-grant t.server w f want row term p p refl asking.current.inc g));
        files = λ gr gives. (f.id, refl);
      })))
