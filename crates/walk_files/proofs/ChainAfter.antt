-- What is known of chained leases is kept by a step of the server.
use Rattle.std.proofs.Common.{◌≡◌, ◌<◌, ◌⊎◌, ℕ, ◌+◌, true, false, List, ◌++◌, Some, refl, sym, subst, ap, ◌∙◌, arith, inl, inr}
use Rattle.std.specs.Option.{unwrap_or}
use Rattle.std.specs.Prelude.{slice_get}
use Rattle.std.proofs.lemmas.Bool.Decides.{nat_tests}
use Rattle.nq_base.specs.declared.Grant.{Grant}
use Rattle.nq_base.specs.declared.HostRow.{HostRow}
use Rattle.nq_base.specs.declared.Mode.{Mode}
use Rattle.nq_base.specs.declared.Mode.TheVariants.{NonCaching, Reading, Writing}
use Rattle.nq_base.specs.declared.Reply.{Reply}
use Rattle.nq_base.specs.declared.Request.{Request}
use Rattle.nq_base.specs.declared.Row.{Row}
use Rattle.nq_base.specs.declared.Tag.{Tag}
use Rattle.nq_base.specs.declared.Who.{Who}
use Rattle.walk_files.proofs.ServerChains.{Continues, RowFrom, row_fresh, row_on, RowOn, goes_on, vacated, superseded, loosened, removed, reopened}
use Rattle.walk_files.proofs.ServerChains.{LineTo, line_stays, line_begins, line_decides, Claims, FileMove, file_stays, file_written, file_changed}
use Rattle.walk_files.proofs.ServerChains.{file_gone, NewGrant, NewReply, ChainEffect}
use Rattle.walk_files.proofs.ChainFacts.{line_for, done_at, rev_at, HeldChains, GoesOnAs, InOrder, GrantFits, GivenChains, IsFenced, gone, ahead}
use Rattle.walk_files.proofs.ChainFacts.{earlier, IsBoundOrFenced, bound, fenced, WriteChains, VerdictFits, LineChains, ChainFits}
use Rattle.nq_model.specs.laws.Chained.{OwnRow, IsChained, has_done, has_done_write, due, KnowsFile}
use Rattle.walk_steps.proofs.ClientFacts.{Alone}
use Rattle.walk_steps.proofs.ClientMoves.{some-same, none-some}
use Rattle.nq_model.specs.protocol.Client.{Client, Lease, Ticket, lease_on, is_clean_in}
use Rattle.nq_model.specs.protocol.Decide.{verdict_reply}
use Rattle.nq_model.specs.protocol.Hear.{inc_of}
use Rattle.nq_model.specs.protocol.Kept.{File, Kept, blocks_of, find_file, fresh_row, host_row}
use Rattle.nq_model.specs.laws.LeaseInterval.{is_at_least, requested_file}
use Rattle.nq_model.specs.protocol.Message.{Packet, reply, asker, sequence_of}
use Rattle.nq_model.specs.protocol.Server.{serving, Server, ServerStep, standing}
use Rattle.nq_model.specs.protocol.Table.{Table, caches, is_writing, same_tag, tag_below, find_row, next_tag}
use Rattle.walk_steps.proofs.ClientSteps.{KnowsOf}
use Rattle.walk_steps.proofs.CoverFacts.{IsTakeable}
use Rattle.walk_steps.proofs.HostLine.{IsSettled}
use Rattle.walk_steps.proofs.Packets.{Asked, Told, Mail}
use Rattle.walk_steps.proofs.TagFacts.{IsDrawn}
use Rattle.nq_base.specs.declared.Event.{Event}
use Rattle.walk_steps.proofs.Modes.{writing-caches, at-least-writing, at-least-caching}

-- what is drawn is below the next tag
pub drawn-below : (table : Table) (tag : Tag) → IsDrawn table.boot table.drawn tag → tag_below tag (next_tag table) ≡ true
drawn-below table tag h = above table.boot table.drawn tag h
  where
    above : (boot drawn : ℕ) (v : Tag) → IsDrawn boot drawn v → tag_below v (record { boot = boot; number = drawn + 1 }) ≡ true
    above boot drawn v (inl e) = grind (arith, nat_tests)
    above boot drawn v (inr e) = let a = e.0 in let b = e.1 in grind (arith, nat_tests)

below-not-above : (a b : Tag) → tag_below a b ≡ true → tag_below b a ≡ false
below-not-above a b h = grind (arith, nat_tests)

not-below-itself : (a : Tag) → tag_below a a ≡ false
not-below-itself a = grind (arith, nat_tests)

at-least-same : (mode : Mode) → is_at_least mode mode ≡ true
at-least-same NonCaching = refl
at-least-same Reading = refl
at-least-same Writing = refl

-- the continued row's tag is no earlier
continued-tag : (before : Table) (row row' : Row) (tag : Tag) → IsDrawn before.boot before.drawn tag → Continues before row row'
    → tag_below row.tag tag ≡ false → tag_below row'.tag tag ≡ false
continued-tag before row row' tag drawn k h = step k.tag
  where
    step : (row'.tag ≡ row.tag) ⊎ (row'.tag ≡ next_tag before) → tag_below row'.tag tag ≡ false
    step (inl same) = subst (λ t. tag_below t tag ≡ false) (sym same) h
    step (inr next) = subst (λ t. tag_below t tag ≡ false) (sym next) (below-not-above tag (next_tag before) (drawn-below before tag drawn))

-- what is known before a step of the server
pub record Beforehand (ps : List Packet) (s : Server) (events : List Event) (c : Client) : Type 0 where
  pub fits : ChainFits s c ps
  pub knows : KnowsOf (line_for s.kept c.who) s events c ps
  pub mail : Mail c.who c.xid c.ticket ps
  pub alone : Alone c
  pub kept : (line_for s.kept c.who).inc ≡ c.who.inc
  pub boot : (standing s).boot ≡ s.kept.opened
  pub ids : (f : File) (id : ℕ) → find_file id s.kept.files ≡ Some f → id < s.kept.next
  pub whose : (file : ℕ) (row : Row) → s.phase ≡ serving → find_row file c.who.host (standing s).rows ≡ Some row → row.who ≡ c.who
  pub ordered : (file : ℕ) (row : Row) → find_row file c.who.host (standing s).rows ≡ Some row
      → (row.since.boot ≡ (standing s).boot) × (tag_below row.tag row.since ≡ false) × IsDrawn (standing s).boot (standing s).drawn row.tag
      × IsDrawn (standing s).boot (standing s).drawn row.since

module _ (ps : List Packet) (s : Server) (events : List Event) (t : ServerStep) (c : Client) (b : Beforehand ps s events c)
    (f : ChainEffect ps s t c.who c.ticket c.leases) where
  abbrev h : ChainFits s c ps
  h = b.fits

  abbrev line : HostRow
  line = line_for s.kept c.who

  abbrev line' : HostRow
  line' = line_for t.server.kept c.who

  -- ---- lines

  -- a decided request of the running incarnation is the one under way
  decided-own : (x n : ℕ) (r : Request) (w : Who) → Asked ps c.who.host x r → asker r ≡ Some w → w.inc ≡ line.inc → sequence_of r ≡ Some n
      → line.seq < n → (u : Ticket) × (c.ticket ≡ Some u) × (u.xid ≡ x) × (u.request ≡ r)
  decided-own x n r w sent by inc sq later = step (b.knows.lined.settled b.kept x r w n sent by (inc ∙ b.kept) sq)
    where
      step : IsSettled c.ticket line.seq x n → (u : Ticket) × (c.ticket ≡ Some u) × (u.xid ≡ x) × (u.request ≡ r)
      step (inl below) = absurd (omega arith)
      step (inr u) = (u.0, u.1, u.2, (b.mail.asked x r w sent by).same (inc ∙ b.kept) u.0 u.1 u.2)

  -- no later incarnation than the running one asked to be attached
  not-begun : (x : ℕ) (w : Who) → Asked ps c.who.host x (Request.Attach w) → line.inc < w.inc → ⊥
  not-begun x w sent later = let past = (b.mail.asked x (Request.Attach w) w sent refl).inc in let kept = b.kept in omega arith

  line-after : LineChains t.server.kept c.who c.seq c.ticket (ps ++ t.sends)
  line-after = record {
    above = h.line.above;
    drawn = λ inc. drawn f.line;
    last = h.line.last;
    replied = λ x a u n told inc e number sq. replied x a u n inc e number sq (f.said x a told);
    decided = λ u n e sq inc is. decided u n e sq is f.line;
  } where
    drawn : LineTo ps s t.server c.who.host → line'.seq < c.seq
    drawn (line_stays same) = let before = h.line.drawn b.kept in let one : line'.seq ≡ line.seq = ap (λ l. l.seq) same in omega arith
    drawn (line_begins x w sent here later inc zero) = absurd (not-begun x w sent later)
    drawn (line_decides x r w n v value sent by here inc sq later is fits) =
        let u = decided-own x n r w sent by inc sq later in
        let last = h.line.last u.0 n u.1 (ap sequence_of u.3 ∙ sq) in
        let one : line'.seq ≡ n = ap (λ l. l.seq) is in
        omega arith

    decided : (u : Ticket) (n : ℕ) → c.ticket ≡ Some u → sequence_of u.request ≡ Some n → line'.seq ≡ n → LineTo ps s t.server c.who.host
        → VerdictFits u.request line'.verdict line'.value
    decided u n e sq is (line_stays same) =
        subst (λ l. VerdictFits u.request l.verdict l.value) (sym same) (h.line.decided u n e sq b.kept (ap (λ l. l.seq) (sym same) ∙ is))
    decided u n e sq is (line_begins x w sent here later inc zero) = absurd (not-begun x w sent later)
    decided u n e sq is (line_decides x r w m v value sent by here inc q later to fits) =
        let own = decided-own x m r w sent by inc q later in
        let same : u.request ≡ r = ap (λ z. z.request) (some-same u own.0 (sym e ∙ own.1)) ∙ own.3 in
        subst (λ l. VerdictFits u.request l.verdict l.value) (sym to) (subst (λ q. VerdictFits q v value) (sym same) fits)

    -- an old reply to the request under way came where it was decided
    old : (x : ℕ) (a : Reply) (u : Ticket) (n : ℕ) → Told ps c.who.host (reply x a) → inc_of a ≡ c.who.inc → c.ticket ≡ Some u → u.xid ≡ x
        → sequence_of u.request ≡ Some n → LineTo ps s t.server c.who.host → a ≡ verdict_reply c.who.inc line'.verdict line'.value u.request
    old x a u n told inc e number sq (line_stays same) =
        subst (λ l. a ≡ verdict_reply c.who.inc l.verdict l.value u.request) (sym same) (h.line.replied x a u n told inc e number sq)
    old x a u n told inc e number sq (line_begins y w sent here later i zero) = absurd (not-begun y w sent later)
    old x a u n told inc e number sq (line_decides y r w m v value sent by here i q later to fits) =
        let own = decided-own y m r w sent by i q later in
        let same : u.request ≡ r = ap (λ z. z.request) (some-same u own.0 (sym e ∙ own.1)) ∙ own.3 in
        let one : n ≡ m = some-same n m (sym sq ∙ ap sequence_of same ∙ q) in
        let before = (b.knows.lined.answered x a told inc u e number n sq).decided in
        absurd (omega arith)

    replied : (x : ℕ) (a : Reply) (u : Ticket) (n : ℕ) → inc_of a ≡ c.who.inc → c.ticket ≡ Some u → u.xid ≡ x → sequence_of u.request ≡ Some n
        → Told ps c.who.host (reply x a) ⊎ NewReply ps s t.server c.who.host x a → a ≡ verdict_reply c.who.inc line'.verdict line'.value u.request
    replied x a u n inc e number sq (inl told) = old x a u n told inc e number sq f.line
    replied x a u n inc e number sq (inr new) = step (new.verdict n (ap sequence_of (sym same) ∙ sq))
      where
        running : new.who.inc ≡ c.who.inc
        running = sym new.inc ∙ inc

        same : u.request ≡ new.asks
        same = (b.mail.asked x new.asks new.who new.sent new.by).same running u e number

        step : (((host_row t.server.kept c.who.host).seq ≡ n)
            × (a ≡ verdict_reply new.who.inc (host_row t.server.kept c.who.host).verdict (host_row t.server.kept c.who.host).value new.asks))
            ⊎ ((n < (host_row s.kept c.who.host).seq) ⊎ ((host_row s.kept c.who.host).inc < new.who.inc))
            → a ≡ verdict_reply c.who.inc line'.verdict line'.value u.request
        step (inl k) =
            k.1 ∙ ap (λ i. verdict_reply i line'.verdict line'.value new.asks) running
            ∙ ap (λ r. verdict_reply c.who.inc line'.verdict line'.value r) (sym same)
        step (inr (inl below)) = let drawn' = h.line.drawn b.kept in let last = h.line.last u n e sq in absurd (omega arith)
        step (inr (inr above)) = let kept = b.kept in absurd (omega arith)

  -- ---- what is known of a file

  -- a row that goes on is of the same incarnation
  own-before : (file : ℕ) (row row' : Row) → find_row file c.who.host (standing s).rows ≡ Some row → Continues (standing s) row row'
      → OwnRow (standing t.server) c.who file row' → OwnRow (standing s) c.who file row
  own-before file row row' found k own = record { stands = found; holder = sym k.who ∙ own.holder }

  chained-before : (file : ℕ) (tag : Tag) (row row' : Row) → find_row file c.who.host (standing s).rows ≡ Some row → Continues (standing s) row row'
      → IsChained (standing t.server) c.who file tag row' → IsChained (standing s) c.who file tag row
  chained-before file tag row row' found k chained =
      record { own = own-before file row row' found k chained.own; began = subst (λ z. tag_below tag z ≡ false) k.since chained.began }

  -- what is known under a row that goes on
  knows-on : (file : ℕ) (row row' : Row) (mode : Mode) (rev blocks : ℕ) → file < s.kept.next → OwnRow (standing s) c.who file row
      → OwnRow (standing t.server) c.who file row' → Continues (standing s) row row' → caches mode ≡ true → Claims ps c.who c.ticket c.leases file
      → KnowsFile s.kept line row.mode mode file rev blocks (done_at s.kept c.who c.ticket file)
      → KnowsFile t.server.kept line' row'.mode mode file rev blocks (done_at t.server.kept c.who c.ticket file)
  knows-on file row row' mode rev blocks numbered own own' on caching claim k = step (f.files file numbered)
    where
      step : FileMove s t.server c.who c.ticket file (Claims ps c.who c.ticket c.leases file)
          → KnowsFile t.server.kept line' row'.mode mode file rev blocks (done_at t.server.kept c.who c.ticket file)
      step (file_stays same done value) = record {
        kind = on.kind mode k.kind;
        f = k.f;
        found = same ∙ k.found;
        revision = k.revision ∙ ap (λ d. due d rev) (sym done);
        length = k.length;
        value = λ d. let before = sym done ∙ d in value before ∙ k.value before;
      }
      step (file_written f0 f1 found found' rises long undone done value) =
          let one : f0 ≡ k.f = some-same f0 k.f (sym found ∙ k.found) in
          record {
            kind = on.kind mode k.kind;
            f = f1;
            found = found';
            revision = rises ∙ ap (λ z. z.rev + 1) one ∙ ap (λ n. n + 1) (k.revision ∙ ap (λ d. due d rev) undone) ∙ ap (λ d. due d rev) (sym done);
            length = long ∙ ap blocks_of one ∙ k.length;
            value = λ d. value;
          }
      step (file_changed f0 f1 found found' rises done none) = absurd (none row row' own (at-least-caching row.mode mode caching k.kind) own' claim)
      step (file_gone lost none) = absurd (none row row' own (at-least-caching row.mode mode caching k.kind) own' claim)

  -- ---- leases that are held

  held-after : HeldChains (standing t.server) t.server.kept c.who c.ticket c.leases c.revisions
  held-after = record {
    known = h.held.known;
    numbered = λ file l e. let below = h.held.numbered file l e in let more = f.next in omega arith;
    chained = λ file l row' e caching k. chained file l row' e caching k (f.rows.from file row' k.own.stands);
    below = λ file l row' e own. below file l row' e own (f.rows.from file row' own.stands);
  } where
    chained : (file : ℕ) (l : Lease) (row' : Row) → lease_on file c.leases ≡ Some l → caches l.mode ≡ true
        → IsChained (standing t.server) c.who file l.tag row' → RowFrom (standing s) file c.who.host row'
        → KnowsFile t.server.kept line' row'.mode l.mode file (rev_at c.revisions file) l.blocks (done_at t.server.kept c.who c.ticket file)
    chained file l row' e caching k (row_fresh tag since) =
        let later : tag_below l.tag row'.since ≡ true = subst (λ z. tag_below l.tag z ≡ true) (sym since)
        (drawn-below (standing s) l.tag (b.knows.tagged.held file l e)) in
        let began = k.began in
        absurd (cc)
    chained file l row' e caching k (row_on row found on) =
        let was = chained-before file l.tag row row' found on k in
        knows-on file row row' l.mode (rev_at c.revisions file) l.blocks (h.held.numbered file l e) was.own k.own on caching (inl (l, e))
        (h.held.chained file l row e caching was)

    below : (file : ℕ) (l : Lease) (row' : Row) → lease_on file c.leases ≡ Some l → OwnRow (standing t.server) c.who file row'
        → RowFrom (standing s) file c.who.host row' → tag_below row'.tag l.tag ≡ false
    below file l row' e own (row_fresh tag since) =
        subst (λ z. tag_below z l.tag ≡ false) (sym tag)
        (below-not-above l.tag (next_tag (standing s)) (drawn-below (standing s) l.tag (b.knows.tagged.held file l e)))
    below file l row' e own (row_on row found on) =
        continued-tag (standing s) row row' l.tag (b.knows.tagged.held file l e) on (h.held.below file l row e (own-before file row row' found on own))

  -- ---- grants that can be taken

  reads-undone : (to : HostRow) (inc file g : ℕ) (r : Request) → requested_file r ≡ Some file → has_done to inc g r ≡ false
  reads-undone to inc file g (Request.Write w n x y z1 z2 push body) on = none-some file on
  reads-undone to inc file g other on = refl

  takes-undone : (kept : Kept) (file g : ℕ) (u : Ticket) → c.ticket ≡ Some u → requested_file u.request ≡ Some file → done_at kept c.who c.ticket g ≡ false
  takes-undone kept file g u e on = ap (λ o. done_at kept c.who o g) e ∙ reads-undone (line_for kept c.who) c.who.inc file g u.request on

  -- both tags of a grant were drawn
  since-drawn : (g : Grant) → InOrder g → IsDrawn (standing s).boot (standing s).drawn g.tag → IsDrawn (standing s).boot (standing s).drawn g.since
  since-drawn g k drawn = before (standing s).boot (standing s).drawn g.tag g.since k.began k.boot drawn
    where
      before : (boot drawn : ℕ) (tag since : Tag) → tag_below tag since ≡ false → since.boot ≡ tag.boot → IsDrawn boot drawn tag → IsDrawn boot drawn since
      before boot drawn tag since x same (inl y) = inl (omega arith)
      before boot drawn tag since x same (inr y) = let a = y.0 in let b = y.1 in inr (same ∙ a, grind (arith, nat_tests))

  old-after : (file : ℕ) (g : Grant) (u : Ticket) → IsTakeable ps c.who c.ticket file g u
      → GrantFits (standing t.server) t.server.kept c.who c.leases c.revisions file g
  old-after file g u takes = record {
    numbered = let below = k.numbered in let more = f.next in omega arith;
    ordered = k.ordered;
    chained = λ row' caching chained. on row' caching chained (f.rows.from file row' chained.own.stands);
    goes_on = k.goes_on;
    above = k.above;
    below = λ row' own. below row' own (f.rows.from file row' own.stands);
  } where
    k : GrantFits (standing s) s.kept c.who c.leases c.revisions file g
    k = h.given.fits file g u takes

    drawn : IsDrawn (standing s).boot (standing s).drawn g.tag
    drawn = b.knows.tagged.grants takes.x takes.a g takes.told takes.gives

    on : (row' : Row) → caches g.mode ≡ true → IsChained (standing t.server) c.who file g.tag row' → RowFrom (standing s) file c.who.host row'
        → KnowsFile t.server.kept line' row'.mode g.mode file g.rev g.blocks false
    on row' caching chained (row_fresh tag since) =
        let later : tag_below g.tag row'.since ≡ true = subst (λ z. tag_below g.tag z ≡ true) (sym since) (drawn-below (standing s) g.tag drawn) in
        let began = chained.began in
        absurd (cc)
    on row' caching chained (row_on row found goes) =
        let was = chained-before file g.tag row row' found goes chained in
        subst (λ d. KnowsFile t.server.kept line' row'.mode g.mode file g.rev g.blocks d) (takes-undone t.server.kept file file u takes.asked takes.on_file)
        (knows-on file row row' g.mode g.rev g.blocks k.numbered was.own chained.own goes caching (inr (g, u, takes))
        (subst (λ d. KnowsFile s.kept line row.mode g.mode file g.rev g.blocks d) (sym (takes-undone s.kept file file u takes.asked takes.on_file))
        (k.chained row caching was)))

    below : (row' : Row) → OwnRow (standing t.server) c.who file row' → RowFrom (standing s) file c.who.host row'
        → (tag_below row'.tag g.tag ≡ false) × (tag_below row'.since g.since ≡ false)
    below row' own (row_fresh tag since) = (
      subst (λ z. tag_below z g.tag ≡ false) (sym tag) (below-not-above g.tag (next_tag (standing s)) (drawn-below (standing s) g.tag drawn)),
      subst (λ z. tag_below z g.since ≡ false) (sym since)
          (below-not-above g.since (next_tag (standing s)) (drawn-below (standing s) g.since (since-drawn g k.ordered drawn))),
    )
    below row' own (row_on row found goes) =
        let was = k.below row (own-before file row row' found goes own) in
        (continued-tag (standing s) row row' g.tag drawn goes was.0, subst (λ z. tag_below z g.since ≡ false) (sym goes.since) was.1)

  both-same : (v w : Who) → v.host ≡ w.host → v.inc ≡ w.inc → v ≡ w
  both-same v w a e = let make : ℕ → ℕ → Who = λ p q. record { host = p; inc = q } in ap (λ p. make p v.inc) a ∙ ap (λ q. make w.host q) e

  new-after : (file : ℕ) (g : Grant) (u : Ticket) → c.ticket ≡ Some u → requested_file u.request ≡ Some file → NewGrant s t.server c.who file g
      → GrantFits (standing t.server) t.server.kept c.who c.leases c.revisions file g
  new-after file g u asked on k = record {
    numbered = let below = b.ids k.f file k.found in let more = f.next in omega arith;
    ordered = record { began = began k.origin; boot = booted k.origin; alone = k.alone };
    chained = λ row' caching chained.
        let one = same-row row' chained.own in
        record {
          kind = subst (λ m. is_at_least m g.mode ≡ true) (sym k.row_mode ∙ ap (λ r. r.mode) one) (at-least-same g.mode);
          f = k.f;
          found = ap (λ x. find_file file x.files) k.same ∙ k.found;
          revision = sym k.rev;
          length = sym k.blocks;
          value = λ bad. absurd (cc);
        };
    goes_on = λ l caching e held began. on-with l caching e held began k.origin;
    above = λ l e. subst (λ z. tag_below l.tag z ≡ true) (sym tag) (drawn-below (standing s) l.tag (b.knows.tagged.held file l e));
    below = λ row' own.
        let one = same-row row' own in (
          subst (λ z. tag_below z g.tag ≡ false) (sym k.row_tag ∙ ap (λ r. r.tag) one) (not-below-itself g.tag),
          subst (λ z. tag_below z g.since ≡ false)
              (sym k.row_since ∙ ap (λ r. r.since) one) (not-below-itself g.since),
        );
  } where
    standing-own : standing s ≡ s.table
    standing-own = let p = k.serves in rw p refl

    tag : g.tag ≡ next_tag (standing s)
    tag = k.tag ∙ ap next_tag (sym standing-own)

    same-row : (row' : Row) → OwnRow (standing t.server) c.who file row' → k.row ≡ row'
    same-row row' own = some-same k.row row' (sym k.stands ∙ own.stands)

    began : (g.since ≡ next_tag s.table)
        ⊎ ((own : Row) × (find_row file c.who.host (standing s).rows ≡ Some own) × (g.since ≡ own.since)
        × ((mode : Mode) → is_at_least own.mode mode ≡ true → is_at_least g.mode mode ≡ true)) → tag_below g.tag g.since ≡ false
    began (inl fresh) = subst (λ z. tag_below g.tag z ≡ false) (k.tag ∙ sym fresh) (not-below-itself g.tag)
    began (inr own) =
        let o = b.ordered file own.0 own.1 in
        subst (λ z. tag_below g.tag z ≡ false) (sym own.2)
        (subst (λ z. tag_below z own.0.since ≡ false) (sym tag)
        (below-not-above own.0.since (next_tag (standing s)) (drawn-below (standing s) own.0.since o.3)))

    booted : (g.since ≡ next_tag s.table)
        ⊎ ((own : Row) × (find_row file c.who.host (standing s).rows ≡ Some own) × (g.since ≡ own.since)
        × ((mode : Mode) → is_at_least own.mode mode ≡ true → is_at_least g.mode mode ≡ true)) → g.since.boot ≡ g.tag.boot
    booted (inl fresh) = ap (λ z. z.boot) (fresh ∙ sym k.tag)
    booted (inr own) = ap (λ z. z.boot) own.2 ∙ (b.ordered file own.0 own.1).0 ∙ ap (λ z. z.boot) (sym tag)

    on-with : (l : Lease) → caches g.mode ≡ true → lease_on file c.leases ≡ Some l → caches l.mode ≡ true → tag_below l.tag g.since ≡ false
        → (g.since ≡ next_tag s.table) ⊎
        ((own : Row) × (find_row file c.who.host (standing s).rows ≡ Some own) × (g.since ≡ own.since)
        × ((mode : Mode) → is_at_least own.mode mode ≡ true → is_at_least g.mode mode ≡ true)) → GoesOnAs g l (rev_at c.revisions file)
    on-with l caching e held since (inl fresh) =
        let later : tag_below l.tag g.since ≡ true = subst (λ z. tag_below l.tag z ≡ true) (ap next_tag standing-own ∙ sym fresh)
        (drawn-below (standing s) l.tag (b.knows.tagged.held file l e)) in
        absurd (cc)
    on-with l caching e held since (inr own) =
        let was : IsChained (standing s) c.who file l.tag own.0 = record
        { own = record { stands = own.1; holder = b.whose file own.0 k.serves own.1 }; began = subst (λ z. tag_below l.tag z ≡ false) own.2 since } in
        let n = h.held.chained file l own.0 e held was in
        let one : k.f ≡ n.f = some-same k.f n.f (sym k.found ∙ n.found) in
        record {
          kind = own.3 l.mode n.kind;
          revision = k.rev ∙ ap (λ z. z.rev) one ∙ n.revision ∙ ap (λ d. due d (rev_at c.revisions file)) (takes-undone s.kept file file u asked on);
          length = k.blocks ∙ ap blocks_of one ∙ n.length;
        }

  given-after : GivenChains (standing t.server) t.server.kept c.who c.ticket c.leases c.revisions (ps ++ t.sends)
  given-after = record { fits = λ file g u takes. step file g u takes (f.said takes.x takes.a takes.told) } where
    step : (file : ℕ) (g : Grant) (u : Ticket) (takes : IsTakeable (ps ++ t.sends) c.who c.ticket file g u)
        → Told ps c.who.host (reply takes.x takes.a) ⊎ NewReply ps s t.server c.who.host takes.x takes.a
        → GrantFits (standing t.server) t.server.kept c.who c.leases c.revisions file g
    step file g u takes (inl told) =
        old-after file g u
        (record {
          x = takes.x;
          a = takes.a;
          told = told;
          inc = takes.inc;
          asked = takes.asked;
          number = takes.number;
          on_file = takes.on_file;
          gives = takes.gives;
        })
    step file g u takes (inr new) =
        let running : new.who.inc ≡ c.who.inc = sym new.inc ∙ takes.inc in
        let same : u.request ≡ new.asks = (b.mail.asked takes.x new.asks new.who new.sent new.by).same running u takes.asked takes.number in
        let one : new.who ≡ c.who = both-same new.who c.who new.same_host running in
        new-after file g u takes.asked takes.on_file
        (subst (λ w. NewGrant s t.server w file g) one (new.grants g takes.gives file (ap requested_file (sym same) ∙ takes.on_file)))

  -- ---- files with delayed writes

  abbrev due-before : ℕ → ℕ
  due-before file = due (done_at s.kept c.who c.ticket file) (rev_at c.revisions file)

  abbrev due-after : ℕ → ℕ
  due-after file = due (done_at t.server.kept c.who c.ticket file) (rev_at c.revisions file)

  same-hosts : (host : ℕ) → t.server.kept.hosts ≡ s.kept.hosts → host_row t.server.kept host ≡ host_row s.kept host
  same-hosts host same = ap (λ hosts. unwrap_or (slice_get hosts host) fresh_row) same

  -- a fenced file stays so
  fenced-on : (file boot : ℕ) → file < s.kept.next → IsFenced s.kept file boot (due-before file) → IsFenced t.server.kept file boot (due-after file)
  fenced-on file boot numbered (earlier below) = earlier (let more = f.opened in omega arith)
  fenced-on file boot numbered (gone none) = step (f.files file numbered)
    where
      step : FileMove s t.server c.who c.ticket file (Claims ps c.who c.ticket c.leases file) → IsFenced t.server.kept file boot (due-after file)
      step (file_stays same done value) = gone (same ∙ none)
      step (file_written f0 f1 found found' rises long undone done value) = none-some f0 (sym none ∙ found)
      step (file_changed f0 f1 found found' rises done other) = none-some f0 (sym none ∙ found)
      step (file_gone lost other) = gone lost
  fenced-on file boot numbered (ahead f0 found below) = step (f.files file numbered)
    where
      step : FileMove s t.server c.who c.ticket file (Claims ps c.who c.ticket c.leases file) → IsFenced t.server.kept file boot (due-after file)
      step (file_stays same done value) = ahead f0 (same ∙ found) (subst (λ d. due d (rev_at c.revisions file) < f0.rev) (sym done) below)
      step (file_written g0 g1 there there' rises long undone done value) =
          let one : f0.rev ≡ g0.rev = ap (λ z. z.rev) (some-same f0 g0 (sym found ∙ there)) in
          let was : rev_at c.revisions file < f0.rev = subst (λ d. due d (rev_at c.revisions file) < f0.rev) undone below in
          ahead g1 there' (subst (λ d. due d (rev_at c.revisions file) < g1.rev) (sym done) (omega arith))
      step (file_changed g0 g1 there there' rises done other) =
          let one : f0.rev ≡ g0.rev = ap (λ z. z.rev) (some-same f0 g0 (sym found ∙ there)) in
          let was : due (done_at t.server.kept c.who c.ticket file) (rev_at c.revisions file) < f0.rev = subst
          (λ d. due d (rev_at c.revisions file) < f0.rev) (sym done) below in
          ahead g1 there' (omega arith)
      step (file_gone lost other) = gone lost

  -- a lease that was bound is bound, or its file is fenced
  bound-on : (file : ℕ) (l : Lease) (row : Row) → lease_on file c.leases ≡ Some l → is_writing l.mode ≡ true
      → IsChained (standing s) c.who file l.tag row → IsBoundOrFenced (standing t.server) t.server.kept c.who file l.tag (due-after file)
  bound-on file l row e writes chained = step (f.rows.on file row chained.own.stands (at-least-writing row.mode l.mode writes k.kind))
    where
      k : KnowsFile s.kept line row.mode l.mode file (rev_at c.revisions file) l.blocks (done_at s.kept c.who c.ticket file)
      k = h.held.chained file l row e (writing-caches l.mode writes) chained

      vacates : (x : ℕ) (w : Who) (tag : Tag) → Asked ps c.who.host x (Request.Vacated w file tag) → w.inc ≡ row.who.inc → same_tag row.tag tag ≡ true → ⊥
      vacates x w tag sent inc same =
          let past = b.knows.tagged.past_held x w file tag l sent (inc ∙ ap (λ z. z.inc) chained.own.holder) e in
          let below = h.held.below file l row e chained.own in
          apart row.tag tag l.tag same past below
        where
          apart : (a v m : Tag) → same_tag a v ≡ true → tag_below v m ≡ true → tag_below a m ≡ false → ⊥
          apart a v m x y z = grind (arith, nat_tests)

      supersedes : (host_row s.kept c.who.host).inc < (host_row t.server.kept c.who.host).inc → LineTo ps s t.server c.who.host → ⊥
      supersedes later (line_stays same) = let one : line'.inc ≡ line.inc = ap (λ z. z.inc) same in omega arith
      supersedes later (line_begins x w sent here above inc zero) = not-begun x w sent above
      supersedes later (line_decides x r w n v value sent by here inc sq above is fits) = let one : line'.inc ≡ w.inc = ap (λ z. z.inc) is in omega arith

      step : RowOn ps s t.server file c.who.host row → IsBoundOrFenced (standing t.server) t.server.kept c.who file l.tag (due-after file)
      step (goes_on row' stands on) =
          bound row'
          (record {
            own = record { stands = stands; holder = on.who ∙ chained.own.holder };
            began = subst (λ z. tag_below l.tag z ≡ false)
                (sym on.since) chained.began;
          })
      step (vacated x w tag sent here inc same) = absurd (vacates x w tag sent inc same)
      step (superseded later) = absurd (supersedes later f.line)
      step (loosened f0 f1 found found' rises hosts) =
          let one : k.f.rev ≡ f0.rev = ap (λ z. z.rev) (some-same k.f f0 (sym k.found ∙ found)) in
          let lines : line' ≡ line = same-hosts c.who.host hosts in
          let done : done_at t.server.kept c.who c.ticket file ≡ done_at s.kept c.who c.ticket file = ap (λ z. has_done_write z c.who.inc file c.ticket)
          lines in
          let was : due (done_at t.server.kept c.who c.ticket file) (rev_at c.revisions file) ≡ k.f.rev = ap (λ d. due d (rev_at c.revisions file)) done
          ∙ sym k.revision in
          fenced (ahead f1 found' (omega arith))
      step (removed none) = fenced (gone none)
      step (reopened later) = fenced (earlier (booted (standing s).boot (standing s).drawn (b.knows.tagged.held file l e) b.boot later))
        where
          booted : (boot drawn : ℕ) → IsDrawn boot drawn l.tag → boot ≡ s.kept.opened → s.kept.opened < t.server.kept.opened → l.tag.boot
              < t.server.kept.opened
          booted boot drawn (inl below) same later = omega arith
          booted boot drawn (inr is) same later = let a = is.0 in omega arith

  writes-after : WriteChains (standing t.server) t.server.kept c.who c.ticket c.call c.leases c.revisions c.dirty c.push
  writes-after = record {
    held = h.writes.held;
    bound = λ file l unclean e. step file l unclean e (h.writes.bound file l unclean e);
    pushed = h.writes.pushed;
    through = h.writes.through;
    leased = h.writes.leased;
    marked = h.writes.marked;
  } where
    step : (file : ℕ) (l : Lease) → is_clean_in file c.dirty c.push ≡ false → lease_on file c.leases ≡ Some l
        → IsBoundOrFenced (standing s) s.kept c.who file l.tag (due-before file)
        → IsBoundOrFenced (standing t.server) t.server.kept c.who file l.tag (due-after file)
    step file l unclean e (bound row k) =
        let held = h.writes.held file unclean in
        let one : held.0 ≡ l = some-same held.0 l (sym held.1 ∙ e) in
        bound-on file l row e (subst (λ z. is_writing z.mode ≡ true) one held.2) k
    step file l unclean e (fenced k) = fenced (fenced-on file l.tag.boot (h.held.numbered file l e) k)

  pub chains-after : ChainFits t.server c (ps ++ t.sends)
  chains-after = record { held = held-after; given = given-after; writes = writes-after; line = line-after }
