-- Decisions of the server do to the calls what is said of them, and so does each datagram.
use Rattle.std.proofs.Common.{◌≡◌, ◌≢◌, ◌<◌, ◌≤◌, ◌⊎◌, ℕ, Bool, true, false, ◌==◌, List, [], ◌∷◌, ◌++◌, Some, None, length, refl, sym, subst, ap, ◌∙◌}
use Rattle.std.proofs.Common.{arith, inl, inr}
use Rattle.std.specs.Prelude.{slice_get, Option}
use Rattle.nq_base.specs.Block.{value_of}
use Rattle.nq_base.specs.declared.Entry.{Entry}
use Rattle.nq_base.specs.declared.Entry.TheVariants.{W, S, Z}
use Rattle.nq_base.specs.declared.Event.{Event}
use Rattle.nq_base.specs.declared.HostRow.{HostRow}
use Rattle.nq_base.specs.declared.PushBase.{PushBase}
use Rattle.nq_base.specs.declared.Reply.{Reply}
use Rattle.nq_base.specs.declared.Request.{Request}
use Rattle.nq_base.specs.declared.Row.{Row}
use Rattle.nq_base.specs.declared.Verdict.{Verdict}
use Rattle.nq_base.specs.declared.Who.{Who}
use Rattle.walk_files.proofs.CallFacts.{JournalFits, IsBounded, through_number, journal-more, called-below}
use Rattle.walk_files.proofs.CallsFit.{entry_who}
use Rattle.walk_files.proofs.CallWorlds.{CallsKnown, foreign, open-ticket, open-known}
use Rattle.walk_files.proofs.ClientMoves.{IsBelow}
use Rattle.walk_files.proofs.Quiet.{IsNoCall, IsNoChange, foreign-quiet, OpenFits}
use Rattle.walk_files.proofs.Refusals.{seq-same, done-tells, verdict-inc, plain-why}
use Rattle.walk_files.proofs.ServerHears as hears
use Rattle.walk_files.proofs.ServerHears.{refuse-none, refuse-both, refuse-notices, refuse-reply, refuse-error}
use Rattle.walk_files.proofs.ServerAnswers as answers
use Rattle.walk_files.proofs.ServerAnswers.{asked-by, asker-bounded}
use Rattle.walk_files.proofs.ServerCalls.{otherwise, AllRefuse, IsChange, Outcome, line_same, line_decided, ServerDoes}
use Rattle.walk_steps.proofs.ClientMoves.{some-same, none-some}
use Rattle.nq_model.specs.protocol.Client.{Client}
use Rattle.nq_model.specs.protocol.Decide.{Decision, wrote, decides, creates, writes_through, stores, stores_recovering, resizes, removes, puts_off}
use Rattle.nq_model.specs.protocol.Decide.{verdict_reply, row_after, commits}
use Rattle.nq_model.specs.laws.Journal.{Exists, IsCall}
use Rattle.nq_model.specs.protocol.Kept.{File, host_row, with_row, with_files, with_new_file}
use Rattle.nq_model.specs.protocol.Message.{reply, asker, Datagram, request, sequence_of}
use Rattle.nq_model.specs.laws.Ordered.{IsResizeInOrder}
use Rattle.nq_model.specs.protocol.Profile.{most_hosts}
use Rattle.nq_model.specs.protocol.Server.{Server, to_host, keeping, keeping_with, after_notices}
use Rattle.nq_model.specs.protocol.ServerStep.{receive}
use Rattle.nq_model.specs.protocol.Table.{Table, with_rows}
use Rattle.nq_model.specs.protocol.World.{World}
use Rattle.walk_steps.proofs.OpenAt.{IsOpenAt}
use Rattle.walk_steps.proofs.KnownWorlds.{Known}
use Rattle.walk_steps.proofs.Packets.{In, Asked}
use Rattle.walk_steps.proofs.Worlds.{Holds}
use Rattle.walk_steps.proofs.KeptChanges.{other-line, own-line, same-lines}
use Rattle.walk_steps.proofs.Rows.{same-number, number-same}
use Rattle.walk_steps.proofs.ServerCases.{server-hears}
use Rattle.walk_steps.proofs.ServerOutcomes.{IsFresh, error-no-reply}

module _ (w : World) (events : List Event) (held : Holds w) (known : Known w events) (g : CallsKnown w) (sender : ℕ) (d : Datagram)
    (was_sent : (xid : ℕ) (r : Request) → d ≡ request xid r → Asked w.packets sender xid r) (lines : length w.server.kept.hosts ≡ most_hosts) where
  abbrev s : Server
  s = w.server

  abbrev next : ℕ
  next = length w.packets

  -- what a decision does to the calls
  record Decides (who : Who) (r : Request) (k : Decision) : Type 0 where
    hosts : k.server.kept.hosts ≡ s.kept.hosts
    silent : (line : ℕ → HostRow) → AllRefuse w.packets line k.sends
    journal : JournalFits (k.entries ++ w.journal)
    below : (x : Entry) → In k.entries x → (n : ℕ) → IsBelow n x
    own : (x : Entry) → In k.entries x → entry_who x ≡ Some who
    no_call : (x : Entry) → In k.entries x → (v : Who) → IsNoCall v x
    bounded : (c : Client) → slice_get w.clients who.host ≡ Some c → (x : Entry) → In k.entries x → IsBounded c.who c.calls c.number x
    change : ((k.verdict ≡ Verdict.Done) × IsChange r) ⊎ ((x : Entry) → In k.entries x → (v : Who) → IsNoChange v x)

  -- the request is open
  abbrev is-open-now : (xid : ℕ) (who : Who) (seq : ℕ) (r : Request) → d ≡ request xid r → asker r ≡ Some who → sequence_of r ≡ Some seq
      → IsFresh s sender who seq → IsOpenAt (host_row s.kept who.host) w.packets who.host xid r
  is-open-now xid who seq r e by sq fresh = record {
    who = who;
    seq = seq;
    asked = asked-by w events held known g sender d was_sent lines xid who r e fresh.current.from.host;
    by = by;
    kept = sym fresh.current.inc;
    draws = seq-same r ∙ sq;
    above = fresh.above;
  }

  commits-does : (xid : ℕ) (who : Who) (seq : ℕ) (r : Request) (k : Decision) → d ≡ request xid r → asker r ≡ Some who → sequence_of r ≡ Some seq
      → IsFresh s sender who seq → Decides who r k → ServerDoes w (commits who seq xid r k)
  unfolding commits keeping
  commits-does xid who seq r k e by sq fresh m = record {
    journal = m.journal;
    below = λ x i. m.below x i _;
    refuses =
        refuse-both w.packets (λ h. host_row (with_row k.server.kept who.host (row_after who seq k)) h) k.sends
        (to_host who.host (reply xid (verdict_reply who.inc k.verdict k.value r)) ∷ []) (m.silent _)
        (refuse-reply w.packets (λ h. host_row (with_row k.server.kept who.host (row_after who seq k)) h) who.host xid
        (verdict_reply who.inc k.verdict k.value r)
        (λ inc status is. record {
          asks = r;
          who = who;
          sent = asked-by w events held known g sender d was_sent lines xid who r e
              fresh.current.from.host;
          by = by;
          same = verdict-inc who.inc k.verdict k.value r inc status is;
          why = otherwise
              (λ done. done-tells who.inc k.value r k.verdict inc status is (sym (ap (λ l. l.verdict) own) ∙ done));
        }));
    outcome = λ host c is. outcome host c is (host == who.host) refl;
  } where
    own : host_row (with_row k.server.kept who.host (row_after who seq k)) who.host ≡ row_after who seq k
    own =
        own-line k.server.kept who.host (row_after who seq k)
        (let p = fresh.current.from.possible in let n : length k.server.kept.hosts ≡ most_hosts = ap length m.hosts ∙ lines in omega arith)

    change : ((k.verdict ≡ Verdict.Done) × IsChange r) ⊎ ((x : Entry) → In k.entries x → (v : Who) → IsNoChange v x)
        → (((host_row (with_row k.server.kept who.host (row_after who seq k)) who.host).verdict ≡ Verdict.Done) × IsChange r)
        ⊎ ((x : Entry) → In k.entries x → (v : Who) → v.host ≡ who.host → IsNoChange v x)
    change (inl done) = inl (ap (λ l. l.verdict) own ∙ done.0, done.1)
    change (inr none) = inr (λ x i v here. none x i v)

    at-own : (c : Client) → slice_get w.clients who.host ≡ Some c → Outcome w (commits who seq xid r k) who.host c
    at-own c is =
        line_decided xid r (is-open-now xid who seq r e by sq fresh)
        (ap (λ l. l.inc) own ∙ fresh.current.inc)
        (ap (λ l. l.seq) own)
        (λ x i. record {
          no_call = λ v here. m.no_call x i v;
          no_change =
              λ v here differs. (foreign-quiet v x
              (λ u of same. let one : who ≡ u = some-same who u (sym (m.own x i) ∙ of) in
              differs (ap (λ z. z.inc) (sym same ∙ sym one) ∙ fresh.current.inc))).no_change;
          bounded = m.bounded c is x i;
        })
        (change m.change)

    outcome : (host : ℕ) (c : Client) → slice_get w.clients host ≡ Some c → (b : Bool) → (host == who.host) ≡ b → Outcome w (commits who seq xid r k) host c
    outcome host c is true f =
        let same : host ≡ who.host = same-number host who.host f in
        subst (λ n. Outcome w (commits who seq xid r k) n c) (sym same) (at-own c (subst (λ n. slice_get w.clients n ≡ Some c) same is))
    outcome host c is false f =
        let apart : host ≢ who.host = λ same. let yes : (host == who.host) ≡ true = number-same host who.host same in absurd (cc) in
        line_same (other-line k.server.kept who.host host (row_after who seq k) apart ∙ same-lines s.kept k.server.kept host m.hosts)
        (λ x i. record {
          quiet = λ v here. foreign-quiet v x (λ u of same. apart (sym here ∙ ap (λ z. z.host) (sym same ∙ sym (some-same who u (sym (m.own x i) ∙ of)))));
          bounded =
              (foreign c.who c.calls c.number x
              (λ u of same. apart (sym ((held.clients host c is).here) ∙ sym same ∙ ap (λ z. z.host) (sym (some-same who u (sym (m.own x i) ∙ of)))))).1;
        })

  -- ---- decisions

  -- one without entries
  idle-decides : (who : Who) (r : Request) (k : Decision) → k.server.kept.hosts ≡ s.kept.hosts
      → ((line : ℕ → HostRow) → AllRefuse w.packets line k.sends) → k.entries ≡ [] → Decides who r k
  idle-decides who r k hosts silent none = record {
    hosts = hosts;
    silent = silent;
    journal = subst (λ es. JournalFits (es ++ w.journal)) (sym none) g.journal;
    below = λ x i. absurd (nothing x i);
    own = λ x i. absurd (nothing x i);
    no_call = λ x i. absurd (nothing x i);
    bounded = λ c is x i. absurd (nothing x i);
    change = inr (λ x i. absurd (nothing x i));
  } where
    nothing : (x : Entry) → In k.entries x → ⊥
    nothing x i = subst (λ es. In es x) none i

  declines-decides : (who : Who) (r : Request) (v : Verdict) → Decides who r (decides s v)
  unfolding decides
  declines-decides who r v = idle-decides who r (decides s v) refl (λ line. refuse-none w.packets line) refl

  creates-decides : (who : Who) (r : Request) (name : List ℕ) (blocks : ℕ) → Decides who r (creates s name blocks)
  unfolding creates keeping with_new_file
  creates-decides who r name blocks = idle-decides who r (creates s name blocks) refl (λ line. refuse-none w.packets line) refl

  puts-off-decides : (who : Who) (r : Request) (file : ℕ) (table : Table) → Decides who r (puts_off s who file table)
  unfolding puts_off after_notices
  puts-off-decides who r file table = idle-decides who r (puts_off s who file table) refl (λ line. refuse-notices w.packets line s.notice _) refl

  -- one of the entry of delayed writes that are stored
  module _ (xid : ℕ) (who : Who) (seq : ℕ) (r : Request) (e : d ≡ request xid r) (by : asker r ≡ Some who) (sq : sequence_of r ≡ Some seq)
      (fresh : IsFresh s sender who seq) where
    one-entry : (x : Entry) (P : Entry → Type 0) → P x → (y : Entry) → (x ≡ y) ⊎ ⊥ → P y
    one-entry x P p y (inl same) = subst P same p
    one-entry x P p y (inr bad) = absurd bad

    stored : (k : Decision) (file block first last : ℕ) → k.server.kept.hosts ≡ s.kept.hosts → k.sends ≡ []
        → k.entries ≡ S who file block first last s.now ∷ [] → Decides who r k
    stored k file block first last hosts none made = record {
      hosts = hosts;
      silent = λ line. subst (AllRefuse w.packets line) (sym none) (refuse-none w.packets line);
      journal = subst (λ es. JournalFits (es ++ w.journal)) (sym made) (journal-more x w.journal tt tt (λ v n h. h) g.journal);
      below = λ y i. one-entry x (λ z. (n : ℕ) → IsBelow n z) (λ n. tt) y (at y i);
      own = λ y i. one-entry x (λ z. entry_who z ≡ Some who) refl y (at y i);
      no_call = λ y i. one-entry x (λ z. (v : Who) → IsNoCall v z) (λ v. record { call = λ n h. h; answer = λ n h. h }) y (at y i);
      bounded =
          λ c is y i. one-entry x (λ z. IsBounded c.who c.calls c.number z)
          (asker-bounded w events held known g sender d was_sent lines who.host xid r who c x is e by fresh.current.from.host refl
          (λ n one of. none-some n of) (λ n one of. none-some n of)) y (at y i);
      change = inr (λ y i. one-entry x (λ z. (v : Who) → IsNoChange v z) (λ v. record { write = λ n h. h; resize = λ n h. h }) y (at y i));
    } where
      x : Entry
      x = S who file block first last s.now

      at : (y : Entry) → In k.entries y → In (S who file block first last s.now ∷ []) y
      at y i = subst (λ es. In es y) made i

    -- a client at the asker's host, and the open request
    kept-fits : (c : Client) → slice_get w.clients who.host ≡ Some c → OpenFits r w.journal
    kept-fits c is = open-known w events held known g who.host c is xid r (is-open-now xid who seq r e by sq fresh)

    -- a change that the request makes at once
    changed : (k : Decision) (x : Entry) → k.server.kept.hosts ≡ s.kept.hosts → k.sends ≡ [] → k.entries ≡ x ∷ [] → k.verdict ≡ Verdict.Done
        → IsChange r → JournalFits (x ∷ w.journal) → ((n : ℕ) → IsBelow n x) → entry_who x ≡ Some who → ((v : Who) → IsNoCall v x)
        → ((c : Client) → slice_get w.clients who.host ≡ Some c → IsBounded c.who c.calls c.number x) → Decides who r k
    changed k x hosts none made done change journal below own uncalled bounded = record {
      hosts = hosts;
      silent = λ line. subst (AllRefuse w.packets line) (sym none) (refuse-none w.packets line);
      journal = subst (λ es. JournalFits (es ++ w.journal)) (sym made) journal;
      below = λ y i. one-entry x (λ z. (n : ℕ) → IsBelow n z) below y (at y i);
      own = λ y i. one-entry x (λ z. entry_who z ≡ Some who) own y (at y i);
      no_call = λ y i. one-entry x (λ z. (v : Who) → IsNoCall v z) uncalled y (at y i);
      bounded = λ c is y i. one-entry x (λ z. IsBounded c.who c.calls c.number z) (bounded c is) y (at y i);
      change = inl (done, change);
    } where
      at : (y : Entry) → In k.entries y → In (x ∷ []) y
      at y i = subst (λ es. In es y) made i

  -- the number of a write that goes through was drawn
  through-below : (xid : ℕ) (who : Who) (seq file block first last : ℕ) (body : List ℕ)
      → d ≡ request xid (Request.Write who seq file block first last None body) → IsFresh s sender who seq → (c : Client)
      → slice_get w.clients who.host ≡ Some c → who ≡ c.who → first < c.number
  through-below xid who seq file block first last body e fresh c is one =
      let k = open-ticket w events held known who.host c is (sym fresh.current.inc ∙ ap (λ z. z.inc) one) xid
      (Request.Write who seq file block first last None body)
      (is-open-now xid who seq (Request.Write who seq file block first last None body) e refl refl fresh) in
      ((g.clients who.host c is).asks.ticketed k.0 k.1).numbered first (ap through_number k.3)

  module _ (there : (host x : ℕ) (r : Request) → Asked w.packets host x r → (c : Client) × (slice_get w.clients host ≡ Some c)) where
    writes-decides : (xid : ℕ) (who : Who) (seq block first last : ℕ) (body : List ℕ) (f : File)
        → d ≡ request xid (Request.Write who seq f.id block first last None body) → IsFresh s sender who seq
        → Decides who (Request.Write who seq f.id block first last None body) (writes_through s who f block first body)
    unfolding writes_through keeping with_files
    writes-decides xid who seq block first last body f e fresh =
        let r : Request = Request.Write who seq f.id block first last None body in
        let x : Entry = W who f.id block first (value_of body) true in
        let c = there who.host xid r (asked-by w events held known g sender d was_sent lines xid who r e fresh.current.from.host) in
        changed xid who seq r e refl refl fresh (writes_through s who f block first body) x refl refl refl refl tt
        (journal-more x w.journal (kept-fits xid who seq r e refl refl fresh c.0 c.1) tt (λ v n h. h) g.journal)
        (λ n. tt) refl (λ v. record { call = λ n h. h; answer = λ n h. h })
        (λ a is. asker-bounded w events held known g sender d was_sent lines who.host xid r who a x is e refl fresh.current.from.host refl
        (λ n one of. none-some n of) (λ n one of. subst (λ m. m < a.number) (some-same first n of)
        (through-below xid who seq f.id block first last body e fresh a is one)))

    -- the call of a Z was made
    resize-below : (who : Who) (q file to : ℕ) (c : Client) → slice_get w.clients who.host ≡ Some c → who ≡ c.who
        → IsResizeInOrder w.journal who q file to → q ≤ c.calls
    resize-below who q file to c is one h =
        called-below c.who c.calls c.number c.call w.journal (g.clients who.host c is).calls_fit q
        (subst (λ v. Exists (IsCall v q) w.journal) one h.is_open.0)

    changes-length : (k : Decision) (xid : ℕ) (who : Who) (seq q from to : ℕ) (r : Request) (f : File) → d ≡ request xid r → asker r ≡ Some who
        → sequence_of r ≡ Some seq → IsFresh s sender who seq → k.server.kept.hosts ≡ s.kept.hosts → k.sends ≡ []
        → k.entries ≡ Z who q f.id from to ∷ [] → k.verdict ≡ Verdict.Done → IsChange r
        → (OpenFits r w.journal → IsResizeInOrder w.journal who q f.id to) → Decides who r k
    changes-length k xid who seq q from to r f e by sq fresh hosts none made done change fits =
        let x : Entry = Z who q f.id from to in
        let c = there who.host xid r (asked-by w events held known g sender d was_sent lines xid who r e fresh.current.from.host) in
        let order = fits (kept-fits xid who seq r e by sq fresh c.0 c.1) in
        changed xid who seq r e by sq fresh k x hosts none made done change
        (journal-more x w.journal order tt (λ v n h. h) g.journal)
        (λ n. tt) refl (λ v. record { call = λ n h. h; answer = λ n h. h })
        (λ a is. asker-bounded w events held known g sender d was_sent lines who.host xid r who a x is e by fresh.current.from.host refl
        (λ n one of. subst (λ m. m ≤ a.calls) (some-same q n of) (resize-below who q f.id to a is one order)) (λ n one of. none-some n of))

    resizes-decides : (xid : ℕ) (who : Who) (seq q blocks : ℕ) (f : File) → d ≡ request xid (Request.Resize who seq q f.id blocks)
        → IsFresh s sender who seq → Decides who (Request.Resize who seq q f.id blocks) (resizes s who q f blocks)
    unfolding resizes keeping with_files
    resizes-decides xid who seq q blocks f e fresh =
        changes-length (resizes s who q f blocks) xid who seq q _ blocks (Request.Resize who seq q f.id blocks) f e refl refl fresh refl refl refl refl
        tt (λ h. h)

    removes-decides : (xid : ℕ) (who : Who) (seq q : ℕ) (f : File) → d ≡ request xid (Request.Remove who seq q f.id) → IsFresh s sender who seq
        → Decides who (Request.Remove who seq q f.id) (removes s who q f)
    unfolding removes keeping_with with_files with_rows
    removes-decides xid who seq q f e fresh =
        changes-length (removes s who q f) xid who seq q _ 0 (Request.Remove who seq q f.id) f e refl refl fresh refl refl refl refl tt (λ h. h)

    stores-decides : (xid : ℕ) (who : Who) (seq block first last : ℕ) (base : PushBase) (body : List ℕ) (f : File) (row : Row)
        → d ≡ request xid (Request.Write who seq f.id block first last (Some base) body) → IsFresh s sender who seq
        → Decides who (Request.Write who seq f.id block first last (Some base) body) (stores s who f row block first last body)
    unfolding stores keeping_with with_files with_rows
    stores-decides xid who seq block first last base body f row e fresh =
        stored xid who seq (Request.Write who seq f.id block first last (Some base) body) e refl refl fresh (stores s who f row block first last body)
        f.id block first last refl refl refl

    recovering-decides : (xid : ℕ) (who : Who) (seq block first final : ℕ) (base : PushBase) (body : List ℕ) (f : File) (until : ℕ)
        (last : Option Table) → d ≡ request xid (Request.Write who seq f.id block first final (Some base) body) → IsFresh s sender who seq
        → Decides who (Request.Write who seq f.id block first final (Some base) body) (stores_recovering s until last who f block first final body)
    unfolding stores_recovering keeping wrote with_files
    recovering-decides xid who seq block first final base body f until last e fresh =
        stored xid who seq (Request.Write who seq f.id block first final (Some base) body) e refl refl fresh
        (stores_recovering s until last who f block first final body) f.id block first final refl refl refl

    -- ---- each datagram

    pub received-does : ServerDoes w (receive s sender next d)
    received-does = server-hears s sender next d (λ t. ServerDoes w t) (record {
      stays = hears.quiet-does w events held known g sender d was_sent lines;
      dropping = λ reason. hears.drops-does w events held known g sender d was_sent lines reason;
      erring =
          λ m e. hears.says-does w events held known g sender d was_sent lines sender m
          (refuse-error w.packets _ sender m (λ x a is. error-no-reply d m x a e is));
      answers_null =
          λ xid e. hears.says-does w events held known g sender d was_sent lines sender (reply xid Reply.Null)
          (refuse-reply w.packets _ sender xid Reply.Null (λ inc status is. absurd (cc)));
      replying = λ xid who r a e by from plain. hears.says-does w events held known g sender d was_sent lines who.host (reply xid a)
          (refuse-reply w.packets (λ h. host_row s.kept h) who.host xid a
          (λ inc status is. let y = plain-why s who r a inc status plain is in
          hears.to-asker w events held known g sender d was_sent lines (λ h. host_row s.kept h) xid who r inc e by from.host y.0 y.1));
      attaching = λ xid who e from later. answers.attaches-does w events held known g sender d was_sent lines xid who e from later;
      vacating = λ xid who file tag e current. hears.vacates-does w events held known g sender d was_sent lines who file tag;
      putting_off =
          λ xid who r f clash e by on asking c. hears.later-does w events held known g sender d was_sent lines xid who r f.id _ _ e
          by asking.current.from.host on;
      putting_off_waiting =
          λ xid who r f clash want e by on wants asking c own room. hears.later-does w events held known g sender d was_sent lines xid who r f.id _ _ e
          by asking.current.from.host on;
      putting_off_by_own =
          λ xid who r f want own e by on wants asking c o ev. hears.later-does w events held known g sender d was_sent lines xid who r f.id _ _ e
          by asking.current.from.host on;
      reading =
          λ xid who q block f body e asking at c. answers.serves-does w events held known g sender d was_sent lines xid who q f block body None s.table
          None e asking.current.from.host;
      reading_full =
          λ xid who q block want f body e asking at c own room. answers.serves-does w events held known g sender d was_sent lines xid who q f block body
          (Some want) s.table None e asking.current.from.host;
      reading_granted =
          λ xid who q block want f body row term e asking at c gr. answers.serves-does w events held known g sender d was_sent lines xid who q f block
          body (Some want) _ (Some _) e asking.current.from.host;
      leasing_full =
          λ xid who want f e asking c own room. answers.leases-does w events held known g sender d was_sent lines xid who f.id want s.table None
          e asking.current.from.host;
      leasing =
          λ xid who want f row term e asking c gr. answers.leases-does w events held known g sender d was_sent lines xid who f.id want _ (Some _)
          e asking.current.from.host;
      declining = λ xid who seq r v e by sq fresh why. commits-does xid who seq r (decides s v) e by sq fresh (declines-decides who r v);
      putting_off_change =
          λ xid who seq r f clash e by sq on base changing c. commits-does xid who seq r (puts_off s who f.id _) e by sq changing.fresh
          (puts-off-decides who r f.id _);
      creating =
          λ xid who seq blocks name e fresh serves can. commits-does xid who seq (Request.Create who seq name blocks) (creates s name blocks) e refl
          refl fresh (creates-decides who _ name blocks);
      writing_through =
          λ xid who seq block first last body f e changing below c. commits-does xid who seq (Request.Write who seq f.id block first last None body)
          (writes_through s who f block first body) e refl refl changing.fresh (writes-decides xid who seq block first last body f e changing.fresh);
      storing =
          λ xid who seq block first last base body f row e changing below can. commits-does xid who seq
          (Request.Write who seq f.id block first last (Some base) body) (stores s who f row block first last body) e refl refl changing.fresh
          (stores-decides xid who seq block first last base body f row e changing.fresh);
      storing_recovering =
          λ xid who seq block first final base body f until heard last e fresh p found below boot rev. commits-does xid who seq
          (Request.Write who seq f.id block first final (Some base) body) (stores_recovering s until last who f block first final body) e refl refl
          fresh (recovering-decides xid who seq block first final base body f until last e fresh);
      resizing =
          λ xid who seq q blocks f e changing can c. commits-does xid who seq (Request.Resize who seq q f.id blocks) (resizes s who q f blocks) e refl
          refl changing.fresh (resizes-decides xid who seq q blocks f e changing.fresh);
      removing =
          λ xid who seq q f e changing c. commits-does xid who seq (Request.Remove who seq q f.id) (removes s who q f) e refl refl changing.fresh
          (removes-decides xid who seq q f e changing.fresh);
    })
