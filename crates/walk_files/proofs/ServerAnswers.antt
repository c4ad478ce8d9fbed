-- Reads, leases and decisions of the server do to the calls what is said of them.
use Rattle.std.proofs.Common.{◌≡◌, ◌<◌, ◌≤◌, ℕ, Bool, true, false, ◌==◌, List, [], ◌∷◌, ◌++◌, Option, Some, None, length, refl, sym, subst, ap, ◌∙◌}
use Rattle.std.proofs.Common.{arith, inl, inr}
use Rattle.std.specs.Prelude.{slice_get}
use Rattle.std.proofs.lemmas.List.{length-append}
use Rattle.nq_base.specs.Block.{value_of}
use Rattle.nq_base.specs.declared.Entry.{Entry}
use Rattle.nq_base.specs.declared.Entry.TheVariants.{R, G}
use Rattle.nq_base.specs.declared.Event.{Event}
use Rattle.nq_base.specs.declared.Grant.{Grant}
use Rattle.nq_base.specs.declared.Reply.{Reply}
use Rattle.nq_base.specs.declared.Request.{Request}
use Rattle.nq_base.specs.declared.Verdict.{Verdict}
use Rattle.nq_base.specs.declared.Want.{Want}
use Rattle.nq_base.specs.declared.Who.{Who}
use Rattle.walk_files.proofs.CallFacts.{JournalFits, IsBounded, journal-more, called-below}
use Rattle.walk_files.proofs.Placed.{reads-called}
use Rattle.walk_files.proofs.CallsFit.{entry_who, entry_call, entry_number}
use Rattle.walk_files.proofs.CallWorlds.{CallsKnown}
use Rattle.walk_files.proofs.ClientMoves.{IsBelow}
use Rattle.walk_files.proofs.Quiet.{IsQuiet, told-more}
use Rattle.walk_files.proofs.ServerHears.{served-now, silent-quiet, refuse-reply}
use Rattle.walk_files.proofs.ServerCalls.{IsStill, Outcome, line_same, line_begins, ServerDoes}
use Rattle.walk_steps.proofs.ClientMoves.{some-same, none-some}
use Rattle.nq_model.specs.protocol.Client.{Client}
use Rattle.nq_model.specs.laws.Journal.{Exists, IsCall, call_of}
use Rattle.nq_model.specs.protocol.Kept.{File, host_row, with_row}
use Rattle.nq_model.specs.protocol.Message.{Packet, reply, asker, Datagram, request}
use Rattle.nq_model.specs.laws.OfTheirCall.{Reads}
use Rattle.nq_model.specs.protocol.Profile.{most_hosts}
use Rattle.nq_model.specs.protocol.Server.{Server, to_host, keeping_with, with_table}
use Rattle.nq_model.specs.protocol.ServerStep.{attaches, serves, grants, leases}
use Rattle.nq_model.specs.protocol.Table.{Table, with_rows}
use Rattle.nq_model.specs.protocol.World.{World}
use Rattle.walk_steps.proofs.KnownWorlds.{Known}
use Rattle.walk_steps.proofs.Packets.{In, Asked}
use Rattle.walk_steps.proofs.Worlds.{Holds}
use Rattle.walk_steps.proofs.KeptChanges.{other-line, own-line}
use Rattle.walk_steps.proofs.Rows.{same-number, number-same}
use Rattle.walk_steps.proofs.ServerOutcomes.{line_of, IsFrom}

module _ (w : World) (events : List Event) (held : Holds w) (known : Known w events) (g : CallsKnown w) (sender : ℕ) (d : Datagram)
    (was_sent : (xid : ℕ) (r : Request) → d ≡ request xid r → Asked w.packets sender xid r) (lines : length w.server.kept.hosts ≡ most_hosts) where
  abbrev s : Server
  s = w.server

  abbrev next : ℕ
  next = length w.packets

  -- an asker is no later than the running incarnation of its host
  pub asker-past : (host x : ℕ) (r : Request) (who : Who) (c : Client) → slice_get w.clients host ≡ Some c → Asked w.packets who.host x r
      → asker r ≡ Some who → who.host ≡ c.who.host → who.inc ≤ c.who.inc
  asker-past host x r who c is sent by here = ((held.clients host c is).mail.asked x r who (subst (λ n. Asked w.packets n x r) here sent) by).inc

  pub asked-by : (xid : ℕ) (who : Who) (r : Request) → d ≡ request xid r → who.host ≡ sender → Asked w.packets who.host xid r
  asked-by xid who r e from = subst (λ h. Asked w.packets h xid r) (sym from) (was_sent xid r e)

  -- an entry of the asker that has no number
  pub asker-bounded : (host xid : ℕ) (r : Request) (who : Who) (c : Client) (x : Entry) → slice_get w.clients host ≡ Some c → d ≡ request xid r
      → asker r ≡ Some who → who.host ≡ sender → entry_who x ≡ Some who → ((q : ℕ) → who ≡ c.who → entry_call x ≡ Some q → q ≤ c.calls)
      → ((n : ℕ) → who ≡ c.who → entry_number x ≡ Some n → n < c.number) → IsBounded c.who c.calls c.number x
  asker-bounded host xid r who c x is e by from of numbers writes = record {
    past =
        λ v is_by here. let one = some-same who v (sym of ∙ is_by) in
        subst (λ z. z.inc ≤ c.who.inc) one (asker-past host xid r who c is (asked-by xid who r e from) by (ap (λ z. z.host) one ∙ here));
    numbers = λ q is_by at. numbers q (some-same who c.who (sym of ∙ is_by)) at;
    writes = λ n is_by at. writes n (some-same who c.who (sym of ∙ is_by)) at;
  }

  -- a read is served
  pub serves-does : (xid : ℕ) (who : Who) (q : ℕ) (f : File) (block : ℕ) (body : List ℕ) (want : Option Want) (table : Table) (grant : Option Grant)
      → d ≡ request xid (Request.Read who q f.id block want) → who.host ≡ sender → ServerDoes w (serves s who xid next q f block body table grant)
  unfolding serves with_table
  serves-does xid who q f block body want table grant e from = record {
    journal = journal grant;
    below = λ x i. below grant x i;
    refuses = refuse-reply w.packets (λ h. host_row s.kept h) who.host xid (Reply.Read who.inc f.rev body grant) (λ inc status is. absurd (cc));
    outcome = λ host c is. line_same refl (λ x i. still grant host c is x i);
  } where
    reads : Reads f.id block (call_of w.journal who q)
    reads = g.reads sender xid (Request.Read who q f.id block want) (was_sent xid (Request.Read who q f.id block want) e)

    journal : (o : Option Grant) → JournalFits ((R who q f.id block (value_of body) (Some next) ∷ grants s who f.id o) ++ w.journal)
    journal None =
        journal-more (R who q f.id block (value_of body) (Some next)) w.journal (served-now w.journal who q f.id block next g.journal g.below reads) tt
        (λ v n h. h) g.journal
    journal (Some gr) =
        let e : Entry = G who f.id gr.mode gr.tag gr.term s.now in
        let j = journal-more e w.journal tt tt (λ v n h. h) g.journal in
        journal-more (R who q f.id block (value_of body) (Some next)) (e ∷ w.journal)
        (served-now (e ∷ w.journal) who q f.id block next j (tt, g.below) (told-more (Reads f.id block) (λ p. p) e w.journal who q reads)) tt
        (λ v n h. h) j

    sent-one : next < length (w.packets ++ to_host who.host (reply xid (Reply.Read who.inc f.rev body grant)) ∷ [])
    sent-one = omega (arith, length-append {A = Packet})

    below : (o : Option Grant) (x : Entry) → In (R who q f.id block (value_of body) (Some next) ∷ grants s who f.id o) x
        → IsBelow (length (w.packets ++ to_host who.host (reply xid (Reply.Read who.inc f.rev body grant)) ∷ [])) x
    below o x (inl same) = subst (IsBelow _) same sent-one
    below None x (inr bad) = absurd bad
    below (Some gr) x (inr (inl same)) = subst (IsBelow _) same tt
    below (Some gr) x (inr (inr bad)) = absurd bad

    quiet-grant : (v : Who) (gr : Grant) → IsQuiet v (G who f.id gr.mode gr.tag gr.term s.now)
    quiet-grant v gr = record { no_call = record { call = λ m h. h; answer = λ m h. h }; no_change = record { write = λ m h. h; resize = λ m h. h } }

    still : (o : Option Grant) (host : ℕ) (c : Client) → slice_get w.clients host ≡ Some c → (x : Entry)
        → In (R who q f.id block (value_of body) (Some next) ∷ grants s who f.id o) x → IsStill host c x
    still o host c is x (inl same) = subst (IsStill host c) same (record {
      quiet = λ v here. silent-quiet v who f.id block q (value_of body) next;
      bounded = asker-bounded host xid (Request.Read who q f.id block want) who c _ is e refl from refl
          (λ n one at. let k : q ≡ n = some-same q n at in
          subst (λ m. m ≤ c.calls) k (called-below c.who c.calls c.number c.call w.journal (g.clients host c is).calls_fit q
          (subst (λ v. Exists (IsCall v q) w.journal) one (reads-called w.journal who q f.id block reads))))
          (λ n one at. none-some n at);
    })
    still None host c is x (inr bad) = absurd bad
    still (Some gr) host c is x (inr (inl same)) = subst (IsStill host c) same (record {
      quiet = λ v here. quiet-grant v gr;
      bounded =
          asker-bounded host xid (Request.Read who q f.id block want) who c _ is e refl from refl (λ n one at. none-some n at) (λ n one at. none-some n at);
    })
    still (Some gr) host c is x (inr (inr bad)) = absurd bad

  -- a lease is granted, or not
  pub leases-does : (xid : ℕ) (who : Who) (file : ℕ) (want : Want) (table : Table) (grant : Option Grant)
      → d ≡ request xid (Request.GetLease who file want) → who.host ≡ sender → ServerDoes w (leases s who xid file table grant)
  unfolding leases with_table
  leases-does xid who file want table grant e from = record {
    journal = journal grant;
    below = λ x i. below grant x i;
    refuses = refuse-reply w.packets (λ h. host_row s.kept h) who.host xid (Reply.GetLease who.inc grant) (λ inc status is. absurd (cc));
    outcome = λ host c is. line_same refl (λ x i. still grant host c is x i);
  } where
    journal : (o : Option Grant) → JournalFits (grants s who file o ++ w.journal)
    journal None = g.journal
    journal (Some gr) = journal-more (G who file gr.mode gr.tag gr.term s.now) w.journal tt tt (λ v n h. h) g.journal

    below : (o : Option Grant) (x : Entry) → In (grants s who file o) x
        → IsBelow (length (w.packets ++ to_host who.host (reply xid (Reply.GetLease who.inc grant)) ∷ [])) x
    below None x bad = absurd bad
    below (Some gr) x (inl same) = subst (IsBelow _) same tt
    below (Some gr) x (inr bad) = absurd bad

    still : (o : Option Grant) (host : ℕ) (c : Client) → slice_get w.clients host ≡ Some c → (x : Entry) → In (grants s who file o) x → IsStill host c x
    still None host c is x bad = absurd bad
    still (Some gr) host c is x (inl same) = subst (IsStill host c) same (record {
      quiet = λ v here. record { no_call = record { call = λ m h. h; answer = λ m h. h }; no_change = record { write = λ m h. h; resize = λ m h. h } };
      bounded = asker-bounded host xid (Request.GetLease who file want) who c _ is e refl from refl (λ n one at. none-some n at) (λ n one at. none-some n at);
    })
    still (Some gr) host c is x (inr bad) = absurd bad

  -- an incarnation begins
  pub attaches-does : (xid : ℕ) (who : Who) → d ≡ request xid (Request.Attach who) → IsFrom sender who → (line_of s who).inc < who.inc
      → ServerDoes w (attaches s who xid)
  unfolding attaches keeping_with with_rows
  attaches-does xid who e from later = record {
    journal = g.journal;
    below = λ x i. absurd i;
    refuses = refuse-reply w.packets _ who.host xid (Reply.Attach who.inc) (λ inc status is. absurd (cc));
    outcome = λ host c is. outcome host c (host == who.host) refl;
  } where
    own : host_row (with_row s.kept who.host (record { inc = who.inc; seq = 0; verdict = Verdict.Done; value = 0 })) who.host ≡ record
        { inc = who.inc; seq = 0; verdict = Verdict.Done; value = 0 }
    own = own-line s.kept who.host (record { inc = who.inc; seq = 0; verdict = Verdict.Done; value = 0 }) (let p = from.possible in omega arith)

    at-own : (c : Client) → Outcome w (attaches s who xid) who.host c
    at-own c =
        line_begins (subst (λ l. (host_row s.kept who.host).inc < l.inc) (sym own) later) (ap (λ l. l.seq) own) xid who
        (asked-by xid who (Request.Attach who) e from.host) (sym (ap (λ l. l.inc) own)) refl

    outcome : (host : ℕ) (c : Client) (b : Bool) → (host == who.host) ≡ b → Outcome w (attaches s who xid) host c
    outcome host c true f = subst (λ n. Outcome w (attaches s who xid) n c) (sym (same-number host who.host f)) (at-own c)
    outcome host c false f =
        line_same (other-line s.kept who.host host _ (λ same. let yes : (host == who.host) ≡ true = number-same host who.host same in absurd (cc)))
        (λ x i. absurd i)
