-- What is known of contents in a world, and how a client's or the server's step keeps it.
use Rattle.std.proofs.Common.{◌≡◌, ◌≢◌, ◌<◌, ◌≤◌, ◌⊎◌, ℕ, true, List, [], ◌∷◌, ◌++◌, Some, None, is_some, map, refl, sym, subst, ap, ◌∙◌, arith, inl, inr}
use Rattle.std.specs.Prelude.{slice_get}
use Rattle.nq_base.specs.Block.{value_of}
use Rattle.nq_base.specs.declared.Entry.{Entry}
use Rattle.nq_base.specs.declared.Push.{Push}
use Rattle.nq_base.specs.declared.Reply.{Reply}
use Rattle.nq_base.specs.declared.Request.{Request}
use Rattle.nq_base.specs.declared.Who.{Who}
use Rattle.walk_steps.proofs.ClientFacts.{changes_file, push_in}
use Rattle.walk_files.proofs.KnownContents.{part_of, IsKnown, IsClean, IsOverKnown, IsPending, IsFair, fair-more, NoneFrom, only-delayed, Mid}
use Rattle.walk_files.proofs.KnownContents.{known-follows, clean-follows}
use Rattle.walk_files.proofs.Facts.{History, Follows, follows, Tells, tells-follows, LineTells, line-follows, FilesFit, UnusedFit}
use Rattle.walk_files.proofs.FileMoves.{files-idle, unused-idle}
use Rattle.walk_files.proofs.ServerDelays.{Never, never-delayed}
use Rattle.walk_files.proofs.ServerDoes.{history_after, Shows}
use Rattle.nq_model.specs.laws.Contents.{delayed_value}
use Rattle.nq_model.specs.protocol.Client.{Clean, Client, ClientStep, Revision, Ticket, begun, clean_at, dirty_at, revision_of}
use Rattle.nq_model.specs.protocol.Hear.{inc_of}
use Rattle.nq_model.specs.protocol.Kept.{host_row}
use Rattle.nq_model.specs.protocol.Message.{Message, Packet, call, reply}
use Rattle.nq_model.specs.protocol.Server.{ServerStep, to_host}
use Rattle.nq_model.specs.protocol.World.{World, from_host, after_server, after_client}
use Rattle.walk_steps.proofs.RunCases.{clients-after}
use Rattle.walk_steps.proofs.Mail.{packets_with, old-told}
use Rattle.walk_steps.proofs.Packets.{In, in-left, in-append, Asked, Told, message-same, Mail}
use Rattle.walk_steps.proofs.ServerSays.{AllSaid}
use Rattle.walk_steps.proofs.Sequences.{asked-before-server}

-- what a client knows of contents
pub record ClientFits (h : History) (c : Client) (ps : List Packet) : Type 0 where
  pub known : (file : ℕ) (r : Revision) → revision_of file c.revisions ≡ Some r → IsKnown h file r.rev
  pub clean : (file block : ℕ) (k : Clean) → clean_at file block c.clean ≡ Some k → IsClean h c.revisions file block k
  pub base : (t : Ticket) → c.ticket ≡ Some t → IsOverKnown c.revisions t.request
  pub again : (t : Ticket) (q : Push) → c.ticket ≡ Some t → push_in t.request ≡ Some q → is_some (dirty_at q.file q.block c.dirty) ≡ true
      → clean_at q.file q.block c.clean ≡ None
  pub changing : (t : Ticket) (file block : ℕ) → c.ticket ≡ Some t → changes_file t.request ≡ Some file → clean_at file block c.clean ≡ None
  pub told : (t : Ticket) (a : Reply) → c.ticket ≡ Some t → Told ps c.who.host (reply t.xid a) → inc_of a ≡ c.who.inc → Tells h t.request a
  pub dirty : (q : Push) → In c.dirty q → IsPending h.journal c.who q
  pub fresh : NoneFrom h.journal c.who c.number
  pub later : (w : Who) → w.host ≡ c.who.host → c.who.inc < w.inc → NoneFrom h.journal w 0
  pub counted : 1 ≤ c.seq

-- before a step
pub begun-mid : (journal : List Entry) (first : ℕ → ℕ) (next : ℕ) (c : Client) (ps : List Packet) → Mail c.who c.xid c.ticket ps
    → ClientFits (record { journal = journal; first = first; next = next }) c ps → Mid journal first next ps (part_of (begun c))
begun-mid journal first next c ps m h = record {
  known = h.known;
  clean = h.clean;
  base = h.base;
  again = h.again;
  changing = h.changing;
  told = h.told;
  numbers = λ x a sent inc. (m.replied x a sent inc).number;
  dirty = h.dirty;
  fresh = h.fresh;
  idle = tt;
  own = tt;
  later = h.later;
  counted = h.counted;
  pushes = λ x r bad. absurd bad;
}

-- after it
pub after-mid : (journal : List Entry) (first : ℕ → ℕ) (next : ℕ) (ps : List Packet) (host : ℕ) (t : ClientStep) → Mid journal first next ps (part_of t)
    → ClientFits (record { journal = t.entries ++ journal; first = first; next = next }) t.client (packets_with ps host t.sends)
after-mid journal first next ps host t h = record {
  known = h.known;
  clean = h.clean;
  base = h.base;
  again = h.again;
  changing = h.changing;
  told = λ u a is sent inc. h.told u a is (old-told ps host t.client.who.host t.sends (reply u.xid a) sent) inc;
  dirty = h.dirty;
  fresh = h.fresh;
  later = h.later;
  counted = h.counted;
}

-- another history that follows, with the same writes of this host
pub fits-follows : {h g : History} (c : Client) (ps qs : List Packet) → Follows h g
    → ((w : Who) (file block n : ℕ) → w.host ≡ c.who.host → delayed_value g.journal w file block n ≡ delayed_value h.journal w file block n)
    → ((t : Ticket) (a : Reply) → c.ticket ≡ Some t → Told qs c.who.host (reply t.xid a) → inc_of a ≡ c.who.inc
    → Told ps c.who.host (reply t.xid a) ⊎ Tells g t.request a) → ClientFits h c ps → ClientFits g c qs
fits-follows {h = h} {g = g} c ps qs f same new k = record {
  known = λ file r is. known-follows file r.rev f (k.known file r is);
  clean = λ file block b is. clean-follows c.revisions file block b f (k.clean file block b is);
  base = k.base;
  again = k.again;
  changing = k.changing;
  told = λ t a is sent inc. told t a is inc (new t a is sent inc);
  dirty = λ q i. f.delayed c.who q.file q.block q.last (value_of q.body) (k.dirty q i);
  fresh = λ file block n above. same c.who file block n refl ∙ k.fresh file block n above;
  later = λ w home above file block n zero. same w file block n home ∙ k.later w home above file block n zero;
  counted = k.counted;
} where
  told : (t : Ticket) (a : Reply) → c.ticket ≡ Some t → inc_of a ≡ c.who.inc → Told ps c.who.host (reply t.xid a) ⊎ Tells g t.request a → Tells g t.request a
  told t a is inc (inl old) = tells-follows t.request a f (k.told t a is old inc)
  told t a is inc (inr true_now) = true_now

-- ---- a world

abbrev pub history_now : (ℕ → ℕ) → World → History
history_now first w = record { journal = w.journal; first = first; next = w.server.kept.next }

pub record Fits (first : ℕ → ℕ) (w : World) : Type 0 where
  pub files : FilesFit (history_now first w) w.server.kept.files
  pub unused : UnusedFit (history_now first w)
  pub lines : (host : ℕ) → LineTells (history_now first w) w.packets host (host_row w.server.kept host)
  pub fair : (host x : ℕ) (r : Request) → Asked w.packets host x r → IsFair w.journal r
  pub clients : (host : ℕ) (c : Client) → slice_get w.clients host ≡ Some c → ClientFits (history_now first w) c w.packets

pub fair-all : (es j : List Entry) (r : Request) → IsFair j r → IsFair (es ++ j) r
fair-all [] j r h = h
fair-all (e ∷ es) j r h = fair-more e (es ++ j) r (fair-all es j r h)

-- a step of a client
pub client-fits : (first after : ℕ → ℕ) (w : World) (host : ℕ) (t : ClientStep) → ((id : ℕ) → id < w.server.kept.next → after id ≡ first id)
    → t.client.who.host ≡ host → ((other : ℕ) (c : Client) → slice_get w.clients other ≡ Some c → c.who.host ≡ other)
    → Mid w.journal first w.server.kept.next w.packets (part_of t) → Fits first w → Fits after (after_client w host t)
unfolding after_client
client-fits first after w host t same here home m h = record {
  files = files-idle (history_now first w) t.entries after m.idle same w.server.kept.files h.files;
  unused = unused-idle (history_now first w) t.entries after w.server.kept.next m.idle (omega arith) h.unused;
  lines =
      λ other. line-follows w.packets (packets_with w.packets host t.sends) other (host_row w.server.kept other) follow
      (λ x r a. in-left w.packets (map (from_host host) t.sends) (from_host other (call x r)) a) (h.lines other);
  fair = λ other x r asked. fair other x r (in-append w.packets (map (from_host host) t.sends) (from_host other (call x r)) asked);
  clients = clients-after (λ other c v. ClientFits (history_now after v) c v.packets) w host t own others;
} where
  follow : Follows (history_now first w) (record { journal = t.entries ++ w.journal; first = after; next = w.server.kept.next })
  follow = follows (history_now first w) t.entries after w.server.kept.next (omega arith) same

  renamed : Follows (record { journal = t.entries ++ w.journal; first = first; next = w.server.kept.next })
      (record { journal = t.entries ++ w.journal; first = after; next = w.server.kept.next })
  renamed = follows (record { journal = t.entries ++ w.journal; first = first; next = w.server.kept.next }) [] after w.server.kept.next (omega arith) same

  own : ClientFits (history_now after (after_client w host t)) t.client (after_client w host t).packets
  own =
      fits-follows t.client (packets_with w.packets host t.sends) (packets_with w.packets host t.sends) renamed (λ v file block n e. refl)
      (λ u a is sent inc. inl sent) (after-mid w.journal first w.server.kept.next w.packets host t m)

  others : (other : ℕ) (c : Client) → other ≢ host → slice_get w.clients other ≡ Some c
      → ClientFits (history_now after (after_client w host t)) c (after_client w host t).packets
  others other c apart is =
      fits-follows c w.packets (packets_with w.packets host t.sends) follow
      (λ v file block n e. only-delayed t.client.who v t.entries w.journal file block n m.own
      (λ one. apart (sym (home other c is) ∙ sym e ∙ ap (λ z. z.host) one ∙ here)))
      (λ u a has sent inc. inl (old-told w.packets host c.who.host t.sends (reply u.xid a) sent)) (h.clients other c is)

  fair : (other x : ℕ) (r : Request) → In w.packets (from_host other (call x r)) ⊎ In (map (from_host host) t.sends) (from_host other (call x r))
      → IsFair (t.entries ++ w.journal) r
  fair other x r (inl old) = fair-all t.entries w.journal r (h.fair other x r old)
  fair other x r (inr new) = m.pushes x r (sent t.sends new)
    where
      sent : (ms : List Message) → In (map (from_host host) ms) (from_host other (call x r)) → In ms (call x r)
      sent [] bad = bad
      sent (n ∷ ms) (inl e) = inl (message-same host other n (call x r) e).1
      sent (n ∷ ms) (inr i) = inr (sent ms i)

-- a step of the server
pub server-fits : (first after : ℕ → ℕ) (w : World) (t : ServerStep) → AllSaid w.packets t.sends → Never t.entries
    → ((other : ℕ) (c : Client) → slice_get w.clients other ≡ Some c → Mail c.who c.xid c.ticket w.packets)
    → Shows w.journal first after w.packets w.server t → Fits first w → Fits after (after_server w t)
unfolding after_server
server-fits first after w t said never mail shows h = record {
  files = shows.files;
  unused = shows.unused;
  lines = λ host. line-more (host_row t.server.kept host) host (shows.lines host);
  fair = λ host x r asked. fair-all t.entries w.journal r (h.fair host x r (asked-before-server w.packets t.sends said host x r asked));
  clients = λ host c is. fits-follows c w.packets (w.packets ++ t.sends) shows.follow
      (λ v file block n e. never-delayed t.entries w.journal v file block n never)
      (λ u a has sent inc. case host c is u a has inc (in-append w.packets t.sends (to_host c.who.host (reply u.xid a)) sent)) (h.clients host c is);
} where
  g : History
  g = history_after w.journal after t

  line-more : (line : _) (host : ℕ) → LineTells g w.packets host line → LineTells g (w.packets ++ t.sends) host line
  line-more line host k =
      line-follows w.packets (w.packets ++ t.sends) host line (follows g [] after t.server.kept.next (omega arith) (λ id d. refl))
      (λ x r a. in-left w.packets t.sends (from_host host (call x r)) a) k

  case : (host : ℕ) (c : Client) → slice_get w.clients host ≡ Some c → (u : Ticket) (a : Reply) → c.ticket ≡ Some u → inc_of a ≡ c.who.inc
      → In w.packets (to_host c.who.host (reply u.xid a)) ⊎ In t.sends (to_host c.who.host (reply u.xid a))
      → In w.packets (to_host c.who.host (reply u.xid a)) ⊎ Tells g u.request a
  case host c is u a has inc (inl old) = inl old
  case host c is u a has inc (inr new) =
      let k = shows.replies c.who.host u.xid a new in
      let same : u.request ≡ k.asks = ((mail host c is).asked u.xid k.asks k.who k.sent k.by).same (sym k.inc ∙ inc) u has refl in
      inr (subst (λ r. Tells g r a) (sym same) k.tells)
