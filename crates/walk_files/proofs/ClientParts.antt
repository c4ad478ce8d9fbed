-- What a client knows of contents, in the middle of a step, kept by each small change of it.
use Rattle.std.proofs.Common.{◌≡◌, ◌≢◌, ◌≤◌, ◌⊎◌, ℕ, ◌+◌, ◌==◌, Bool, true, false, List, [], ◌∷◌, ◌++◌, Option, Some, None, is_some}
use Rattle.std.proofs.Common.{refl, sym, subst, ap, ◌∙◌, arith, inl, inr}
use Rattle.std.proofs.lemmas.Bool.{both_ways}
use Rattle.nq_base.specs.Block.{value_of}
use Rattle.nq_base.specs.declared.Entry.{Entry}
use Rattle.nq_base.specs.declared.Push.{Push}
use Rattle.nq_base.specs.declared.Request.{Request}
use Rattle.nq_base.specs.declared.Who.{Who}
use Rattle.walk_steps.proofs.ClientFacts.{changes_file, push_in}
use Rattle.nq_model.proofs.ClientLists.{other-revision-put}
use Rattle.walk_steps.proofs.ClientMoves.{some-same, none-some}
use Rattle.walk_files.proofs.ClientLookups.{IsBlock, this-or-other, found-dropped, clean-dropped, in-written, IsWritten, was_there, is_new}
use Rattle.walk_files.proofs.ClientLookups.{written-elsewhere, revision-after, revision-put}
use Rattle.walk_files.proofs.Facts.{History, Follows, follows, HadValue, SetsBlock, Tells, tells-follows}
use Rattle.walk_files.proofs.Histories.{delayed-more}
use Rattle.nq_model.specs.laws.Contents.{changes, delayed_by, delayed_value}
use Rattle.nq_model.specs.protocol.Client.{Clean, Revision, Ticket, clean_at, drop_clean, dirty_at, put_revision, revision_of}
use Rattle.nq_model.specs.protocol.Message.{Message, Packet, call, reply}
use Rattle.nq_model.specs.protocol.Settle.{with_write}
use Rattle.walk_steps.proofs.Packets.{In, in-last, Told}
use Rattle.walk_steps.proofs.Rows.{same-number, number-same}
use Rattle.walk_files.proofs.KnownContents.{IsClean, IsFair, IsKnown, IsOverKnown, IsPending, Mid, Part, call-same-request, clean-follows, delayed-later, delayed-other, delayed-step, fair-more, history_in, known-follows}

module _ (journal : List Entry) (first : ℕ → ℕ) (next : ℕ) (ps : List Packet) where
  abbrev MidOf : Part → Type 0
  MidOf p = Mid journal first next ps p

  one-follows : (p : Part) (e : Entry) → Follows (history_in journal first next p.entries) (history_in journal first next (e ∷ p.entries))
  one-follows p e = follows (history_in journal first next p.entries) (e ∷ []) first next (omega arith) (λ id drawn. refl)

  -- an entry that changes no file and delays no write
  pub notes-entry : (p : Part) (e : Entry) → ((file : ℕ) → changes e file ≡ false) → ((w : Who) (file block n : ℕ) → delayed_by e w file block n ≡ None)
      → MidOf p → MidOf (record p { entries = e ∷ p.entries })
  notes-entry p e none idle h =
      let f = one-follows p e in
      record {
        known = λ file r is. known-follows file r.rev f (h.known file r is);
        clean = λ file block k is. clean-follows p.revisions file block k f (h.clean file block k is);
        base = h.base;
        again = h.again;
        changing = h.changing;
        told = λ t a is sent inc. tells-follows t.request a f (h.told t a is sent inc);
        numbers = h.numbers;
        dirty = λ q i. f.delayed p.who q.file q.block q.last (value_of q.body) (h.dirty q i);
        fresh = λ file block n above. rw (h.fresh file block n above, idle p.who file block n) refl;
        later = λ w home above file block n zero. rw (h.later w home above file block n zero, idle w file block n) refl;
        idle = (none, h.idle);
        own = ((λ w file block n apart. idle w file block n), h.own);
        counted = h.counted;
        pushes = λ x r i. fair-more e (p.entries ++ journal) r (h.pushes x r i);
      }

  -- clean blocks go, or change their order
  pub clean-fewer : (p : Part) (clean : List Clean)
      → ((file block : ℕ) (k : Clean) → clean_at file block clean ≡ Some k → clean_at file block p.clean ≡ Some k) → MidOf p
      → MidOf (record p { clean = clean })
  clean-fewer p clean old h = record {
    known = h.known;
    clean = λ file block k is. h.clean file block k (old file block k is);
    base = h.base;
    again = λ t q is at some. none q.file q.block (clean_at q.file q.block clean) refl (h.again t q is at some);
    changing = λ t file block is at. none file block (clean_at file block clean) refl (h.changing t file block is at);
    told = h.told;
    numbers = h.numbers;
    dirty = h.dirty;
    fresh = h.fresh;
    idle = h.idle;
    own = h.own;
    later = h.later;
    counted = h.counted;
    pushes = h.pushes;
  } where
    none : (file block : ℕ) (o : Option Clean) → clean_at file block clean ≡ o → clean_at file block p.clean ≡ None → clean_at file block clean ≡ None
    none file block None is was = is
    none file block (Some k) is was = none-some k (sym was ∙ old file block k is)

  -- delayed writes go, while no request is under way
  pub dirty-fewer : (p : Part) (dirty : List Push) → p.ticket ≡ None → ((q : Push) → In dirty q → In p.dirty q) → MidOf p → MidOf (record p { dirty = dirty })
  dirty-fewer p dirty free old h = record {
    known = h.known;
    clean = h.clean;
    base = h.base;
    again = λ t q is at some. none-some t (sym free ∙ is);
    changing = h.changing;
    told = h.told;
    numbers = h.numbers;
    dirty = λ q i. h.dirty q (old q i);
    fresh = h.fresh;
    idle = h.idle;
    own = h.own;
    later = h.later;
    counted = h.counted;
    pushes = h.pushes;
  }

  -- the request under way is one that was, but for its sending times, or none
  pub ticket-fewer : (p : Part) (ticket : Option Ticket)
      → ((t : Ticket) → ticket ≡ Some t → (u : Ticket) × (p.ticket ≡ Some u) × (u.xid ≡ t.xid) × (u.request ≡ t.request)) → MidOf p
      → MidOf (record p { ticket = ticket })
  ticket-fewer p ticket old h = record {
    known = h.known;
    clean = h.clean;
    base = λ t is. let u = old t is in subst (IsOverKnown p.revisions) u.3 (h.base u.0 u.1);
    again = λ t q is at some. let u = old t is in h.again u.0 q u.1 (ap push_in u.3 ∙ at) some;
    changing = λ t file block is at. let u = old t is in h.changing u.0 file block u.1 (ap changes_file u.3 ∙ at);
    told =
        λ t a is sent inc. let u = old t is in
        subst (λ r. Tells (history_in journal first next p.entries) r a) u.3
        (h.told u.0 a u.1 (subst (λ x. Told ps p.who.host (reply x a)) (sym u.2) sent) inc);
    numbers = h.numbers;
    dirty = h.dirty;
    fresh = h.fresh;
    idle = h.idle;
    own = h.own;
    later = h.later;
    counted = h.counted;
    pushes = h.pushes;
  }

  pushes-more : (p : Part) (m : Message) → ((x : ℕ) (r : Request) → m ≡ call x r → IsFair (p.entries ++ journal) r) → MidOf p → (x : ℕ) (r : Request)
      → In (p.sends ++ m ∷ []) (call x r) → IsFair (p.entries ++ journal) r
  pushes-more p m pushed h x r i = case (in-last p.sends m (call x r) i)
    where
      case : In p.sends (call x r) ⊎ (m ≡ call x r) → IsFair (p.entries ++ journal) r
      case (inl old) = h.pushes x r old
      case (inr new) = pushed x r new

  -- a message is sent, and numbers are drawn
  pub sends-more : (p : Part) (m : Message) (xid : ℕ) → p.xid ≤ xid → ((x : ℕ) (r : Request) → m ≡ call x r → IsFair (p.entries ++ journal) r) → MidOf p
      → MidOf (record p { xid = xid; sends = p.sends ++ m ∷ [] })
  sends-more p m xid more pushed h = record {
    known = h.known;
    clean = h.clean;
    base = h.base;
    again = h.again;
    changing = h.changing;
    told = h.told;
    numbers = λ x a sent inc. let below = h.numbers x a sent inc in omega arith;
    dirty = h.dirty;
    fresh = h.fresh;
    idle = h.idle;
    own = h.own;
    later = h.later;
    counted = h.counted;
    pushes = pushes-more p m pushed h;
  }

  -- what a request that is sent needs
  pub record CanSend (p : Part) (r : Request) : Type 0 where
    pub base : IsOverKnown p.revisions r
    pub again : (q : Push) → push_in r ≡ Some q → dirty_at q.file q.block p.dirty ≡ None
    pub changing : (file block : ℕ) → changes_file r ≡ Some file → clean_at file block p.clean ≡ None
    pub pushed : IsFair (p.entries ++ journal) r

  -- a request is sent, and is under way
  pub sends-ticket : (p : Part) (t : Ticket) → t.xid ≡ p.xid → CanSend p t.request → MidOf p
      → MidOf (record p { ticket = Some t; xid = p.xid + 1; sends = p.sends ++ call p.xid t.request ∷ [] })
  sends-ticket p t numbered can h = record {
    known = h.known;
    clean = h.clean;
    base = λ u is. subst (λ z. IsOverKnown p.revisions z.request) (some-same t u is) can.base;
    again = λ u q is at some. absurd (clean-now q (can.again q (ap (λ z. push_in z.request) (some-same t u is) ∙ at)) some);
    changing = λ u file block is at. can.changing file block (ap (λ z. changes_file z.request) (some-same t u is) ∙ at);
    told = λ u a is sent inc. let below = h.numbers u.xid a sent inc in let one : t.xid ≡ u.xid = ap (λ z. z.xid) (some-same t u is) in absurd (omega arith);
    numbers = λ x a sent inc. let below = h.numbers x a sent inc in omega arith;
    dirty = h.dirty;
    fresh = h.fresh;
    idle = h.idle;
    own = h.own;
    later = h.later;
    counted = h.counted;
    pushes = pushes-more p (call p.xid t.request) (λ x r e. subst (IsFair (p.entries ++ journal)) (call-same-request p.xid x t.request r e) can.pushed) h;
  } where
    clean-now : (q : Push) → dirty_at q.file q.block p.dirty ≡ None → is_some (dirty_at q.file q.block p.dirty) ≡ true → ⊥
    clean-now q none some = let no : is_some (dirty_at q.file q.block p.dirty) ≡ false = ap is_some none in absurd (cc)

  -- a write is delayed
  pub delays-write : (p : Part) (file block : ℕ) (body : List ℕ) (o : Option Push) → MidOf p
      → MidOf
      (record p {
        number = p.number + 1;
        clean = drop_clean file block p.clean;
        dirty = with_write file block p.number body p.dirty o;
        entries = Entry.W
            p.who file block p.number (value_of body) false ∷ p.entries;
      })
  delays-write p file block body o h =
      let f = one-follows p w in
      record {
        known = λ f' r is. known-follows f' r.rev f (h.known f' r is);
        clean = λ f' b k is. clean-follows p.revisions f' b k f (h.clean f' b k (found-dropped f' b file block p.clean k is));
        base = h.base;
        again = λ t q is at some. undirty t q is at some (this-or-other q.file q.block file block);
        changing = λ t f' b is at. none f' b (clean_at f' b (drop_clean file block p.clean)) refl (h.changing t f' b is at);
        told = λ t a is sent inc. tells-follows t.request a f (h.told t a is sent inc);
        numbers = h.numbers;
        dirty = λ q i. pending q (in-written file block p.number body p.dirty o q i);
        fresh = λ f' b n above. rw (h.fresh f' b n (omega arith), delayed-later p.who file block p.number (value_of body) f' b n above) refl;
        idle = ((λ f'. refl), h.idle);
        own = ((λ v f' b n apart. delayed-other p.who v file block p.number (value_of body) f' b n apart), h.own);
        later =
            λ v home above f' b n zero. rw (
              h.later v home above f' b n zero,
              delayed-other p.who v file block p.number (value_of body) f' b n
                  (λ same. let e : v.inc ≡ p.who.inc = ap (λ z. z.inc) same in absurd (omega arith)),
            ) refl;
        counted = h.counted;
        pushes = λ x r i. fair-more w (p.entries ++ journal) r (h.pushes x r i);
      }
    where
      w : Entry
      w = Entry.W p.who file block p.number (value_of body) false

      none : (f' b : ℕ) (c : Option Clean) → clean_at f' b (drop_clean file block p.clean) ≡ c → clean_at f' b p.clean ≡ None
          → clean_at f' b (drop_clean file block p.clean) ≡ None
      none f' b None is was = is
      none f' b (Some k) is was = none-some k (sym was ∙ found-dropped f' b file block p.clean k is)

      undirty : (t : Ticket) (q : Push) → p.ticket ≡ Some t → push_in t.request ≡ Some q
          → is_some (dirty_at q.file q.block (with_write file block p.number body p.dirty o)) ≡ true
          → IsBlock q.file q.block file block ⊎ (IsBlock q.file q.block file block → ⊥) → clean_at q.file q.block (drop_clean file block p.clean) ≡ None
      undirty t q is at some (inl one) =
          subst (λ n. clean_at n q.block (drop_clean file block p.clean) ≡ None) (sym one.file_same)
          (subst (λ n. clean_at file n (drop_clean file block p.clean) ≡ None) (sym one.block_same) (clean-dropped file block p.clean))
      undirty t q is at some (inr other) =
          none q.file q.block (clean_at q.file q.block (drop_clean file block p.clean)) refl
          (h.again t q is at (written-elsewhere q.file q.block file block p.number body p.dirty o other some))

      new-value : delayed_value (w ∷ p.entries ++ journal) p.who file block p.number ≡ Some (value_of body)
      new-value = rw (h.fresh file block p.number (omega arith), delayed-step p.who file block p.number (value_of body)) refl

      pending : (q : Push) → IsWritten file block p.number body p.dirty q → IsPending (w ∷ p.entries ++ journal) p.who q
      pending q (was_there i) = delayed-more (w ∷ []) (p.entries ++ journal) p.who q.file q.block q.last (value_of q.body) (h.dirty q i)
      pending q (is_new file_same block_same last_same body_same) =
          subst (λ n. delayed_value (w ∷ p.entries ++ journal) p.who n q.block q.last ≡ Some (value_of q.body)) (sym file_same)
          (subst (λ n. delayed_value (w ∷ p.entries ++ journal) p.who file n q.last ≡ Some (value_of q.body)) (sym block_same)
          (subst (λ n. delayed_value (w ∷ p.entries ++ journal) p.who file block n ≡ Some (value_of q.body)) (sym last_same)
          (subst (λ b. delayed_value (w ∷ p.entries ++ journal) p.who file block p.number ≡ Some (value_of b)) (sym body_same) new-value)))

  -- ---- a revision becomes known, while no request is under way

  revised : (p : Part) (file rev : ℕ) (clean : List Clean) → p.ticket ≡ None → IsKnown (history_in journal first next p.entries) file rev
      → ((f b : ℕ) (k : Clean) → clean_at f b clean ≡ Some k
      → IsClean (history_in journal first next p.entries) (put_revision file rev p.revisions) f b k) → MidOf p
      → MidOf (record p { clean = clean; revisions = put_revision file rev p.revisions })
  revised p file rev clean free knows cleans h = record {
    known = λ f r is. case f r (revision-after f file rev r p.revisions is);
    clean = cleans;
    base = λ t is. none-some t (sym free ∙ is);
    again = λ t q is at some. none-some t (sym free ∙ is);
    changing = λ t f b is at. none-some t (sym free ∙ is);
    told = λ t a is sent inc. none-some t (sym free ∙ is);
    numbers = h.numbers;
    dirty = h.dirty;
    fresh = h.fresh;
    idle = h.idle;
    own = h.own;
    later = h.later;
    counted = h.counted;
    pushes = h.pushes;
  } where
    case : (f : ℕ) (r : Revision) → ((f ≡ file) × (r.rev ≡ rev)) ⊎ ((f ≢ file) × (revision_of f p.revisions ≡ Some r))
        → IsKnown (history_in journal first next p.entries) f r.rev
    case f r (inl same) =
        subst (λ n. IsKnown (history_in journal first next p.entries) n r.rev) (sym same.0)
        (subst (λ n. IsKnown (history_in journal first next p.entries) file n) (sym same.1) knows)
    case f r (inr other) = h.known f r other.1

  -- a clean block of another file stays
  other-stays : (p : Part) (file rev f b : ℕ) (k : Clean) → f ≢ file → clean_at f b p.clean ≡ Some k → MidOf p
      → IsClean (history_in journal first next p.entries) (put_revision file rev p.revisions) f b k
  other-stays p file rev f b k apart is h =
      let c = h.clean f b k is in
      record { revision = c.revision; known = other-revision-put file rev f p.revisions apart ∙ c.known; had = c.had }

  -- none of the file's clean blocks is left
  pub forgets : (p : Part) (file rev : ℕ) (clean : List Clean) → p.ticket ≡ None → IsKnown (history_in journal first next p.entries) file rev
      → ((f b : ℕ) (k : Clean) → clean_at f b clean ≡ Some k → (f ≢ file) × (clean_at f b p.clean ≡ Some k)) → MidOf p
      → MidOf (record p { clean = clean; revisions = put_revision file rev p.revisions })
  forgets p file rev clean free knows old h = revised p file rev clean free knows (λ f b k is. let o = old f b k is in other-stays p file rev f b k
      o.0 o.1 h) h

  -- the revision was known
  pub confirms : (p : Part) (file rev : ℕ) (r : Revision) → p.ticket ≡ None → revision_of file p.revisions ≡ Some r → r.rev ≡ rev → MidOf p
      → MidOf (record p { revisions = put_revision file rev p.revisions })
  confirms p file rev r free was same h =
      revised p file rev p.clean free (subst (IsKnown (history_in journal first next p.entries) file) same (h.known file r was))
      (λ f b k is. stays f b k is (f == file) refl) h
    where
      stays : (f b : ℕ) (k : Clean) → clean_at f b p.clean ≡ Some k → (x : Bool) → (f == file) ≡ x
          → IsClean (history_in journal first next p.entries) (put_revision file rev p.revisions) f b k
      stays f b k is true e =
          let one : f ≡ file = same-number _ _ e in
          let c = h.clean f b k is in
          let mine : c.revision ≡ r = some-same c.revision r (sym c.known ∙ ap (λ n. revision_of n p.revisions) one ∙ was) in
          record {
            revision = record { file = file; rev = rev };
            known = ap (λ n. revision_of n (put_revision file rev p.revisions)) one ∙ revision-put file rev p.revisions;
            had = subst (λ n. HadValue (history_in journal first next p.entries) f n b (value_of k.body)) (ap (λ z. z.rev) mine ∙ same) c.had;
          }
      stays f b k is false e = other-stays p file rev f b k (λ one. absurd (let yes : (f == file) ≡ true = number-same f file one in both_ways _ e yes)) is h

  -- the next revision sets one block
  pub sets : (p : Part) (file rev block v : ℕ) (clean : List Clean) → p.ticket ≡ None
      → SetsBlock (history_in journal first next p.entries) file rev block v
      → ((r : Revision) → revision_of file p.revisions ≡ Some r → rev ≡ r.rev + 1)
      → ((f b : ℕ) (k : Clean) → clean_at f b clean ≡ Some k
      → (IsBlock f b file block × (value_of k.body ≡ v)) ⊎ ((IsBlock f b file block → ⊥) × (clean_at f b p.clean ≡ Some k))) → MidOf p
      → MidOf (record p { clean = clean; revisions = put_revision file rev p.revisions })
  sets p file rev block v clean free set before old h =
      revised p file rev clean free (record { drawn = set.value.drawn; reached = set.value.had.reached }) (λ f b k is. cleans f b k (old f b k is)) h
    where
      g : History
      g = history_in journal first next p.entries

      same-file : (f b : ℕ) (k : Clean) → f ≡ file → HadValue g file rev b (value_of k.body) → IsClean g (put_revision file rev p.revisions) f b k
      same-file f b k one had = record {
        revision = record { file = file; rev = rev };
        known = ap (λ n. revision_of n (put_revision file rev p.revisions)) one ∙ revision-put file rev p.revisions;
        had = subst (λ n. HadValue g n rev b (value_of k.body)) (sym one) had;
      }

      kept : (f b : ℕ) (k : Clean) → (IsBlock f b file block → ⊥) → clean_at f b p.clean ≡ Some k → (x : Bool) → (f == file) ≡ x
          → IsClean g (put_revision file rev p.revisions) f b k
      kept f b k other is true e =
          let one : f ≡ file = same-number _ _ e in
          let c = h.clean f b k is in
          same-file f b k one (set.others c.revision.rev b (value_of k.body)
          (before c.revision (ap (λ n. revision_of n p.revisions) (sym one) ∙ c.known))
          (λ same. other (record { file_same = one; block_same = same })) (subst (λ n. HadValue g n c.revision.rev b (value_of k.body)) one c.had))
      kept f b k other is false e =
          other-stays p file rev f b k (λ one. absurd (let yes : (f == file) ≡ true = number-same f file one in both_ways _ e yes)) is h

      cleans : (f b : ℕ) (k : Clean) → (IsBlock f b file block × (value_of k.body ≡ v))
          ⊎ ((IsBlock f b file block → ⊥) × (clean_at f b p.clean ≡ Some k)) → IsClean g (put_revision file rev p.revisions) f b k
      cleans f b k (inl one) =
          same-file f b k one.0.file_same
          (subst (λ n. HadValue g file rev n (value_of k.body)) (sym one.0.block_same) (subst (HadValue g file rev block) (sym one.1) set.value))
      cleans f b k (inr o) = kept f b k o.0 o.1 (f == file) refl

  -- a block of the known revision is cached
  pub caches : (p : Part) (file block v : ℕ) (r : Revision) (clean : List Clean) → p.ticket ≡ None → revision_of file p.revisions ≡ Some r
      → HadValue (history_in journal first next p.entries) file r.rev block v
      → ((f b : ℕ) (k : Clean) → clean_at f b clean ≡ Some k
      → (IsBlock f b file block × (value_of k.body ≡ v)) ⊎ ((IsBlock f b file block → ⊥) × (clean_at f b p.clean ≡ Some k))) → MidOf p
      → MidOf (record p { clean = clean })
  caches p file block v r clean free was had old h = record {
    known = h.known;
    clean = λ f b k is. case f b k (old f b k is);
    base = h.base;
    again = λ t q is at some. none-some t (sym free ∙ is);
    changing = λ t f b is at. none-some t (sym free ∙ is);
    told = h.told;
    numbers = h.numbers;
    dirty = h.dirty;
    fresh = h.fresh;
    idle = h.idle;
    own = h.own;
    later = h.later;
    counted = h.counted;
    pushes = h.pushes;
  } where
    case : (f b : ℕ) (k : Clean) → (IsBlock f b file block × (value_of k.body ≡ v)) ⊎ ((IsBlock f b file block → ⊥) × (clean_at f b p.clean ≡ Some k))
        → IsClean (history_in journal first next p.entries) p.revisions f b k
    case f b k (inl one) = record {
      revision = r;
      known = ap (λ n. revision_of n p.revisions) one.0.file_same ∙ was;
      had =
          subst (λ n. HadValue (history_in journal first next p.entries) n r.rev b (value_of k.body)) (sym one.0.file_same)
          (subst (λ n. HadValue (history_in journal first next p.entries) file r.rev n (value_of k.body)) (sym one.0.block_same)
          (subst (HadValue (history_in journal first next p.entries) file r.rev block) (sym one.1) had));
    }
    case f b k (inr o) = h.clean f b k o.1
