-- A write is delayed, and delayed writes are lost: both keep what holds of a client's delayed writes.
use Rattle.std.proofs.Common.{◌≡◌, ◌≢◌, ◌<◌, ◌≤◌, ◌⊎◌, ℕ, ◌+◌, ◌==◌, Bool, true, false, List, [], ◌∷◌, ◌++◌, Some, if◌then◌else◌, refl, sym, subst}
use Rattle.std.proofs.Common.{ap, ◌∙◌, arith, inl, inr, append_assoc}
use Rattle.std.specs.List.{filter}
use Rattle.std.specs.Prelude.{reverse, map}
use Rattle.std.proofs.lemmas.Bool.{and_parts}
use Rattle.nq_base.specs.declared.Entry.{Entry}
use Rattle.nq_base.specs.declared.Push.{Push}
use Rattle.nq_base.specs.declared.Who.{Who}
use Rattle.nq_model.proofs.ClientLists.{marked-before}
use Rattle.walk_steps.proofs.ClientMoves.{some-same}
use Rattle.walk_files.proofs.Cuts.{IsOf, IsExcusedIn, excused-past, AreCut, NoneLoses, cut-loss}
use Rattle.walk_files.proofs.Holdings.{View, IsHeldBound, IsPastLoss, Holding, uses, held-used}
use Rattle.walk_files.proofs.Waiting.{IsWaiting, in-written, IsWritten, lost-waited, left-waiting}
use Rattle.walk_steps.proofs.Losses.{fold-losses}
use Rattle.nq_model.specs.protocol.Client.{Lease, is_push_of, lease_on, marked_used, used_lease, dirty_at, other_dirty, lets_write}
use Rattle.nq_model.specs.protocol.Hear.{push_of, other_push, loss_entry}
use Rattle.nq_model.specs.laws.Journal.{Loses, Each}
use Rattle.nq_model.specs.protocol.Server.{Server}
use Rattle.nq_model.specs.protocol.Settle.{with_write}
use Rattle.walk_steps.proofs.Packets.{In}
use Rattle.walk_steps.proofs.LogMoves.{timed}
use Rattle.walk_steps.proofs.Rows.{same-number}
use Rattle.walk_steps.proofs.Tests.{is-other}

module _ (s : Server) (who : Who) (now : ℕ) (journal : List Entry) where
  -- the view after a write was delayed
  abbrev pub written : View → (file block value : ℕ) (body : List ℕ) → View
  written v file block value body = record v {
    leases = used_lease file v.leases;
    dirty = with_write file block v.number body v.dirty (dirty_at file block v.dirty);
    number = v.number + 1;
    entries = Entry.W who file block v.number value false ∷ v.entries;
  }

  -- a write is delayed under a lease that lets it
  pub writes : (file block value : ℕ) (body : List ℕ) (lease : Lease) (v : View) → lease_on file v.leases ≡ Some lease → lets_write now lease ≡ true
      → block < lease.blocks → Holding s who now journal v → Holding s who now journal (written v file block value body)
  writes file block value body lease v held lets within h = record {
    live = u.live;
    waiting = λ p waits. by p (old p waits) (p.file == file) refl;
    blocks = λ p l waits is. below p l (old p waits) is;
    numbers = λ p waits. number p (old p waits);
    past = λ e there. past e there;
    cut = (tt, none-loses, h.cut);
    untimed = h.untimed;
    own = (refl, h.own);
    drawn = h.drawn;
    refused = u.refused;
  } where
    u : Holding s who now journal (record v { leases = used_lease file v.leases })
    u = uses s who now journal file v h

    bound : IsHeldBound s who (used_lease file v.leases) file
    bound = held-used file file v.leases (record { lease = lease; held = held; writes = (and_parts _ _ lets).0; bound = h.live file lease held lets })

    old : (p : Push) → IsWaiting (with_write file block v.number body v.dirty (dirty_at file block v.dirty)) v.push p
        → ((p.file ≡ file) × (p.block ≡ block) × (p.last ≡ v.number)) ⊎ IsWaiting v.dirty v.push p
    old p (inr under) = inr (inr under)
    old p (inl there) = case (in-written file block v.number body v.dirty (dirty_at file block v.dirty) p there)
      where
        case : IsWritten file block v.number v.dirty p → ((p.file ≡ file) × (p.block ≡ block) × (p.last ≡ v.number)) ⊎ IsWaiting v.dirty v.push p
        case (inl new) = inl new
        case (inr before) = inr (inl before)

    write : Entry
    write = Entry.W who file block v.number value false

    apart-more : (p : Push) → p.file ≢ file → IsHeldBound s who (used_lease file v.leases) p.file ⊎ IsExcusedIn (v.entries ++ journal) who p
        → IsHeldBound s who (used_lease file v.leases) p.file ⊎ IsExcusedIn (write ∷ v.entries ++ journal) who p
    apart-more p apart (inl b) = inl b
    apart-more p apart (inr excused) = inr (excused-past who p write (v.entries ++ journal) (λ in_range. apart (sym in_range.1)) excused)

    other : (p : Push) → p.file ≢ file → ((p.file ≡ file) × (p.block ≡ block) × (p.last ≡ v.number)) ⊎ IsWaiting v.dirty v.push p
        → IsHeldBound s who (used_lease file v.leases) p.file ⊎ IsExcusedIn (write ∷ v.entries ++ journal) who p
    other p apart (inl new) = absurd (apart new.0)
    other p apart (inr before) = apart-more p apart (u.waiting p before)

    by : (p : Push) → ((p.file ≡ file) × (p.block ≡ block) × (p.last ≡ v.number)) ⊎ IsWaiting v.dirty v.push p → (b : Bool) → (p.file == file) ≡ b
        → IsHeldBound s who (used_lease file v.leases) p.file ⊎ IsExcusedIn (write ∷ v.entries ++ journal) who p
    by p was true e = inl (subst (IsHeldBound s who (used_lease file v.leases)) (sym (same-number p.file file e)) bound)
    by p was false e = other p (is-other p.file file e) was

    below : (p : Push) (l : Lease) → ((p.file ≡ file) × (p.block ≡ block) × (p.last ≡ v.number)) ⊎ IsWaiting v.dirty v.push p
        → lease_on p.file (used_lease file v.leases) ≡ Some l → p.block < l.blocks
    below p l (inr before) is = u.blocks p l before is
    below p l (inl new) is =
        let m = marked-before p.file file v.leases l is in
        let one : m.before ≡ lease = some-same m.before lease (sym m.found ∙ ap (λ n. lease_on n v.leases) new.0 ∙ held) in
        let same : l.blocks ≡ lease.blocks = ap (λ z. z.blocks) m.same ∙ blocks-same m.before ∙ ap (λ z. z.blocks) one in
        let at : p.block ≡ block = new.1 in
        omega arith
      where
        blocks-same : (m : Lease) → (marked_used file m).blocks ≡ m.blocks
        blocks-same m = step (m.file == file)
          where
            step : (b : Bool) → (if b then record m { used = true } else m).blocks ≡ m.blocks
            step true = refl
            step false = refl

    number : (p : Push) → ((p.file ≡ file) × (p.block ≡ block) × (p.last ≡ v.number)) ⊎ IsWaiting v.dirty v.push p → p.last < v.number + 1
    number p (inl new) = let last = new.2 in omega arith
    number p (inr before) = let less = h.numbers p before in omega arith

    later : (e : Entry) → IsPastLoss who v.number e → IsPastLoss who (v.number + 1) e
    later (Entry.L w f b first last) k = λ host. step (k host)
      where
        step : (w.inc < who.inc) ⊎ ((w.inc ≡ who.inc) × (last < v.number)) → (w.inc < who.inc) ⊎ ((w.inc ≡ who.inc) × (last < v.number + 1))
        step (inl before) = inl before
        step (inr own) = let less = own.1 in inr (own.0, omega arith)
    later e k = tt

    past : (e : Entry) → (write ≡ e) ⊎ In (v.entries ++ journal) e → IsPastLoss who (v.number + 1) e
    past e (inl same) = subst (IsPastLoss who (v.number + 1)) same tt
    past e (inr there) = later e (h.past e there)

    outside : (loss : Entry) → IsPastLoss who v.number loss → Loses loss write → ⊥
    outside (Entry.L w f b first last) k loses = step (k (ap (λ z. z.host) (sym loses.0)))
      where
        step : (w.inc < who.inc) ⊎ ((w.inc ≡ who.inc) × (last < v.number)) → ⊥
        step (inl before) = let same : who.inc ≡ w.inc = ap (λ z. z.inc) loses.0 in absurd (omega arith)
        step (inr own) = let less = own.1 in let reaches : v.number ≤ last = loses.4 in absurd (omega arith)
    outside e k loses = loses

    none-loses : NoneLoses write (v.entries ++ journal)
    none-loses loss there loses = outside loss (h.past loss there) loses

  -- the view after a file's delayed writes were lost
  abbrev pub lost : View → (file : ℕ) → View
  lost v file = record v {
    dirty = other_dirty file v.dirty;
    push = other_push file v.push;
    entries = reverse (map (loss_entry who) (push_of file v.push ++ filter (is_push_of file) v.dirty)) ++ v.entries;
  }

  -- what holds of a journal while losses are added to it
  record Losing (v : View) (file : ℕ) (entries : List Entry) : Type 0 where
    excused : (p : Push) → IsWaiting v.dirty v.push p → IsHeldBound s who v.leases p.file ⊎ IsExcusedIn entries who p
    own : (p : Push) → IsWaiting v.dirty v.push p → p.file ≡ file → IsExcusedIn entries who p
    past : (e : Entry) → In entries e → IsPastLoss who v.number e
    cut : AreCut entries

  losing-more : (v : View) (file : ℕ) (p : Push) (entries : List Entry) → IsWaiting v.dirty v.push p → p.file ≡ file → p.last < v.number
      → Losing v file entries → Losing v file (loss_entry who p ∷ entries)
  losing-more v file p entries waits on below l = record {
    excused = λ q w. case q (l.excused q w);
    own = λ q w at. inr (λ bad. bad, l.own q w at);
    past = λ e there. past e there;
    cut = cut-loss who p entries (l.own p waits on) l.cut;
  } where
    case : (q : Push) → IsHeldBound s who v.leases q.file ⊎ IsExcusedIn entries who q
        → IsHeldBound s who v.leases q.file ⊎ IsExcusedIn (loss_entry who p ∷ entries) who q
    case q (inl b) = inl b
    case q (inr e) = inr (inr (λ bad. bad, e))

    past : (e : Entry) → (loss_entry who p ≡ e) ⊎ In entries e → IsPastLoss who v.number e
    past e (inl same) = subst (IsPastLoss who v.number) same (λ host. inr (refl, below))
    past e (inr there) = l.past e there

  timed-losses : (ps : List Push) (entries : List Entry) → timed entries ≡ [] → timed (reverse (map (loss_entry who) ps) ++ entries) ≡ []
  timed-losses ps entries none = fold-losses (λ j. timed j ≡ []) who ps entries (λ p more there h. h) none

  own-losses : (ps : List Push) (entries : List Entry) → Each (IsOf who) entries → Each (IsOf who) (reverse (map (loss_entry who) ps) ++ entries)
  own-losses ps entries own = fold-losses (Each (IsOf who)) who ps entries (λ p more there h. (refl, h)) own

  -- a file's delayed writes are lost, each of which is excused
  pub loses : (file : ℕ) (v : View) → ((p : Push) → IsWaiting v.dirty v.push p → p.file ≡ file → IsExcusedIn (v.entries ++ journal) who p)
      → Holding s who now journal v → Holding s who now journal (lost v file)
  loses file v excused h = record {
    live = h.live;
    waiting = λ p waits. l.excused p (left-waiting file v.dirty v.push p waits).0;
    blocks = λ p k waits held. h.blocks p k (left-waiting file v.dirty v.push p waits).0 held;
    numbers = λ p waits. h.numbers p (left-waiting file v.dirty v.push p waits).0;
    past = l.past;
    cut = l.cut;
    untimed = timed-losses ps v.entries h.untimed;
    own = own-losses ps v.entries h.own;
    drawn = h.drawn;
    refused = h.refused;
  } where
    ps : List Push
    ps = push_of file v.push ++ filter (is_push_of file) v.dirty

    step : (p : Push) (more : List Entry) → In ps p → Losing v file more → Losing v file (loss_entry who p ∷ more)
    step p more there k = let waited = lost-waited file v.dirty v.push p there in losing-more v file p more waited.0 waited.1 (h.numbers p waited.0) k

    l : Losing v file (reverse (map (loss_entry who) ps) ++ v.entries ++ journal)
    l = subst (Losing v file) (sym (append_assoc (reverse (map (loss_entry who) ps)) v.entries journal))
        (fold-losses (Losing v file) who ps (v.entries ++ journal) step (record { excused = h.waiting; own = excused; past = h.past; cut = h.cut }))
