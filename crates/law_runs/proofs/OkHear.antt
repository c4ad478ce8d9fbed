-- What is kept of a client's call under way, where a reply or a notice is heard.
use Rattle.std.proofs.Common.{◌≡◌, ◌<◌, ◌⊎◌, ℕ, Bool, true, false, ◌&&◌, ◌==◌, List, [], ◌∷◌, ◌++◌, Option, Some, None, map, if◌then◌else◌, refl, sym}
use Rattle.std.proofs.Common.{subst, ap, ◌∙◌, inl, inr, append_assoc}
use Rattle.std.specs.Prelude.{reverse}
use Rattle.nq_base.specs.declared.Call.{Call}
use Rattle.nq_base.specs.declared.Entry.{Entry}
use Rattle.nq_base.specs.declared.Entry.TheVariants.{L}
use Rattle.nq_base.specs.declared.HostRow.{HostRow}
use Rattle.nq_base.specs.declared.Loss.{Loss}
use Rattle.nq_base.specs.declared.Push.{Push}
use Rattle.nq_base.specs.declared.Who.{Who}
use Rattle.walk_files.proofs.CallsFit.{entry_who}
use Rattle.walk_steps.proofs.ClientMoves.{some-same, none-some}
use Rattle.nq_model.proofs.ByFile.{of-added}
use Rattle.nq_model.specs.protocol.Client.{Client, ClientStep, Ticket, UnderWay, losses_of, is_push_of, other_dirty, file_of_loss, add_losses}
use Rattle.nq_model.specs.protocol.Hear.{loss_of, loss_entry, all_dirty, other_push, loses, waits_for, with_through, marks_through}
use Rattle.nq_model.specs.laws.Journal.{Throughout, Each}
use Rattle.nq_model.specs.laws.LossesAreReported.{cleans}
use Rattle.walk_steps.proofs.Members.{in-filtered}
use Rattle.walk_steps.proofs.Packets.{In, in-append}
use Rattle.walk_steps.proofs.Rows.{same-number, number-same}
use Rattle.law_runs.proofs.KeptPlaces.{KeptHere}
use Rattle.law_runs.proofs.OkFacts.{PutWaits, IsOpenAs, KeepsOk, All, Book, book_of, Mid}
use Rattle.law_runs.proofs.OkMoves.{open-more, put-more, writes-there, loss-there}

-- after the request under way was spent: none is under way, and the call is still the one that was
pub record Spent (call : Option UnderWay) (Spared : UnderWay → Type 0) (line : HostRow) (journal : List Entry) (t : ClientStep) : Type 0 where
  pub mid : Mid Spared line journal (book_of t)
  pub free : t.client.ticket ≡ None
  pub from : (u : UnderWay) → t.client.call ≡ Some u → call ≡ Some u

-- where the call under way is spared
pub mid-spared : {Spared : UnderWay → Type 0} {line : HostRow} {journal : List Entry} (b : Book) → ((u : UnderWay) → b.call ≡ Some u → Spared u)
    → Mid Spared line journal b → Mid All line journal b
mid-spared b spared m = record {
  keeps = record {
    fits = m.keeps.fits;
    is_open = m.keeps.is_open;
    told = λ u file is all. m.keeps.told u file is (spared u is);
    put = λ u file block body is all. m.keeps.put u file block body is (spared u is);
    made = m.keeps.made;
    numbers = m.keeps.numbers;
  };
  above = m.above;
  kept = m.kept;
  own = m.own;
}

-- ---- the call is marked

through-from : (on : Bool) (o : Option UnderWay) (v : UnderWay) → with_through on o ≡ Some v → (u : UnderWay) × (o ≡ Some u) × (record u { through = on } ≡ v)
through-from on None v e = none-some v e
through-from on (Some u) v e = (u, refl, some-same _ v e)

pub spent-marks : {call : Option UnderWay} {line : HostRow} {journal : List Entry} (on : Bool) (t : ClientStep) → Spent call All line journal t
    → Mid All line journal (book_of (marks_through on t))
unfolding marks_through
spent-marks {line = line} {journal = journal} on t s = record {
  keeps = record {
    fits = λ k u e. none-some k (sym s.free ∙ e);
    is_open =
        λ v c. let f = through-from on t.client.call v c in let h = m.keeps.is_open f.0 f.1 in
        subst (λ z. IsOpenAs t.client.who z (t.entries ++ journal)) f.2 (record { is_open = h.is_open; tells = h.tells });
    told = λ v file c all e. let f = through-from on t.client.call v c in m.keeps.told f.0 file f.1 tt (ap (λ z. cleans file z.call) f.2 ∙ e);
    put =
        λ v file block body c all e written. let f = through-from on t.client.call v c in
        subst (λ n. PutWaits t.client.who n file block (t.entries ++ journal)) (ap (λ z. z.q) f.2)
        (m.keeps.put f.0 file block body f.1 tt (ap (λ z. z.call) f.2 ∙ e) (ap (λ z. z.written) f.2 ∙ written));
    made = λ k u n e. none-some k (sym s.free ∙ e);
    numbers = m.keeps.numbers;
  };
  above = m.above;
  kept = m.kept;
  own = m.own;
} where
  m : Mid All line journal (book_of t)
  m = s.mid

-- ---- losses

-- the calls that are not about to be told losses of a file
abbrev pub Sparing : (file : ℕ) → UnderWay → Type 0
Sparing file u = waits_for file u.written u.call ≡ false

-- an entry is the L of delayed writes on a file
pub record IsLossOn (who : Who) (number file : ℕ) (e : Entry) : Type 0 where
  pub writes : Push
  pub is : loss_entry who writes ≡ e
  pub below : writes.last < number
  pub on : writes.file ≡ file

spared-other : (file f block : ℕ) (body : List ℕ) (u : UnderWay) → Sparing file u → u.call ≡ Call.Put f block body → u.written ≡ true → f ≡ file → ⊥
spared-other file f block body u s is written same =
    let a : waits_for file true (Call.Put f block body) ≡ false = subst (λ w. waits_for file w (Call.Put f block body) ≡ false) written
    (subst (λ op. waits_for file u.written op ≡ false) is s) in
    let b : (f == file) ≡ true = number-same f file same in
    both (f == file) b a
  where
    both : (b : Bool) → b ≡ true → (b && true) ≡ false → ⊥
    both true e g = absurd (cc)
    both false e g = absurd (cc)

one-loss : {line : HostRow} {who : Who} {number : ℕ} {call : Option UnderWay} {ticket : Option Ticket} {losses : List Loss} {dirty : List Push}
    {push : Option Push} {journal : List Entry} (file : ℕ) (p : Push) → p.last < number → p.file ≡ file → ticket ≡ None
    → KeepsOk (Sparing file) line who number call ticket losses dirty push journal
    → KeepsOk (Sparing file) line who number call ticket losses dirty push (loss_entry who p ∷ journal)
one-loss {who = who} {number = number} {journal = journal} file p below on free h = record {
  fits = h.fits;
  is_open = λ u c. open-more who u (loss_entry who p) journal (λ a. a) (h.is_open u c);
  told = h.told;
  put =
      λ u f block body c s is written. put-more who u.q f block (loss_entry who p) journal
      (λ first last e. spared-other file f block body u s is written (sym (same f block first last e) ∙ on)) (h.put u f block body c s is written);
  made = λ k u n e. none-some k (sym free ∙ e);
  numbers = record { listed = h.numbers.listed; pushed = h.numbers.pushed; lost = λ f block first last i. lost f block first last i };
} where
  same : (f block first last : ℕ) → loss_entry who p ≡ L who f block first last → p.file ≡ f
  same f block first last e = cc

  lost : (f block first last : ℕ) → (loss_entry who p ≡ L who f block first last) ⊎ In journal (L who f block first last) → last < number
  lost f block first last (inl e) = let one : p.last ≡ last = cc in subst (λ n. n < number) one below
  lost f block first last (inr i) = h.numbers.lost f block first last i

all-losses : {line : HostRow} {who : Who} {number : ℕ} {call : Option UnderWay} {ticket : Option Ticket} {losses : List Loss} {dirty : List Push}
    {push : Option Push} {journal : List Entry} (file : ℕ) (es : List Entry) → ((e : Entry) → In es e → IsLossOn who number file e) → ticket ≡ None
    → KeepsOk (Sparing file) line who number call ticket losses dirty push journal
    → KeepsOk (Sparing file) line who number call ticket losses dirty push (es ++ journal)
all-losses file [] each free h = h
all-losses {line = line} {who = who} {number = number} {call = call} {ticket = ticket} {losses = losses} {dirty = dirty} {push = push}
    {journal = journal} file (e ∷ es) each free h =
    let k = each e (inl refl) in
    subst (λ z. KeepsOk (Sparing file) line who number call ticket losses dirty push (z ∷ es ++ journal)) k.is
    (one-loss file k.writes k.below k.on free (all-losses file es (λ x i. each x (inr i)) free h))

losses-kept : (who : Who) (number file : ℕ) (es journal : List Entry) → ((e : Entry) → In es e → IsLossOn who number file e)
    → Throughout KeptHere journal → Throughout KeptHere (es ++ journal)
losses-kept who number file [] journal each h = h
losses-kept who number file (e ∷ es) journal each h =
    let k = each e (inl refl) in
    (subst (λ z. KeptHere z (es ++ journal)) k.is tt, losses-kept who number file es journal (λ x i. each x (inr i)) h)

-- losses of another file
all-on : (file : ℕ) (ps : List Push) → ((p : Push) → In ps p → p.file ≡ file) → Each (λ l. l.file ≡ file) (map loss_of ps)
all-on file [] each = tt
all-on file (p ∷ ps) each = (each p (inl refl), all-on file ps (λ q i. each q (inr i)))

none-other : (f file : ℕ) (ps : List Push) → (f ≡ file → ⊥) → ((p : Push) → In ps p → p.file ≡ file) → losses_of f (map loss_of ps) ≡ []
none-other f file [] apart each = refl
none-other f file (p ∷ ps) apart each = step (p.file == f) refl (none-other f file ps apart (λ q i. each q (inr i)))
  where
    step : (b : Bool) → (p.file == f) ≡ b → losses_of f (map loss_of ps) ≡ []
        → (if b then loss_of p ∷ losses_of f (map loss_of ps) else losses_of f (map loss_of ps)) ≡ []
    step true e rest = absurd (apart (sym (same-number p.file f e) ∙ each p (inl refl)))
    step false e rest = rest

losses-other : (f file : ℕ) (losses : List Loss) (ps : List Push) → (f ≡ file → ⊥) → ((p : Push) → In ps p → p.file ≡ file) → losses_of f losses ≡ []
    → losses_of f (add_losses file (map loss_of ps) losses) ≡ []
losses-other f file losses ps apart each none =
    of-added file_of_loss file f (map loss_of ps) losses (all-on file ps each) ∙ rw (none, none-other f file ps apart each) refl

-- a call that waits for another file, or for none
cleans-other : (file f : ℕ) (u : UnderWay) → Sparing file u → cleans f u.call ≡ true → f ≡ file → ⊥
cleans-other file f u s c same = by u.call refl
  where
    yes : (n : ℕ) → (n == f) ≡ true → (n == file) ≡ true
    yes n e = number-same n file (same-number n f e ∙ same)

    by : (op : Call) → u.call ≡ op → ⊥
    by (Call.Sync n) e =
        let a : (n == f) ≡ true = ap (cleans f) (sym e) ∙ c in let b = yes n a in
        let w : (n == file) ≡ false = ap (waits_for file u.written) (sym e) ∙ s in absurd (cc)
    by (Call.Resize n blocks) e =
        let a : (n == f) ≡ true = ap (cleans f) (sym e) ∙ c in let b = yes n a in
        let w : (n == file) ≡ false = ap (waits_for file u.written) (sym e) ∙ s in absurd (cc)
    by (Call.Remove n) e =
        let a : (n == f) ≡ true = ap (cleans f) (sym e) ∙ c in let b = yes n a in
        let w : (n == file) ≡ false = ap (waits_for file u.written) (sym e) ∙ s in absurd (cc)
    by (Call.Create name blocks) e = let a : cleans f (Call.Create name blocks) ≡ true = ap (cleans f) (sym e) ∙ c in absurd (cc)
    by (Call.Lookup name) e = let a : cleans f (Call.Lookup name) ≡ true = ap (cleans f) (sym e) ∙ c in absurd (cc)
    by (Call.Attr n) e = let a : cleans f (Call.Attr n) ≡ true = ap (cleans f) (sym e) ∙ c in absurd (cc)
    by (Call.Read n block) e = let a : cleans f (Call.Read n block) ≡ true = ap (cleans f) (sym e) ∙ c in absurd (cc)
    by (Call.Fetch n block) e = let a : cleans f (Call.Fetch n block) ≡ true = ap (cleans f) (sym e) ∙ c in absurd (cc)
    by (Call.Write n block body) e = let a : cleans f (Call.Write n block body) ≡ true = ap (cleans f) (sym e) ∙ c in absurd (cc)
    by (Call.Put n block body) e = let a : cleans f (Call.Put n block body) ≡ true = ap (cleans f) (sym e) ∙ c in absurd (cc)

pub spent-loses : {call : Option UnderWay} {line : HostRow} {journal : List Entry} (t : ClientStep) (file : ℕ) → Spent call All line journal t
    → Spent call (Sparing file) line journal (loses t file)
unfolding loses
spent-loses {call = call} {line = line} {journal = journal} t file s = record {
  mid = record {
    keeps =
        subst (λ j. KeepsOk (Sparing file) line c.who c.number c.call c.ticket (add_losses file (map loss_of ps) c.losses) (other_dirty file c.dirty)
        (other_push file c.push) j) (sym (append_assoc es t.entries journal)) (all-losses file es each s.free base);
    above = m.above;
    kept = subst (Throughout KeptHere) (sym (append_assoc es t.entries journal)) (losses-kept c.who c.number file es (t.entries ++ journal) each m.kept);
    own = λ e i. owns e (in-append es t.entries e i);
  };
  free = s.free;
  from = s.from;
} where
  c : Client
  c = t.client

  m : Mid All line journal (book_of t)
  m = s.mid

  ps : List Push
  ps = all_dirty c file

  es : List Entry
  es = reverse (map (loss_entry c.who) ps)

  there : (p : Push) → In ps p → ((c.push ≡ Some p) ⊎ In c.dirty p) × (is_push_of file p ≡ true)
  there p i = writes-there file c.push c.dirty p i

  below : (p : Push) → (c.push ≡ Some p) ⊎ In c.dirty p → p.last < c.number
  below p (inl e) = m.keeps.numbers.pushed p e
  below p (inr i) = m.keeps.numbers.listed p i

  on : (p : Push) → In ps p → p.file ≡ file
  on p i = same-number p.file file (there p i).1

  each : (e : Entry) → In es e → IsLossOn c.who c.number file e
  each e i = let k = loss-there c.who ps e i in record { writes = k.0; is = k.2; below = below k.0 (there k.0 k.1).0; on = on k.0 k.1 }

  other-is : (p : Push) (o : Option Push) → other_push file o ≡ Some p → o ≡ Some p
  other-is p None e = e
  other-is p (Some x) e = step (is_push_of file x) e
    where
      step : (b : Bool) → (if b then None else Some x) ≡ Some p → Some x ≡ Some p
      step true e = none-some p e
      step false e = e

  base : KeepsOk (Sparing file) line c.who c.number c.call c.ticket (add_losses file (map loss_of ps) c.losses) (other_dirty file c.dirty)
      (other_push file c.push) (t.entries ++ journal)
  base = record {
    fits = λ k u e. none-some k (sym s.free ∙ e);
    is_open = m.keeps.is_open;
    told = λ u f is spared e. losses-other f file c.losses ps (cleans-other file f u spared e) on (m.keeps.told u f is tt e);
    put = λ u f block body is spared. m.keeps.put u f block body is tt;
    made = λ k u n e. none-some k (sym s.free ∙ e);
    numbers =
        record {
          listed = λ p i. m.keeps.numbers.listed p (in-filtered _ c.dirty p i);
          pushed = λ p e. m.keeps.numbers.pushed p (other-is p c.push e);
          lost = m.keeps.numbers.lost;
        };
  }

  owns : (e : Entry) → In es e ⊎ In t.entries e → entry_who e ≡ Some c.who
  owns e (inl i) = let k = each e i in subst (λ z. entry_who z ≡ Some c.who) k.is refl
  owns e (inr i) = m.own e i
