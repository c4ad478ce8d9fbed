-- What is kept of the calls of a client: of the journal alone, of its call under way, and of its request under way.
use Rattle.std.proofs.Common.{◌≡◌, ◌<◌, ◌≤◌, ◌⊎◌, ℕ, ◌+◌, ◌==◌, Bool, true, false, ◌&&◌, List, [], ◌∷◌, ◌++◌, Option, Some, None, if◌then◌else◌, refl}
use Rattle.std.proofs.Common.{sym, subst, ap, ◌∙◌, arith, inl, inr}
use Rattle.std.specs.Prelude.{⊤}
use Rattle.std.proofs.lemmas.Bool.{and_parts, and_from}
use Rattle.nq_base.specs.declared.Call.{Call}
use Rattle.nq_base.specs.declared.Entry.{Entry}
use Rattle.nq_base.specs.declared.Entry.TheVariants.{C, W, R, Z, A}
use Rattle.nq_base.specs.declared.HostRow.{HostRow}
use Rattle.nq_base.specs.declared.Request.{Request}
use Rattle.nq_base.specs.declared.Said.{Said}
use Rattle.nq_base.specs.declared.Said.TheVariants.{Busy, OkBy}
use Rattle.nq_base.specs.declared.Told.{Told}
use Rattle.nq_base.specs.declared.Verdict.{Verdict}
use Rattle.nq_base.specs.declared.Who.{Who}
use Rattle.walk_files.proofs.CallsEntries.{entry_who, entry_call, entry_number, IsOpenAsTold}
use Rattle.walk_files.proofs.Placed.{IsCachedBy, Placed, Spaced, call-told}
use Rattle.walk_files.proofs.Quiet.{IsNoCall, open-more, open-before, OpenFits, ReadFits}
use Rattle.nq_model.specs.protocol.Client.{UnderWay, for_call, Ticket}
use Rattle.nq_base.specs.Calls.{told}
use Rattle.nq_model.specs.laws.Journal.{Each, Exists, Throughout, AtEachPlace, IsCall, IsAnswer, IsOpen, call_of, told_by}
use Rattle.nq_model.specs.protocol.Message.{Message, call, asker, sequence_of}
use Rattle.nq_model.specs.laws.Ordered.{IsCallBelow, HasOpen, IsOpenCall, IsBusyNext, IsBeforeCall, IsNumbered, IsResizeBy}
use Rattle.walk_steps.proofs.Members.{exists-in}
use Rattle.walk_steps.proofs.Packets.{In}
use Rattle.walk_steps.proofs.Incarnations.{who-same}
use Rattle.walk_steps.proofs.Rows.{same-number, number-same}
use Rattle.nq_model.specs.protocol.Table.{same_who}

-- ---- the records

-- the journal alone
pub record JournalFits (journal : List Entry) : Type 0 where
  pub placed : Throughout Placed journal
  pub spaced : AtEachPlace Spaced [] journal
  -- a call that read from the cache is answered
  pub read : (who : Who) (q : ℕ) → Exists (IsCachedBy who q) journal → Exists (IsAnswer who q) journal

-- the calls of an incarnation that runs
pub record CallsAt (who : Who) (calls number : ℕ) (under : Option UnderWay) (journal : List Entry) : Type 0 where
  pub past : (e : Entry) (w : Who) → In journal e → entry_who e ≡ Some w → w.host ≡ who.host → w.inc ≤ who.inc
  pub numbers : (e : Entry) (q : ℕ) → In journal e → entry_who e ≡ Some who → entry_call e ≡ Some q → q ≤ calls
  pub writes : (e : Entry) (n : ℕ) → In journal e → entry_who e ≡ Some who → entry_number e ≡ Some n → n < number
  pub under_way : (u : UnderWay) → under ≡ Some u → IsOpenAsTold who calls u journal
  pub alone : (q : ℕ) → IsOpen journal who q → (u : UnderWay) × (under ≡ Some u) × (u.q ≡ q)

-- the call's request was decided, and done
pub record IsDone (line : HostRow) (who : Who) (t : Ticket) : Type 0 where
  pub job : t.job ≡ for_call
  pub seq : ℕ
  pub draws : sequence_of t.request ≡ Some seq
  pub inc : line.inc ≡ who.inc
  pub decided : seq ≤ line.seq
  pub verdict : line.verdict ≡ Verdict.Done

abbrev pub NoneDone : HostRow → Who → Option Ticket → Type 0
NoneDone line who ticket = (t : Ticket) → ticket ≡ Some t → IsDone line who t → ⊥

abbrev pub IsPut : Call → Type 0
IsPut (Call.Put file block body) = ⊤
IsPut other = ⊥

-- the call under way has made nothing yet, unless its write was delayed, or its request was done
pub record Pending (line : HostRow) (who : Who) (under : Option UnderWay) (ticket : Option Ticket) (journal : List Entry) : Type 0 where
  pub unwritten : (u : UnderWay) → under ≡ Some u → u.written ≡ false → NoneDone line who ticket → Throughout (IsBeforeCall who u.q) journal
  pub unresized : (u : UnderWay) → under ≡ Some u → NoneDone line who ticket → ¬ Exists (IsResizeBy who u.q) journal
  pub put_only : (u : UnderWay) → under ≡ Some u → u.written ≡ true → IsPut u.call

-- the number of a write that is to go through
abbrev pub through_number : Request → Option ℕ
through_number (Request.Write who seq file block first last None body) = Some first
through_number other = None

-- the request under way; `Refused` are the numbers of requests of this incarnation that were refused
pub record TicketFits (line : HostRow) (Refused : ℕ → Type 0) (who : Who) (number seq : ℕ) (journal : List Entry) (t : Ticket) : Type 0 where
  pub asks : asker t.request ≡ Some who
  pub drawn : (n : ℕ) → sequence_of t.request ≡ Some n → seq ≡ n + 1
  pub reads : ReadFits t.request journal
  pub numbered : (n : ℕ) → through_number t.request ≡ Some n → n < number
  pub opens : (n : ℕ) → t.job ≡ for_call → sequence_of t.request ≡ Some n → (line.inc ≡ who.inc → line.seq < n) → OpenFits t.request journal
  pub refused : Refused t.xid → IsDone line who t → ⊥

pub record Requesting (line : HostRow) (Refused : ℕ → Type 0) (who : Who) (number seq : ℕ) (ticket : Option Ticket) (sends : List Message)
    (journal : List Entry) : Type 0 where
  pub positive : 0 < seq
  pub line_drawn : line.inc ≡ who.inc → line.seq < seq
  pub ticketed : (t : Ticket) → ticket ≡ Some t → TicketFits line Refused who number seq journal t
  pub sent : (x : ℕ) (r : Request) → In sends (call x r) → ReadFits r journal

-- ---- the journal alone

busy-more : (who : Who) (q : ℕ) (after more : List Entry) → IsBusyNext who q after → IsBusyNext who q (after ++ more)
busy-more who q [] more h = absurd h
busy-more who q (A by n Busy ∷ after) more h = h
busy-more who q (e ∷ after) more h = absurd h

spaced-at : (after more : List Entry) (e : Entry) (before : List Entry) → Spaced after e before → Spaced (after ++ more) e before
spaced-at after more (C who q told) before h = λ is_open none. busy-more who q after more (h is_open none)
spaced-at after more other before h = tt

pub spaced-more : (after more journal : List Entry) → AtEachPlace Spaced after journal → AtEachPlace Spaced (after ++ more) journal
spaced-more after more [] h = tt
spaced-more after more (e ∷ before) h = (spaced-at after more e before h.0, spaced-more (e ∷ after) more before h.1)

-- an entry that is no cached read
pub journal-more : (e : Entry) (journal : List Entry) → Placed e journal → Spaced [] e journal → ((who : Who) (q : ℕ) → IsCachedBy who q e → ⊥)
    → JournalFits journal → JournalFits (e ∷ journal)
journal-more e journal placed spaced uncached h = record {
  placed = (placed, h.placed);
  spaced = (spaced, spaced-more [] (e ∷ []) journal h.spaced);
  read = λ who q c. read who q c;
} where
  read : (who : Who) (q : ℕ) → IsCachedBy who q e ⊎ Exists (IsCachedBy who q) journal → Exists (IsAnswer who q) (e ∷ journal)
  read who q (inl now) = absurd (uncached who q now)
  read who q (inr before) = inr (h.read who q before)

-- an answer to a call that is not answered and did not read from the cache
pub placed-answer : (who : Who) (q : ℕ) (said : Said) (before : List Entry) → ¬ Exists (IsAnswer who q) before → ¬ Exists (IsCachedBy who q) before
    → Placed (A who q said) before
placed-answer who q (OkBy value packet) before first uncached = (first, uncached)
placed-answer who q said before first uncached = first

pub journal-answer : (who : Who) (q : ℕ) (said : Said) (journal : List Entry) → IsOpen journal who q → JournalFits journal
    → JournalFits (A who q said ∷ journal)
journal-answer who q said journal is_open h =
    journal-more (A who q said) journal (placed-answer who q said journal is_open.1 (λ c. is_open.1 (h.read who q c))) tt (λ w n c. c) h

-- a call, and its answer in the same step
pub journal-busy : (who : Who) (q : ℕ) (told : Told) (said : Said) (journal : List Entry) → Each (IsCallBelow who q) journal
    → (HasOpen journal who → said ≡ Busy) → ¬ Exists (IsAnswer who q) journal → ¬ Exists (IsCachedBy who q) journal → JournalFits journal
    → JournalFits (A who q said ∷ C who q told ∷ journal)
journal-busy who q told said journal rises busy first uncached h = record {
  placed = (placed-answer who q said (C who q told ∷ journal) (λ a. none a) (λ c. cached c), (rises, h.placed));
  spaced = (
    tt,
    (
      (λ is_open none. subst (λ s. IsBusyNext who q (A who q s ∷ [])) (sym (busy is_open)) (refl, refl)),
      spaced-more []
          (C who q told ∷ A who q said ∷ []) journal h.spaced,
    ),
  );
  read = λ w n c. read w n c;
} where
  none : ⊥ ⊎ Exists (IsAnswer who q) journal → ⊥
  none (inr before) = first before
  none (inl bad) = bad

  cached : ⊥ ⊎ Exists (IsCachedBy who q) journal → ⊥
  cached (inr before) = uncached before
  cached (inl bad) = bad

  read : (w : Who) (n : ℕ) → Exists (IsCachedBy w n) (A who q said ∷ C who q told ∷ journal) → Exists (IsAnswer w n) (A who q said ∷ C who q told ∷ journal)
  read w n (inl bad) = absurd bad
  read w n (inr (inl bad)) = absurd bad
  read w n (inr (inr before)) = inr (inr (h.read w n before))

-- ---- entries and their numbers

pub call-entry : (who : Who) (q : ℕ) (e : Entry) → IsCall who q e → (entry_who e ≡ Some who) × (entry_call e ≡ Some q)
call-entry who q (C by n told) h = (ap (λ w. Some w) h.0, ap (λ m. Some m) h.1)
call-entry who q other h = absurd h

answer-entry : (who : Who) (q : ℕ) (e : Entry) → IsAnswer who q e → (entry_who e ≡ Some who) × (entry_call e ≡ Some q)
answer-entry who q (A by n said) h = (ap (λ w. Some w) h.0, ap (λ m. Some m) h.1)
answer-entry who q other h = absurd h

cached-entry : (who : Who) (q : ℕ) (e : Entry) → IsCachedBy who q e → (entry_who e ≡ Some who) × (entry_call e ≡ Some q)
cached-entry who q (R by n file block value None) h = (ap (λ w. Some w) h.0, ap (λ m. Some m) h.1)
cached-entry who q other h = absurd h

resize-entry : (who : Who) (q : ℕ) (e : Entry) → IsResizeBy who q e → (entry_who e ≡ Some who) × (entry_call e ≡ Some q)
resize-entry who q (Z by n file from to) h = (ap (λ w. Some w) h.0, ap (λ m. Some m) h.1)
resize-entry who q other h = absurd h

write-entry : (who : Who) (n : ℕ) (e : Entry) → IsNumbered who n e → (entry_who e ≡ Some who) × (entry_number e ≡ Some n)
write-entry who n (W by file block m value through) h = (ap (λ w. Some w) h.0, ap (λ k. Some k) h.1)
write-entry who n other h = absurd h

module _ (who : Who) (calls number : ℕ) (under : Option UnderWay) (journal : List Entry) (h : CallsAt who calls number under journal) where
  pub called-below : (q : ℕ) → Exists (IsCall who q) journal → q ≤ calls
  called-below q some = let r = exists-in (IsCall who q) journal some in let e = call-entry who q r.0 r.2 in h.numbers r.0 q r.1 e.0 e.1

  pub answered-below : (q : ℕ) → Exists (IsAnswer who q) journal → q ≤ calls
  answered-below q some = let r = exists-in (IsAnswer who q) journal some in let e = answer-entry who q r.0 r.2 in h.numbers r.0 q r.1 e.0 e.1

  pub cached-below : (q : ℕ) → Exists (IsCachedBy who q) journal → q ≤ calls
  cached-below q some = let r = exists-in (IsCachedBy who q) journal some in let e = cached-entry who q r.0 r.2 in h.numbers r.0 q r.1 e.0 e.1

  pub resized-below : (q : ℕ) → Exists (IsResizeBy who q) journal → q ≤ calls
  resized-below q some = let r = exists-in (IsResizeBy who q) journal some in let e = resize-entry who q r.0 r.2 in h.numbers r.0 q r.1 e.0 e.1

  pub written-below : (n : ℕ) → Exists (IsNumbered who n) journal → n < number
  written-below n some = let r = exists-in (IsNumbered who n) journal some in let e = write-entry who n r.0 r.2 in h.writes r.0 n r.1 e.0 e.1

-- calls rise
rises-from : (who : Who) (calls : ℕ) (journal : List Entry)
    → ((e : Entry) (q : ℕ) → In journal e → entry_who e ≡ Some who → entry_call e ≡ Some q → q ≤ calls) → Each (IsCallBelow who (calls + 1)) journal
rises-from who calls [] h = tt
rises-from who calls (e ∷ journal) h = (at e (λ q. h e q (inl refl)), rises-from who calls journal (λ f q i. h f q (inr i)))
  where
    at : (f : Entry) → ((q : ℕ) → entry_who f ≡ Some who → entry_call f ≡ Some q → q ≤ calls) → IsCallBelow who (calls + 1) f
    at (C by n told) g = λ same. let below = g n (ap (λ w. Some w) same) refl in omega arith
    at other g = tt

pub rises : (who : Who) (calls number : ℕ) (under : Option UnderWay) (journal : List Entry) → CallsAt who calls number under journal
    → Each (IsCallBelow who (calls + 1)) journal
rises who calls number under journal h = rises-from who calls journal h.numbers

-- ---- what a call asks

told-first : (who : Who) (q : ℕ) (told : Told) → told_by (C who q told) who q ≡ Some told
told-first who q told = rw (and_from _ _ (and_from _ _ (number-same who.host who.host refl) (number-same who.inc who.inc refl)) (number-same q q refl)) refl

told-other : (who : Who) (q : ℕ) (e : Entry) → (IsCall who q e → ⊥) → told_by e who q ≡ None
told-other who q (C by n told) none = case (same_who by who && (n == q)) refl
  where
    case : (b : Bool) → (same_who by who && (n == q)) ≡ b → (if b then Some told else None) ≡ None
    case true e = let a = and_parts _ _ e in absurd (none (who-same by who a.0, same-number n q a.1))
    case false e = refl
told-other who q other none = refl

uncalled : (who : Who) (q : ℕ) (journal : List Entry) → ¬ Exists (IsCall who q) journal → call_of journal who q ≡ None
uncalled who q [] none = refl
uncalled who q (e ∷ journal) none = rw (uncalled who q journal (λ h. none (inr h))) (told-other who q e (λ h. none (inl h)))

pub asks-told : (who : Who) (q : ℕ) (told : Told) (journal : List Entry) → ¬ Exists (IsCall who q) journal → call_of (C who q told ∷ journal) who q ≡ Some told
asks-told who q told journal none = rw (uncalled who q journal none) (told-first who q told)

-- an open call of an incarnation
pub has-open : (who : Who) (before entries : List Entry) → Exists (IsOpenCall before who) entries → (q : ℕ) × IsOpen before who q
has-open who before [] h = absurd h
has-open who before (e ∷ entries) (inr h) = has-open who before entries h
has-open who before (C by q told ∷ entries) (inl h) = (q, h.1)
has-open who before (e ∷ entries) (inl h) = absurd h

-- ---- calls

-- an entry is within the bounds of what the client counted
pub record IsBounded (who : Who) (calls number : ℕ) (e : Entry) : Type 0 where
  pub past : (w : Who) → entry_who e ≡ Some w → w.host ≡ who.host → w.inc ≤ who.inc
  pub numbers : (q : ℕ) → entry_who e ≡ Some who → entry_call e ≡ Some q → q ≤ calls
  pub writes : (n : ℕ) → entry_who e ≡ Some who → entry_number e ≡ Some n → n < number

-- the facts of bounds after one more entry
pub record Bounds (who : Who) (calls number : ℕ) (journal : List Entry) : Type 0 where
  pub past : (e : Entry) (w : Who) → In journal e → entry_who e ≡ Some w → w.host ≡ who.host → w.inc ≤ who.inc
  pub numbers : (e : Entry) (q : ℕ) → In journal e → entry_who e ≡ Some who → entry_call e ≡ Some q → q ≤ calls
  pub writes : (e : Entry) (n : ℕ) → In journal e → entry_who e ≡ Some who → entry_number e ≡ Some n → n < number

pub bounds-more : (who : Who) (calls number : ℕ) (e : Entry) (journal : List Entry) → IsBounded who calls number e → Bounds who calls number journal
    → Bounds who calls number (e ∷ journal)
bounds-more who calls number e journal b h = record { past = λ f w i. past f w i; numbers = λ f q i. numbers f q i; writes = λ f n i. writes f n i } where
  past : (f : Entry) (w : Who) → (e ≡ f) ⊎ In journal f → entry_who f ≡ Some w → w.host ≡ who.host → w.inc ≤ who.inc
  past f w (inl same) by = b.past w (ap entry_who same ∙ by)
  past f w (inr i) by = h.past f w i by

  numbers : (f : Entry) (q : ℕ) → (e ≡ f) ⊎ In journal f → entry_who f ≡ Some who → entry_call f ≡ Some q → q ≤ calls
  numbers f q (inl same) by of = b.numbers q (ap entry_who same ∙ by) (ap entry_call same ∙ of)
  numbers f q (inr i) by of = h.numbers f q i by of

  writes : (f : Entry) (n : ℕ) → (e ≡ f) ⊎ In journal f → entry_who f ≡ Some who → entry_number f ≡ Some n → n < number
  writes f n (inl same) by of = b.writes n (ap entry_who same ∙ by) (ap entry_number same ∙ of)
  writes f n (inr i) by of = h.writes f n i by of

told-still : (who : Who) (calls : ℕ) (u : UnderWay) (e : Entry) (journal : List Entry) → IsNoCall who e → IsOpenAsTold who calls u journal
    → IsOpenAsTold who calls u (e ∷ journal)
told-still who calls u e journal quiet h =
    record { is_open = open-more journal u.q quiet h.is_open; tells = call-told e journal who u.q (told u.call) h.tells; counted = h.counted }

pub calls-more : (who : Who) (calls number : ℕ) (under : Option UnderWay) (e : Entry) (journal : List Entry) → IsNoCall who e
    → IsBounded who calls number e → CallsAt who calls number under journal → CallsAt who calls number under (e ∷ journal)
calls-more who calls number under e journal quiet b h =
    let more = bounds-more who calls number e journal b (record { past = h.past; numbers = h.numbers; writes = h.writes }) in
    record {
      past = more.past;
      numbers = more.numbers;
      writes = more.writes;
      under_way = λ u is. told-still who calls u e journal quiet (h.under_way u is);
      alone = λ q is_open. h.alone q (open-before journal q quiet is_open);
    }

-- more calls and write numbers were drawn
pub calls-raised : (who : Who) (calls number more after : ℕ) (under : Option UnderWay) (journal : List Entry) → calls ≤ more → number ≤ after
    → CallsAt who calls number under journal → CallsAt who more after under journal
calls-raised who calls number more after under journal a b h = record {
  past = h.past;
  numbers = λ e q i by of. let below = h.numbers e q i by of in omega arith;
  writes = λ e n i by of. let below = h.writes e n i by of in omega arith;
  under_way = λ u is. let k = h.under_way u is in record { is_open = k.is_open; tells = k.tells; counted = let below = k.counted in omega arith };
  alone = h.alone;
}

-- the call under way got other marks
pub calls-marked : (who : Who) (calls number : ℕ) (under after : Option UnderWay) (journal : List Entry)
    → ((u : UnderWay) → after ≡ Some u → (v : UnderWay) × (under ≡ Some v) × (v.q ≡ u.q) × (v.call ≡ u.call))
    → ((v : UnderWay) → under ≡ Some v → (u : UnderWay) × (after ≡ Some u) × (u.q ≡ v.q)) → CallsAt who calls number under journal
    → CallsAt who calls number after journal
calls-marked who calls number under after journal back forth h = record {
  past = h.past;
  numbers = h.numbers;
  writes = h.writes;
  under_way = λ u is.
      let v = back u is in
      let k = h.under_way v.0 v.1 in
      record {
        is_open = subst (IsOpen journal who) v.2 k.is_open;
        tells = subst (λ q. call_of journal who q ≡ Some (told u.call)) v.2 (k.tells ∙ ap (λ op. Some (told op)) v.3);
        counted = subst (λ q. q ≤ calls) v.2 k.counted;
      };
  alone = λ q is_open. let v = h.alone q is_open in let u = forth v.0 v.1 in (u.0, u.1, u.2 ∙ v.2);
}
