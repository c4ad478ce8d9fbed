-- What is kept of a client's call under way, by each outcome of a reply and of a notice.
use Rattle.std.proofs.Common.{◌≡◌, ◌⊎◌, ℕ, Bool, true, false, List, [], ◌∷◌, ◌++◌, Option, Some, None, refl, sym, subst, ap, ◌∙◌, inl, inr}
use Rattle.nq_base.specs.Block.{value_of}
use Rattle.nq_base.specs.declared.Answer.{Answer}
use Rattle.nq_base.specs.declared.Call.{Call}
use Rattle.nq_base.specs.declared.Entry.{Entry}
use Rattle.nq_base.specs.declared.Entry.TheVariants.{A}
use Rattle.nq_base.specs.declared.Grant.{Grant}
use Rattle.nq_base.specs.declared.HostRow.{HostRow}
use Rattle.nq_base.specs.declared.Refusal.{Refusal}
use Rattle.nq_base.specs.declared.Reply.{Reply}
use Rattle.nq_base.specs.declared.Request.{Request}
use Rattle.nq_base.specs.declared.Said.{Said}
use Rattle.nq_base.specs.declared.Tag.{Tag}
use Rattle.nq_base.specs.declared.Value.{Value}
use Rattle.nq_base.specs.declared.Verdict.{Verdict}
use Rattle.nq_base.specs.declared.Want.{Want}
use Rattle.nq_base.specs.declared.Who.{Who}
use Rattle.walk_steps.proofs.PartCases.{answers-call-cases, vacates-noticed-cases, reports-cases, if-broken-cases, takes-optional-cases}
use Rattle.walk_steps.proofs.PartCases.{lease-done-cases, then-caches-cases, caches-write-cases, caches-push-cases, vacates-if-clean-cases}
use Rattle.walk_steps.proofs.RepliedCases.{OfCall, IsNamed, looked_up, created, attributes, replied-cases}
use Rattle.walk_steps.proofs.SettleCases.{IsRead}
use Rattle.walk_steps.proofs.StepCases.{evicted-cases}
use Rattle.walk_steps.proofs.ClientFacts.{fits_job}
use Rattle.walk_steps.proofs.ClientMoves.{some-same, none-some, keeps-or-cancels}
use Rattle.walk_files.proofs.ServerTells.{Tells, later, decided}
use Rattle.nq_model.specs.protocol.Client.{Client, ClientStep, for_call, Ticket, UnderWay, Notice, begun, notice_on}
use Rattle.nq_base.specs.Calls.{told}
use Rattle.nq_model.specs.protocol.Decide.{verdict_reply}
use Rattle.nq_model.specs.protocol.Hear.{vacates_lease, vacates_noticed, loses, reports, without_lease, push_refused, breaks_chain, if_broken, holds}
use Rattle.nq_model.specs.protocol.Hear.{takes_grant, takes_optional, answers_call, caches_block, purges, knows_revision, then_caches, read_done}
use Rattle.nq_model.specs.protocol.Hear.{marks_through, lease_done, caches_write, write_done, ends_push, caches_push, push_done, answer_of, spends, attached}
use Rattle.nq_model.specs.protocol.Hear.{pauses, replied, reply_counts, waits_for, counts_for_call, is_put_off, cancels, notes_notice, evicted}
use Rattle.nq_model.specs.laws.Journal.{Somewhere}
use Rattle.nq_model.specs.protocol.Message.{sequence_of}
use Rattle.nq_model.specs.protocol.Settle.{said, answers, names_losses}
use Rattle.nq_model.specs.laws.Synchronized.{IsPutKept, IsSettledResize}
use Rattle.nq_model.specs.laws.AnswersAreOfTheirCalls.{IsNaming, IsChanging, IsFormOf}
use Rattle.law_runs.proofs.KeptPlaces.{KeptHere, IsMadeOpen, OkAt, AnswersOpen, somewhere-more, resize-later}
use Rattle.law_runs.proofs.OkAnswers.{is_plain, plain-ok, write-ok, answers-open}
use Rattle.law_runs.proofs.OkFacts.{IsThroughWrite, Made, IsOpenAs, IsFor, IsDone, All, book_of, Mid}
use Rattle.law_runs.proofs.OkHear.{Spent, mid-spared, spent-marks, Sparing, spent-loses}
use Rattle.law_runs.proofs.OkMoves.{numbered-stored}
use Rattle.law_runs.proofs.OkSettle.{mid-answers, mid-names, changing-form, reading-form}

-- ---- parts of a reply

spent-vacates : {call : Option UnderWay} {Spared : UnderWay → Type 0} {line : HostRow} {journal : List Entry} (t : ClientStep) (file : ℕ) (tag : Tag)
    → Spent call Spared line journal t → Spent call Spared line journal (vacates_lease t file tag)
unfolding vacates_lease
spent-vacates t file tag s = record { mid = s.mid; free = s.free; from = s.from }

spent-vacates-noticed : {call : Option UnderWay} {Spared : UnderWay → Type 0} {line : HostRow} {journal : List Entry} (t : ClientStep) (file : ℕ)
    (o : Option Notice) → Spent call Spared line journal t → Spent call Spared line journal (vacates_noticed t file o)
spent-vacates-noticed {call} {Spared} {line} {journal} t file o s =
    vacates-noticed-cases t file o (Spent call Spared line journal) (λ e. s) (λ n e. spent-vacates t file n.tag s)

-- a call that waits until a file is clean asks for a change
waits-changes : (file : ℕ) (written : Bool) (op : Call) → waits_for file written op ≡ true → IsChanging (Some (told op))
waits-changes file written (Call.Sync f) e = tt
waits-changes file written (Call.Resize f blocks) e = tt
waits-changes file written (Call.Remove f) e = tt
waits-changes file written (Call.Put f block body) e = tt
waits-changes file written other e = absurd (cc)

spent-names : {call : Option UnderWay} {Spared : UnderWay → Type 0} {line : HostRow} {journal : List Entry} (t : ClientStep) (u : UnderWay) (file : ℕ)
    → t.client.call ≡ Some u → IsChanging (Some (told u.call)) → Spent call Spared line journal t → Spent call All line journal (names_losses t u.q file)
unfolding answers
spent-names t u file is changes s =
    let o = s.mid.keeps.is_open u is in
    record { mid = mid-names t u.q file o.is_open (subst IsChanging (sym o.tells) changes) s.mid; free = s.free; from = λ v e. none-some v e }

spent-reports : {call : Option UnderWay} {line : HostRow} {journal : List Entry} (t : ClientStep) (file : ℕ) → Spent call (Sparing file) line journal t
    → Spent call All line journal (reports t file)
spent-reports {call = call} {line = line} {journal = journal} t file s =
    reports-cases t file (Spent call All line journal)
    (λ none. record { mid = mid-spared (book_of t) (λ u e. none-some u (sym none ∙ e)) s.mid; free = s.free; from = s.from })
    (λ u is waits. record {
      mid = mid-spared (book_of t) (λ v e. subst (Sparing file) (some-same u v (sym is ∙ e)) waits) s.mid;
      free = s.free;
      from =
          s.from;
    })
    (λ u is waits. spent-names t u file is (waits-changes file u.written u.call waits) s)

spent-holds : {call : Option UnderWay} {line : HostRow} {journal : List Entry} (t : ClientStep) (file : ℕ) (g : Grant) (sent : ℕ)
    → Spent call All line journal t → Spent call All line journal (holds t file g sent)
unfolding holds
spent-holds t file g sent s = record { mid = s.mid; free = s.free; from = s.from }

spent-breaks : {call : Option UnderWay} {line : HostRow} {journal : List Entry} (t : ClientStep) (file : ℕ) → Spent call All line journal t
    → Spent call All line journal (breaks_chain t file)
spent-breaks t file s =
    spent-reports (vacates_noticed (loses t file) file (notice_on file t.client.notices)) file
    (spent-vacates-noticed (loses t file) file (notice_on file t.client.notices) (spent-loses t file s))

spent-takes : {call : Option UnderWay} {line : HostRow} {journal : List Entry} (t : ClientStep) (file : ℕ) (g : Grant) (sent : ℕ)
    → Spent call All line journal t → Spent call All line journal (takes_grant t file g sent)
spent-takes {call} {line} {journal} t file g sent s =
    spent-holds (if_broken t file g) file g sent
    (if-broken-cases t file g (Spent call All line journal) (λ e. s) (λ lease held breaks dirty. spent-breaks t file s))

spent-takes-optional : {call : Option UnderWay} {line : HostRow} {journal : List Entry} (t : ClientStep) (file : ℕ) (o : Option Grant) (sent : ℕ)
    → Spent call All line journal t → Spent call All line journal (takes_optional t file o sent)
spent-takes-optional {call} {line} {journal} t file o sent s =
    takes-optional-cases t file o sent (Spent call All line journal) (λ e. s) (λ g e. spent-takes t file g sent s)

spent-caches : {call : Option UnderWay} {line : HostRow} {journal : List Entry} (t : ClientStep) (file block : ℕ) (body : List ℕ)
    → Spent call All line journal t → Spent call All line journal (caches_block t file block body)
unfolding caches_block
spent-caches t file block body s = record { mid = s.mid; free = s.free; from = s.from }

spent-knows : {call : Option UnderWay} {line : HostRow} {journal : List Entry} (t : ClientStep) (file rev : ℕ) → Spent call All line journal t
    → Spent call All line journal (knows_revision t file rev)
unfolding knows_revision
spent-knows t file rev s = record { mid = s.mid; free = s.free; from = s.from }

spent-without : {call : Option UnderWay} {Spared : UnderWay → Type 0} {line : HostRow} {journal : List Entry} (t : ClientStep) (file : ℕ)
    → Spent call Spared line journal t → Spent call Spared line journal (without_lease t file)
unfolding without_lease
spent-without t file s = record { mid = s.mid; free = s.free; from = s.from }

spent-ends : {call : Option UnderWay} {line : HostRow} {journal : List Entry} (t : ClientStep) → Spent call All line journal t
    → Spent call All line journal (ends_push t)
unfolding ends_push
spent-ends t s = record {
  mid = record {
    keeps = record {
      fits = λ k u e. none-some k (sym s.free ∙ e);
      is_open = s.mid.keeps.is_open;
      told = s.mid.keeps.told;
      put = s.mid.keeps.put;
      made = s.mid.keeps.made;
      numbers = numbered-stored s.mid.keeps.numbers;
    };
    above = s.mid.above;
    kept = s.mid.kept;
    own = s.mid.own;
  };
  free = s.free;
  from = s.from;
}

spent-attached : {call : Option UnderWay} {line : HostRow} {journal : List Entry} (t : ClientStep) → Spent call All line journal t
    → Mid All line journal (book_of (attached t))
unfolding attached
spent-attached t s = s.mid

spent-pauses : {call : Option UnderWay} {line : HostRow} {journal : List Entry} (t : ClientStep) → Spent call All line journal t
    → Mid All line journal (book_of (pauses t))
unfolding pauses marks_through
spent-pauses t s = spent-marks false t s

-- ---- a reply that tells that a request was done

abbrev is_refused : Reply → Bool
is_refused (Reply.Refused inc status) = true
is_refused other = false

verdict-done : (inc : ℕ) (v : Verdict) (value : ℕ) (asks : Request) → is_refused (verdict_reply inc v value asks) ≡ false → v ≡ Verdict.Done
verdict-done inc Verdict.Done value asks e = refl
verdict-done inc Verdict.Fenced value asks e = absurd (cc)
verdict-done inc Verdict.Exist value asks e = absurd (cc)
verdict-done inc Verdict.NoSpace value asks e = absurd (cc)
verdict-done inc Verdict.Invalid value asks e = absurd (cc)
verdict-done inc Verdict.Stale value asks e = absurd (cc)
verdict-done inc Verdict.TryLater value asks e = absurd (cc)

told-done : (line : HostRow) (who : Who) (n : ℕ) (asks : Request) (r : Reply) → is_refused r ≡ false → Tells line who n asks r → IsDone line who n
told-done line who n asks r done (later status is off) = let bad : true ≡ false = ap is_refused (sym is) ∙ done in absurd (cc)
told-done line who n asks r done (decided inc seq is) =
    record { inc = inc; decided = seq; told = verdict-done who.inc line.verdict line.value asks (ap is_refused (sym is) ∙ done) }

-- a refusal that counts and puts nothing off is no ok, and no `busy`
refused-here : (who : Who) (u : UnderWay) (status : Refusal) (request : Request) (before : List Entry) → counts_for_call status request ≡ true
    → is_put_off status ≡ false → IsOpenAs who u before → KeptHere (A who u.q (said (answer_of status) None)) before
refused-here who u Refusal.NoEnt request before counted final h = answers-open who u Said.NoEntry before h tt
refused-here who u Refusal.Exist request before counted final h = answers-open who u Said.Exists before h tt
refused-here who u Refusal.Inval request before counted final h = answers-open who u Said.Range before h tt
refused-here who u Refusal.NoSpc request before counted final h = answers-open who u Said.NoSpace before h tt
refused-here who u Refusal.Stale request before counted final h = answers-open who u Said.Stale before h tt
refused-here who u Refusal.TryLater request before counted final h = absurd (cc)
refused-here who u Refusal.NotAttached request before counted final h = absurd (cc)
refused-here who u Refusal.Old request before counted final h = absurd (cc)
refused-here who u Refusal.Fenced request before counted final h = absurd (uncounted request counted)
  where
    uncounted : (r : Request) → counts_for_call Refusal.Fenced r ≡ true → ⊥
    uncounted (Request.Lookup w name) e = cc
    uncounted (Request.Create w seq name blocks) e = cc
    uncounted (Request.GetAttr w file) e = cc
    uncounted (Request.Read w q file block want) e = cc
    uncounted (Request.Write w seq file block first last push body) e = cc
    uncounted (Request.GetLease w file want) e = cc
    uncounted (Request.Resize w seq q file blocks) e = cc
    uncounted (Request.Remove w seq q file) e = cc
    uncounted other e = cc

-- ---- the outcomes

module _ (line : HostRow) (journal : List Entry) (c : Client) (number : ℕ) (ticket : Ticket) (r : Reply) (is : c.ticket ≡ Some ticket)
    (m : Mid All line journal (book_of (begun c))) (tells : (n : ℕ) → sequence_of ticket.request ≡ Some n → Tells line c.who n ticket.request r) where
  t : ClientStep
  t = spends (begun c)

  spent : Spent c.call All line journal (spends (begun c))
  unfolding spends
  spent = record {
    mid = record {
      keeps = record {
        fits = λ k u e. none-some k e;
        is_open = m.keeps.is_open;
        told = m.keeps.told;
        put = m.keeps.put;
        made = λ k u n e. none-some k e;
        numbers = m.keeps.numbers;
      };
      above = m.above;
      kept = m.kept;
      own = m.own;
    };
    free = refl;
    from = λ u e. e;
  }

  -- the answer to a call that asks nothing of its ok
  plain-here : (s : ClientStep) → Spent c.call All line journal s → ((u : UnderWay) → c.call ≡ Some u → is_plain u.call ≡ true)
      → (entry : Entry) (u : UnderWay) → s.client.call ≡ Some u → OkAt entry (s.entries ++ journal) s.client.who u.q
  plain-here s k plain entry u e = plain-ok entry s.client.who u (s.entries ++ journal) (k.mid.keeps.is_open u e) (plain u (k.from u e))

  -- it is of its call
  open-here : (s : ClientStep) → Spent c.call All line journal s → (says : Said)
      → ((u : UnderWay) → c.call ≡ Some u → IsFormOf says (Some (told u.call))) → (u : UnderWay) → s.client.call ≡ Some u
      → AnswersOpen (s.entries ++ journal) s.client.who u.q says
  open-here s k says form u e = answers-open s.client.who u says (s.entries ++ journal) (k.mid.keeps.is_open u e) (form u (k.from u e))

  -- it names a file or asks for one
  naming : (u : UnderWay) (op : Call) → u.call ≡ op → IsNaming (Some (told op)) → IsNaming (Some (told u.call))
  naming u op e h = subst (λ o. IsNaming (Some (told o))) (sym e) h

  -- what the call under way is, by its request
  for-it : (request : Request) (u : UnderWay) → ticket.job ≡ for_call → ticket.request ≡ request → c.call ≡ Some u → IsFor u c.dirty c.push request
  for-it request u job asks e = subst (IsFor u c.dirty c.push) asks (m.keeps.fits ticket u is job e)

  named : (answer : Answer) → ticket.job ≡ for_call → IsNamed ticket.request r answer
      → Mid All line journal (book_of (answers_call (spends (begun c)) answer None))
  named answer job n =
      answers-call-cases (spends (begun c)) answer None (λ s. Mid All line journal (book_of s)) (λ e. spent.mid)
      (λ u e. mid-answers (spends (begun c)) u.q answer None (here answer n u e) spent.mid)
    where
      here : (answer : Answer) → IsNamed ticket.request r answer → (u : UnderWay) → (spends (begun c)).client.call ≡ Some u
          → KeptHere (A (spends (begun c)).client.who u.q (said answer None)) ((spends (begun c)).entries ++ journal)
      here answer (looked_up who name inc file blocks asks told) u e = (
        open-here (spends (begun c)) spent (Said.OkValue file) (λ v f. inl (naming v _ (for-it (Request.Lookup who name) v job asks f) tt)) u e,
        plain-here (spends (begun c)) spent (λ v f. ap is_plain (for-it (Request.Lookup who name) v job asks f)) _ u e,
      )
      here answer (created who seq name blocks inc file asks told) u e = (
        open-here (spends (begun c)) spent (Said.OkValue file)
            (λ v f. inl (naming v _ (for-it (Request.Create who seq name blocks) v job asks f) tt)) u e,
        plain-here (spends (begun c)) spent
            (λ v f. ap is_plain (for-it (Request.Create who seq name blocks) v job asks f)) _ u e,
      )
      here answer (attributes who file inc blocks rev asks told) u e = (
        open-here (spends (begun c)) spent (Said.OkValue blocks) (λ v f. inl (naming v _ (for-it (Request.GetAttr who file) v job asks f) tt)) u e,
        plain-here (spends (begun c)) spent (λ v f. ap is_plain (for-it (Request.GetAttr who file) v job asks f)) _ u e,
      )

  plain-read : (u : UnderWay) (file block : ℕ) → IsRead u.call file block → is_plain u.call ≡ true
  plain-read u file block (inl e) = ap is_plain e
  plain-read u file block (inr e) = ap is_plain e

  reading : (who : Who) (q file block : ℕ) (want : Option Want) (body : List ℕ) (grant : Option Grant)
      → OfCall ticket (Request.Read who q file block want)
      → Mid All line journal (book_of (read_done (spends (begun c)) file block body grant ticket.first number))
  reading who q file block want body grant of =
      let s : ClientStep = then_caches (takes_optional (spends (begun c)) file grant ticket.first) file block body grant in
      let taken : Spent c.call All line journal (takes_optional (spends (begun c)) file grant ticket.first) = spent-takes-optional (spends (begun c))
      file grant ticket.first spent in
      let k : Spent c.call All line journal s = then-caches-cases (takes_optional (spends (begun c)) file grant ticket.first) file block body grant
      (Spent c.call All line journal) (λ e. spent-caches _ file block body taken) (λ e. taken) in
      answers-call-cases s (Answer.Ok (Value.Body body)) (Some number) (λ z. Mid All line journal (book_of z)) (λ e. k.mid)
      (λ u e. mid-answers s u.q (Answer.Ok (Value.Body body)) (Some number) (
        open-here s k (Said.OkBy (value_of body) number)
            (λ v f. reading-form v file block (for-it (Request.Read who q file block want) v of.job of.asks f)) u e,
        plain-here s k
            (λ v f. plain-read v file block (for-it (Request.Read who q file block want) v of.job of.asks f)) _ u e,
      )
      k.mid)

  leasing : (file : ℕ) (grant : Option Grant) → Mid All line journal (book_of (lease_done (spends (begun c)) file grant ticket.first))
  leasing file grant =
      let taken : Spent c.call All line journal (takes_optional (spends (begun c)) file grant ticket.first) = spent-takes-optional (spends (begun c))
      file grant ticket.first spent in
      lease-done-cases (spends (begun c)) file grant ticket.first (λ z. Mid All line journal (book_of z)) (λ e. taken.mid) (λ e. spent-marks true _ taken)

  -- a request with a sequence was done
  was-done : (u : UnderWay) (request : Request) (n : ℕ) → OfCall ticket request → sequence_of request ≡ Some n → is_refused r ≡ false → c.call ≡ Some u
      → Made c.who u.q request journal
  was-done u request n of draws done e =
      subst (λ z. Made c.who u.q z journal) of.asks
      (m.keeps.made ticket u n is of.job e (ap sequence_of of.asks ∙ draws)
      (told-done line c.who n ticket.request r done (tells n (ap sequence_of of.asks ∙ draws))))

  -- a write that went through
  through-here : (u : UnderWay) (file block : ℕ) (body : List ℕ) → c.call ≡ Some u
      → (u.call ≡ Call.Write file block body) ⊎ (u.call ≡ Call.Put file block body) → Somewhere (IsThroughWrite c.who u.q) journal
      → KeptHere (A c.who u.q Said.Ok) journal
  through-here u file block body e (inl write) made = (
    answers-open c.who u Said.Ok journal (m.keeps.is_open u e) (changing-form u (Call.Write file block body) write tt),
    write-ok c.who u file block body journal (m.keeps.is_open u e) write
        (somewhere-more (IsThroughWrite c.who u.q) (IsMadeOpen c.who u.q) journal (λ x before h. (h.0, h.2)) made),
  )
  through-here u file block body e (inr put) made = (
    answers-open c.who u Said.Ok journal (m.keeps.is_open u e) (changing-form u (Call.Put file block body) put tt),
    record {
      told = told (Call.Put file block body);
      asks = (m.keeps.is_open u e).tells ∙ ap (λ op. Some (told op)) put;
      kept = somewhere-more (IsThroughWrite c.who u.q) (IsPutKept journal c.who u.q) journal (λ x before h. (h.0, h.2, inl h.1)) made;
      wrote = tt;
    },
  )

  changed-here : (u : UnderWay) (file : ℕ) (op : Call) → c.call ≡ Some u → u.call ≡ op
      → (op ≡ Call.Remove file) ⊎ ((blocks : ℕ) × (op ≡ Call.Resize file blocks)) → Somewhere (IsSettledResize journal journal c.who u.q file) journal
      → KeptHere (A c.who u.q Said.Ok) journal
  changed-here u file op e same (inl remove) made = (
    answers-open c.who u Said.Ok journal (m.keeps.is_open u e) (changing-form u (Call.Remove file) (same ∙ remove) tt),
    record {
      wrote = tt;
      told = told (Call.Remove file);
      asks = (m.keeps.is_open u e).tells ∙ ap (λ o. Some (told o)) (same ∙ remove);
      kept =
          somewhere-more (IsSettledResize journal journal c.who u.q file) (IsSettledResize (A c.who u.q Said.Ok ∷ journal) journal c.who u.q file)
          journal (λ x before h. resize-later (A c.who u.q Said.Ok ∷ []) journal journal c.who u.q file x before h) made;
    },
  )
  changed-here u file op e same (inr resize) made = (
    answers-open c.who u Said.Ok journal (m.keeps.is_open u e) (changing-form u (Call.Resize file resize.0) (same ∙ resize.1) tt),
    record {
      wrote = tt;
      told = told (Call.Resize file resize.0);
      asks = (m.keeps.is_open u e).tells ∙ ap (λ o. Some (told o)) (same ∙ resize.1);
      kept =
          somewhere-more (IsSettledResize journal journal c.who u.q file) (IsSettledResize (A c.who u.q Said.Ok ∷ journal) journal c.who u.q file)
          journal (λ x before h. resize-later (A c.who u.q Said.Ok ∷ []) journal journal c.who u.q file x before h) made;
    },
  )

  -- a step that is the same to the journal
  same-answer : (s : ClientStep) → book_of s ≡ book_of (spends (begun c)) → ((u : UnderWay) → c.call ≡ Some u → KeptHere (A c.who u.q Said.Ok) journal)
      → Mid All line journal (book_of (answers_call s (Answer.Ok Value.Nothing) None))
  unfolding spends
  same-answer s same ok =
      answers-call-cases s (Answer.Ok Value.Nothing) None (λ z. Mid All line journal (book_of z)) (λ e. k)
      (λ u e. mid-answers s u.q (Answer.Ok Value.Nothing) None
      (subst (λ b. KeptHere (A b.who u.q Said.Ok) (b.entries ++ journal)) (sym same) (ok u (ap (λ b. b.call) (sym same) ∙ e))) k)
    where
      k : Mid All line journal (book_of s)
      k = subst (Mid All line journal) (sym same) spent.mid

  caches-same : (file block : ℕ) (body : List ℕ) (rev : ℕ)
      → book_of (knows_revision (caches_write (spends (begun c)) file block body rev) file rev) ≡ book_of (spends (begun c))
  unfolding knows_revision caches_block purges
  caches-same file block body rev =
      caches-write-cases (spends (begun c)) file block body rev (λ s. book_of (knows_revision s file rev) ≡ book_of (spends (begun c))) (λ a b. refl) refl

  knows-same : (file rev : ℕ) → book_of (knows_revision (spends (begun c)) file rev) ≡ book_of (spends (begun c))
  unfolding knows_revision
  knows-same file rev = refl

  writing : (who : Who) (seq file block first last : ℕ) (body : List ℕ) (inc rev : ℕ)
      → OfCall ticket (Request.Write who seq file block first last None body) → r ≡ Reply.Write inc rev
      → Mid All line journal (book_of (write_done (spends (begun c)) file block body rev))
  writing who seq file block first last body inc rev of told =
      same-answer _ (caches-same file block body rev)
      (λ u e. through-here u file block body e (for-it _ u of.job of.asks e) (was-done u _ seq of refl (ap is_refused told) e))

  resizing : (who : Who) (seq q file blocks inc rev : ℕ) → OfCall ticket (Request.Resize who seq q file blocks) → r ≡ Reply.Resize inc rev
      → Mid All line journal (book_of (answers_call (knows_revision (spends (begun c)) file rev) (Answer.Ok Value.Nothing) None))
  resizing who seq q file blocks inc rev of told =
      same-answer _ (knows-same file rev)
      (λ u e. changed-here u file (Call.Resize file blocks) e (for-it (Request.Resize who seq q file blocks) u of.job of.asks e).0 (inr (blocks, refl))
      (was-done u (Request.Resize who seq q file blocks) seq of refl (ap is_refused told) e))

  removing : (who : Who) (seq q file inc : ℕ) → OfCall ticket (Request.Remove who seq q file) → r ≡ Reply.Remove inc
      → Mid All line journal (book_of (answers_call (spends (begun c)) (Answer.Ok Value.Nothing) None))
  removing who seq q file inc of told =
      same-answer (spends (begun c)) refl
      (λ u e. changed-here u file (Call.Remove file) e (for-it (Request.Remove who seq q file) u of.job of.asks e).0 (inl refl)
      (was-done u (Request.Remove who seq q file) seq of refl (ap is_refused told) e))

  pushed : (file block : ℕ) (body : List ℕ) (rev : ℕ) → Mid All line journal (book_of (push_done (spends (begun c)) file block body rev))
  pushed file block body rev =
      let k : Spent c.call All line journal (knows_revision (ends_push (spends (begun c))) file rev) = spent-knows _ file rev (spent-ends _ spent) in
      let cached : Spent c.call All line journal
      (caches_push (knows_revision (ends_push (spends (begun c))) file rev) file block body) = caches-push-cases _ file block body
      (Spent c.call All line journal) (λ e. k) (λ e. spent-caches _ file block body k) in
      vacates-if-clean-cases _ file (λ z. Mid All line journal (book_of z)) cached.mid (λ n clean e. (spent-vacates _ file n.tag cached).mid)

  refusing : (status : Refusal) → counts_for_call status ticket.request ≡ true → is_put_off status ≡ false
      → Mid All line journal (book_of (answers_call (spends (begun c)) (answer_of status) None))
  refusing status counted final =
      answers-call-cases (spends (begun c)) (answer_of status) None (λ z. Mid All line journal (book_of z)) (λ e. spent.mid)
      (λ u e. mid-answers (spends (begun c)) u.q (answer_of status) None
      (refused-here _ u status ticket.request _ counted final (spent.mid.keeps.is_open u e)) spent.mid)

  push-refused : (file : ℕ) → Mid All line journal (book_of (push_refused (spends (begun c)) file))
  push-refused file = (spent-reports _ file (spent-vacates-noticed _ file _ (spent-without _ file (spent-loses (spends (begun c)) file spent)))).mid

  pub mid-replied : fits_job ticket.job ticket.request ≡ true → reply_counts r ticket ≡ true
      → Mid All line journal (book_of (replied (begun c) number ticket r))
  mid-replied fits counts = replied-cases c number ticket r (λ s. Mid All line journal (book_of s)) fits counts (record {
    attaching = λ who inc job asks told. spent-attached _ spent;
    named = named;
    reading = λ who q file block want inc rev body grant of told. reading who q file block want body grant of;
    leasing = λ who file want inc grant of told. leasing file grant;
    writing = writing;
    resizing = resizing;
    removing = removing;
    renewing = λ who file want inc grant job asks told. (spent-takes-optional (spends (begun c)) file grant ticket.first spent).mid;
    pushed = λ who seq file block first last base body inc rev job asks told. pushed file block body rev;
    putting_off = λ inc status job told off. spent-pauses _ spent;
    refusing = λ inc status job told counted final. refusing status counted final;
    renewal_refused = λ inc status job told final. spent.mid;
    push_refused = λ who seq file block first last base body inc status job asks told final. push-refused file;
  })

-- ---- a notice

mid-cancels : {line : HostRow} {journal : List Entry} (t : ClientStep) (file : ℕ) → Mid All line journal (book_of t)
    → Mid All line journal (book_of (cancels t file))
unfolding cancels
mid-cancels t file m = record {
  keeps = record {
    fits = λ k u e. m.keeps.fits k u (keeps-or-cancels file t.client.ticket k e).0;
    is_open = m.keeps.is_open;
    told = m.keeps.told;
    put = m.keeps.put;
    made = λ k u n e. m.keeps.made k u n (keeps-or-cancels file t.client.ticket k e).0;
    numbers = m.keeps.numbers;
  };
  above = m.above;
  kept = m.kept;
  own = m.own;
}

mid-vacates : {line : HostRow} {journal : List Entry} (t : ClientStep) (file : ℕ) (tag : Tag) → Mid All line journal (book_of t)
    → Mid All line journal (book_of (vacates_lease t file tag))
unfolding vacates_lease
mid-vacates t file tag m = m

mid-notes : {line : HostRow} {journal : List Entry} (t : ClientStep) (file : ℕ) (tag : Tag) → Mid All line journal (book_of t)
    → Mid All line journal (book_of (notes_notice t file tag))
unfolding notes_notice
mid-notes t file tag m = m

pub mid-evicted : {line : HostRow} {journal : List Entry} (t : ClientStep) (file : ℕ) (tag : Tag) → Mid All line journal (book_of t)
    → Mid All line journal (book_of (evicted (cancels t file) file tag))
mid-evicted {line} {journal} t file tag m = evicted-cases (cancels t file) file tag (λ s. Mid All line journal (book_of s)) (record {
  clean = λ e. mid-vacates (cancels t file) file tag (mid-cancels t file m);
  waiting = λ e. mid-notes (cancels t file) file tag (mid-cancels t file m);
})
