-- What is kept of a client's call under way, over a step of the server and over those of other clients.
use Rattle.std.proofs.Common.{◌≡◌, ◌⊎◌, ℕ, Bool, true, false, List, [], ◌∷◌, ◌++◌, Some, None, refl, sym, subst, ap, ◌∙◌, arith, inl, inr}
use Rattle.nq_base.specs.declared.Entry.{Entry}
use Rattle.nq_base.specs.declared.Entry.TheVariants.{W, Z, A}
use Rattle.nq_base.specs.declared.HostRow.{HostRow}
use Rattle.nq_base.specs.declared.Loss.{Loss}
use Rattle.nq_base.specs.declared.Request.{Request}
use Rattle.nq_base.specs.declared.Who.{Who}
use Rattle.walk_steps.proofs.ClientFacts.{Alone}
use Rattle.walk_steps.proofs.ClientMoves.{some-same}
use Rattle.nq_model.proofs.Lists.{exists-map}
use Rattle.nq_model.specs.protocol.Client.{Client, for_call, attaching, Ticket, UnderWay, is_clean_in}
use Rattle.nq_model.specs.laws.Journal.{Exists, Throughout, Somewhere}
use Rattle.nq_model.specs.protocol.Message.{Packet, sequence_of}
use Rattle.nq_model.specs.laws.Reported.{Names}
use Rattle.nq_model.specs.laws.Synchronized.{IsSettledResize}
use Rattle.nq_model.specs.laws.LossesAreReported.{IsLossOf, IsOneOf, cleans}
use Rattle.walk_steps.proofs.HostLine.{LineFits, IsSettled}
use Rattle.walk_steps.proofs.Packets.{In, Mail}
use Rattle.walk_steps.proofs.Rows.{number-same}
use Rattle.law_runs.proofs.KeptPlaces.{KeptHere, names-later}
use Rattle.law_runs.proofs.OkAnswers.{clean-none, all-settled}
use Rattle.law_runs.proofs.OkFacts.{CoversNumber, LiesWithin, Made, IsFor, IsDone, KeepsOf, IsThroughWrite}
use Rattle.law_runs.proofs.OkMoves.{IsMild, open-more, put-more, made-more, numbered-more}
use Rattle.law_runs.proofs.ServerMakes.{AllMild, Shape, IsAttached, IsDecided, LineMoves, stays, attached, decided}

-- ---- entries that are no answers, losses or delayed writes of the client

one-mild : {line : HostRow} (c : Client) (e : Entry) (journal : List Entry) → IsMild c.who e → KeepsOf line c journal → KeepsOf line c (e ∷ journal)
one-mild c e journal q h = record {
  fits = h.fits;
  is_open = λ u is. open-more c.who u e journal (q.no_answer u.q) (h.is_open u is);
  told = h.told;
  put = λ u file block body is s op written. put-more c.who u.q file block e journal (q.no_loss file block) (h.put u file block body is s op written);
  made = λ t u n is job called draws done. made-more c.who u.q t.request e journal q.no_write (h.made t u n is job called draws done);
  numbers = numbered-more e q.no_loss h.numbers;
}

pub all-mild : {line : HostRow} (c : Client) (es journal : List Entry) → ((e : Entry) → In es e → IsMild c.who e) → KeepsOf line c journal
    → KeepsOf line c (es ++ journal)
all-mild c [] journal each h = h
all-mild c (e ∷ es) journal each h = one-mild c e (es ++ journal) (each e (inl refl)) (all-mild c es journal (λ x i. each x (inr i)) h)

-- an entry that is no answer tells no ok
unanswered-here : (e : Entry) (before : List Entry) → ((who : Who) → IsMild who e) → KeptHere e before
unanswered-here (A who q said) before q' = absurd ((q' who).no_answer q (refl, refl))
unanswered-here other before q' = tt

pub all-kept : (es journal : List Entry) → AllMild es → Throughout KeptHere journal → Throughout KeptHere (es ++ journal)
all-kept [] journal mild h = h
all-kept (e ∷ es) journal mild h = (unanswered-here e (es ++ journal) (mild e (inl refl)), all-kept es journal (λ x i. mild x (inr i)) h)

-- ---- a step of the server

-- what is known of the delayed writes and losses of a client
pub record Standing (c : Client) (journal : List Entry) : Type 0 where
  pub unsaved : (file block n value : ℕ) → In journal (W c.who file block n value false)
      → CoversNumber journal c.who file block n ⊎ LiesWithin c.dirty c.push file block n
  pub named : (loss : Loss) → Exists (IsLossOf c.who loss) journal → IsOneOf c.losses loss ⊎ Exists (Names journal c.who loss) journal

module _ (c : Client) (ps : List Packet) (old new : HostRow) (journal : List Entry) (h : KeepsOf old c journal)
    (lined : LineFits c.who c.attached c.ticket c.notices old ps) (mail : Mail c.who c.xid c.ticket ps) (alone : Alone c)
    (standing : Standing c journal) where
  -- the Z of a resize or removal: each delayed write of its file is settled before it
  resized : (u : UnderWay) (file from to : ℕ) → c.call ≡ Some u → cleans file u.call ≡ true → is_clean_in file c.dirty c.push ≡ true
      → Somewhere (IsSettledResize (Z c.who u.q file from to ∷ journal) (Z c.who u.q file from to ∷ journal) c.who u.q file)
      (Z c.who u.q file from to ∷ journal)
  resized u file from to is waits clean = inl (
    refl,
    refl,
    all-settled whole journal journal whole c.who file c.losses (record {
      covered = λ block n value i. covered block n value i;
      stored = λ block first last now i. i;
      lost = λ block first last i. inr i;
      named = λ loss e. names loss (standing.named loss e);
      none = h.told u file is tt waits;
    }),
  )
    where
      whole : List Entry
      whole = Z c.who u.q file from to ∷ journal

      within : (block n : ℕ) → CoversNumber journal c.who file block n ⊎ LiesWithin c.dirty c.push file block n → CoversNumber journal c.who file block n
      within block n (inl covers) = covers
      within block n (inr l) = absurd (clean-none file block n c.dirty c.push clean l)

      covered : (block n value : ℕ) → (Z c.who u.q file from to ≡ W c.who file block n value false) ⊎ In journal (W c.who file block n value false)
          → CoversNumber journal c.who file block n
      covered block n value (inl e) = absurd (cc)
      covered block n value (inr i) = within block n (standing.unsaved file block n value i)

      names : (loss : Loss) → IsOneOf c.losses loss ⊎ Exists (Names journal c.who loss) journal → IsOneOf c.losses loss ⊎ Exists (Names whole c.who loss) whole
      names loss (inl one) = inl one
      names loss (inr n) =
          inr
          (inr (exists-map (Names journal c.who loss) (Names whole c.who loss) journal
          (λ e m. names-later (Z c.who u.q file from to ∷ []) journal c.who loss e m) n))

  -- what the call's request makes where it was done
  shaped : (u : UnderWay) (r : Request) (es : List Entry) → c.call ≡ Some u → IsFor u c.dirty c.push r → Shape c.who r es → Made c.who u.q r (es ++ journal)
  shaped u (Request.Write w seq file block first last None body) es is for_it s =
      subst (λ xs. Somewhere (IsThroughWrite c.who u.q) (xs ++ journal)) (sym s.1) (inl (refl, tt, (h.is_open u is).is_open))
  shaped u (Request.Resize w seq q file blocks) es is for_it s =
      subst (λ xs. Somewhere (IsSettledResize (xs ++ journal) (xs ++ journal) c.who u.q file) (xs ++ journal)) (sym s.2)
      (subst (λ n. Somewhere (IsSettledResize (Z c.who n file s.0 s.1 ∷ journal) (Z c.who n file s.0 s.1 ∷ journal) c.who u.q file)
      (Z c.who n file s.0 s.1 ∷ journal)) (sym for_it.1) (resized u file s.0 s.1 is (ap (cleans file) for_it.0 ∙ number-same file file refl) for_it.2))
  shaped u (Request.Remove w seq q file) es is for_it s =
      subst (λ xs. Somewhere (IsSettledResize (xs ++ journal) (xs ++ journal) c.who u.q file) (xs ++ journal)) (sym s.2)
      (subst (λ n. Somewhere (IsSettledResize (Z c.who n file s.0 s.1 ∷ journal) (Z c.who n file s.0 s.1 ∷ journal) c.who u.q file)
      (Z c.who n file s.0 s.1 ∷ journal)) (sym for_it.1) (resized u file s.0 s.1 is (ap (cleans file) for_it.0 ∙ number-same file file refl) for_it.2))
  shaped u (Request.Write w seq file block first last (Some base) body) es is for_it s = tt
  shaped u Request.Null es is for_it s = tt
  shaped u (Request.Attach w) es is for_it s = tt
  shaped u (Request.Lookup w name) es is for_it s = tt
  shaped u (Request.Create w seq name blocks) es is for_it s = tt
  shaped u (Request.GetAttr w file) es is for_it s = tt
  shaped u (Request.Read w n file block want) es is for_it s = tt
  shaped u (Request.GetLease w file want) es is for_it s = tt
  shaped u (Request.Vacated w file tag) es is for_it s = tt
  shaped u (Request.Evicted w file tag) es is for_it s = tt

  -- a later incarnation begins: the client is not attached, and has no request of a call
  none-attached : (t : Ticket) → IsAttached old new c.who.host → c.ticket ≡ Some t → t.job ≡ for_call → new.inc ≡ c.who.inc → ⊥
  none-attached t a is job inc = case c.attached refl
    where
      case : (b : Bool) → c.attached ≡ b → ⊥
      case true e = let cur = lined.current e in let up = a.above in let now = a.after in absurd (omega arith)
      case false e =
          let w = alone.asking.waiting e in let one : w.request ≡ t = some-same w.request t (sym w.asks ∙ is) in
          let j : t.job ≡ attaching = subst (λ z. z.job ≡ attaching) one w.job in absurd (cc)

  -- the request under way was decided
  own-decided : (t : Ticket) (u : UnderWay) (n : ℕ) (es : List Entry) → IsDecided ps old new c.who.host es → c.ticket ≡ Some t → t.job ≡ for_call
      → c.call ≡ Some u → sequence_of t.request ≡ Some n → IsDone new c.who n → Made c.who u.q t.request (es ++ journal)
  own-decided t u n es k is job called draws done = from (lined.settled (k.inc ∙ inc) k.xid k.asks k.who k.seq k.sent k.by inc k.draws)
    where
      inc : k.who.inc ≡ c.who.inc
      inc = sym k.after ∙ done.inc

      who_of : ℕ → ℕ → Who
      who_of host inc = record { host = host; inc = inc }

      one : k.who ≡ c.who
      one = ap (λ m. who_of m k.who.inc) k.here ∙ ap (λ m. who_of c.who.host m) inc

      from : IsSettled c.ticket old.seq k.xid k.seq → Made c.who u.q t.request (es ++ journal)
      from (inl below) = let up = k.above in absurd (omega arith)
      from (inr v) =
          let same : t ≡ v.0 = some-same t v.0 (sym is ∙ v.1) in
          let asks : t.request ≡ k.asks = (mail.asked k.xid k.asks k.who k.sent k.by).same inc t is (ap (λ z. z.xid) same ∙ v.2) in
          let shape : Shape c.who t.request es = subst (λ r. Shape c.who r es) (sym asks) (subst (λ w. Shape w k.asks es) one (k.made done.told)) in
          shaped u t.request es called (h.fits t u is job called) shape

  pub server-keeps : (es : List Entry) → AllMild es → LineMoves ps old new c.who.host es → KeepsOf new c (es ++ journal)
  server-keeps es mild moves = record {
    fits = k.fits;
    is_open = k.is_open;
    told = k.told;
    put = k.put;
    made = λ t u n is job called draws done. made t u n is job called draws done moves;
    numbers = k.numbers;
  } where
    k : KeepsOf old c (es ++ journal)
    k = all-mild c es journal (λ e i. mild e i c.who) h

    made : (t : Ticket) (u : UnderWay) (n : ℕ) → c.ticket ≡ Some t → t.job ≡ for_call → c.call ≡ Some u → sequence_of t.request ≡ Some n
        → IsDone new c.who n → LineMoves ps old new c.who.host es → Made c.who u.q t.request (es ++ journal)
    made t u n is job called draws done (stays same) = k.made t u n is job called draws (subst (λ l. IsDone l c.who n) same done)
    made t u n is job called draws done (attached a) = absurd (none-attached t a is job done.inc)
    made t u n is job called draws done (decided d) = own-decided t u n es d is job called draws done
