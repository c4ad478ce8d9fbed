-- A client that is not attached, or that did nothing yet, has no chains.
use Rattle.std.proofs.Common.{◌≡◌, ◌<◌, ℕ, true, false, List, [], Option, Some, None, refl, sym, subst, ap, ◌∙◌, arith}
use Rattle.nq_base.specs.declared.Push.{Push}
use Rattle.nq_base.specs.declared.Request.{Request}
use Rattle.nq_base.specs.declared.Who.{Who}
use Rattle.walk_files.proofs.ServerChains.{LineTo, line_stays, line_begins, line_decides}
use Rattle.walk_files.proofs.ChainFacts.{line_for, ChainFits}
use Rattle.walk_steps.proofs.ClientFacts.{Alone, fits_job}
use Rattle.walk_steps.proofs.ClientMoves.{some-same, none-some}
use Rattle.nq_model.specs.protocol.Client.{Client, attaching, Ticket, lease_on, is_clean_in}
use Rattle.nq_model.specs.protocol.ClientStep.{fresh_client, attached_client}
use Rattle.nq_model.specs.laws.LeaseInterval.{requested_file}
use Rattle.nq_model.specs.protocol.Message.{Packet, sequence_of}
use Rattle.nq_model.specs.protocol.Server.{Server}
use Rattle.walk_steps.proofs.HostLine.{LineFits}

-- a client without leases, calls and delayed writes, whose request under way, if there is one, is to attach
pub record IsIdle (c : Client) : Type 0 where
  pub leases : c.leases ≡ []
  pub call : c.call ≡ None
  pub dirty : c.dirty ≡ []
  pub push : c.push ≡ None
  pub asks : (t : Ticket) → c.ticket ≡ Some t → (w : Who) × (t.request ≡ Request.Attach w)

pub idle-fits : (s : Server) (c : Client) (ps : List Packet) → IsIdle c → 0 < c.seq
    → ((line_for s.kept c.who).inc ≡ c.who.inc → (line_for s.kept c.who).seq < c.seq) → ChainFits s c ps
idle-fits s c ps idle above drawn = record {
  held = record {
    known = λ file l e. none-some l (no-lease file ∙ e);
    numbered = λ file l e. none-some l (no-lease file ∙ e);
    chained = λ file l row e. none-some l (no-lease file ∙ e);
    below = λ file l row e. none-some l (no-lease file ∙ e);
  };
  given = record { fits = λ file g t k. let a = idle.asks t k.asked in none-some file (ap requested_file (sym a.1) ∙ k.on_file) };
  writes = record {
    held = λ file u. absurd (clean file u);
    bound = λ file l u. absurd (clean file u);
    pushed = λ t w n file block first last base body e is. let a = idle.asks t e in let bad = sym a.1 ∙ is in absurd (cc);
    through = λ t w n file block first last body e job is. let a = idle.asks t e in let bad = sym a.1 ∙ is in absurd (cc);
    leased = λ t w file want e job is. let a = idle.asks t e in let bad = sym a.1 ∙ is in absurd (cc);
    marked = λ u e. none-some u (sym idle.call ∙ e);
  };
  line = record {
    above = above;
    drawn = drawn;
    last = λ t n e sq. let a = idle.asks t e in none-some n (ap sequence_of (sym a.1) ∙ sq);
    replied = λ x a t n told inc e number sq. let k = idle.asks t e in none-some n (ap sequence_of (sym k.1) ∙ sq);
    decided = λ t n e sq. let a = idle.asks t e in none-some n (ap sequence_of (sym a.1) ∙ sq);
  };
} where
  no-lease : (file : ℕ) → None ≡ lease_on file c.leases
  no-lease file = ap (lease_on file) (sym idle.leases)

  clean : (file : ℕ) → is_clean_in file c.dirty c.push ≡ false → ⊥
  clean file u =
      let k : is_clean_in file [] None ≡ false = subst (λ xs. is_clean_in file xs None ≡ false) idle.dirty
      (subst (λ o. is_clean_in file c.dirty o ≡ false) idle.push u) in
      cc

-- a client that is not attached is idle
pub waiting-idle : (c : Client) → Alone c → c.attached ≡ false → IsIdle c
waiting-idle c a e = record {
  leases = (a.asking.waiting e).no_lease;
  call = (a.asking.waiting e).idle;
  dirty = a.delaying.empty e;
  push = none c.push refl;
  asks = λ t is. asks t is;
} where
  own : (t : Ticket) → c.ticket ≡ Some t → t.job ≡ attaching
  own t is = let w = a.asking.waiting e in subst (λ z. z.job ≡ attaching) (some-same w.request t (sym w.asks ∙ is)) w.job

  none : (o : Option Push) → c.push ≡ o → c.push ≡ None
  none None is = is
  none (Some p) is =
      let k = a.delaying.under_way p is in
      let job = own k.request k.asks in
      let pushes = k.job in
      absurd (cc)

  attach-of : (r : Request) → fits_job attaching r ≡ true → (w : Who) × (r ≡ Request.Attach w)
  attach-of (Request.Attach w) f = (w, refl)
  attach-of other f = absurd (cc)

  asks : (t : Ticket) → c.ticket ≡ Some t → (w : Who) × (t.request ≡ Request.Attach w)
  asks t is = attach-of t.request (subst (λ j. fits_job j t.request ≡ true) (own t is) (a.asking.ticketed t is).fits)

-- after a step of the server
pub waiting-after : (ps qs : List Packet) (s t : Server) (c : Client) → Alone c → c.attached ≡ false
    → LineFits c.who c.attached c.ticket c.notices (line_for s.kept c.who) ps → ChainFits s c ps → LineTo ps s t c.who.host → ChainFits t c qs
waiting-after ps qs s t c a e lined h line = idle-fits t c qs (waiting-idle c a e) h.line.above (λ inc. drawn inc line)
  where
    drawn : (line_for t.kept c.who).inc ≡ c.who.inc → LineTo ps s t c.who.host → (line_for t.kept c.who).seq < c.seq
    drawn inc (line_stays same) =
        let before = h.line.drawn (ap (λ l. l.inc) (sym same) ∙ inc) in
        let one : (line_for t.kept c.who).seq ≡ (line_for s.kept c.who).seq = ap (λ l. l.seq) same in
        omega arith
    drawn inc (line_begins x w sent here later i zero) = let some = h.line.above in omega arith
    drawn inc (line_decides x r w n v value sent by here i sq later is fits) =
        let running : w.inc ≡ c.who.inc = sym (ap (λ l. l.inc) is) ∙ inc in
        let attach : r ≡ Request.Attach w = lined.waiting e x r w sent by running in
        none-some n (ap sequence_of (sym attach) ∙ sq)

-- a client that is attached from the start is idle
pub start-idle : (who : Who) (term : ℕ) → IsIdle (attached_client who term 0)
unfolding attached_client fresh_client
start-idle who term = record { leases = refl; call = refl; dirty = refl; push = refl; asks = λ t e. none-some t e }

pub start-seq : (who : Who) (term : ℕ) → (attached_client who term 0).seq ≡ 1
unfolding attached_client fresh_client
start-seq who term = refl

pub start-who : (who : Who) (term : ℕ) → (attached_client who term 0).who ≡ who
unfolding attached_client fresh_client
start-who who term = refl
