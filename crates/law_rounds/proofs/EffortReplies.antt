-- What a reply brings costs a client no more than the reply's weight, and what a notice brings no more than one request.
use Rattle.std.proofs.Common.{◌≡◌, ◌≤◌, ℕ, ◌+◌, ◌==◌, ◌&&◌, Bool, true, false, nat_lt, Option, Some, None, refl, ap}
use Rattle.std.proofs.Common.{arith, inl}
use Rattle.nq_base.specs.declared.Call.{Call}
use Rattle.nq_base.specs.declared.Request.{Request}
use Rattle.nq_base.specs.declared.Tag.{Tag}
use Rattle.nq_model.specs.protocol.Client.{Client, ClientStep, begun, Job, attaching, for_call, renewing, pushing, Ticket, UnderWay}
use Rattle.nq_model.specs.protocol.Hear.{wants_of}
use Rattle.nq_model.specs.protocol.Hear.{cancelled, cancels, notes_notice, evicted}
use Rattle.nq_model.specs.protocol.Settle.{is_for_call}
use Rattle.walk_steps.proofs.StepCases.{evicted-cases}
use Rattle.walk_steps.proofs.Rows.{choice}
use Rattle.law_rounds.specs.SendsAgain.{is_cancelled}
use Rattle.law_rounds.specs.Efforts.{write_price, put_price, fresh_for, fresh_left, writes_to, read_left, lease_left, sent_left, job_left, asked_left}
use Rattle.law_rounds.specs.Efforts.{requests_left, calls_left, effort}
use Rattle.law_rounds.proofs.Efforts.{cost}
use Rattle.law_rounds.proofs.EffortHeard.{Goes, vacates-goes}
use Rattle.law_rounds.proofs.EffortCalls.{lease-least, two-left}

module _ (price note : ℕ) where
  -- ---- a notice

  -- what a cancelled request may cost once more
  abbrev pub CancelCosts : (rise : ℕ) → Client → (file : ℕ) → Type 0
  CancelCosts rise c file = requests_left price c.now (nat_lt c.now c.pause) c.call (cancelled file c.ticket) ≤ calls_left price c + rise

  noted-goes : (t : ClientStep) (file : ℕ) (tag : Tag) → Goes price note 1 t (notes_notice t file tag)
  unfolding notes_notice
  noted-goes t file tag = record { rest = omega arith; call = inl refl; ticket = refl; now = refl; pause = refl }

  pub evicted-goes : (t : ClientStep) (file : ℕ) (tag : Tag) → Goes price note 1 t (evicted t file tag)
  evicted-goes t file tag = evicted-cases t file tag (Goes price note 1 t) (record {
    clean = λ e. (vacates-goes price note) t file tag;
    waiting = λ e. noted-goes t
        file tag;
  })

  pub cancels-cost : (rise : ℕ) (c : Client) (file : ℕ) → CancelCosts rise c file → cost price note (cancels (begun c) file) ≤ effort price c + rise
  unfolding cancels
  cancels-cost rise c file few = omega arith

  -- ---- what a cancelled request costs once more

  read-least : (u : UnderWay) → fresh_left price u ≤ read_left price u u.call + price
  read-least u = by u.call refl
    where
      by : (op : Call) → u.call ≡ op → fresh_for price u op ≤ read_left price u op + price
      by (Call.Read file block) is = omega arith
      by (Call.Write file block body) is = let same : fresh_left price u ≡ write_price price u.through = ap (fresh_for price u) is in omega arith
      by (Call.Put file block body) is = let same : fresh_left price u ≡ put_price price u.written = ap (fresh_for price u) is in omega arith
      by (Call.Sync file) is = omega arith
      by (Call.Create name blocks) is = omega arith
      by (Call.Lookup name) is = omega arith
      by (Call.Attr file) is = omega arith
      by (Call.Fetch file block) is = omega arith
      by (Call.Resize file blocks) is = omega arith
      by (Call.Remove file) is = omega arith

  lease-enough : (u : UnderWay) (b : Bool) → fresh_left price u ≤ lease_left price b + price
  lease-enough u b = let two = (two-left price note) u in let one = (lease-least price note) b in omega arith

  cancelled-call : (now : ℕ) (u : UnderWay) (file first : ℕ) (request : Request) → wants_of file request ≡ true → fresh_left price u ≤ sent_left price
      now u first request + price
  cancelled-call now u file first (Request.Read who q f block (Some want)) e = read-least u
  cancelled-call now u file first (Request.Read who q f block None) e = let no : wants_of file (Request.Read who q f block None) ≡ false =
      and-false (f == file) in absurd (cc)
    where
      and-false : (b : Bool) → (b && false) ≡ false
      and-false true = refl
      and-false false = refl
  cancelled-call now u file first (Request.GetLease who f want) e = lease-enough u (first == now && writes_to f u.call)
  cancelled-call now u file first other e = absurd (cc)

  pub cancel-costs : (c : Client) (file : ℕ) → CancelCosts price c file
  cancel-costs c file = by (nat_lt c.now c.pause) c.call c.ticket
    where
      job : (u : UnderWay) (first : ℕ) (request : Request) → wants_of file request ≡ true → (j : Job) → fresh_left price u ≤ job_left price c.now u
          first request j + price
      job u first request e attaching = omega arith
      job u first request e for_call = cancelled-call c.now u file first request e
      job u first request e renewing = omega arith
      job u first request e pushing = omega arith

      by : (b : Bool) (o : Option UnderWay) (ticket : Option Ticket) → requests_left price c.now b o (cancelled file ticket) ≤ requests_left price
          c.now b o ticket + price
      by true o ticket = omega arith
      by false None ticket = omega arith
      by false (Some u) None = omega arith
      by false (Some u) (Some t) = choice (λ (o : Option Ticket). asked_left price c.now u o ≤ asked_left price c.now u (Some t) + price)
          (wants_of file t.request) None (Some t) (λ e. job u t.first t.request e t.job) (λ e. omega arith)

  -- a notice that does not cancel the call's request costs nothing more
  pub uncancelled-costs : (c : Client) (file : ℕ) → is_cancelled file c.ticket ≡ false → CancelCosts 0 c file
  uncancelled-costs c file not_so = by (nat_lt c.now c.pause) c.call c.ticket not_so
    where
      job : (u : UnderWay) (first : ℕ) (request : Request) → wants_of file request ≡ true → (j : Job) → (is_for_call j && wants_of file request)
          ≡ false → fresh_left price u ≤ job_left price c.now u first request j
      job u first request e attaching off = omega arith
      job u first request e for_call off = absurd (cc)
      job u first request e renewing off = omega arith
      job u first request e pushing off = omega arith

      by : (b : Bool) (o : Option UnderWay) (ticket : Option Ticket) → is_cancelled file ticket ≡ false → requests_left price c.now b o
          (cancelled file ticket) ≤ requests_left price c.now b o ticket + 0
      by true o ticket off = omega arith
      by false None ticket off = omega arith
      by false (Some u) None off = omega arith
      by false (Some u) (Some t) off = choice (λ (o : Option Ticket). asked_left price c.now u o ≤ asked_left price c.now u (Some t) + 0)
          (wants_of file t.request) None (Some t) (λ e. let less = job u t.first t.request e t.job off in omega arith) (λ e. omega arith)
