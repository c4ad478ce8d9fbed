-- The laws over runs are not in vain: there are runs that have what the laws speak of.
use Rattle.std.specs.Prelude.{◌≡◌, ◌==◌, ◌&&◌, ℕ, Bool, true, false, List, [], ◌∷◌}
use Rattle.nq_base.specs.declared.Event.{Event}
use Rattle.nq_base.specs.declared.Loss.{Loss}
use Rattle.nq_base.specs.declared.Party.{Party}
use Rattle.nq_base.specs.declared.Refusal.TheVariants.{Fenced}
use Rattle.nq_base.specs.declared.Reply.TheVariants.{Refused}
use Rattle.nq_base.specs.declared.Who.{Who}
use Rattle.nq_model.specs.laws.Bounds.{KeepsBounds}
use Rattle.nq_model.specs.laws.Witnesses.{in_order, is_lost_write, is_loss, is_delayed_write, is_store, is_silence, is_silence_of, is_crash, is_opening}
use Rattle.nq_model.specs.laws.Witnesses.{is_start, is_read, is_cut, is_growth, is_write}
use Rattle.nq_model.specs.protocol.ClientStep.{next_incarnation}
use Rattle.nq_model.specs.laws.JournalTest.{exists}
use Rattle.nq_model.specs.protocol.Message.{Message, Packet, reply}
use Rattle.nq_model.specs.laws.ReportedTest.{names}
use Rattle.nq_model.specs.protocol.Skew.{IsWithinSkew}
use Rattle.nq_model.specs.protocol.World.{Head, run}

-- ---- packets

-- whether a message to a host refuses its incarnation's request as fenced, as only delayed writes are refused
abbrev pub refuses_fenced : (who : Who) → Party → Message → Bool
refuses_fenced who (Party.Client host) (reply xid (Refused inc Fenced)) = (host == who.host) && (inc == who.inc)
refuses_fenced who party other = false

-- whether a packet refuses delayed writes of an incarnation
abbrev pub is_refusal : (who : Who) → Packet → Bool
is_refusal who p = refuses_fenced who p.to p.message

-- ---- runs

-- a client's writing lease ended in silence after it had delayed a write; then a push of it was refused, the write was
-- lost, and an answer named it
pub record LosesAfterSilence : Type 0 where
  pub most : ℕ
  pub head : Head
  pub events : List Event
  pub bounds : KeepsBounds most head events
  pub within : IsWithinSkew head.hosts most events
  pub who : Who
  pub loss : Loss
  pub refused : exists (is_refusal who) (run head events).packets ≡ true
  pub lost :
      in_order
      (names (run head events).journal who loss ∷ is_loss who loss ∷ is_silence_of who loss.file ∷ is_lost_write who loss ∷ [])
      (run head events).journal
      ≡ true

-- after a client had delayed a write the server crashed, and its recovery ended; then a push of the client was refused and
-- the write was lost, though no lease ended in silence
pub record LosesAfterRecovery : Type 0 where
  pub most : ℕ
  pub head : Head
  pub events : List Event
  pub bounds : KeepsBounds most head events
  pub within : IsWithinSkew head.hosts most events
  pub who : Who
  pub loss : Loss
  pub boot : ℕ
  pub refused : exists (is_refusal who) (run head events).packets ≡ true
  pub lost :
      in_order
      (is_loss who loss ∷ is_opening boot ∷ is_crash boot ∷ is_lost_write who loss ∷ [])
      (run head events).journal
      ≡ true
  pub none_silent : exists is_silence (run head events).journal ≡ false

-- a delayed write of an incarnation was stored after the next one of its host had started, which then read its value
pub record StoresAfterRestart : Type 0 where
  pub most : ℕ
  pub head : Head
  pub events : List Event
  pub bounds : KeepsBounds most head events
  pub within : IsWithinSkew head.hosts most events
  pub who : Who
  pub file : ℕ
  pub block : ℕ
  pub number : ℕ
  pub value : ℕ
  pub late :
      in_order
      (is_read (run head events).journal (next_incarnation who) file block value
      ∷ is_store who file block number
      ∷ is_start (next_incarnation who)
      ∷ is_delayed_write who file block number value
      ∷ [])
      (run head events).journal
      ≡ true

-- a block that was written was cut off its file; after the file grew again, a read gave 0
pub record CutsAndGrows : Type 0 where
  pub most : ℕ
  pub head : Head
  pub events : List Event
  pub bounds : KeepsBounds most head events
  pub within : IsWithinSkew head.hosts most events
  pub who : Who
  pub file : ℕ
  pub block : ℕ
  pub cut :
      in_order
      (is_read (run head events).journal who file block 0
      ∷ is_growth file block
      ∷ is_cut file block
      ∷ is_write file block
      ∷ [])
      (run head events).journal
      ≡ true

-- there are such runs, each of a schedule that is within bounds and within skew
pub record LawsAreMet : Type 0 where
  pub silence : LosesAfterSilence
  pub recovery : LosesAfterRecovery
  pub restart : StoresAfterRestart
  pub cut : CutsAndGrows
