-- Why the server refuses a request.
use Rattle.std.proofs.Common.{◌≡◌, ℕ, refl, sym, ap, ◌∙◌}
use Rattle.nq_base.specs.declared.Refusal.{Refusal}
use Rattle.nq_base.specs.declared.Reply.{Reply}
use Rattle.nq_base.specs.declared.Request.{Request}
use Rattle.nq_base.specs.declared.Verdict.{Verdict}
use Rattle.nq_base.specs.declared.Who.{Who}
use Rattle.walk_files.proofs.ServerCalls.{IsWhy, undrawn, is_past, otherwise}
use Rattle.walk_steps.proofs.Sequences.{asks-no-seq, reads-no-seq}
use Rattle.nq_model.specs.protocol.Decide.{verdict_reply}
use Rattle.nq_model.specs.protocol.Message.{sequence_of}
use Rattle.nq_model.specs.protocol.Server.{Server}
use Rattle.walk_steps.proofs.ServerOutcomes.{line_of, IsPlain, attached_again, not_yet, no_entry, entry, no_attributes, attributes, no_file, no_block}
use Rattle.walk_steps.proofs.ServerOutcomes.{decided_again, is_old}

-- ---- sequences and verdicts

pub seq-same : (r : Request) → sequence_of r ≡ sequence_of r
seq-same (Request.Create who seq name blocks) = refl
seq-same (Request.Write who seq file block first last push body) = refl
seq-same (Request.Resize who seq q file blocks) = refl
seq-same (Request.Remove who seq q file) = refl
seq-same (Request.Null) = refl
seq-same (Request.Attach who) = refl
seq-same (Request.Lookup who name) = refl
seq-same (Request.GetAttr who file) = refl
seq-same (Request.Read who q file block want) = refl
seq-same (Request.GetLease who file want) = refl
seq-same (Request.Vacated who file tag) = refl
seq-same (Request.Evicted who file tag) = refl

-- a request that was done is not refused
pub done-tells : (inc value : ℕ) (r : Request) (v : Verdict) (i : ℕ) (status : Refusal) → verdict_reply inc v value r ≡ Reply.Refused i status
    → v ≡ Verdict.Done → ⊥
done-tells inc value r Verdict.Fenced i status e done = cc
done-tells inc value r Verdict.Exist i status e done = cc
done-tells inc value r Verdict.NoSpace i status e done = cc
done-tells inc value r Verdict.Invalid i status e done = cc
done-tells inc value r Verdict.Stale i status e done = cc
done-tells inc value r Verdict.TryLater i status e done = cc
done-tells inc value (Request.Create w seq name blocks) Verdict.Done i status e done = cc
done-tells inc value (Request.Write w seq file block first last push body) Verdict.Done i status e done = cc
done-tells inc value (Request.Resize w seq q file blocks) Verdict.Done i status e done = cc
done-tells inc value (Request.Remove w seq q file) Verdict.Done i status e done = cc
done-tells inc value other Verdict.Done i status e done = cc

pub verdict-inc : (inc : ℕ) (v : Verdict) (value : ℕ) (r : Request) (i : ℕ) (status : Refusal) → verdict_reply inc v value r ≡ Reply.Refused i status → i ≡ inc
verdict-inc inc Verdict.Fenced value r i status e = cc
verdict-inc inc Verdict.Exist value r i status e = cc
verdict-inc inc Verdict.NoSpace value r i status e = cc
verdict-inc inc Verdict.Invalid value r i status e = cc
verdict-inc inc Verdict.Stale value r i status e = cc
verdict-inc inc Verdict.TryLater value r i status e = cc
verdict-inc inc Verdict.Done value r i status e = absurd (done-tells inc value r Verdict.Done i status e refl)

-- why a plain reply refuses
pub plain-why : (s : Server) (who : Who) (r : Request) (a : Reply) (inc : ℕ) (status : Refusal) → IsPlain s who r a → a ≡ Reply.Refused inc status
    → (inc ≡ who.inc) × IsWhy (line_of s who) r who
plain-why s who r a inc status (IsPlain.unattached above other e) is =
    let k : Reply.Refused who.inc Refusal.NotAttached ≡ Reply.Refused inc status = sym e ∙ is in (cc, IsWhy.unattached above)
plain-why s who r a inc status (attached_again asks same e) is = let k : Reply.Attach who.inc ≡ Reply.Refused inc status = sym e ∙ is in absurd (cc)
plain-why s who r a inc status (not_yet same rec only e) is =
    let k : Reply.Refused who.inc Refusal.TryLater ≡ Reply.Refused inc status = sym e ∙ is in (cc, undrawn (asks-no-seq r only))
plain-why s who r a inc status (no_entry name same p on none e) is =
    let k : Reply.Refused who.inc Refusal.NoEnt ≡ Reply.Refused inc status = sym e ∙ is in (cc, undrawn (ap sequence_of on))
plain-why s who r a inc status (entry name f same p on some e) is = let k = sym e ∙ is in absurd (cc)
plain-why s who r a inc status (no_attributes file same p on none e) is =
    let k : Reply.Refused who.inc Refusal.Stale ≡ Reply.Refused inc status = sym e ∙ is in (cc, undrawn (ap sequence_of on))
plain-why s who r a inc status (attributes file f same p on some e) is = let k = sym e ∙ is in absurd (cc)
plain-why s who r a inc status (no_file file same p on none e) is =
    let k : Reply.Refused who.inc Refusal.Stale ≡ Reply.Refused inc status = sym e ∙ is in (cc, undrawn (reads-no-seq r file on))
plain-why s who r a inc status (no_block q file block want f same p on some none e) is =
    let k : Reply.Refused who.inc Refusal.Inval ≡ Reply.Refused inc status = sym e ∙ is in (cc, undrawn (ap sequence_of on))
plain-why s who r a inc status (decided_again seq same sq eq e) is = (
  verdict-inc who.inc (line_of s who).verdict (line_of s who).value r inc status (sym e ∙ is),
  otherwise
      (done-tells who.inc (line_of s who).value r (line_of s who).verdict inc status (sym e ∙ is)),
)
plain-why s who r a inc status (is_old seq same sq below e) is =
    let k : Reply.Refused who.inc Refusal.Old ≡ Reply.Refused inc status = sym e ∙ is in (cc, is_past seq (seq-same r ∙ sq) below)
