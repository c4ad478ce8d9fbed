-- Each reply that the server makes is of the procedure of its request.
use Rattle.std.proofs.Common.{◌≡◌, ℕ, Some, refl}
use Rattle.nq_base.specs.declared.Reply.{Reply}
use Rattle.nq_base.specs.declared.Request.{Request}
use Rattle.nq_base.specs.declared.Verdict.{Verdict}
use Rattle.nq_model.specs.protocol.Decide.{verdict_reply}
use Rattle.nq_model.specs.protocol.Message.{sequence_of}
use Rattle.nq_wire.specs.Reply.{Answers}
use Rattle.nq_wire.specs.Request.{procedure_of}
use Rattle.walk_steps.proofs.ClientMoves.{none-some}
use Rattle.walk_steps.proofs.ReplyTells.{Kind}

-- a reply is of a request's procedure, or refuses it
abbrev pub IsReplyOf : Reply → Request → Type 0
IsReplyOf (Reply.Refused inc status) r = Unit {0}
IsReplyOf other r = Answers other (procedure_of r)

done-of : (inc value : ℕ) (r : Request) (n : ℕ) → sequence_of r ≡ Some n → IsReplyOf (verdict_reply inc Verdict.Done value r) r
done-of inc value (Request.Create w seq name blocks) n e = refl
done-of inc value (Request.Write w seq file block first last push body) n e = refl
done-of inc value (Request.Resize w seq q file blocks) n e = refl
done-of inc value (Request.Remove w seq q file) n e = refl
done-of inc value r n e = none-some n e

pub kind : Kind IsReplyOf
kind = record {
  refused = λ inc status r. tt;
  attached = λ who. refl;
  looked_up = λ who name file blocks. refl;
  attributes = λ who file blocks rev. refl;
  done = done-of;
  has_read = λ who q file block want rev body grant. refl;
  not_leased = λ who file want. refl;
  leased = λ who file table q want row term g. refl;
}
