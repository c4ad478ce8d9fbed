-- Replies whose body is lent.
use Rattle.std.specs.Prelude.{Result, Ok, Err}
use Rattle.nq_base.specs.declared.Reply.{Reply}
use Rattle.nq_wire.specs.declared.lent.LentReply.{LentReply}

-- the reply, with the body that is lent
abbrev pub lent_reply : LentReply → Reply
lent_reply (LentReply.Read inc rev body grant) = Reply.Read inc rev body grant
lent_reply (LentReply.Plain reply) = reply

-- likewise of what a call gave
abbrev pub lent_in : {F : Type 0} → Result LentReply F → Result Reply F
lent_in (Ok r) = Ok (lent_reply r)
lent_in (Err e) = Err e
