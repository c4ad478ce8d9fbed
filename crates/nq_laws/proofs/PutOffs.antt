-- While the server serves nobody is put off but for a row.
use Rattle.std.proofs.Common.{◌≡◌, ℕ, zero, suc, List, [], ◌∷◌, ◌++◌, Some, refl, sym, subst, ap, ◌∙◌}
use Rattle.std.specs.Prelude.{find, slice_get}
use Rattle.nq_base.specs.declared.Access.{Access}
use Rattle.nq_base.specs.declared.Refusal.{Refusal}
use Rattle.nq_base.specs.declared.Reply.{Reply}
use Rattle.nq_base.specs.declared.Request.{Request}
use Rattle.nq_base.specs.declared.Row.{Row}
use Rattle.nq_base.specs.declared.Verdict.{Verdict}
use Rattle.nq_base.specs.declared.Who.{Who}
use Rattle.nq_model.specs.protocol.Ask.{conflicts}
use Rattle.nq_model.specs.protocol.Decide.{in_the_way, done_reply, verdict_reply, decides, creates, writes_through, stores, stores_recovering, wrote, resizes}
use Rattle.nq_model.specs.protocol.Decide.{removes, puts_off, commits}
use Rattle.nq_model.specs.protocol.Kept.{host_row}
use Rattle.nq_model.specs.laws.LeaseInterval.{requested_file}
use Rattle.nq_model.specs.protocol.Message.{Message, Packet, reply, request, asker, sequence_of}
use Rattle.nq_model.specs.protocol.Server.{serving, recovering, Server, to_host, notices, after_notices, keeping, keeping_with, with_table, quiet, drops, says}
use Rattle.nq_model.specs.protocol.ServerStep.{access_of, attaches, vacates, tells_later, serves, leases, receive}
use Rattle.walk_steps.proofs.ClientMoves.{some-same, none-some}
use Rattle.walk_steps.proofs.Packets.{told-same, reply-same}
use Rattle.walk_steps.proofs.ServerCases.{server-hears}
use Rattle.walk_steps.proofs.ServerOutcomes.{error_for, file_changed_by, wanted_by, IsRecovering, IsPlain, unattached, attached_again, not_yet}
use Rattle.walk_steps.proofs.ServerOutcomes.{no_entry, entry, no_attributes, attributes, no_file, no_block, decided_again, is_old, IsDeclined}
use Rattle.walk_steps.proofs.ServerOutcomes.{bad_length, name_taken, no_room, not_kept, outside, no_row, not_under, not_over, not_while_recovering}
use Rattle.walk_steps.proofs.ServerOutcomes.{bad_size, no_room_to_grow}
use Rattle.nq_laws.specs.PutOff.{file_of, access_by, put_off_reply, IsPutOff, by_others, by_own, PutOffForRows}

-- ---- replies that put nothing off

one-is : (q p : Packet) (i : ℕ) → slice_get (q ∷ []) i ≡ Some p → q ≡ p
one-is q p zero is = some-same q p is
one-is q p (suc i) is = none-some p is

not-done : (inc value i : ℕ) (r : Request) → done_reply inc value r ≡ Reply.Refused i Refusal.TryLater → ⊥
not-done inc value i (Request.Create who seq name blocks) e = cc
not-done inc value i (Request.Write who seq file block first last push body) e = cc
not-done inc value i (Request.Resize who seq q file blocks) e = cc
not-done inc value i (Request.Remove who seq q file) e = cc
not-done inc value i other e = cc

not-later : (inc value i : ℕ) (v : Verdict) (r : Request) → verdict_reply inc v value r ≡ Reply.Refused i Refusal.TryLater → v ≡ Verdict.TryLater
not-later inc value i Verdict.Done r e = absurd (not-done inc value i r e)
not-later inc value i Verdict.Fenced r e = absurd (cc)
not-later inc value i Verdict.Exist r e = absurd (cc)
not-later inc value i Verdict.NoSpace r e = absurd (cc)
not-later inc value i Verdict.Invalid r e = absurd (cc)
not-later inc value i Verdict.Stale r e = absurd (cc)
not-later inc value i Verdict.TryLater r e = refl

serves-not : (s : Server) → s.phase ≡ serving → IsRecovering s → ⊥
serves-not s serves rec = let two : serving ≡ recovering rec.until rec.heard rec.last = sym serves ∙ rec.phase in cc

-- the file of a request that asks the lease table
pub asked-file : (r : Request) (file : ℕ) → requested_file r ≡ Some file → (file_of r ≡ Some file) × (access_by r ≡ access_of (wanted_by r))
asked-file (Request.Read who q f block want) file is = (is, refl)
asked-file (Request.GetLease who f want) file is = (is, refl)
asked-file other file is = none-some file is

pub changed-file : (r : Request) (file : ℕ) → file_changed_by r ≡ Some file → (file_of r ≡ Some file) × (access_by r ≡ Access.Write)
changed-file (Request.Write who seq f block first last push body) file is = (is, refl)
changed-file (Request.Resize who seq q f blocks) file is = (is, refl)
changed-file (Request.Remove who seq q f) file is = (is, refl)
changed-file other file is = none-some file is

module _ (s : Server) (sender next xid : ℕ) (r : Request) (who : Who) (serving_now : s.phase ≡ serving) (asks : asker r ≡ Some who) (new : (seq : ℕ)
    → sequence_of r ≡ Some seq → seq ≡ (host_row s.kept who.host).seq → ⊥) where
  -- where the refusal is sent, it was for a row
  abbrev For : List Packet → Type 0
  For sends = (i : ℕ) → slice_get sends i ≡ Some (to_host sender (reply xid (Reply.Refused who.inc Refusal.TryLater))) → IsPutOff s who xid r sends

  none : For []
  none i is = none-some _ is

  other : (h x : ℕ) (a : Reply) → (a ≡ Reply.Refused who.inc Refusal.TryLater → ⊥) → For (to_host h (reply x a) ∷ [])
  other h x a never i is =
      let same = told-same h sender (reply x a) (reply xid (Reply.Refused who.inc Refusal.TryLater)) (one-is (to_host h (reply x a)) _ i is) in
      absurd (never (reply-same x xid a (Reply.Refused who.inc Refusal.TryLater) same.1).1)

  erred : (m : Message) → error_for (request xid r) ≡ Some m → For (to_host sender m ∷ [])
  erred m e i is = none-some m e

  -- the datagram is this request
  this : (x : ℕ) (z : Request) → request xid r ≡ request x z → (xid ≡ x) × (r ≡ z)
  this x z e = (cc, cc)

  plain : (x : ℕ) (w : Who) (z : Request) (a : Reply) → request xid r ≡ request x z → asker z ≡ Some w → IsPlain s w z a → a ≡ Reply.Refused who.inc
      Refusal.TryLater → ⊥
  plain x w z a e by (unattached later never is) f = let two : Reply.Refused w.inc Refusal.NotAttached ≡ Reply.Refused who.inc Refusal.TryLater =
      sym is ∙ f in cc
  plain x w z a e by (attached_again at same is) f = let two : Reply.Attach w.inc ≡ Reply.Refused who.inc Refusal.TryLater = sym is ∙ f in cc
  plain x w z a e by (not_yet same rec asks is) f = serves-not s serving_now rec
  plain x w z a e by (no_entry name same p at found is) f = let two : Reply.Refused w.inc Refusal.NoEnt ≡ Reply.Refused who.inc Refusal.TryLater =
      sym is ∙ f in cc
  plain x w z a e by (entry name g same p at found is) f = let two : Reply.Lookup w.inc _ _ ≡ Reply.Refused who.inc Refusal.TryLater = sym is ∙ f in cc
  plain x w z a e by (no_attributes file same p at found is) f = let two : Reply.Refused w.inc Refusal.Stale ≡ Reply.Refused who.inc
      Refusal.TryLater = sym is ∙ f in cc
  plain x w z a e by (attributes file g same p at found is) f = let two : Reply.GetAttr w.inc _ _ ≡ Reply.Refused who.inc Refusal.TryLater = sym is ∙ f in cc
  plain x w z a e by (no_file file same p at found is) f = let two : Reply.Refused w.inc Refusal.Stale ≡ Reply.Refused who.inc Refusal.TryLater =
      sym is ∙ f in cc
  plain x w z a e by (no_block q file block want g same p at found missing is) f = let two : Reply.Refused w.inc Refusal.Inval ≡ Reply.Refused who.inc
      Refusal.TryLater = sym is ∙ f in cc
  plain x w z a e by (decided_again seq same sq last is) f =
      let t = this x z e in
      let one : w ≡ who = some-same w who (sym by ∙ ap asker (sym t.1) ∙ asks) in
      new seq (ap sequence_of t.1 ∙ sq) (last ∙ ap (λ v. (host_row s.kept v.host).seq) one)
  plain x w z a e by (is_old seq same sq low is) f = let two : Reply.Refused w.inc Refusal.Old ≡ Reply.Refused who.inc Refusal.TryLater = sym is ∙ f in cc

  declined : (w : Who) (z : Request) (v : Verdict) → IsDeclined s w z v → v ≡ Verdict.TryLater → ⊥
  declined w z v (not_while_recovering rec free is) f = serves-not s serving_now rec
  declined w z v (bad_length seq blocks name p on bad is) f = let two : Verdict.Invalid ≡ Verdict.TryLater = sym is ∙ f in cc
  declined w z v (name_taken seq blocks name p on taken is) f = let two : Verdict.Exist ≡ Verdict.TryLater = sym is ∙ f in cc
  declined w z v (no_room seq blocks name p on full is) f = let two : Verdict.NoSpace ≡ Verdict.TryLater = sym is ∙ f in cc
  declined w z v (not_kept file on missing is) f = let two : Verdict.Stale ≡ Verdict.TryLater = sym is ∙ f in cc
  declined w z v (outside seq file block first last push body g on found out is) f = let two : Verdict.Invalid ≡ Verdict.TryLater = sym is ∙ f in cc
  declined w z v (no_row seq file block first last base body g p on found missing is) f = let two : Verdict.Fenced ≡ Verdict.TryLater = sym is ∙ f in cc
  declined w z v (not_under seq file block first last base body g row p on found some bars is) f = let two : Verdict.Fenced ≡ Verdict.TryLater =
      sym is ∙ f in cc
  declined w z v (not_over seq file block first last base body g rec on found bars is) f = let two : Verdict.Fenced ≡ Verdict.TryLater = sym is ∙ f in cc
  declined w z v (bad_size seq q file blocks g p on found bad is) f = let two : Verdict.Invalid ≡ Verdict.TryLater = sym is ∙ f in cc
  declined w z v (no_room_to_grow seq q file blocks g p on found full is) f = let two : Verdict.NoSpace ≡ Verdict.TryLater = sym is ∙ f in cc

  -- ---- put off

  -- what is shown with the names of the outcome holds with those of the request
  back : (x : ℕ) (w : Who) (z : Request) → request xid r ≡ request x z → asker z ≡ Some w → (sends : List Packet) → IsPutOff s w x z sends
      → IsPutOff s who xid r sends
  back x w z e by sends h =
      let t = this x z e in
      let one : w ≡ who = some-same w who (sym by ∙ ap asker (sym t.1) ∙ asks) in
      subst (λ n. IsPutOff s who n r sends) (sym t.0) (subst (λ y. IsPutOff s who x y sends) (sym t.1) (subst (λ v. IsPutOff s v x z sends) one h))

  by-rows : (x : ℕ) (w : Who) (z : Request) → request xid r ≡ request x z → asker z ≡ Some w → (file : ℕ) (clash : Row) (access : Access) → file_of z
      ≡ Some file → access_by z ≡ access → find (conflicts file w.host access) s.table.rows ≡ Some clash
      → For (notices s.notice (in_the_way s file w.host access) ++ put_off_reply w x ∷ [])
  by-rows x w z e by file clash access on is c i at =
      back x w z e by (notices s.notice (in_the_way s file w.host access) ++ put_off_reply w x ∷ [])
      (subst (λ a. IsPutOff s w x z (notices s.notice (in_the_way s file w.host a) ++ put_off_reply w x ∷ [])) is
      (by_others file clash on (subst (λ a. find (conflicts file w.host a) s.table.rows ≡ Some clash) (sym is) c) refl))

  all : For (receive s sender next (request xid r)).sends
  unfolding quiet drops says attaches vacates serves leases tells_later decides creates writes_through stores stores_recovering wrote resizes removes
      puts_off commits after_notices keeping keeping_with with_table
  all = server-hears s sender next (request xid r) (λ t. For t.sends) (record {
    stays = none;
    dropping = λ reason. none;
    erring = λ m e. erred m e;
    answers_null = λ x e. other sender x Reply.Null (λ f. cc);
    replying = λ x w z a e by from is. other w.host x a (plain x w z a e by is);
    attaching = λ x w e from later. other w.host x (Reply.Attach w.inc) (λ f. cc);
    vacating = λ x w file tag e current. none;
    putting_off = λ x w z f clash e by file asking c. by-rows x w z e by f.id clash (access_of (wanted_by z)) (asked-file z f.id file).0
        (asked-file z f.id file).1 c;
    putting_off_waiting = λ x w z f clash want e by file wants asking c own room. by-rows x w z e by f.id clash (access_of (Some want))
        (asked-file z f.id file).0 ((asked-file z f.id file).1 ∙ ap access_of wants) c;
    putting_off_by_own = λ x w z f want own e by file wants asking c o evicting i at. back x w z e by (notices s.notice (own ∷ []) ++ put_off_reply w
        x ∷ []) (by_own f.id own (asked-file z f.id file).0 o evicting refl);
    reading = λ x w q block f body e asking there c. other w.host x _ (λ g. cc);
    reading_full = λ x w q block want f body e asking there c own room. other w.host x _ (λ g. cc);
    reading_granted = λ x w q block want f body row term e asking there c g. other w.host x _ (λ h. cc);
    leasing_full = λ x w want f e asking c own room. other w.host x _ (λ g. cc);
    leasing = λ x w want f row term e asking c g. other w.host x _ (λ h. cc);
    declining = λ x w seq z verdict e by sq fresh is. other w.host x (verdict_reply w.inc verdict 0 z) (λ f. declined w z verdict is
        (not-later w.inc 0 who.inc verdict z f));
    putting_off_change = λ x w seq z f clash e by sq file base changing c. by-rows x w z e by f.id clash Access.Write (changed-file z f.id file).0
        (changed-file z f.id file).1 c;
    creating = λ x w seq blocks name e fresh serves can. other w.host x _ (λ f. cc);
    writing_through = λ x w seq block first last body f e changing below c. other w.host x _ (λ g. cc);
    storing = λ x w seq block first last base body f row e changing below can. other w.host x _ (λ g. cc);
    storing_recovering = λ x w seq block first final base body f until heard last e fresh recovers found below boot rev. other w.host x _ (λ g. cc);
    resizing = λ x w seq q blocks f e changing can c. other w.host x _ (λ g. cc);
    removing = λ x w seq q f e changing c. other w.host x _ (λ g. cc);
  })

pub put-off-for-rows : PutOffForRows
put-off-for-rows s sender next xid i r who serving_now asks new is = all s sender next xid r who serving_now asks new i is
