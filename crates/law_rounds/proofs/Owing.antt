-- A server sends one reply to each datagram that is owed one, and nothing to another.
use Rattle.std.proofs.Common.{◌≡◌, ◌⊎◌, ℕ, ◌==◌, Bool, true, false, not, ◌&&◌, nat_lt, List, [], ◌∷◌, ◌++◌, Option, Some, None, if◌then◌else◌, refl}
use Rattle.std.proofs.Common.{sym, subst, ap, inl, inr, arith}
use Rattle.std.proofs.lemmas.Bool.Decides.{nat_tests}
use Rattle.std.specs.Prelude.{slice_get}
use Rattle.nq_base.specs.declared.Access.{Access}
use Rattle.nq_base.specs.declared.Asked.{Asked}
use Rattle.nq_base.specs.declared.Grant.{Grant}
use Rattle.nq_base.specs.declared.HostRow.{HostRow}
use Rattle.nq_base.specs.declared.Party.{Party}
use Rattle.nq_base.specs.declared.Request.{Request}
use Rattle.nq_base.specs.declared.Row.{Row}
use Rattle.nq_base.specs.declared.Tag.{Tag}
use Rattle.nq_base.specs.declared.Verdict.{Verdict}
use Rattle.nq_base.specs.declared.Want.{Want}
use Rattle.nq_base.specs.declared.Who.{Who}
use Rattle.nq_model.specs.laws.RepliesAreOwed.{has_reply, goes_out, is_out_of_bounds, owes_incarnation, owes_request, owes, CanBe, IsReply, brings_result}
use Rattle.nq_model.specs.laws.RepliesAreOwed.{brings_error, IsReplied, RepliesAreOwed}
use Rattle.nq_model.specs.protocol.Decide.{Decision, decide, decides, creates, writes_through, stores, stores_recovering, resizes, removes, puts_off}
use Rattle.nq_model.specs.protocol.Decide.{verdict_reply, row_after, commits, decided_once}
use Rattle.nq_model.specs.protocol.Kept.{File, find_file, find_name, can_be_kept, host_row}
use Rattle.nq_model.specs.protocol.Message.{Message, reply, Packet, Datagram, too_long, no_message, no_call, other_rpc, other_program, other_version}
use Rattle.nq_model.specs.protocol.Message.{unknown_procedure, garbage_vacated, garbage, request, Reason, wrong_host, asker}
use Rattle.nq_model.specs.protocol.Profile.{most_hosts}
use Rattle.nq_model.specs.protocol.Server.{Phase, serving, recovering, Server, ServerStep, to_host, says, quiet, drops, notices}
use Rattle.nq_model.specs.protocol.ServerStep.{row_of_attach, attaches, attach, look_up, get_attr, read_asked, read_block, read, lease_asked, get_lease}
use Rattle.nq_model.specs.protocol.ServerStep.{vacates, tells_later, serves, leases, look, perform, not_attached, is_attach, admit, answer_request, receive}
use Rattle.nq_model.specs.protocol.Table.{Table}
use Rattle.walk_steps.proofs.ClientMoves.{some-same, none-some}
use Rattle.walk_steps.proofs.Rows.{choice}
use Rattle.walk_steps.proofs.ServerCases.{server-hears}
use Rattle.walk_steps.proofs.ServerOutcomes.{error_for}

-- ---- what is sent is nothing, or notices and a reply

abbrev Shaped : Server → ServerStep → Type 0
Shaped s t = (t.sends ≡ []) ⊎ IsReplied s t.sends

module _ (s : Server) where
  stays : Shaped s (quiet s)
  unfolding quiet
  stays = inl refl

  dropping : (reason : Reason) → Shaped s (drops s reason)
  unfolding drops
  dropping reason = inl refl

  saying : (host : ℕ) (m : Message) → IsReply (record { sender = Party.Server; to = Party.Client host; message = m }) → Shaped s (says s host m)
  unfolding says
  saying host m is = inr (record { rows = []; answer = _; is = refl; replies = is })

  error-says : (host : ℕ) (d : Datagram) (m : Message) → error_for d ≡ Some m → Shaped s (says s host m)
  error-says host (other_rpc xid) m e = subst (λ z. Shaped s (says s host z)) (some-same _ m e) (saying host _ (brings_error host xid _ refl))
  error-says host (other_program xid) m e = subst (λ z. Shaped s (says s host z)) (some-same _ m e) (saying host _ (brings_error host xid _ refl))
  error-says host (other_version xid) m e = subst (λ z. Shaped s (says s host z)) (some-same _ m e) (saying host _ (brings_error host xid _ refl))
  error-says host (unknown_procedure xid) m e = subst (λ z. Shaped s (says s host z)) (some-same _ m e) (saying host _ (brings_error host xid _ refl))
  error-says host (garbage xid) m e = subst (λ z. Shaped s (says s host z)) (some-same _ m e) (saying host _ (brings_error host xid _ refl))
  error-says host other m e = none-some m e

  attaching : (who : Who) (xid : ℕ) → Shaped s (attaches s who xid)
  unfolding attaches
  attaching who xid = inr (record { rows = []; answer = _; is = refl; replies = brings_result who.host xid _ refl })

  vacating : (who : Who) (file : ℕ) (tag : Tag) → Shaped s (vacates s who file tag)
  unfolding vacates quiet
  vacating who file tag = inl refl

  later : (who : Who) (xid : ℕ) (table : Table) (rows : List Row) → Shaped s (tells_later s who xid table rows)
  unfolding tells_later
  later who xid table rows = inr (record { rows = rows; answer = _; is = refl; replies = brings_result who.host xid _ refl })

  serving-one : (who : Who) (xid next q : ℕ) (f : File) (block : ℕ) (body : List ℕ) (table : Table) (o : Option Grant)
      → Shaped s (serves s who xid next q f block body table o)
  unfolding serves
  serving-one who xid next q f block body table o = inr (record { rows = []; answer = _; is = refl; replies = brings_result who.host xid _ refl })

  leasing : (who : Who) (xid file : ℕ) (table : Table) (o : Option Grant) → Shaped s (leases s who xid file table o)
  unfolding leases
  leasing who xid file table o = inr (record { rows = []; answer = _; is = refl; replies = brings_result who.host xid _ refl })

  committing : (who : Who) (seq xid : ℕ) (r : Request) (d : Decision) (rows : List Row) → d.sends ≡ notices s.notice rows → Shaped s (commits who seq xid r d)
  unfolding commits
  committing who seq xid r d rows is =
      let answer = to_host who.host (reply xid (verdict_reply who.inc d.verdict d.value r)) in
      inr
      (record {
        rows = rows;
        answer = answer;
        is = ap (λ z. z ++ answer ∷ []) is;
        replies = brings_result who.host xid
            (verdict_reply who.inc d.verdict d.value r) refl;
      })

  declining : (who : Who) (seq xid : ℕ) (r : Request) (v : Verdict) → Shaped s (commits who seq xid r (decides s v))
  unfolding decides
  declining who seq xid r v = committing who seq xid r (decides s v) [] refl

  putting-off : (who : Who) (seq xid : ℕ) (r : Request) (file : ℕ) (table : Table) → Shaped s (commits who seq xid r (puts_off s who file table))
  unfolding puts_off
  putting-off who seq xid r file table = committing who seq xid r (puts_off s who file table) _ refl

  creating : (who : Who) (seq xid : ℕ) (r : Request) (name : List ℕ) (blocks : ℕ) → Shaped s (commits who seq xid r (creates s name blocks))
  unfolding creates
  creating who seq xid r name blocks = committing who seq xid r (creates s name blocks) [] refl

  writing-through : (who : Who) (seq xid : ℕ) (r : Request) (f : File) (block number : ℕ) (body : List ℕ)
      → Shaped s (commits who seq xid r (writes_through s who f block number body))
  unfolding writes_through
  writing-through who seq xid r f block number body = committing who seq xid r (writes_through s who f block number body) [] refl

  storing : (who : Who) (seq xid : ℕ) (r : Request) (f : File) (row : Row) (block a b : ℕ) (body : List ℕ)
      → Shaped s (commits who seq xid r (stores s who f row block a b body))
  unfolding stores
  storing who seq xid r f row block a b body = committing who seq xid r (stores s who f row block a b body) [] refl

  storing-recovering : (until : ℕ) (last : Option Table) (who : Who) (seq xid : ℕ) (r : Request) (f : File) (block a b : ℕ) (body : List ℕ)
      → Shaped s (commits who seq xid r (stores_recovering s until last who f block a b body))
  unfolding stores_recovering
  storing-recovering until last who seq xid r f block a b body = committing who seq xid r (stores_recovering s until last who f block a b body) [] refl

  resizing : (who : Who) (seq xid : ℕ) (r : Request) (q : ℕ) (f : File) (blocks : ℕ) → Shaped s (commits who seq xid r (resizes s who q f blocks))
  unfolding resizes
  resizing who seq xid r q f blocks = committing who seq xid r (resizes s who q f blocks) [] refl

  removing : (who : Who) (seq xid : ℕ) (r : Request) (q : ℕ) (f : File) → Shaped s (commits who seq xid r (removes s who q f))
  unfolding removes
  removing who seq xid r q f = committing who seq xid r (removes s who q f) [] refl

  shaped : (sender next : ℕ) (d : Datagram) → Shaped s (receive s sender next d)
  shaped sender next d = server-hears s sender next d (Shaped s) (record {
    stays = stays;
    dropping = dropping;
    erring = λ m e. error-says sender d m e;
    answers_null = λ xid e. saying sender _ (brings_result sender xid _ refl);
    replying = λ xid who r a e by from plain. saying who.host _ (brings_result who.host xid a refl);
    attaching = λ xid who e from above. attaching who xid;
    vacating = λ xid who file tag e now. vacating who file tag;
    putting_off = λ xid who r f clash e by on asking c. later who xid _ _;
    putting_off_waiting = λ xid who r f clash want e by on w asking c own room. later who xid _ _;
    putting_off_by_own = λ xid who r f want own e by on w asking c o ev. later who xid _ _;
    reading = λ xid who q block f body e asking there c. serving-one who xid next q f block body _ None;
    reading_full = λ xid who q block want f body e asking there c own room. serving-one who xid next q f block body _ None;
    reading_granted = λ xid who q block want f body row term e asking there c granted. serving-one who xid next q f block body _ _;
    leasing_full = λ xid who want f e asking c own room. leasing who xid f.id _ None;
    leasing = λ xid who want f row term e asking c granted. leasing who xid f.id _ _;
    declining = λ xid who seq r v e by sq fresh declined. declining who seq xid r v;
    putting_off_change = λ xid who seq r f clash e by sq changes base changing c. putting-off who seq xid r f.id _;
    creating = λ xid who seq blocks name e fresh serves can. creating who seq xid _ name blocks;
    writing_through = λ xid who seq block first last body f e changing below c. writing-through who seq xid _ f block first body;
    storing = λ xid who seq block first last base body f row e changing below can. storing who seq xid _ f row block first last body;
    storing_recovering =
        λ xid who seq block first final base body f until heard last e fresh p found below boot rev. storing-recovering until last who seq xid _ f block
        first final body;
    resizing = λ xid who seq q blocks f e changing can c. resizing who seq xid _ q f blocks;
    removing = λ xid who seq q f e changing c. removing who seq xid _ q f;
  })

-- ---- what is owed is sent

-- something is sent
abbrev Sends : ServerStep → Type 0
Sends t = t.sends ≡ [] → ⊥

true-false : (b : Bool) → b ≡ true → b ≡ false → ⊥
true-false b t f = cc

both-hold : (a b : Bool) → a ≡ true → b ≡ false → (a && not b) ≡ false → ⊥
both-hold true true e f h = cc
both-hold true false e f h = cc
both-hold false b e f h = cc

owed-parts : (has out : Bool) → (has && not out) ≡ true → (has ≡ true) × (out ≡ false)
owed-parts true true h = absurd (cc)
owed-parts true false h = (refl, refl)
owed-parts false out h = absurd (cc)

unowed-parts : (has out : Bool) → (has && not out) ≡ false → (has ≡ false) ⊎ (out ≡ true)
unowed-parts true true h = inr refl
unowed-parts true false h = absurd (cc)
unowed-parts false out h = inl refl

-- a later sequence of the kept incarnation, which does not go out of bounds, leaves a row that can be kept
stays-within :
    (inc kept seq last : ℕ) (can : Bool) → nat_lt inc kept ≡ false → nat_lt kept inc ≡ false → (seq == last) ≡ false → nat_lt seq last ≡ false
    → (inc == kept && nat_lt last seq && not can) ≡ false → can ≡ true
stays-within inc kept seq last true young old differs above h = refl
stays-within inc kept seq last false young old differs above h = grind (arith, nat_tests)

both-fail : (a b : Bool) → b ≡ true → (a && not b) ≡ true → ⊥
both-fail true true e h = cc
both-fail true false e h = cc
both-fail false b e h = cc

first-fails : (a b : Bool) → a ≡ false → (a && not b) ≡ true → ⊥
first-fails true b e h = cc
first-fails false b e h = cc

bools-cancel : (a b : Bool) → (a && b && false) ≡ true → ⊥
bools-cancel true true h = cc
bools-cancel true false h = cc
bools-cancel false b h = cc

-- what led to a request that goes out of bounds
record GoesOut (inc kept seq last : ℕ) (can : Bool) : Type 0 where
  now : nat_lt kept inc ≡ false
  differs : (seq == last) ≡ false
  above : nat_lt seq last ≡ false
  past : can ≡ false

goes-parts : (inc kept seq last : ℕ) (can : Bool) → (inc == kept && nat_lt last seq && not can) ≡ true → GoesOut inc kept seq last can
goes-parts inc kept seq last true h = absurd (bools-cancel (inc == kept) (nat_lt last seq) h)
goes-parts inc kept seq last false h =
    record { now = grind (arith, nat_tests); differs = grind (arith, nat_tests); above = grind (arith, nat_tests); past = refl }

older : (a b : ℕ) → nat_lt a b ≡ true → nat_lt b a ≡ false
older a b h = grind (arith, nat_tests)

more-sent : (xs : List Packet) (p : Packet) → xs ++ p ∷ [] ≡ [] → ⊥
more-sent [] p e = cc
more-sent (x ∷ xs) p e = cc

module _ (s : Server) where
  said : (host : ℕ) (m : Message) → Sends (says s host m)
  unfolding says
  said host m e = cc

  attached : (who : Who) (xid : ℕ) → Sends (attaches s who xid)
  unfolding attaches
  attached who xid e = cc

  told-later : (who : Who) (xid : ℕ) (table : Table) (rows : List Row) → Sends (tells_later s who xid table rows)
  unfolding tells_later
  told-later who xid table rows e = more-sent _ _ e

  served : (who : Who) (xid next q : ℕ) (f : File) (block : ℕ) (body : List ℕ) (table : Table) (o : Option Grant)
      → Sends (serves s who xid next q f block body table o)
  unfolding serves
  served who xid next q f block body table o e = cc

  leased : (who : Who) (xid file : ℕ) (table : Table) (o : Option Grant) → Sends (leases s who xid file table o)
  unfolding leases
  leased who xid file table o e = cc

  committed : (who : Who) (seq xid : ℕ) (r : Request) (d : Decision) → Sends (commits who seq xid r d)
  unfolding commits
  committed who seq xid r d e = more-sent d.sends _ e

  read-sends : (who : Who) (xid next q : ℕ) (f : File) (block : ℕ) (body : List ℕ) (access : Access) (table : Table) (a : Asked)
      → Sends (read_asked s who xid next q f block body access table a)
  read-sends who xid next q f block body access table (Asked.TryLater clash) = told-later who xid table _
  read-sends who xid next q f block body access table (Asked.Granted g) = served who xid next q f block body table (Some g)
  read-sends who xid next q f block body access table Asked.Free = served who xid next q f block body table None
  read-sends who xid next q f block body access table Asked.NoLease = served who xid next q f block body table None

  block-sends : (who : Who) (xid next q : ℕ) (f : File) (block : ℕ) (want : Option Want) (o : Option (List ℕ))
      → Sends (read_block s who xid next q f block want o)
  block-sends who xid next q f block want None = said who.host _
  block-sends who xid next q f block want (Some body) = read-sends who xid next q f block body _ _ _

  reads : (who : Who) (xid next q block : ℕ) (want : Option Want) (o : Option File) → Sends (read s who xid next q block want o)
  reads who xid next q block want None = said who.host _
  reads who xid next q block want (Some f) = block-sends who xid next q f block want (slice_get f.bodies block)

  lease-sends : (who : Who) (xid file : ℕ) (access : Access) (table : Table) (a : Asked) → Sends (lease_asked s who xid file access table a)
  lease-sends who xid file access table (Asked.TryLater clash) = told-later who xid table _
  lease-sends who xid file access table (Asked.Granted g) = leased who xid file table (Some g)
  lease-sends who xid file access table Asked.Free = leased who xid file table None
  lease-sends who xid file access table Asked.NoLease = leased who xid file table None

  gets : (who : Who) (xid : ℕ) (want : Want) (o : Option File) → Sends (get_lease s who xid want o)
  gets who xid want None = said who.host _
  gets who xid want (Some f) = lease-sends who xid f.id _ _ _

  looks-up : (who : Who) (xid : ℕ) (o : Option File) → Sends (look_up s who xid o)
  looks-up who xid None = said who.host _
  looks-up who xid (Some f) = said who.host _

  gets-attr : (who : Who) (xid : ℕ) (o : Option File) → Sends (get_attr s who xid o)
  gets-attr who xid None = said who.host _
  gets-attr who xid (Some f) = said who.host _

  decided-sends :
      (who : Who) (seq xid : ℕ) (r : Request) (line : HostRow) → nat_lt who.inc line.inc ≡ false → nat_lt line.inc who.inc ≡ false
      → goes_out s who r line (Some seq) ≡ false → Sends (decided_once s who seq xid r line)
  decided-sends who seq xid r line young old stays =
      choice Sends (seq == line.seq) _ _ (λ e. said who.host _) (λ e.
      choice Sends (nat_lt seq line.seq) _ _ (λ f. said who.host _) (λ f.
      choice Sends (can_be_kept (row_after who seq (decide s who r))) _ _ (λ can. committed who seq xid r (decide s who r)) (λ past.
      absurd (true-false _ (stays-within who.inc line.inc seq line.seq _ young old e f stays) past))))

  attach-sends :
      (who : Who) (xid : ℕ) (line : HostRow) → nat_lt who.inc line.inc ≡ false → (nat_lt line.inc who.inc && not (can_be_kept (row_of_attach who))) ≡ false
      → Sends (attach s who xid line)
  attach-sends who xid line young stays =
      choice Sends (nat_lt line.inc who.inc) _ _
      (λ e. choice Sends (can_be_kept (row_of_attach who)) _ _ (λ can. attached who xid) (λ past. absurd (both-hold _ _ e past stays)))
      (λ e. choice Sends (nat_lt who.inc line.inc) _ _ (λ old. absurd (cc)) (λ f. said who.host _))

  look-sends : (p : Phase) (who : Who) (xid next : ℕ) (r : Request) → (p ≡ serving → Sends (look s serving who xid next r)) → Sends (look s p who xid next r)
  look-sends serving who xid next r when = when refl
  look-sends (recovering until heard last) who xid next r when = said who.host _

  performs :
      (who : Who) (xid next : ℕ) (line : HostRow) (r : Request) → nat_lt who.inc line.inc ≡ false → nat_lt line.inc who.inc ≡ false → asker r ≡ Some who
      → has_reply r ≡ true → is_out_of_bounds s who r line ≡ false → Sends (perform s who xid next line r)
  performs who xid next line (Request.Create w seq name blocks) young old by has stays = decided-sends who seq xid _ line young old stays
  performs who xid next line (Request.Write w seq file block first last push body) young old by has stays = decided-sends who seq xid _ line young old stays
  performs who xid next line (Request.Resize w seq q file blocks) young old by has stays = decided-sends who seq xid _ line young old stays
  performs who xid next line (Request.Remove w seq q file) young old by has stays = decided-sends who seq xid _ line young old stays
  performs who xid next line (Request.Vacated w file tag) young old by has stays = absurd (cc)
  performs who xid next line (Request.Lookup w name) young old by has stays =
      look-sends s.phase who xid next _ (λ p. looks-up who xid (find_name name s.kept.files))
  performs who xid next line (Request.GetAttr w file) young old by has stays =
      look-sends s.phase who xid next _ (λ p. gets-attr who xid (find_file file s.kept.files))
  performs who xid next line (Request.Read w q file block want) young old by has stays =
      look-sends s.phase who xid next _ (λ p. reads who xid next q block want (find_file file s.kept.files))
  performs who xid next line (Request.GetLease w file want) young old by has stays =
      look-sends s.phase who xid next _ (λ p. gets who xid want (find_file file s.kept.files))
  performs who xid next line (Request.Attach w) young old by has stays = attach-sends who xid line young stays
  performs who xid next line (Request.Evicted w file tag) young old by has stays = absurd (cc)
  performs who xid next line Request.Null young old by has stays = none-some who by

  unattached : (who : Who) (xid : ℕ) (r : Request) → has_reply r ≡ true → Sends (not_attached s who xid r)
  unattached who xid (Request.Vacated w file tag) has = absurd (cc)
  unattached who xid other has = said who.host _

  admits :
      (who : Who) (xid next : ℕ) (r : Request) (line : HostRow) → asker r ≡ Some who → owes_incarnation s who r line ≡ true
      → Sends (admit s who xid next r line)
  admits who xid next r line by owed = by-age (nat_lt who.inc line.inc) refl owed
    where
      attaching :
          (q : Request) → is_attach q ≡ true → is_out_of_bounds s who q line ≡ false
          → (nat_lt line.inc who.inc && not (can_be_kept (row_of_attach who))) ≡ false
      attaching (Request.Attach w) is stays = stays
      attaching other is stays = absurd (cc)

      by-age :
          (b : Bool) → nat_lt who.inc line.inc ≡ b → (if b then false else has_reply r && not (is_out_of_bounds s who r line)) ≡ true
          → Sends (admit s who xid next r line)
      by-age true old bad = absurd (cc)
      by-age false young has =
          let parts = owed-parts (has_reply r) (is_out_of_bounds s who r line) has in
          choice Sends (is_attach r) _ _ (λ e. attach-sends who xid line young (attaching r e parts.1))
          (λ e. choice Sends (nat_lt who.inc line.inc) _ _ (λ old. absurd (cc)) (λ f.
          choice Sends (nat_lt line.inc who.inc) _ _ (λ g. unattached who xid r parts.0) (λ g. performs who xid next line r young g by parts.0 parts.1)))

  requests : (sender xid next : ℕ) (r : Request) (o : Option Who) → asker r ≡ o → owes_request s sender r o ≡ true
      → Sends (answer_request s sender xid next r o)
  requests sender xid next r None by owed = said sender _
  requests sender xid next r (Some who) by owed = step (who.host == sender && nat_lt who.host most_hosts) owed
    where
      step :
          (b : Bool) → (if b then owes_incarnation s who r (host_row s.kept who.host) else false) ≡ true
          → Sends (if b then admit s who xid next r (host_row s.kept who.host) else drops s wrong_host)
      step true e = admits who xid next r (host_row s.kept who.host) by e
      step false e = absurd (cc)

  sends-owed : (sender next : ℕ) (d : Datagram) → owes s sender d ≡ true → Sends (receive s sender next d)
  sends-owed sender next (other_rpc xid) e = said sender _
  sends-owed sender next (other_program xid) e = said sender _
  sends-owed sender next (other_version xid) e = said sender _
  sends-owed sender next (unknown_procedure xid) e = said sender _
  sends-owed sender next (garbage xid) e = said sender _
  sends-owed sender next (request xid r) e = requests sender xid next r (asker r) refl e
  sends-owed sender next other e = absurd (cc)

  -- ---- what is not owed is not sent

  dropped : (reason : Reason) → (drops s reason).sends ≡ []
  unfolding drops
  dropped reason = refl

  quiet-none : (quiet s).sends ≡ []
  unfolding quiet
  quiet-none = refl

  vacated-none : (who : Who) (file : ℕ) (tag : Tag) → (vacates s who file tag).sends ≡ []
  unfolding vacates quiet
  vacated-none who file tag = refl

  abbrev Silent : ServerStep → Type 0
  Silent t = t.sends ≡ []

  old-silent : (who : Who) (xid next : ℕ) (r : Request) (line : HostRow) → nat_lt who.inc line.inc ≡ true → nat_lt line.inc who.inc ≡ false
      → Silent (admit s who xid next r line)
  old-silent who xid next r line old other =
      choice Silent (is_attach r) _ _
      (λ e. choice Silent (nat_lt line.inc who.inc) _ _ (λ f. absurd (cc))
      (λ f. choice Silent (nat_lt who.inc line.inc) _ _ (λ g. dropped _) (λ g. absurd (cc))))
      (λ e. choice Silent (nat_lt who.inc line.inc) _ _ (λ f. dropped _) (λ f. absurd (cc)))

  mute : (who : Who) (xid next : ℕ) (r : Request) (line : HostRow) → CanBe (request xid r) → nat_lt who.inc line.inc ≡ false → has_reply r ≡ false
      → Silent (admit s who xid next r line)
  mute who xid next (Request.Vacated w file tag) line can young has =
      choice Silent (nat_lt who.inc line.inc) _ _ (λ e. absurd (cc))
      (λ e. choice Silent (nat_lt line.inc who.inc) _ _ (λ f. quiet-none) (λ f. vacated-none who file tag))
  mute who xid next (Request.Evicted w file tag) line can young has = absurd can
  mute who xid next Request.Null line can young has = absurd (cc)
  mute who xid next (Request.Attach w) line can young has = absurd (cc)
  mute who xid next (Request.Lookup w name) line can young has = absurd (cc)
  mute who xid next (Request.Create w seq name blocks) line can young has = absurd (cc)
  mute who xid next (Request.GetAttr w file) line can young has = absurd (cc)
  mute who xid next (Request.Read w q file block want) line can young has = absurd (cc)
  mute who xid next (Request.Write w seq file block first last push body) line can young has = absurd (cc)
  mute who xid next (Request.GetLease w file want) line can young has = absurd (cc)
  mute who xid next (Request.Resize w seq q file blocks) line can young has = absurd (cc)
  mute who xid next (Request.Remove w seq q file) line can young has = absurd (cc)

  -- a request that goes out of bounds is dropped
  past-silent : (who : Who) (seq xid : ℕ) (r : Request) (line : HostRow) → goes_out s who r line (Some seq) ≡ true → Silent (decided_once s who seq xid r line)
  past-silent who seq xid r line out =
      let parts = goes-parts who.inc line.inc seq line.seq (can_be_kept (row_after who seq (decide s who r))) out in
      choice Silent (seq == line.seq) _ _ (λ e. absurd (true-false _ e parts.differs)) (λ e.
      choice Silent (nat_lt seq line.seq) _ _ (λ f. absurd (true-false _ f parts.above)) (λ f.
      choice Silent (can_be_kept (row_after who seq (decide s who r))) _ _ (λ can. absurd (true-false _ can parts.past)) (λ past. dropped _)))

  admits-past :
      (who : Who) (xid next seq : ℕ) (r : Request) (line : HostRow) → is_attach r ≡ false → goes_out s who r line (Some seq) ≡ true
      → perform s who xid next line r ≡ decided_once s who seq xid r line → Silent (admit s who xid next r line)
  admits-past who xid next seq r line other out is =
      let parts = goes-parts who.inc line.inc seq line.seq (can_be_kept (row_after who seq (decide s who r))) out in
      choice Silent (is_attach r) _ _ (λ e. absurd (true-false _ e other)) (λ e.
      choice Silent (nat_lt who.inc line.inc) _ _ (λ f. dropped _) (λ f.
      choice Silent (nat_lt line.inc who.inc) _ _ (λ g. absurd (true-false _ g parts.now)) (λ g. subst Silent (sym is) (past-silent who seq xid r line out))))

  out-silent : (who : Who) (xid next : ℕ) (r : Request) (line : HostRow) → is_out_of_bounds s who r line ≡ true → Silent (admit s who xid next r line)
  out-silent who xid next (Request.Attach w) line out =
      choice Silent (nat_lt line.inc who.inc) _ _
      (λ e. choice Silent (can_be_kept (row_of_attach who)) _ _ (λ can. absurd (both-fail _ _ can out)) (λ past. dropped _))
      (λ e. absurd (first-fails _ _ e out))
  out-silent who xid next (Request.Create w seq name blocks) line out = admits-past who xid next seq (Request.Create w seq name blocks) line refl out refl
  out-silent who xid next (Request.Write w seq file block first last push body) line out =
      admits-past who xid next seq (Request.Write w seq file block first last push body) line refl out refl
  out-silent who xid next (Request.Resize w seq q file blocks) line out = admits-past who xid next seq (Request.Resize w seq q file blocks) line refl out refl
  out-silent who xid next (Request.Remove w seq q file) line out = admits-past who xid next seq (Request.Remove w seq q file) line refl out refl
  out-silent who xid next other line out = absurd (cc)

  admitted-silent :
      (who : Who) (xid next : ℕ) (r : Request) (line : HostRow) → CanBe (request xid r) → owes_incarnation s who r line ≡ false
      → Silent (admit s who xid next r line)
  admitted-silent who xid next r line can unowed = by-age (nat_lt who.inc line.inc) refl unowed
    where
      by-cause : nat_lt who.inc line.inc ≡ false → (has_reply r ≡ false) ⊎ (is_out_of_bounds s who r line ≡ true) → Silent (admit s who xid next r line)
      by-cause young (inl has) = mute who xid next r line can young has
      by-cause young (inr out) = out-silent who xid next r line out

      by-age :
          (b : Bool) → nat_lt who.inc line.inc ≡ b → (if b then false else has_reply r && not (is_out_of_bounds s who r line)) ≡ false
          → Silent (admit s who xid next r line)
      by-age true old e = old-silent who xid next r line old (older who.inc line.inc old)
      by-age false young has = by-cause young (unowed-parts (has_reply r) (is_out_of_bounds s who r line) has)

  requests-silent : (sender xid next : ℕ) (r : Request) (o : Option Who) → CanBe (request xid r) → owes_request s sender r o ≡ false
      → Silent (answer_request s sender xid next r o)
  requests-silent sender xid next r None can unowed = absurd (cc)
  requests-silent sender xid next r (Some who) can unowed = step (who.host == sender && nat_lt who.host most_hosts) unowed
    where
      step :
          (b : Bool) → (if b then owes_incarnation s who r (host_row s.kept who.host) else false) ≡ false
          → Silent (if b then admit s who xid next r (host_row s.kept who.host) else drops s wrong_host)
      step true e = admitted-silent who xid next r (host_row s.kept who.host) can e
      step false e = dropped wrong_host

  silent-unowed : (sender next : ℕ) (d : Datagram) → CanBe d → owes s sender d ≡ false → Silent (receive s sender next d)
  silent-unowed sender next too_long can e = dropped _
  silent-unowed sender next (no_message fault) can e = dropped _
  silent-unowed sender next no_call can e = dropped _
  silent-unowed sender next garbage_vacated can e = dropped _
  silent-unowed sender next (request xid r) can e = requests-silent sender xid next r (asker r) can e
  silent-unowed sender next (other_rpc xid) can e = absurd (cc)
  silent-unowed sender next (other_program xid) can e = absurd (cc)
  silent-unowed sender next (other_version xid) can e = absurd (cc)
  silent-unowed sender next (unknown_procedure xid) can e = absurd (cc)
  silent-unowed sender next (garbage xid) can e = absurd (cc)

-- a step that sends something sends notices and a reply
one-reply : (s : Server) (t : ServerStep) → Shaped s t → Sends t → IsReplied s t.sends
one-reply s t (inl none) some = absurd (some none)
one-reply s t (inr replied) some = replied

pub replies-are-owed : RepliesAreOwed
replies-are-owed s sender next d can = record {
  owed = λ e. one-reply s (receive s sender next d) (shaped s sender next d) (sends-owed s sender next d e);
  unowed = λ e. silent-unowed s sender next d can e;
}
