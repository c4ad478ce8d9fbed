-- Where a server decides a request, it is one of the cases of its step.
use Rattle.std.proofs.Common.{◌≡◌, ◌<◌, ◌≤◌, ℕ, ◌+◌, ◌-◌, ◌==◌, Bool, true, false, ◌&&◌, ◌||◌, nat_lt, List, Option, Some, None, if◌then◌else◌}
use Rattle.std.proofs.Common.{length, refl, subst, arith}
use Rattle.std.specs.Prelude.{is_some, nat_le}
use Rattle.std.proofs.lemmas.Bool.Decides.{nat_tests}
use Rattle.std.proofs.lemmas.Bool.{and_parts, or_parts}
use Rattle.nq_base.specs.declared.PushBase.{PushBase}
use Rattle.nq_base.specs.declared.Request.{Request}
use Rattle.nq_base.specs.declared.Row.{Row}
use Rattle.nq_base.specs.declared.Verdict.{Verdict}
use Rattle.nq_base.specs.declared.Who.{Who}
use Rattle.nq_model.specs.protocol.Ask.{free}
use Rattle.nq_model.specs.protocol.Decide.{Decision, to_change, unless_asked, unless_conflict, decide_create, lets_push, decide_push, decide_write_in}
use Rattle.nq_model.specs.protocol.Decide.{decide_write, decide_push_recovering, decide_write_recovering, decide_resize, decide_remove, decide_in}
use Rattle.nq_model.specs.protocol.Decide.{decides, creates, writes_through, stores, stores_recovering, resizes, removes}
use Rattle.nq_model.specs.protocol.Decide.{commits}
use Rattle.nq_model.specs.protocol.Kept.{File, blocks_of, blocks_in_all, find_file, find_name}
use Rattle.nq_model.specs.protocol.Message.{Datagram}
use Rattle.nq_model.specs.protocol.Message.{request}
use Rattle.nq_model.specs.protocol.Message.{asker, sequence_of}
use Rattle.nq_model.specs.protocol.Profile.{most_files, most_blocks, most_blocks_of_file, most_ids}
use Rattle.nq_model.specs.protocol.Server.{Phase, serving, recovering, Server, ServerStep}
use Rattle.nq_model.specs.protocol.ServerStep.{serves, is_attach}
use Rattle.nq_model.specs.protocol.Table.{Table, find_row}
use Rattle.walk_steps.proofs.AskCases.{asks}
use Rattle.walk_steps.proofs.Rows.{choice, same-number, find-passes}
use Rattle.walk_steps.proofs.Tests.{is-not-below, is-at-most, is-not-at-most, none-there}
use Rattle.walk_steps.proofs.ServerOutcomes.{file_changed_by, base_in, IsFresh}
use Rattle.walk_steps.proofs.ServerOutcomes.{IsChanging, clash_with, CanResize, CanStore, bad_length, name_taken, no_room, not_kept, outside, no_row}
use Rattle.walk_steps.proofs.ServerOutcomes.{not_under, not_over, not_while_recovering, bad_size, no_room_to_grow, ServerCases}

fits : (n most : ℕ) → (n == 0 || nat_lt most n) ≡ false → (0 < n) × (n ≤ most)
fits n most h = (grind (arith, nat_tests), grind (arith, nat_tests))

-- a file that was looked up has that id
pub found-file : (id : ℕ) (files : List File) (f : File) → find_file id files ≡ Some f → f.id ≡ id
found-file id files f h = same-number _ _ (find-passes (λ g. g.id == id) f files h)

pub is-attach-of : (r : Request) (who : Who) → is_attach r ≡ true → asker r ≡ Some who → r ≡ Request.Attach who
is-attach-of (Request.Attach w) who h by = cc
is-attach-of other who h by = cc

lets-store : (s : Server) (who : Who) (f : File) (base : PushBase) (row : Row) → find_row f.id who.host s.table.rows ≡ Some row
    → lets_push s who f base row ≡ true → CanStore s who f base row
lets-store s who f base row found h =
    let a = and_parts _ _ h in
    let b = and_parts _ _ a.0 in
    let c = and_parts _ _ b.0 in
    record { row_found = found; writes = c.0; inc = same-number _ _ c.1; boot = same-number _ _ b.1; rev = same-number _ _ a.1 }

module _ (s : Server) (sender next : ℕ) (d : Datagram) (Q : ServerStep → Type 0) (cases : ServerCases s sender next d Q) where
  -- the change is made, unless a row of another host conflicts
  unless-conflict : (xid : ℕ) (who : Who) (seq : ℕ) (r : Request) (f : File) (change : Decision) → d ≡ request xid r → asker r ≡ Some who
      → sequence_of r ≡ Some seq → file_changed_by r ≡ Some f.id → base_in r ≡ None → IsChanging s sender who seq f
      → (clash_with s f.id who.host ≡ None → Q (commits who seq xid r change)) → Q (commits who seq xid r (unless_conflict s who f change))
  unfolding free
  unless-conflict xid who seq r f change e by sq changes base changing when =
      asks
      s.table
      (to_change s who f)
      (λ answer. Q (commits who seq xid r (unless_asked s who f.id answer change)))
      (record {
        later = λ clash c. cases.putting_off_change xid who seq r f clash e by sq changes base changing c;
        later_waiting = λ clash want c w own room. absurd (cc);
        freely = λ c w. when c;
        later_by_own = λ want own c w o ev. absurd (cc);
        granting = λ want row term c w g. absurd (cc);
        full = λ want c w own room. absurd (cc);
      })

  creates-fresh : (xid : ℕ) (who : Who) (seq : ℕ) (name : List ℕ) (blocks : ℕ) → d ≡ request xid (Request.Create who seq name blocks)
      → IsFresh s sender who seq → s.phase ≡ serving → Q (commits who seq xid (Request.Create who seq name blocks) (decide_create s name blocks))
  creates-fresh xid who seq name blocks e fresh serves =
      let r : Request = Request.Create who seq name blocks in
      let R = λ (c : Decision). Q (commits who seq xid r c) in
      let roomless : Bool = nat_le most_files (length s.kept.files) || nat_lt most_blocks (blocks_in_all s.kept.files + blocks) || nat_le most_ids
      s.kept.next in
      choice
      R
      (blocks == 0 || nat_lt most_blocks_of_file blocks)
      (decides s Verdict.Invalid)
      (if is_some (find_name name s.kept.files) then decides s Verdict.Exist else (if roomless then decides s Verdict.NoSpace else creates s name blocks))
      (λ bad. cases.declining xid who seq r Verdict.Invalid e refl refl fresh (bad_length seq blocks name serves refl bad refl))
      (λ good.
      choice
      R
      (is_some (find_name name s.kept.files))
      (decides s Verdict.Exist)
      (if roomless then decides s Verdict.NoSpace else creates s name blocks)
      (λ taken. cases.declining xid who seq r Verdict.Exist e refl refl fresh (name_taken seq blocks name serves refl taken refl))
      (λ new.
      choice
      R
      roomless
      (decides s Verdict.NoSpace)
      (creates s name blocks)
      (λ no. cases.declining xid who seq r Verdict.NoSpace e refl refl fresh (no_room seq blocks name serves refl no refl))
      (λ room.
      let a = or_parts _ _ room in
      let b = or_parts _ _ a.0 in
      cases.creating xid who seq blocks name e fresh serves (record {
        some = (fits blocks most_blocks_of_file good).0;
        few = (fits blocks most_blocks_of_file good).1;
        free = none-there _ new;
        file_room = is-not-at-most _ _ b.0;
        block_room = is-not-below _ _ b.1;
        id_room = is-not-at-most _ _ a.1;
      }))))

  pushes : (xid : ℕ) (who : Who) (seq block first last : ℕ) (base : PushBase) (body : List ℕ) (f : File)
      → d ≡ request xid (Request.Write who seq f.id block first last (Some base) body) → IsChanging s sender who seq f → block < blocks_of f
      → (row : Option Row) → find_row f.id who.host s.table.rows ≡ row
      → Q (commits who seq xid (Request.Write who seq f.id block first last (Some base) body) (decide_push s who f block first last base body row))
  pushes xid who seq block first last base body f e changing below None found =
      cases.declining xid who seq _ Verdict.Fenced e refl refl changing.fresh
      (no_row seq f.id block first last base body f changing.serves refl changing.found found refl)
  pushes xid who seq block first last base body f e changing below (Some row) found =
      choice
      (λ c. Q (commits who seq xid (Request.Write who seq f.id block first last (Some base) body) c))
      (lets_push s who f base row)
      (stores s who f row block first last body)
      (decides s Verdict.Fenced)
      (λ lets. cases.storing xid who seq block first last base body f row e changing below (lets-store s who f base row found lets))
      (λ bars. cases.declining xid who seq _ Verdict.Fenced e refl refl changing.fresh
      (not_under seq f.id block first last base body f row changing.serves refl changing.found found bars refl))

  writes-within : (xid : ℕ) (who : Who) (seq block first last : ℕ) (push : Option PushBase) (body : List ℕ) (f : File)
      → d ≡ request xid (Request.Write who seq f.id block first last push body) → IsChanging s sender who seq f → block < blocks_of f
      → Q (commits who seq xid (Request.Write who seq f.id block first last push body) (decide_write_in s who f block first last push body))
  writes-within xid who seq block first last None body f e changing below =
      unless-conflict xid who seq (Request.Write who seq f.id block first last None body) f (writes_through s who f block first body) e refl refl refl
      refl changing (λ free. cases.writing_through xid who seq block first last body f e changing below free)
  writes-within xid who seq block first last (Some base) body f e changing below =
      pushes xid who seq block first last base body f e changing below (find_row f.id who.host s.table.rows) refl

  writes-kept : (xid : ℕ) (who : Who) (seq block first last : ℕ) (push : Option PushBase) (body : List ℕ) (f : File) → IsFresh s sender who seq
      → s.phase ≡ serving → d ≡ request xid (Request.Write who seq f.id block first last push body) → find_file f.id s.kept.files ≡ Some f
      → Q (commits who seq xid (Request.Write who seq f.id block first last push body) (decide_write s who (Some f) block first last push body))
  writes-kept xid who seq block first last push body f fresh serves e found =
      choice
      (λ c. Q (commits who seq xid (Request.Write who seq f.id block first last push body) c))
      (nat_le (blocks_of f) block)
      (decides s Verdict.Invalid)
      (decide_write_in s who f block first last push body)
      (λ out. cases.declining xid who seq _ Verdict.Invalid e refl refl fresh
      (outside seq f.id block first last push body f refl found (is-at-most _ _ out) refl))
      (λ within. writes-within xid who seq block first last push body f e (record { fresh = fresh; serves = serves; found = found })
      (is-not-at-most _ _ within))

  writes-fresh : (xid : ℕ) (who : Who) (seq file block first last : ℕ) (push : Option PushBase) (body : List ℕ) → IsFresh s sender who seq
      → s.phase ≡ serving → d ≡ request xid (Request.Write who seq file block first last push body) → (found : Option File)
      → find_file file s.kept.files ≡ found
      → Q (commits who seq xid (Request.Write who seq file block first last push body) (decide_write s who found block first last push body))
  writes-fresh xid who seq file block first last push body fresh serves e None found =
      cases.declining xid who seq _ Verdict.Stale e refl refl fresh (not_kept file refl found refl)
  writes-fresh xid who seq file block first last push body fresh serves e (Some f) found =
      subst
      (λ i. d ≡ request xid (Request.Write who seq i block first last push body) → find_file i s.kept.files ≡ Some f
      → Q (commits who seq xid (Request.Write who seq i block first last push body) (decide_write s who (Some f) block first last push body)))
      (found-file file s.kept.files f found)
      (writes-kept xid who seq block first last push body f fresh serves)
      e
      found

  pushes-recovering : (xid : ℕ) (who : Who) (seq block first final : ℕ) (base : PushBase) (body : List ℕ) (until heard : ℕ) (last : Option Table)
      (f : File) → IsFresh s sender who seq → s.phase ≡ recovering until heard last
      → d ≡ request xid (Request.Write who seq f.id block first final (Some base) body) → find_file f.id s.kept.files ≡ Some f
      → Q (commits who seq xid (Request.Write who seq f.id block first final (Some base) body)
      (decide_push_recovering s until last who (Some f) block first final base body))
  pushes-recovering xid who seq block first final base body until heard last f fresh recovers e found =
      let R = λ (c : Decision). Q (commits who seq xid (Request.Write who seq f.id block first final (Some base) body) c) in
      choice
      R
      (nat_le (blocks_of f) block)
      (decides s Verdict.Invalid)
      (if base.boot == s.kept.opened && base.base == f.rev then stores_recovering s until last who f block first final body else decides s Verdict.Fenced)
      (λ out. cases.declining xid who seq _ Verdict.Invalid e refl refl fresh
      (outside seq f.id block first final (Some base) body f refl found (is-at-most _ _ out) refl))
      (λ within.
      choice
      R
      (base.boot == s.kept.opened && base.base == f.rev)
      (stores_recovering s until last who f block first final body)
      (decides s Verdict.Fenced)
      (λ rests.
      let a = and_parts _ _ rests in
      cases.storing_recovering xid who seq block first final base body f until heard last e fresh recovers found (is-not-at-most _ _ within)
      (same-number _ _ a.0) (same-number _ _ a.1))
      (λ bars. cases.declining xid who seq _ Verdict.Fenced e refl refl fresh
      (not_over seq f.id block first final base body f (record { until = until; heard = heard; last = last; phase = recovers }) refl found bars refl)))

  pushes-recovering-found : (xid : ℕ) (who : Who) (seq file block first final : ℕ) (base : PushBase) (body : List ℕ) (until heard : ℕ)
      (last : Option Table) → IsFresh s sender who seq → s.phase ≡ recovering until heard last
      → d ≡ request xid (Request.Write who seq file block first final (Some base) body) → (found : Option File) → find_file file s.kept.files ≡ found
      → Q (commits who seq xid (Request.Write who seq file block first final (Some base) body)
      (decide_push_recovering s until last who found block first final base body))
  pushes-recovering-found xid who seq file block first final base body until heard last fresh recovers e None found = cases.declining xid who seq _
      Verdict.Stale e refl refl fresh (not_kept file refl found refl)
  pushes-recovering-found xid who seq file block first final base body until heard last fresh recovers e (Some f) found =
      subst
      (λ i. d ≡ request xid (Request.Write who seq i block first final (Some base) body) → find_file i s.kept.files ≡ Some f
      → Q (commits who seq xid (Request.Write who seq i block first final (Some base) body)
      (decide_push_recovering s until last who (Some f) block first final base body)))
      (found-file file s.kept.files f found)
      (pushes-recovering xid who seq block first final base body until heard last f fresh recovers)
      e
      found

  writes-recovering : (xid : ℕ) (who : Who) (seq file block first final : ℕ) (push : Option PushBase) (body : List ℕ) (until heard : ℕ)
      (last : Option Table) → IsFresh s sender who seq → s.phase ≡ recovering until heard last
      → d ≡ request xid (Request.Write who seq file block first final push body)
      → Q (commits who seq xid (Request.Write who seq file block first final push body)
      (decide_write_recovering s until last who file block first final push body))
  writes-recovering xid who seq file block first final None body until heard last fresh recovers e =
      cases.declining xid who seq _ Verdict.TryLater e refl refl fresh
      (not_while_recovering (record { until = until; heard = heard; last = last; phase = recovers }) refl refl)
  writes-recovering xid who seq file block first final (Some base) body until heard last fresh recovers e =
      pushes-recovering-found xid who seq file block first final base body until heard last fresh recovers e (find_file file s.kept.files) refl

  resizes-kept : (xid : ℕ) (who : Who) (seq q blocks : ℕ) (f : File) → IsFresh s sender who seq → s.phase ≡ serving
      → d ≡ request xid (Request.Resize who seq q f.id blocks) → find_file f.id s.kept.files ≡ Some f
      → Q (commits who seq xid (Request.Resize who seq q f.id blocks) (decide_resize s who q (Some f) blocks))
  resizes-kept xid who seq q blocks f fresh serves e found =
      let r : Request = Request.Resize who seq q f.id blocks in
      let R = λ (c : Decision). Q (commits who seq xid r c) in
      let roomless : Bool = nat_lt most_blocks ((blocks_in_all s.kept.files - blocks_of f) + blocks) in
      choice
      R
      (blocks == 0 || nat_lt most_blocks_of_file blocks)
      (decides s Verdict.Invalid)
      (if roomless then decides s Verdict.NoSpace else unless_conflict s who f (resizes s who q f blocks))
      (λ bad. cases.declining xid who seq r Verdict.Invalid e refl refl fresh (bad_size seq q f.id blocks f serves refl found bad refl))
      (λ good.
      choice
      R
      roomless
      (decides s Verdict.NoSpace)
      (unless_conflict s who f (resizes s who q f blocks))
      (λ no. cases.declining xid who seq r Verdict.NoSpace e refl refl fresh (no_room_to_grow seq q f.id blocks f serves refl found no refl))
      (λ room.
      let changing : IsChanging s sender who seq f = record { fresh = fresh; serves = serves; found = found } in
      let can : CanResize s f blocks = record
      { some = (fits blocks most_blocks_of_file good).0; few = (fits blocks most_blocks_of_file good).1; room = is-not-below _ _ room } in
      unless-conflict xid who seq r f (resizes s who q f blocks) e refl refl refl refl changing
      (λ free. cases.resizing xid who seq q blocks f e changing can free)))

  resizes-fresh : (xid : ℕ) (who : Who) (seq q file blocks : ℕ) → IsFresh s sender who seq → s.phase ≡ serving
      → d ≡ request xid (Request.Resize who seq q file blocks) → (found : Option File) → find_file file s.kept.files ≡ found
      → Q (commits who seq xid (Request.Resize who seq q file blocks) (decide_resize s who q found blocks))
  resizes-fresh xid who seq q file blocks fresh serves e None found =
      cases.declining xid who seq _ Verdict.Stale e refl refl fresh (not_kept file refl found refl)
  resizes-fresh xid who seq q file blocks fresh serves e (Some f) found =
      subst
      (λ i. d ≡ request xid (Request.Resize who seq q i blocks) → find_file i s.kept.files ≡ Some f
      → Q (commits who seq xid (Request.Resize who seq q i blocks) (decide_resize s who q (Some f) blocks)))
      (found-file file s.kept.files f found)
      (resizes-kept xid who seq q blocks f fresh serves)
      e
      found

  removes-kept : (xid : ℕ) (who : Who) (seq q : ℕ) (f : File) → IsFresh s sender who seq → s.phase ≡ serving
      → d ≡ request xid (Request.Remove who seq q f.id) → find_file f.id s.kept.files ≡ Some f
      → Q (commits who seq xid (Request.Remove who seq q f.id) (decide_remove s who q (Some f)))
  removes-kept xid who seq q f fresh serves e found =
      let changing : IsChanging s sender who seq f = record { fresh = fresh; serves = serves; found = found } in
      unless-conflict xid who seq (Request.Remove who seq q f.id) f (removes s who q f) e refl refl refl refl changing
      (λ free. cases.removing xid who seq q f e changing free)

  removes-fresh : (xid : ℕ) (who : Who) (seq q file : ℕ) → IsFresh s sender who seq → s.phase ≡ serving
      → d ≡ request xid (Request.Remove who seq q file) → (found : Option File) → find_file file s.kept.files ≡ found
      → Q (commits who seq xid (Request.Remove who seq q file) (decide_remove s who q found))
  removes-fresh xid who seq q file fresh serves e None found = cases.declining xid who seq _ Verdict.Stale e refl refl fresh (not_kept file refl found refl)
  removes-fresh xid who seq q file fresh serves e (Some f) found =
      subst
      (λ i. d ≡ request xid (Request.Remove who seq q i) → find_file i s.kept.files ≡ Some f
      → Q (commits who seq xid (Request.Remove who seq q i) (decide_remove s who q (Some f))))
      (found-file file s.kept.files f found)
      (removes-kept xid who seq q f fresh serves)
      e
      found

  -- a fresh request, by the phase
  pub decides-fresh : (xid : ℕ) (who : Who) (seq : ℕ) (r : Request) → d ≡ request xid r → asker r ≡ Some who → sequence_of r ≡ Some seq
      → IsFresh s sender who seq → (phase : Phase) → s.phase ≡ phase → Q (commits who seq xid r (decide_in s phase who r))
  decides-fresh xid who seq (Request.Create w n name blocks) e by sq fresh serving p =
      let same : Request.Create who seq name blocks ≡ Request.Create w n name blocks = cc in
      subst (λ r. d ≡ request xid r → Q (commits who seq xid r (decide_create s name blocks))) same (λ e. creates-fresh xid who seq name blocks e fresh p) e
  decides-fresh xid who seq (Request.Write w n file block first last push body) e by sq fresh serving p =
      let same : Request.Write who seq file block first last push body ≡ Request.Write w n file block first last push body = cc in
      subst (λ r. d ≡ request xid r → Q (commits who seq xid r (decide_write s who (find_file file s.kept.files) block first last push body))) same
      (λ e. writes-fresh xid who seq file block first last push body fresh p e (find_file file s.kept.files) refl) e
  decides-fresh xid who seq (Request.Resize w n q file blocks) e by sq fresh serving p =
      let same : Request.Resize who seq q file blocks ≡ Request.Resize w n q file blocks = cc in
      subst (λ r. d ≡ request xid r → Q (commits who seq xid r (decide_resize s who q (find_file file s.kept.files) blocks))) same
      (λ e. resizes-fresh xid who seq q file blocks fresh p e (find_file file s.kept.files) refl) e
  decides-fresh xid who seq (Request.Remove w n q file) e by sq fresh serving p =
      let same : Request.Remove who seq q file ≡ Request.Remove w n q file = cc in
      subst (λ r. d ≡ request xid r → Q (commits who seq xid r (decide_remove s who q (find_file file s.kept.files)))) same
      (λ e. removes-fresh xid who seq q file fresh p e (find_file file s.kept.files) refl) e
  decides-fresh xid who seq other e by sq fresh serving p = absurd (cc)
  decides-fresh xid who seq (Request.Write w n file block first final push body) e by sq fresh (recovering until heard last) p =
      let same : Request.Write who seq file block first final push body ≡ Request.Write w n file block first final push body = cc in
      subst (λ r. d ≡ request xid r → Q (commits who seq xid r (decide_write_recovering s until last who file block first final push body))) same
      (writes-recovering xid who seq file block first final push body until heard last fresh p) e
  decides-fresh xid who seq other e by sq fresh (recovering until heard last) p =
      cases.declining xid who seq _ Verdict.TryLater e by sq fresh
      (not_while_recovering (record { until = until; heard = heard; last = last; phase = p }) refl refl)
