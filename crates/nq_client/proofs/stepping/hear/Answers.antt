use Rattle.std.proofs.Common.{◌≡◌, ◌≤◌, ◌<◌, ◌+◌, ◌^◌, length, option_map, sym, ap, subst, ◌∙◌, arith}
use Rattle.nq_base.specs.Plain.{plain_answer}
use Rattle.nq_client.proofs.Outcomes.{grows_from}
use Rattle.nq_client.proofs.Received.{heard-within}
use Rattle.nq_client.specs.Finishing.{Grows}
use Rattle.nq_client.specs.Receiving.{IsHeeded, most_entries, on_heard}
use Rattle.nq_client.specs.State.{client_of}
use Rattle.nq_client.specs.Step.{step_of}
use Rattle.nq_client.specs.Tied.{Tied}
use Rattle.nq_model.specs.protocol.Client.{Client, ClientStep}
use Rattle.nq_client.proofs.stepping.hear.Goals as goal

pub hears-requires-clause-prepared : goal.hears-requires-clause-prepared
hears-requires-clause-prepared c =
    let s = c.room_for_heard.new.step in
    let e = sym c.room_for_heard.ensures.kept.client in
    let begun = c.room_for_heard.ensures.kept.begun in
    let room = c.in_ok-room_for_heard.ensures.supplied.room in
    let files = c.in_ok-room_for_heard.ensures.files in
    let xid : s.state.xid + 3 < 2 ^ 32 = subst (λ (x : Client). x.xid + 3 < 2 ^ 32) e c.requires.numbers.xid in
    record {
      silent = begun.silent;
      first = begun.vacated;
      xid = omega arith;
      time = subst (λ (x : Client). x.now < 2 ^ 62) e c.requires.numbers.time;
      entries = subst (λ (x : Client). most_entries x ≤ s.entries.spare) e room.entries_made;
      block = room.block;
      lease = files.lease;
      revision = files.revision;
    }

pub hears-requires-clause-tied : goal.hears-requires-clause-tied
hears-requires-clause-tied c =
    subst (λ (x : Client). Tied x.ticket x.push) (sym c.room_for_heard.ensures.kept.client) c.requires.tied

pub hears-requires-clause-numbers : goal.hears-requires-clause-numbers
hears-requires-clause-numbers c =
    let e = sym c.room_for_heard.ensures.kept.client in
    record {
      time = subst (λ (x : Client). x.now < 2 ^ 62) e c.requires.numbers.time;
      seq = subst (λ (x : Client). x.seq + 3 < 2 ^ 64) e c.requires.numbers.seq;
      number = subst (λ (x : Client). x.number + 3 < 2 ^ 64) e c.requires.numbers.number;
      xid = subst (λ (x : Client). x.xid + 3 < 2 ^ 32) e c.requires.numbers.xid;
    }

pub hears-requires-clause-heeded : goal.hears-requires-clause-heeded
hears-requires-clause-heeded c =
    subst (λ (x : Client). IsHeeded x.ticket c.args.heard.now) (sym c.room_for_heard.ensures.kept.client) c.requires.heeded

pub finish-requires-clause-room : goal.finish-requires-clause-room
finish-requires-clause-room c =
    let old = client_of c.args.step.now.state in
    let client = client_of c.room_for_heard.new.step.state in
    let heeded : IsHeeded client.ticket c.args.heard.now = subst (λ (x : Client). IsHeeded x.ticket c.args.heard.now)
    (sym c.room_for_heard.ensures.kept.client) c.requires.heeded in
    let x = heard-within client c.args.packet c.args.heard.now heeded in
    let few : length (on_heard client c.args.packet c.args.heard.now).entries ≤ most_entries client = x.few in
    let same : most_entries client ≡ most_entries old = ap most_entries c.room_for_heard.ensures.kept.client in
    let e : c.hears.new.self.entries.items ≡ (on_heard client c.args.packet c.args.heard.now).entries = ap (λ (r : ClientStep). r.entries)
    c.in_ok-hears.ensures.heard in
    let room : most_entries old ≤ c.room_for_heard.new.log.spare = c.in_ok-room_for_heard.ensures.supplied.room.entries_told in
    subst (λ es. length es ≤ c.room_for_heard.new.log.spare) (sym e) (omega arith)

pub returns : goal.returns
returns c =
    let client = client_of c.args.step.now.state in
    let kept = c.room_for_heard.ensures.kept in
    let t = on_heard client c.args.packet c.args.heard.now in
    let made : step_of c.hears.new.self ≡ t = c.in_ok-hears.ensures.heard ∙ ap (λ (x : Client). on_heard x c.args.packet c.args.heard.now) kept.client in
    record {
      begun = c.finish.ensures.begun;
      client = ap client_of c.finish.ensures.state ∙ ap (λ (r : ClientStep). r.client) made;
      grows =
          grows_from t c.args.out.now c.room_for_heard.new.out c.finish.new.out c.args.log.now c.room_for_heard.new.log c.finish.new.log kept.first
          kept.datagrams kept.entries
          (subst (λ (s : ClientStep). Grows s c.room_for_heard.new.out c.finish.new.out c.room_for_heard.new.log c.finish.new.log) made
          c.finish.ensures.grows);
      answer = ap (option_map plain_answer) c.finish.ensures.answer ∙ ap (λ (r : ClientStep). r.answer) made;
    }
