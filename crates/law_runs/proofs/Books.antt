-- What a journal can see of a client in the middle of a step, and the small changes of it.
use Rattle.std.proofs.Common.{◌≡◌, ℕ, ◌+◌, Bool, true, false, List, [], ◌∷◌, ◌++◌, Option, Some, None, map, if◌then◌else◌}
use Rattle.std.specs.Prelude.{reverse}
use Rattle.nq_base.specs.declared.Answer.{Answer}
use Rattle.nq_base.specs.declared.Call.{Call}
use Rattle.nq_base.specs.declared.Entry.{Entry}
use Rattle.nq_base.specs.declared.Loss.{Loss}
use Rattle.nq_base.specs.declared.Push.{Push}
use Rattle.nq_base.specs.declared.Said.{Said}
use Rattle.nq_base.specs.declared.Who.{Who}
use Rattle.nq_model.specs.protocol.Client.{Client, ClientStep, UnderWay, losses_of, other_losses, add_losses, first_dirty, dirty_at, drop_dirty, other_dirty}
use Rattle.nq_model.specs.protocol.Client.{is_push_of, span_list}
use Rattle.nq_model.specs.protocol.ClientStep.{changed_file, losses_for}
use Rattle.nq_base.specs.Calls.{told}
use Rattle.nq_model.specs.protocol.Hear.{loss_of, push_of, loss_entry, other_push, waits_for}
use Rattle.nq_model.specs.protocol.Settle.{said, with_write}
use Rattle.std.specs.List.{filter}

-- the client's incarnation, numbers, call, delayed writes and losses, and the journal with the step's entries
pub record Book : Type 0 where
  pub who : Who
  pub calls : ℕ
  pub number : ℕ
  pub call : Option UnderWay
  pub dirty : List Push
  pub push : Option Push
  pub losses : List Loss
  pub journal : List Entry

abbrev pub book_of : List Entry → ClientStep → Book
book_of journal t = record {
  who = t.client.who;
  calls = t.client.calls;
  number = t.client.number;
  call = t.client.call;
  dirty = t.client.dirty;
  push = t.client.push;
  losses = t.client.losses;
  journal = t.entries ++ journal;
}

-- the same of a client between its steps
abbrev pub book_at : List Entry → Client → Book
book_at journal c = record {
  who = c.who;
  calls = c.calls;
  number = c.number;
  call = c.call;
  dirty = c.dirty;
  push = c.push;
  losses = c.losses;
  journal = journal;
}

-- all delayed writes of a file
abbrev pub unsaved_on : (file : ℕ) → Option Push → List Push → List Push
unsaved_on file push dirty = push_of file push ++ filter (is_push_of file) dirty

-- all delayed writes of a file are lost
abbrev pub after_loss : Book → (file : ℕ) → Book
after_loss b file = record b {
  dirty = other_dirty file b.dirty;
  push = other_push file b.push;
  losses = add_losses file (map loss_of (unsaved_on file b.push b.dirty)) b.losses;
  journal = reverse (map (loss_entry b.who) (unsaved_on file b.push b.dirty)) ++ b.journal;
}

-- a call is answered with all losses of a file
abbrev pub after_names : Book → (q file : ℕ) → Book
after_names b q file = record b {
  call = None;
  losses = other_losses file b.losses;
  journal = Entry.A b.who q (Said.Lost (span_list (losses_of file b.losses))) ∷ b.journal;
}

-- the call under way is told, if it waits for the file
abbrev pub after_report : Book → (file : ℕ) → Option UnderWay → Book
after_report b file None = b
after_report b file (Some u) = if waits_for file u.written u.call then after_names b u.q file else b

-- a call begins: its C stands in the journal
abbrev pub after_call : Book → Call → Book
after_call b op = record b { calls = b.calls + 1; journal = Entry.C b.who (b.calls + 1) (told op) ∷ b.journal }

-- whether an answer tells losses
abbrev pub tells_losses : Answer → Bool
tells_losses (Answer.Lost losses) = true
tells_losses other = false

-- what each small change of a client keeps
pub record Closed (P : Book → Type 0) : Type 0 where
  pub marks : (b : Book) (u v : UnderWay) → b.call ≡ Some u → v.q ≡ u.q → v.call ≡ u.call → P b → P (record b { call = Some v })
  pub answers : (b : Book) (u : UnderWay) (answer : Answer) (by : Option ℕ) → b.call ≡ Some u → tells_losses answer ≡ false → P b
      → P (record b { call = None; journal = Entry.A b.who u.q (said answer by) ∷ b.journal })
  pub loses : (b : Book) (file : ℕ) → P b → P (after_report (after_loss b file) file b.call)
  pub takes : (b : Book) (file : ℕ) (p : Push) → first_dirty file b.dirty ≡ Some p → P b
      → P (record b { dirty = drop_dirty p.file p.block b.dirty; push = Some p })
  pub ends : (b : Book) → P b → P (record b { push = None })
  pub writes : (b : Book) (file block value : ℕ) (body : List ℕ) → P b → P (record b {
    number = b.number + 1;
    dirty = with_write file block b.number body b.dirty (dirty_at file block b.dirty);
    journal = Entry.W b.who file block b.number value false ∷ b.journal;
  })
  pub numbers : (b : Book) → P b → P (record b { number = b.number + 1 })
  pub reads : (b : Book) (q file block value : ℕ) → P b → P (record b { journal = Entry.R b.who q file block value None ∷ b.journal })
  pub busy : (b : Book) (op : Call) → P b
      → P (record (after_call b op) { journal = Entry.A b.who (b.calls + 1) Said.Busy ∷ Entry.C b.who (b.calls + 1) (told op) ∷ b.journal })
  pub names : (b : Book) (op : Call) (file : ℕ) → changed_file op ≡ Some file → P b → P (after_names (after_call b op) (b.calls + 1) file)
  pub begins : (b : Book) (op : Call) → losses_for (changed_file op) b.losses ≡ [] → P b
      → P (record (after_call b op) { call = Some (record { q = b.calls + 1; call = op; through = false; written = false }) })
