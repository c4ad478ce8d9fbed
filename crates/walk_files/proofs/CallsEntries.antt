-- Whose an entry is, and a call under way as the journal tells it.
use Rattle.std.proofs.Common.{◌≡◌, ◌≤◌, ℕ, List, Option, Some, None}
use Rattle.nq_base.specs.declared.Entry.{Entry}
use Rattle.nq_base.specs.declared.Entry.TheVariants.{C, W, R, S, L, G, F, B, Z, A}
use Rattle.nq_base.specs.declared.Who.{Who}
use Rattle.nq_model.specs.protocol.Client.{UnderWay}
use Rattle.nq_base.specs.Calls.{told}
use Rattle.nq_model.specs.laws.Journal.{IsOpen, call_of}

-- the incarnation that an entry is of
abbrev pub entry_who : Entry → Option Who
entry_who (C who q told) = Some who
entry_who (W who file block number value through) = Some who
entry_who (R who q file block value served) = Some who
entry_who (S who file block first last now) = Some who
entry_who (L who file block first last) = Some who
entry_who (G who file mode tag term now) = Some who
entry_who (F who file until heard now) = Some who
entry_who (B who) = Some who
entry_who (Z who q file from to) = Some who
entry_who (A who q said) = Some who
entry_who other = None

-- the call that an entry is of
abbrev pub entry_call : Entry → Option ℕ
entry_call (C who q told) = Some q
entry_call (R who q file block value served) = Some q
entry_call (Z who q file from to) = Some q
entry_call (A who q said) = Some q
entry_call other = None

-- the number of a write
abbrev pub entry_number : Entry → Option ℕ
entry_number (W who file block number value through) = Some number
entry_number other = None

-- the call under way is open at the journal's end, as the client knows it
pub record IsOpenAsTold (who : Who) (calls : ℕ) (u : UnderWay) (journal : List Entry) : Type 0 where
  pub is_open : IsOpen journal who u.q
  pub tells : call_of journal who u.q ≡ Some (told u.call)
  pub counted : u.q ≤ calls
