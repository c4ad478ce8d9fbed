-- What is put into an outbox, as bytes that are sent.
use Rattle.std.specs.Prelude.{ℕ, List, length}
use Rattle.std.specs.List.{sum_by}
use Rattle.nq_base.specs.declared.Party.{Party}

-- how many bytes the datagrams of an outbox have together
abbrev pub bytes_together : List (Party × List ℕ) → ℕ
bytes_together out = sum_by (λ d. length d.1) out
