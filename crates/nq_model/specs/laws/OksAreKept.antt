-- What the server and the clients answered ok is kept, in every run (RFC 1813, FILE_SYNC).
use Rattle.nq_model.specs.laws.Bounds.{InEveryRun}
use Rattle.nq_model.specs.laws.Synchronized.{IsSynchronized}
use Rattle.nq_model.specs.protocol.World.{run}

-- after every schedule within skew the journal is synchronized: each ok that it tells is kept
abbrev pub SynchronizedInEveryRun : Type 0
SynchronizedInEveryRun = InEveryRun (λ head events. IsSynchronized (run head events).journal)
