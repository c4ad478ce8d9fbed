use Rattle.std.proofs.Common.{◌≡◌, ◌+◌, ◌∷◌, vec_len}
use Rattle.nq_base.specs.declared.Party.{Party}
use Rattle.nq_run.specs.Setting.{clients_below}
use Rattle.nq_run.proofs.setting.parties_among.Given as goal

abbrev pub invariant-loop-host : goal.invariant-loop-host
invariant-loop-host l = record {
  parties : l.parties.items ≡ Party.Server ∷ clients_below l.host;
  count : vec_len l.parties ≡ l.host + 1;
}
