use Rattle.std.proofs.Common.{◌≡◌, map, take}
use Rattle.nq_model.specs.protocol.Client.{losses_of, span_of}
use Rattle.nq_client_parts.proofs.losses.named_of.Given as goal

abbrev pub invariant-loop-loss : goal.invariant-loop-loss
invariant-loop-loss l = record {
  losses : l.of_file.items ≡ losses_of l.file (take l.loss-index l.losses);
  spans : l.spans.items ≡ map span_of l.of_file.items;
}
