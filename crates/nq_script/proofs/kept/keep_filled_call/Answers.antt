use Rattle.std.proofs.Common.{◌∙◌, ap}
use Rattle.nq_base.specs.declared.Event.{Event}
use Rattle.nq_script.specs.Calls.{call_of}
use Rattle.nq_script.proofs.CallReading.{call-filled}
use Rattle.nq_script.proofs.kept.keep_filled_call.Goals as goal

pub returns : goal.returns
returns c = ap (Event.Call c.args.host) (ap call_of (c.in_ok-call.ensures ∙ c.told.ensures) ∙ call-filled c.args.call.now c.requires)
