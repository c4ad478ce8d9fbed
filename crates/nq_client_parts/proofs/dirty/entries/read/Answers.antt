use Rattle.std.proofs.Common.{sym, ◌∙◌, ap}
use Rattle.std.specs.Option.{option_map}
use Rattle.nq_client_parts.proofs.OfEntries.{body_at-entries}
use Rattle.nq_client_parts.specs.declared.dirty.entries.Writes.{Writes}
use Rattle.nq_client_parts.proofs.dirty.entries.read.Goals as goal

pub returns-in-Some : goal.returns-in-Some
returns-in-Some c =
    ap (option_map (λ (w : Writes). w.body)) c.in-Some.ensures.value
    ∙ sym (body_at-entries c.args.key.now c.args.entries.now.entries)

pub returns-in-None : goal.returns-in-None
returns-in-None c =
    ap (option_map (λ (w : Writes). w.body)) c.in-None.ensures.value
    ∙ sym (body_at-entries c.args.key.now c.args.entries.now.entries)
