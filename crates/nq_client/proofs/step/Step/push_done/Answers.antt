use Rattle.nq_client.proofs.step.Step.push_done.Goals as goal

pub vacates_if_clean-requires : goal.vacates_if_clean-requires
vacates_if_clean-requires c =
    let prepared = c.requires.prepared in
    record { asks = prepared.silent; first = prepared.first; xid = prepared.xid }
