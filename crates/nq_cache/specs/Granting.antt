-- What a grant leaves in the cache, in the steps of the code.
use Rattle.std.specs.Prelude.{ℕ, List, Option, Some, None, if◌then◌else◌}
use Rattle.nq_base.specs.declared.Grant.{Grant}
use Rattle.nq_model.specs.protocol.Client.{Clean, Revision, put_clean}
use Rattle.nq_model.specs.protocol.Hear.{clean_at_revision}
use Rattle.nq_model.specs.protocol.Table.{caches}

-- the clean blocks after a reply to READ: those of another revision than the grant's go, and the block is cached under a
-- caching grant
abbrev pub clean_after_reply : (file block : ℕ) (body : List ℕ) → Option Grant → List Revision → List Clean → List Clean
clean_after_reply file block body None revisions clean = clean
clean_after_reply file block body (Some g) revisions clean =
    if caches g.mode
    then put_clean file block body (clean_at_revision file g.rev revisions clean)
    else clean_at_revision file g.rev revisions clean
