-- What is told of the names that are kept, by the phase of the server.
use Rattle.std.proofs.Common.{◌≡◌, List, ap}
use Rattle.nq_directory.specs.Messages.{page}
use Rattle.nq_directory.specs.declared.listing.messages.ReadDir.{ReadDir}
use Rattle.nq_lister.specs.Listing.{names_behind, page_of, told_by}
use Rattle.nq_model.specs.protocol.Kept.{File}
use Rattle.nq_model.specs.protocol.Server.{Phase, serving}

-- a server that serves tells a page
pub tells_page : (phase : Phase) (files : List File) (r : ReadDir) → phase ≡ serving
    → told_by phase files r ≡ page (page_of (names_behind r.prefix r.after files))
tells_page phase files r is = ap (λ (p : Phase). told_by p files r) is
