use Rattle.nq_rules.specs.declared.keys.KeyKind.TheVariants.{Calls, Reads, Writes, Covers, Cuts, Own, Grants, Stores}
use Rattle.nq_check.proofs.tables.no_tables.Goals as goal

pub returns : goal.returns
returns c whole = record {
  calls = c.no_links.ensures.linked Calls whole;
  reads = c.no_links-2.ensures.linked Reads whole;
  writes = c.no_links-3.ensures.linked Writes whole;
  covers = c.no_links-4.ensures.linked Covers whole;
  cuts = c.no_links-5.ensures.linked Cuts whole;
  leases = record {
    grants = c.no_links-6.ensures.linked Grants whole;
    stores = c.no_links-7.ensures.linked Stores whole;
    own = c.no_links-8.ensures.linked Own whole;
  };
}
