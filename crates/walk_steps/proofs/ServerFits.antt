-- All facts about a server alone, and each of its steps keeps them.
use Rattle.std.proofs.Common.{◌≡◌, ◌≤◌, ℕ, None, sym, arith}
use Rattle.nq_model.specs.protocol.Kept.{Kept}
use Rattle.nq_model.specs.protocol.Profile.{shortest_term}
use Rattle.nq_model.specs.protocol.Server.{Server}
use Rattle.nq_model.specs.protocol.ServerStep.{boot}
use Rattle.nq_model.specs.protocol.Table.{empty_table}
use Rattle.walk_steps.proofs.RowTimes.{TimesFitOf, times-boot}
use Rattle.walk_steps.proofs.ServerFacts.{IncsFitOf, incs-boot}
use Rattle.walk_steps.proofs.ServerNumbers.{TermsFitOf, IdsFitOf, IdsFit, LinesFitOf, LinesFit, PhaseWaitsOf, terms-boot, ids-boot, lines-boot, waits-boot}
use Rattle.walk_steps.proofs.ServerTables.{BootsFitOf, StandingFitsOf, boots-boot, stands-boot}
use Rattle.walk_steps.proofs.TableFits.{no-rows-fit}

-- the facts: the last boot was at this time, and no term is longer than this
pub record ServerFits (most booted : ℕ) (s : Server) : Type 0 where
  pub boots : BootsFitOf s
  pub stands : StandingFitsOf s
  pub incs : IncsFitOf s
  pub times : TimesFitOf s
  pub terms : TermsFitOf most s
  pub ids : IdsFitOf s
  pub lines : LinesFitOf s
  pub waits : PhaseWaitsOf booted s

-- a first boot over a fitting kept state, which knows no last table
pub fits-boot : (most : ℕ) (kept : Kept) (longest now : ℕ) → kept.opened ≡ 0 → shortest_term ≤ longest → longest ≤ most → shortest_term ≤ kept.longest
    → kept.longest ≤ most → IdsFit kept.files kept.next → LinesFit kept.hosts → ServerFits most now (boot kept longest now None)
unfolding empty_table
fits-boot most kept longest now first long few kept_long kept_few ids lines = record {
  boots = boots-boot kept longest now None (omega arith) (sym first);
  stands = stands-boot kept longest now None (no-rows-fit kept.files 0 0);
  incs = incs-boot kept longest now None (λ file host row found. absurd (cc));
  times = times-boot kept longest now None (λ file host row found. absurd (cc));
  terms = terms-boot most kept longest now None long few kept_long kept_few;
  ids = ids-boot kept longest now None ids;
  lines = lines-boot kept longest now None lines;
  waits = waits-boot kept longest now None;
}
