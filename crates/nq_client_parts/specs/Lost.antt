-- Losses as entries.
use Rattle.std.specs.Prelude.{◌≡◌, ℕ, Bool, true, false, not, nat_le, List, Option, Some, None, if◌then◌else◌}
use Rattle.nq_base.specs.declared.Entry.{Entry}
use Rattle.nq_base.specs.declared.Loss.{Loss}
use Rattle.nq_base.specs.declared.Who.{Who}
use Rattle.nq_client_parts.specs.declared.losses.Losing.{Losing}
use Rattle.nq_model.specs.protocol.Client.{UnderWay, add_losses, losses_of}
use Rattle.nq_model.specs.protocol.Hear.{waits_for}

-- the entry of a loss
abbrev pub lost_entry : Who → Loss → Entry
lost_entry who l = Entry.L who l.file l.block l.first l.last

-- the number of the call under way, where it waits until a file is clean
abbrev pub waiting : (file : ℕ) → Option UnderWay → Option ℕ
waiting file None = None
waiting file (Some u) = if waits_for file u.written u.call then Some u.q else None

-- these losses of a file were found beside those that no answer named yet; then all of the file are told
pub record Loses (l : Losing) (file : ℕ) (found unreported : List Loss) : Type 0 where
  pub found_are : l.found.items ≡ found
  pub after_are : l.after.items ≡ add_losses file found unreported
  pub told_are : l.told ≡ losses_of file (add_losses file found unreported)

-- whether a loss is of a later file, or of this or an earlier one
abbrev pub is_beside : (past : Bool) (file : ℕ) → Loss → Bool
is_beside true file = λ l. not (nat_le l.file file)
is_beside false file = λ l. nat_le l.file file
