-- The parts of a menu.
use Rattle.std.specs.Prelude.{ℕ, Bool, if◌then◌else◌}

-- how many ticks stand on the menu: those of four hosts, and the server's where it may tick
abbrev pub tick_count : Bool → ℕ
tick_count server_tick = if server_tick then 5 else 4
