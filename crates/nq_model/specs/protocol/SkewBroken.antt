-- What is named where a tick of the server's clock breaks the rule on skew. Schedules are told with the newest event
-- first.
use Rattle.std.specs.Prelude.{ℕ, ◌+◌, List, [], ◌∷◌, Option, Some, None, zero, suc, if◌then◌else◌}
use Rattle.nq_base.specs.declared.Event.{Event}
use Rattle.nq_base.specs.declared.SkewBroken.{SkewBroken}
use Rattle.nq_model.specs.protocol.Profile.{skew}
use Rattle.nq_model.specs.protocol.Skew.{is_server_tick, is_tick_of, part_within}

-- of the parts that end now the shortest that breaks the rule for a host, with the ticks in it. So many ticks of the
-- host's and of the server's clock were counted already
abbrev pub broken_from : (host longest client server : ℕ) → List Event → Option SkewBroken
broken_from host longest client server [] =
    if part_within longest client server then None
    else Some (record { host = host; server = server; client = client })
broken_from host longest client server (e ∷ earlier) =
    if part_within longest client server
    then broken_from host longest (is_tick_of host e + client) (is_server_tick e + server) earlier
    else Some (record { host = host; server = server; client = client })

-- the first of two findings
abbrev pub found_first : Option SkewBroken → Option SkewBroken → Option SkewBroken
found_first (Some b) other = Some b
found_first None other = other

-- the same of the lowest host below a number for which some part that ends now breaks the rule
abbrev pub lowest_broken : (hosts longest : ℕ) → List Event → Option SkewBroken
lowest_broken zero longest events = None
lowest_broken (suc host) longest events =
    found_first (lowest_broken host longest events) (broken_from host longest 0 0 events)

-- what is named where the server's clock is to tick after these events; nothing where that tick is within skew
abbrev pub skew_broken : (hosts longest : ℕ) → List Event → Option SkewBroken
skew_broken hosts longest events = lowest_broken hosts longest (Event.ServerTick ∷ events)
