-- What code keeps where the definitions go on: a revision, and a value, stay at the end of their type.
use Rattle.std.specs.Prelude.{min}
use Rattle.nq_base.specs.declared.Effect.{Effect}
use Rattle.nq_keeper.specs.Capped.{last_number, capped_file}

-- what a request comes to, with such numbers
unfoldable pub capped : Effect → Effect
capped effect = record effect {
  value = min effect.value last_number;
  change = record effect.change { file = capped_file effect.change.file };
}
