use Rattle.nq_rules.proofs.ordered.is_in_order.Goals as goal

pub returns-in-C : goal.returns-in-C
returns-in-C c = rw c.in-C.is c.is_call_in_order.ensures

pub returns-in-Z : goal.returns-in-Z
returns-in-Z c = rw c.in-Z.is c.is_resize_in_order.ensures
