-- Conversations that do only some actions
use Rattle.hardware.specs.Talk.{Talk, end, ask, Reply}
use Rattle.hardware.specs.declared.Action.{Action}

-- whatever is replied, each action is one of P
pub data Only {A : Type 0} (P : Action → Type 0) : Talk A → Type 0 where
  only_end : {a : A} → Only P (end a)
  only_ask : {a : Action} {c : Reply → Talk A} → P a → ((r : Reply) → Only P (c r)) → Only P (ask a c)
