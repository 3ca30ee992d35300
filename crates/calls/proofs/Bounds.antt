-- How long each conversation that was begun is at the most
use Rattle.hardware.specs.Talk.{Talk, Res}
use Rattle.std.proofs.Common.{◌≡◌, ℕ, ◌^◌, ◌<◌, ◌≤◌, List, refl, arith, subst, Err, Ok}
use Rattle.hardware.specs.Bound.{Within, at_end}
use Rattle.hardware.specs.declared.Port.{Port}
use Rattle.hardware.proofs.Refusal.{Taken, taken}
use Rattle.operations.specs.Request.{request, refused}
use Rattle.operations.specs.Bounds.{actions, micros}
use Rattle.operations.specs.Operations.{operation}
use Rattle.operations.proofs.Bounds.{operation_within, operation_fits}
use Rattle.operations.proofs.Words.{request_port}
use Rattle.calls.specs.Conversation.{started, begun}
use Rattle.reference.specs.Out.{Out}
use Rattle.operations.specs.declared.Operation.{Operation}

-- a bound of t of at most x actions and y microseconds, which does not come near 2 ^ 64
pub record Short (t : Talk Out) (x y : ℕ) : Type 0 where
  pub n : ℕ
  pub m : ℕ
  pub within : Within t n m
  pub of_actions : n ≤ x
  pub of_micros : m ≤ y
  pub few : n < 2 ^ 63
  pub brief : m < 2 ^ 63

-- everything that `begin` makes has one
pub short_begun : (port : Port) (what : Operation) (ws : List ℕ) → Short (begun port what ws).talk (actions what ws) (micros what ws)
short_begun port what ws = go (refused port what ws) (taken (request port what ws))
  where
    go : (r : Res (Unit {0})) → (r ≡ Ok tt → Taken (request port what ws))
        → Short (started (operation port what ws) r) (actions what ws) (micros what ws)
    go (Err e) known =
        record {
          n = 0;
          m = 0;
          within = at_end;
          of_actions = omega arith;
          of_micros = omega arith;
          few = omega arith;
          brief = omega arith;
        }
    go (Ok u) known =
        let fits = operation_fits port what ws (known refl).words (known refl).pairs in
        let short = subst (λ (p : Port). p.pause ≤ 100) (request_port port what ws) (known refl).pause in
        record {
          n = actions what ws;
          m = micros what ws;
          within = operation_within port what ws short;
          of_actions = omega arith;
          of_micros = omega arith;
          few = fits.of_actions;
          brief = fits.of_micros;
        }
