-- What is said from an operation's first step on, with the block as it is then, and which operation it is
use Rattle.hardware.specs.Talk.{Talk, and_then}
use Rattle.std.specs.Prelude.{ℕ, List, take}
use Rattle.hardware.specs.declared.Port.{Port}
use Rattle.reference.specs.Out.{Out}
use Rattle.access.specs.Access.{told_access}
use Rattle.after.specs.After.{after_nothing, told_after}
use Rattle.jobs.specs.List.{list_of, pairs_in}
use Rattle.operations.specs.Operations.{list_operation, operation}
use Rattle.operations.specs.declared.Operation.{Operation}
use Rattle.operations.specs.declared.Operation.TheVariants as operationv
use Rattle.start.specs.declared.start.First.{First}
use Rattle.start.specs.declared.start.First.TheVariants as first

abbrev pub told_first : Port → List ℕ → First → Talk Out
told_first port b (first.Access step) = and_then (told_access b step) (λ p. after_nothing p.0)
told_first port b (first.After step) = told_after port b step

-- the operation, on the words that stand in the block: a list has its pairs behind the 16 of the host block, a command its first. A
-- poll has its windows as they are lent
unfoldable pub begins : Port → Operation → (words pairs : ℕ) → (windows block : List ℕ) → Talk Out
begins port (operationv.MdioList phy) words pairs ws b = list_operation port phy (pairs_in (take pairs (list_of b)))
begins port (operationv.Poll w minute) words pairs ws b = operation port (operationv.Poll w minute) ws
begins port what words pairs ws b = operation port what (take words b)
