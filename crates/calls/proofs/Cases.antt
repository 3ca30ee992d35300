-- Every proved case of document 01 holds, by one computed test
use Rattle.std.proofs.Common.{◌≡◌}
use mathlib.Core.List.{Memᴰ}
use Rattle.hardware.specs.Refusal.{refusal}
use Rattle.words.specs.Cases.{Case, cases}
use Rattle.words.specs.Link.{link_of}
use Rattle.words.proofs.Cases.{each}
use Rattle.operations.specs.Request.{request}
use Rattle.operations.proofs.Computing.{computing}
use Rattle.calls.specs.Cases.{all_cases}

pub every_case : (c : Case) → Memᴰ c all_cases → c.computed ≡ c.expected
unfolding all_cases cases link_of computing refusal request
every_case = each all_cases tt
