use Rattle.std.proofs.Common.{◌<◌, ◌≡◌, ◌^◌, drop}
use Rattle.text.specs.Decimal.{value}
use Rattle.text.proofs.decimal.value.Given as goal

-- the digits so far are worth v
abbrev pub invariant-loop-b : goal.invariant-loop-b
invariant-loop-b l = record {
  small : l.v < 10 ^ l.b-index;
  rest : value 0 l.word ≡ value l.v (drop l.b-index l.word);
}
