use Rattle.std.proofs.Common.{length, ◌≡◌, ◌++◌, drop}
use Rattle.text.specs.Digits.{decimal}
use Rattle.text.proofs.decimal_digits.Given as goal

-- the digits from i on stand there
abbrev pub invariant-loop-i : goal.invariant-loop-i
invariant-loop-i l = record {
  len : length l.text ≡ 20;
  digits : decimal 20 l.v ≡ decimal l.i l.rest ++ drop l.i l.text;
}
