use Rattle.std.proofs.Common.{length, ◌≡◌, ◌++◌, drop}
use Rattle.text.specs.Digits.{last_hex}
use Rattle.text.proofs.hex_digits.Given as goal

-- the digits from i on stand there
abbrev pub invariant-loop-i : goal.invariant-loop-i
invariant-loop-i l = record {
  len : length l.text ≡ 8;
  digits : last_hex 8 l.v ≡ last_hex l.i l.rest ++ drop l.i l.text;
}
