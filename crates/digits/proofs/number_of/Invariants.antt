-- The number of the digits so far, with the rest to come.
use Rattle.std.proofs.Common.{◌≡◌, true, ◌^◌, ◌<◌, drop}
use Rattle.digits.specs.Digits.{are_digits, with_digits, number_of}
use Rattle.digits.proofs.number_of.Given as goal

abbrev pub invariant-loop-byte : goal.invariant-loop-byte
invariant-loop-byte l =
    record {
      number : with_digits l.number (drop l.byte-index l.bytes) ≡ number_of l.bytes;
      digits : are_digits (drop l.byte-index l.bytes) ≡ true;
      small : l.number < 10 ^ l.byte-index;
    }
