use Rattle.std.proofs.Common.{◌≡◌, ◌-◌, ◌*◌, ◌/◌, ◌≤◌, length, take, drop}
use Rattle.pybuf_shaping.specs.Digits.{bytes_of_hex}
use Rattle.pybuf_shaping.proofs.ReadLemmas.{bytes_before}
use Rattle.pybuf_shaping.proofs.digit_pairs.write_pairs.Given as goal

abbrev pub invariant-loop-at : goal.invariant-loop-at
invariant-loop-at l = record {
  whole : bytes_before (take l.count l.room) (bytes_of_hex (drop l.at l.text)) ≡ bytes_of_hex l.text;
  inside : l.at ≤ length l.text;
  counted : 2 * l.count ≤ l.at;
  room : length l.room ≡ length l.text / 2;
}

abbrev pub decreases-loop-at : goal.decreases-loop-at
decreases-loop-at l = length l.text - l.at
