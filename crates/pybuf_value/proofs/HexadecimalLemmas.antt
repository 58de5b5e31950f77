-- The digits of hexadecimal numbers.
use Rattle.std.proofs.Common.{◌≡◌, refl, ℕ, ◌<◌, true, slice_index, nat_lt, arith}
use Rattle.std.proofs.lemmas.Bool.Decides.{nat_tests}
use Rattle.std.proofs.lemmas.List.Sums.{AllPass-from_list_all}
use Rattle.hex.specs.Hex.{lower_digits}

-- These digits are of ASCII.
pub lower_is_ascii : (d : ℕ) → d < 16 → slice_index lower_digits d < 128
lower_is_ascii d small =
    let below : nat_lt (slice_index lower_digits d) 128 ≡ true = AllPass-from_list_all (λ c. nat_lt c 128) lower_digits refl d 0 small in
    grind (arith, nat_tests)
