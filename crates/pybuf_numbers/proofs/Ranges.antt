-- Numbers in range fit into 128 bits.
use Rattle.std.proofs.Common.{◌≡◌, arith, ℤ, pos, negsuc, SFits}
use Rattle.std.specs.Prelude.{true}
use Rattle.std.specs.Int.{w128}
use Rattle.std.proofs.lemmas.Bool.{ltb-true}
use Rattle.std.proofs.lemmas.Int.{ints}
use Rattle.pybuf_numbers.specs.declared.codes.ArrayCode.{ArrayCode}
use Rattle.pybuf_numbers.specs.declared.codes.ArrayCode.TheVariants as code
use Rattle.pybuf_numbers.specs.Codes.{holds}

pub wide : (c : ArrayCode) (n : ℤ) → holds c n ≡ true → SFits w128 n
wide code.SByte (pos n) h = record { sfits = omega (arith, ints, ltb-true _ _ h) }
wide code.SByte (negsuc n) h = record { sfits = omega (arith, ints, ltb-true _ _ h) }
wide code.UByte (pos n) h = record { sfits = omega (arith, ints, ltb-true _ _ h) }
wide code.UByte (negsuc n) h = absurd cc
wide code.Short (pos n) h = record { sfits = omega (arith, ints, ltb-true _ _ h) }
wide code.Short (negsuc n) h = record { sfits = omega (arith, ints, ltb-true _ _ h) }
wide code.UShort (pos n) h = record { sfits = omega (arith, ints, ltb-true _ _ h) }
wide code.UShort (negsuc n) h = absurd cc
wide code.Int (pos n) h = record { sfits = omega (arith, ints, ltb-true _ _ h) }
wide code.Int (negsuc n) h = record { sfits = omega (arith, ints, ltb-true _ _ h) }
wide code.UInt (pos n) h = record { sfits = omega (arith, ints, ltb-true _ _ h) }
wide code.UInt (negsuc n) h = absurd cc
wide code.Long (pos n) h = record { sfits = omega (arith, ints, ltb-true _ _ h) }
wide code.Long (negsuc n) h = record { sfits = omega (arith, ints, ltb-true _ _ h) }
wide code.ULong (pos n) h = record { sfits = omega (arith, ints, ltb-true _ _ h) }
wide code.ULong (negsuc n) h = absurd cc
wide code.LongLong (pos n) h = record { sfits = omega (arith, ints, ltb-true _ _ h) }
wide code.LongLong (negsuc n) h = record { sfits = omega (arith, ints, ltb-true _ _ h) }
wide code.ULongLong (pos n) h = record { sfits = omega (arith, ints, ltb-true _ _ h) }
wide code.ULongLong (negsuc n) h = absurd cc
