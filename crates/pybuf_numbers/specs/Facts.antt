-- Facts about the definitions of this crate, with their proofs, for the proofs of the crates above.
use Rattle.std.proofs.Common.{◌≡◌, true, [], refl, ℕ, suc, List, ◌∷◌, length, ap, ℤ, map, ◌∙◌, ◌/◌}
use Rattle.std.specs.Simd.{first_chunks}
use Rattle.pybuf_lemmas.proofs.Lists.{length_of_chunks}
use Rattle.pybuf_numbers.specs.declared.codes.ArrayCode.{ArrayCode}
use Rattle.pybuf_numbers.specs.Numbers.{is_whole, numbers_of, number_in, count_in}
use Rattle.pybuf_numbers.specs.Codes.{size_of}
use Rattle.pybuf_numbers.specs.declared.codes.ArrayCode.TheVariants as code

pub no_array_items_whole : (c : ArrayCode) → is_whole c [] ≡ true
no_array_items_whole code.SByte = refl
no_array_items_whole code.UByte = refl
no_array_items_whole code.Short = refl
no_array_items_whole code.UShort = refl
no_array_items_whole code.Int = refl
no_array_items_whole code.UInt = refl
no_array_items_whole code.Long = refl
no_array_items_whole code.ULong = refl
no_array_items_whole code.LongLong = refl
no_array_items_whole code.ULongLong = refl

pub numbers_of_none : (c : ArrayCode) → numbers_of c [] ≡ []
numbers_of_none code.SByte = refl
numbers_of_none code.UByte = refl
numbers_of_none code.Short = refl
numbers_of_none code.UShort = refl
numbers_of_none code.Int = refl
numbers_of_none code.UInt = refl
numbers_of_none code.Long = refl
numbers_of_none code.ULong = refl
numbers_of_none code.LongLong = refl
numbers_of_none code.ULongLong = refl

-- there are at most as many numbers as bytes
pub length_mapped : (f : List ℕ → ℤ) (ps : List (List ℕ)) → length (map f ps) ≡ length ps
length_mapped f [] = refl
length_mapped f (p ∷ ps) = ap suc (length_mapped f ps)

pub length_of_numbers : (c : ArrayCode) (bytes : List ℕ) → length (numbers_of c bytes) ≡ length bytes / size_of c
length_of_numbers c bytes = length_mapped (number_in c) (first_chunks (size_of c) (count_in c bytes) bytes) ∙ length_of_chunks (size_of c) (count_in c bytes) bytes
