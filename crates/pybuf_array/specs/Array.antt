-- Arrays of whole numbers, and what their operations do. These definitions speak of numbers, and not of bytes.
use Rattle.std.specs.Prelude.{◌≡◌, ℕ, suc, Bool, true, false, not, ℤ, pos, negsuc, List, [], ◌∷◌, ◌++◌, length, map, set, Option, Result, Ok, Err, MatchResult, nat_lt, slice_get, slice_index, slice_index_or, count_by, unwrap_or}
use Rattle.std.specs.List.{list_all, position, range_with_len}
use Rattle.std.specs.Option.{ok_or}
use Rattle.std.specs.Ordering.{int_eq}
use Rattle.pybuf_value.specs.declared.faults.Fault.{Fault}
use Rattle.pybuf_value.specs.declared.faults.Fault.TheVariants as fault
use Rattle.pybuf_value.specs.declared.values.PySlice.{PySlice}
use Rattle.pybuf_value.specs.Numbers.{fitted_number}
use Rattle.pybuf_value.specs.Refusing.{◌>>=◌, unless}
use Rattle.pybuf_index.specs.Parts.{saturated_parts_of, picks_of}
use Rattle.pybuf_index.specs.Places.{saturated_place, entry_in}
use Rattle.pybuf_slice.specs.Edits.{replaced_range}
use Rattle.pybuf_slice.specs.Reads.{elements_at}
use Rattle.pybuf_numbers.specs.declared.codes.ArrayCode.{ArrayCode}
use Rattle.pybuf_numbers.specs.Codes.{holds}
use Rattle.pybuf_numbers.specs.Numbers.{numbers_of, is_whole, swapped}

-- A view of an array: the indices of the numbers that it shows, and whether it is released.
pub record ArrayView : Type 0 where
  pub indices : List ℕ
  pub released : Bool

-- An array: its code, its numbers, and the views that were made of it, in order.
pub record Array : Type 0 where
  pub code : ArrayCode
  pub numbers : List ℤ
  pub views : List ArrayView

abbrev pub new_array : ArrayCode → Array
new_array c = record { code = c; numbers = []; views = [] }

abbrev pub is_unreleased : ArrayView → Bool
is_unreleased v = not v.released

-- the number of unreleased views
abbrev pub exports_in : Array → ℕ
exports_in a = count_by is_unreleased a.views

-- ---- checks

-- A number must be in the range of the code.
abbrev pub in_range : Array → ℤ → Result Bool Fault
in_range a n = unless (not (holds a.code n)) fault.Overflow

-- All numbers must be in the range of the code.
abbrev pub all_in_range : Array → List ℤ → Result Bool Fault
all_in_range a numbers = unless (not (list_all (holds a.code) numbers)) fault.Overflow

-- An array can't be resized while a view of it is unreleased.
abbrev pub may_resize : Array → Result Bool Fault
may_resize a = unless (nat_lt 0 (exports_in a)) fault.Buffer

-- the view that has this number, if one was given
abbrev pub view_at : Array → ℕ → Result ArrayView Fault
view_at a k = ok_or (slice_get a.views k) fault.UnknownName

-- the same, if the view is unreleased
abbrev pub live_view : Array → ℕ → Result ArrayView Fault
live_view a k = do
  v ← view_at a k
  _ ← unless v.released fault.Value
  Ok v

-- ---- how an array changes

abbrev pub with_numbers : Array → List ℤ → Array
with_numbers a numbers = record a { numbers = numbers }

-- one more view, which shows the numbers at these indices
abbrev pub with_view : Array → List ℕ → Array
with_view a indices = record a { views = a.views ++ (record { indices = indices; released = false }) ∷ [] }

abbrev pub number_at : Array → ℕ → ℤ
number_at a place = slice_index_or a.numbers place (pos 0)

-- ---- what an operation does, and its answer

-- `append`
abbrev pub appended : Array → ℤ → Result (Array × Unit {0}) Fault
appended a n = do
  _ ← in_range a n
  _ ← may_resize a
  Ok (with_numbers a (a.numbers ++ n ∷ []), tt)

-- `extend`
abbrev pub extended : Array → List ℤ → Result (Array × Unit {0}) Fault
extended a others = do
  _ ← all_in_range a others
  _ ← may_resize a
  Ok (with_numbers a (a.numbers ++ others), tt)

-- `insert`: before the place that is nearest to an index
abbrev pub inserted : Array → ℤ → ℤ → Result (Array × Unit {0}) Fault
inserted a index n = do
  i ← fitted_number fault.Overflow index
  _ ← in_range a n
  _ ← may_resize a
  Ok (with_numbers a (replaced_range a.numbers (saturated_place (length a.numbers) i) (saturated_place (length a.numbers) i) (n ∷ [])), tt)

-- the numbers without the one at a place
abbrev pub without : Array → ℕ → List ℤ
without a place = replaced_range a.numbers place (suc place) []

-- `pop`: the number at an index, or the last if no index is given
abbrev pub popped : Array → Option ℤ → Result (Array × ℤ) Fault
popped a index = do
  i ← fitted_number fault.Overflow (unwrap_or index (negsuc 0))
  place ← entry_in (length a.numbers) i
  _ ← may_resize a
  Ok (with_numbers a (without a place), number_at a place)

-- the place of the first number that is equal to this one, if there is one
unfoldable pub first_place : List ℤ → ℤ → Option ℕ
first_place numbers n = position (int_eq n) numbers

-- `remove`: the first number that is equal to this one
abbrev pub removed : Array → ℤ → Result (Array × Unit {0}) Fault
removed a n = do
  place ← ok_or (first_place a.numbers n) fault.Value
  _ ← may_resize a
  Ok (with_numbers a (without a place), tt)

-- `frombytes`
abbrev pub read_from : Array → List ℕ → Result (Array × Unit {0}) Fault
read_from a bytes = do
  _ ← unless (not (is_whole a.code bytes)) fault.Value
  _ ← may_resize a
  Ok (with_numbers a (a.numbers ++ numbers_of a.code bytes), tt)

-- `get`
abbrev pub number_named : Array → ℤ → Result ℤ Fault
number_named a index = do
  place ← entry_in (length a.numbers) index
  Ok (number_at a place)

-- `set`
abbrev pub put_at : Array → ℤ → ℤ → Result (Array × Unit {0}) Fault
put_at a index n = do
  place ← entry_in (length a.numbers) index
  _ ← in_range a n
  Ok (with_numbers a (set a.numbers place n), tt)

-- `byteswap`
abbrev pub with_swapped : Array → Array
with_swapped a = with_numbers a (map (swapped a.code) a.numbers)

-- `view`: a view of all numbers
abbrev pub viewed : Array → Array × ℕ
viewed a = (with_view a (range_with_len 0 (length a.numbers)), length a.views)

-- `vslice`: a view of those indices of a view that a slice picks
abbrev pub view_sliced : Array → ℕ → PySlice → Result (Array × ℕ) Fault
view_sliced a k slice = do
  v ← live_view a k
  parts ← saturated_parts_of slice
  Ok (with_view a (elements_at v.indices (picks_of (length v.indices) parts)), length a.views)

-- the place of the number that an index of a view names
abbrev pub place_in_view : Array → ℕ → ℤ → Result ℕ Fault
place_in_view a k index = do
  v ← live_view a k
  item ← entry_in (length v.indices) index
  Ok (slice_index v.indices item)

-- `vget`
abbrev pub number_in_view : Array → ℕ → ℤ → Result ℤ Fault
number_in_view a k index = do
  place ← place_in_view a k index
  Ok (number_at a place)

-- `vset`
abbrev pub put_in_view : Array → ℕ → ℤ → ℤ → Result (Array × Unit {0}) Fault
put_in_view a k index n = do
  place ← place_in_view a k index
  _ ← in_range a n
  Ok (with_numbers a (set a.numbers place n), tt)

-- `release`: a view may be released twice
abbrev pub released_in : Array → ℕ → Result (Array × Unit {0}) Fault
released_in a k = do
  v ← view_at a k
  Ok (record a { views = set a.views k (record v { released = true }) }, tt)

-- a call is refused exactly as a check is
abbrev pub RefusedAs : {A : Type 0} → Result Bool Fault → Result A Fault → Type 0
RefusedAs check result = MatchResult result (λ _. check ≡ Ok true) (λ f. check ≡ Err f)

-- a call gives what is due, or is refused as is due
abbrev pub GivesOrRefuses : {A : Type 0} → Result A Fault → Result A Fault → Type 0
GivesOrRefuses due result = MatchResult result (λ given. due ≡ Ok given) (λ f. due ≡ Err f)
