-- Items that lie apart on two sides, where item k of one side is compared with item k of the other.
use Rattle.std.specs.Prelude.{ℕ, zero, suc, Bool, true, false, ◌&&◌, List, take, drop, bytes_eq}
use Rattle.std.specs.Ordering.{int_eq}
use Rattle.pybuf_struct.specs.Digits.{number}
use Rattle.pybuf_strided.specs.Apart.{place_of}
use Rattle.pybuf_strided.specs.declared.moves.Track.{Track}

-- whether each number below this one passes a test
abbrev pub all_below : (ℕ → Bool) → ℕ → Bool
all_below test zero = true
all_below test (suc n) = all_below test n && test n

-- the bytes of item k
abbrev pub piece : List ℕ → (ℕ → ℕ) → ℕ → ℕ → List ℕ
piece bytes place size k = take size (drop (place k) bytes)

-- whether item k has the same bytes on both sides
abbrev pub same_piece : List ℕ → (ℕ → ℕ) → List ℕ → (ℕ → ℕ) → ℕ → ℕ → Bool
same_piece bytes place other other_place size k = bytes_eq (piece bytes place size k) (piece other other_place size k)

-- Whether item k is the same number on both sides. Each side has a sign and a size of its own. The first byte is worth
-- least.
abbrev pub same_number : List ℕ → (ℕ → ℕ) → Bool → ℕ → List ℕ → (ℕ → ℕ) → Bool → ℕ → ℕ → Bool
same_number bytes place signed size other other_place other_signed other_size k =
    int_eq (number false signed (piece bytes place size k)) (number false other_signed (piece other other_place other_size k))

-- ---- items along two tracks

-- so many items of one size along both tracks have the same bytes, item by item
abbrev pub same_pieces : List ℕ → Track → List ℕ → Track → ℕ → ℕ → Bool
same_pieces bytes track other other_track size count =
    all_below (same_piece bytes (place_of track.falls track.start track.step) other (place_of other_track.falls other_track.start other_track.step) size) count

-- the same, where it is told whether each track falls
abbrev pub same_pieces_by : Bool → Bool → List ℕ → Track → List ℕ → Track → ℕ → ℕ → Bool
same_pieces_by falls other_falls bytes track other other_track size count =
    all_below (same_piece bytes (place_of falls track.start track.step) other (place_of other_falls other_track.start other_track.step) size) count

-- so many items along both tracks are the same numbers, of a sign and a size of its own on each side
abbrev pub all_equal : List ℕ → Track → Bool → ℕ → List ℕ → Track → Bool → ℕ → ℕ → Bool
all_equal bytes track signed size other other_track other_signed other_size count =
    all_below (same_number bytes (place_of track.falls track.start track.step) signed size other (place_of other_track.falls other_track.start other_track.step) other_signed other_size) count
