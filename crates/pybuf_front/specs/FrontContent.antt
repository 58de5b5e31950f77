-- What a contract sees of bytes that are kept behind free room.
use Rattle.std.specs.Prelude.{◌≡◌, ◌⊎◌, ℕ, ◌+◌, ◌-◌, ◌<◌, ◌≤◌, List, ◌++◌, length, nat_lt, if◌then◌else◌}

-- the bytes, in order, how many bytes of free room lie before them, and how many bytes their block of memory has in all
pub record FrontContent : Type 0 where
  pub items : List ℕ
  pub room : ℕ
  pub memory : ℕ

-- there is no free room, or less of it than there are bytes
abbrev pub IsSpare : FrontContent → Type 0
IsSpare f = (f.room ≡ 0) ⊎ (f.room < length f.items)

-- How many bytes are moved to the start before others are added. All are moved if there is as much free room as there
-- are bytes, or more. None is moved if there is less.
abbrev pub moved_down : FrontContent → ℕ
moved_down f = if nat_lt f.room (length f.items) then 0 else length f.items

-- the free room that is left after others were added; none if the bytes were moved to the start
abbrev pub room_kept : FrontContent → ℕ
room_kept f = if nat_lt f.room (length f.items) then f.room else 0

-- How many bytes the block can hold in all before it needs more memory. The free room counts only if adding bytes
-- moves those that are there to the start.
abbrev pub capacity_of : FrontContent → ℕ
capacity_of f = if nat_lt f.room (length f.items) then f.memory - f.room else f.memory

-- What it costs to add bytes. Each byte that is moved uses up a byte of free room, and each is moved at most once.
-- Afterwards there is no free room, or less of it than there are bytes.
pub record IsPaidByRoom (f new : FrontContent) (moved : ℕ) : Type 0 where
  pub paid : moved + new.room ≤ f.room
  pub few : moved ≤ length f.items
  pub spare : IsSpare new

-- adding bytes at the end costs this, whatever memory the block has afterwards
abbrev pub AddingIsPaidByRoom : FrontContent → List ℕ → Type 0
AddingIsPaidByRoom f added = (memory : ℕ)
    → IsPaidByRoom f (record { items = f.items ++ added; room = room_kept f; memory = memory }) (moved_down f)
