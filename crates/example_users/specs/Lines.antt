-- The lines of a socket's buffer.
use Rattle.std.specs.Prelude.{◌≡◌, ◌+◌, ◌-◌, ◌≤◌, ◌==◌, ℕ, true, false, List, [], ◌++◌, length, map, take, drop, slice_range, position, Option, Some, None}
use Rattle.std.specs.Char.{to_ascii_uppercase}
use Rattle.pybuf_desc.specs.Layouts.{bytes_layout}
use Rattle.pybuf_state.specs.Exporter.{Exporter}
use Rattle.pybuf_state.specs.Live.{is_live, layout_of}

-- The answers that weren't sent, the bytes that came in and weren't answered, and how many more bytes have
-- room.
pub record Lines : Type 0 where
  pub answers : List ℕ
  pub waiting : List ℕ
  pub free : ℕ

abbrev pub empty_lines : ℕ → Lines
empty_lines size = record { answers = []; waiting = []; free = size }

-- how many bytes stand before the first line feed, if there is one
abbrev pub line_len_of : List ℕ → Option ℕ
line_len_of bytes = position (λ byte. byte == 10) bytes

abbrev pub received : Lines → List ℕ → Lines
received b bytes = record b { waiting = b.waiting ++ bytes; free = b.free - length bytes }

abbrev pub line_at : List ℕ → Option ℕ → Option (List ℕ)
line_at waiting (Some len) = Some (take len waiting)
line_at waiting None = None

-- the first complete line that came in, without its line feed
abbrev pub next_line : Lines → Option (List ℕ)
next_line b = line_at b.waiting (line_len_of b.waiting)

-- the answer to a line: its letters in upper case
abbrev pub answer_of : List ℕ → List ℕ
answer_of line = map to_ascii_uppercase line

abbrev pub answered_at : Lines → Option ℕ → Lines
answered_at b (Some len) = record b { answers = b.answers ++ answer_of (take (len + 1) b.waiting); waiting = drop (len + 1) b.waiting }
answered_at b None = b

-- the buffer after its first line is answered, and the answer has a line feed
abbrev pub answered : Lines → Lines
answered b = answered_at b (line_len_of b.waiting)

-- the buffer after its answers are sent
abbrev pub sent : Lines → Lines
sent b = record { answers = []; waiting = b.waiting; free = b.free + length b.answers }

-- The buffer that a room has. The answers end at one place, and what came in ends at another.
abbrev pub lines_in : List ℕ → ℕ → ℕ → Lines
lines_in room begin end = record { answers = take begin room; waiting = slice_range room begin end; free = length room - end }

-- the room with these bytes written over its own, from a place on
abbrev pub overwritten : List ℕ → ℕ → List ℕ → List ℕ
overwritten room place bytes = take place room ++ (bytes ++ drop (place + length bytes) room)

-- The view is unreleased, may be written, and shows all bytes.
pub record IsSpanned (e : Exporter) (view : ℕ) : Type 0 where
  pub live : is_live e view ≡ true
  pub whole : layout_of e view ≡ bytes_layout (length e.bytes) false

-- What holds of a buffer. Such a view shows its room, and the places are in order.
pub record IsLineBuffer (e : Exporter) (view begin end : ℕ) : Type 0 where
  pub spanned : IsSpanned e view
  pub ordered : begin ≤ end
  pub inside : end ≤ length e.bytes
