-- Bytes that are written where the items of a view lie one after the other.
use Rattle.std.proofs.Common.{◌≡◌, ℕ, zero, suc, ◌+◌, ◌-◌, ◌*◌, ◌%◌, ◌<◌, ◌≤◌, List, [], ◌∷◌, ◌++◌, length, take, drop, true, not, true≢false, refl, ap, sym, subst, ◌∙◌, arith}
use Rattle.std.specs.Prelude.{slice_index, slice_get, All}
use Rattle.std.proofs.Math.Seq.{drop-append_seam, drop-nil}
use Rattle.std.proofs.lemmas.List.Elements.{All-head}
use Rattle.std.proofs.Math.Nat.{mod_self, div_self, mul_comm}
use Rattle.std.proofs.lemmas.List.{append-nil}
use Rattle.std.proofs.lemmas.Grind.{common_steps}
use Rattle.pybuf_lemmas.proofs.Lists.{empty_if_no_length}
use Rattle.pybuf_lemmas.proofs.Booleans.{first_of_both, second_of_both}
use Rattle.pybuf_desc.specs.Facts.{layout_passes as lives}
use Rattle.pybuf_state.specs.Facts.{live_of}
use Rattle.pybuf_desc.specs.Layouts.{Layout, LiesInside}
use Rattle.pybuf_desc.specs.Contiguous.{starts_from, is_contiguous_layout}
use Rattle.pybuf_desc.specs.Items.{bytes_of_items, content_of_layout}
use Rattle.pybuf_desc.specs.Casts.{cast_count}
use Rattle.pybuf_desc.specs.Laws.{CastsShareTheirBytes}
use Rattle.pybuf_memoryview.specs.Laws.{ContentsAreWhole}
use Rattle.pybuf_command.specs.declared.kinds.Subject.TheVariants as subject
use Rattle.pybuf_state.specs.Exporter.{Exporter}
use Rattle.pybuf_state.specs.Live.{is_live, layout_of, is_writable_run}
use Rattle.pybuf_state.specs.Laws.{LiveLayoutsAreSound}
use Rattle.pybuf_borrow.specs.Laws.{ChangesTheLentBytesAlone, BorrowsChangeTheLentBytesAlone}

-- ---- lists

-- the bytes with others written over them from a place on
abbrev pub run_in : List ℕ → ℕ → List ℕ → List ℕ
run_in old s new = take s old ++ (new ++ drop (length new) (drop s old))

abbrev pub over : List ℕ → List ℕ → List ℕ
over old new = take (length old) (new ++ drop (length new) old)

pub length-run_in : (old : List ℕ) (s : ℕ) (new : List ℕ) → s + length new ≤ length old → length (run_in old s new) ≡ length old
length-run_in old s new fits = grind (arith, common_steps)

pub over_run : (old : List ℕ) (s : ℕ) (new : List ℕ) → s + length new ≤ length old → over old (run_in old s new) ≡ run_in old s new
over_run old s new fits =
    let long = length-run_in old s new fits in
    grind (arith, common_steps, long)

pub run_back : (old : List ℕ) (s : ℕ) (new : List ℕ) → s + length new ≤ length old → take (length new) (drop s (run_in old s new)) ≡ new
run_back old s new fits = grind (arith, common_steps)

pub run_before : (old : List ℕ) (s : ℕ) (new : List ℕ) → s + length new ≤ length old → take s (run_in old s new) ≡ take s old
run_before old s new fits = grind (arith, common_steps)

drop_twice : (m n : ℕ) (xs : List ℕ) → drop n (drop m xs) ≡ drop (m + n) xs
drop_twice zero n xs = let none : 0 + n ≡ n = omega arith in rw none refl
drop_twice (suc m) n [] = rw (drop-nil n) (sym (drop-nil (suc m + n)))
drop_twice (suc m) n (x ∷ xs) = let one : suc m + n ≡ suc (m + n) = omega arith in rw one (drop_twice m n xs)

from_run : (old : List ℕ) (s : ℕ) (new : List ℕ) → s + length new ≤ length old → drop s (run_in old s new) ≡ new ++ drop (length new) (drop s old)
from_run old s new fits = grind (arith, common_steps)

pub run_behind : (old : List ℕ) (s : ℕ) (new : List ℕ) → s + length new ≤ length old → drop (s + length new) (run_in old s new) ≡ drop (s + length new) old
run_behind old s new fits =
    sym (drop_twice s (length new) (run_in old s new)) ∙ ap (drop (length new)) (from_run old s new fits)
    ∙ drop-append_seam new (drop (length new) (drop s old)) ∙ drop_twice s (length new) old

-- ---- the content of items that lie one after the other

-- Items that lie one after the other are one item of all their bytes.
whole_item : (bytes : List ℕ) (view : Layout) (n count : ℕ) (starts : List ℕ) → view.starts ≡ starts → 0 < length starts → count ≡ 1
    → bytes_of_items bytes n (starts_from view.starts n count) ≡ take n (drop (slice_index view.starts 0) bytes)
whole_item bytes view n count [] same some one = absurd (omega (arith, some))
whole_item bytes view n count (first ∷ starts) same some one =
    rw same (rw one (let zeroth : first + 0 * n ≡ first = omega arith in rw zeroth (append-nil (take n (drop first bytes)))))

some_start : (starts : List ℕ) (size m : ℕ) → suc m ≡ length starts * size → 0 < length starts
some_start [] size m is = absurd (omega (arith, is))
some_start (start ∷ starts) size m is = omega arith

by_size : CastsShareTheirBytes → ContentsAreWhole → (bytes : List ℕ) (view : Layout) (n : ℕ) → n ≡ length view.starts * view.itemsize → is_contiguous_layout view ≡ true → LiesInside (length bytes) view
    → content_of_layout bytes view ≡ take n (drop (slice_index view.starts 0) bytes)
by_size casts whole bytes view zero is contiguous inside =
    empty_if_no_length (content_of_layout bytes view) (whole bytes view inside ∙ mul_comm view.itemsize (length view.starts) ∙ sym is)
by_size casts whole bytes view (suc m) is contiguous inside =
    let some : 0 < suc m = omega arith in
    let even : length view.starts * view.itemsize % suc m ≡ 0 = rw (← is) (mod_self (suc m)) in
    let one : cast_count view (suc m) ≡ 1 = rw (← is) (div_self some) in
    sym (casts bytes view [] (suc m) contiguous some even).content
    ∙ whole_item bytes view (suc m) (cast_count view (suc m)) view.starts refl (some_start view.starts view.itemsize m is) one

pub content_run : CastsShareTheirBytes → ContentsAreWhole → (bytes : List ℕ) (view : Layout) → is_contiguous_layout view ≡ true → LiesInside (length bytes) view
    → content_of_layout bytes view ≡ take (length view.starts * view.itemsize) (drop (slice_index view.starts 0) bytes)
content_run casts whole bytes view contiguous inside = by_size casts whole bytes view (length view.starts * view.itemsize) refl contiguous inside

-- ---- what is written through a borrow

at_most : (n s long : ℕ) (old : List ℕ) → long ≡ length (take n (drop s old)) → long ≤ length old - s
at_most n s long old is = grind (arith, common_steps, is)

run_fits : (room : ℕ) (starts : List ℕ) (size n : ℕ) → All (λ (start : ℕ). start + size ≤ room) starts → n ≤ room - slice_index starts 0 → slice_index starts 0 + n ≤ room
run_fits room [] size n inside long = omega (arith, long)
run_fits room (first ∷ starts) size n inside long =
    let within : first + size ≤ room = All-head (λ (start : ℕ). start + size ≤ room) first starts inside in
    omega (arith, within, long)

written_run : CastsShareTheirBytes → ContentsAreWhole → (e : Exporter) (k : ℕ) (bytes : List ℕ) → is_contiguous_layout (layout_of e k) ≡ true → LiesInside (length e.bytes) (layout_of e k)
    → length bytes ≡ length (content_of_layout e.bytes (layout_of e k)) → ChangesTheLentBytesAlone e (subject.View k) bytes
written_run casts whole e k bytes contiguous inside long =
    let view = layout_of e k in
    let s : ℕ = slice_index view.starts 0 in
    let count : length bytes ≡ length view.starts * view.itemsize = long ∙ whole e.bytes view inside ∙ mul_comm view.itemsize (length view.starts) in
    let taken : length bytes ≡ length (take (length view.starts * view.itemsize) (drop s e.bytes)) = long ∙ ap length (content_run casts whole e.bytes view contiguous inside) in
    let most : length bytes ≤ length e.bytes - s = at_most (length view.starts * view.itemsize) s (length bytes) e.bytes taken in
    let fits : s + length bytes ≤ length e.bytes = run_fits (length e.bytes) view.starts view.itemsize (length bytes) inside most in
    let after : over e.bytes (run_in e.bytes s bytes) ≡ run_in e.bytes s bytes = over_run e.bytes s bytes fits in
    let kept : length (run_in e.bytes s bytes) ≡ length e.bytes = length-run_in e.bytes s bytes fits in
    let back : content_of_layout (run_in e.bytes s bytes) view ≡ bytes =
    content_run casts whole (run_in e.bytes s bytes) view contiguous (subst (λ (room : ℕ). LiesInside room view) (sym kept) inside)
    ∙ ap (λ (n : ℕ). take n (drop s (run_in e.bytes s bytes))) (sym count) ∙ run_back e.bytes s bytes fits in record {
      read_back = ap (λ (new : List ℕ). content_of_layout new view) after ∙ back;
      before = ap (take s) after ∙ run_before e.bytes s bytes fits;
      behind = ap (drop (s + length bytes)) after ∙ run_behind e.bytes s bytes fits;
      count = ap length after ∙ kept;
    }

over_all : (old new : List ℕ) → length new ≡ length old → over old new ≡ new
over_all old new long = grind (arith, common_steps, long)

past_all : (old new : List ℕ) → length new ≡ length old → drop (0 + length new) new ≡ drop (0 + length new) old
past_all old new long = grind (arith, common_steps, long)

pub written : CastsShareTheirBytes → ContentsAreWhole → LiveLayoutsAreSound → BorrowsChangeTheLentBytesAlone
written casts whole lives e subject.Own bytes sound can long = record {
  read_back = over_all e.bytes bytes long;
  before = refl;
  behind = ap (drop (0 + length bytes)) (over_all e.bytes bytes long) ∙ past_all e.bytes bytes long;
  count = ap length (over_all e.bytes bytes long) ∙ long;
}
written casts whole lives e (subject.View k) bytes sound can long =
    let live : is_live e k ≡ true = first_of_both (is_live e k) (is_writable_run (layout_of e k)) can in
    let run : is_writable_run (layout_of e k) ≡ true = second_of_both (is_live e k) (is_writable_run (layout_of e k)) can in
    let contiguous : is_contiguous_layout (layout_of e k) ≡ true = first_of_both (is_contiguous_layout (layout_of e k)) (not (layout_of e k).readonly) run in
    written_run casts whole e k bytes contiguous (lives e k (layout_of e k) sound (live_of (slice_get e.views k) live)).inside long
written casts whole lives e (subject.Iter k) bytes sound can long = absurd (true≢false (sym can))
