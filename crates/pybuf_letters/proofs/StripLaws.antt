-- Laws of bytes without those at their ends that pass a test.
use Rattle.std.proofs.Common.{◌≡◌, sym, ap, ◌∙◌, ℕ, ◌+◌, ◌-◌, ◌<◌, List, ◌++◌, Bool, length, take, drop, reverse, get_or, Some, None, arith}
use Rattle.std.specs.Prelude.{◌↔◌, ◌==◌, IsTrue, Contains}
use Rattle.std.specs.List.{AllPass, list_any, prefix_len, suffix_len}
use Rattle.std.proofs.lemmas.Bool.{eqb-true, eq-eqb}
use Rattle.std.proofs.lemmas.List.{take-append-drop, length-take, length-drop, length-reverse, get_or-take, get_or-drop, get_or-reverse, get_or_append_left}
use Rattle.std.proofs.lemmas.List.Folds.{Any-from_list_any, list_any_at}
use Rattle.std.proofs.lemmas.List.Sums.{prefix_len_passes, prefix_len_stops, suffix_len-le-length}
use Rattle.pybuf_letters.specs.Strips.{stripped_left, stripped_right, stripped, goes}
use Rattle.pybuf_letters.specs.Laws.{the_blanks, FirstStays, LastStays, LosesFront, LosesBack, LosesEnds}
use Rattle.pybuf_letters.proofs.ByteClasses.{is_in-list_any, is_in-blanks}

-- ---- the bytes that are stripped

front_passes : (p : ℕ → Bool) (bytes : List ℕ) → AllPass p (take (prefix_len p bytes) bytes)
front_passes p bytes k d below =
    let inside : k < prefix_len p bytes = omega (arith, length-take (prefix_len p bytes) bytes) in
    ap p (get_or-take (prefix_len p bytes) bytes k d inside) ∙ prefix_len_passes p bytes k d inside

back_passes : (p : ℕ → Bool) (bytes : List ℕ) → AllPass p (drop (length bytes - suffix_len p bytes) bytes)
back_passes p bytes k d below =
    let n : ℕ = length bytes - suffix_len p bytes in
    let j : ℕ = suffix_len p bytes - 1 - k in
    let inside : k < suffix_len p bytes = omega (arith, length-drop n bytes, suffix_len-le-length p bytes) in
    let turned : n + k ≡ length bytes - 1 - j = omega (arith, suffix_len-le-length p bytes) in
    let read : get_or (drop n bytes) k d ≡ get_or (reverse bytes) j d =
    get_or-drop n bytes k d
    ∙ (ap (λ i. get_or bytes i d) turned ∙ sym (get_or-reverse bytes j d (omega (arith, suffix_len-le-length p bytes)))) in
    ap p read ∙ prefix_len_passes p (reverse bytes) j d (omega arith)

-- ---- the bytes at the ends of those that are kept

pub first_kept : (p : ℕ → Bool) (bytes : List ℕ) → FirstStays p (stripped_left p bytes)
first_kept p bytes some =
    let here : prefix_len p bytes + 0 ≡ prefix_len p bytes = omega arith in
    ap p (get_or-drop (prefix_len p bytes) bytes 0 0 ∙ ap (λ n. get_or bytes n 0) here)
    ∙ prefix_len_stops p bytes 0 (omega (arith, length-drop (prefix_len p bytes) bytes))

last_kept : (p : ℕ → Bool) (bytes : List ℕ) → LastStays p (stripped_right p bytes)
last_kept p bytes some =
    let n : ℕ = length bytes - suffix_len p bytes in
    let size : length (take n bytes) ≡ n = omega (arith, length-take n bytes) in
    let turned : length bytes - 1 - suffix_len p bytes ≡ length (take n bytes) - 1 = omega arith in
    let read : get_or (take n bytes) (length (take n bytes) - 1) 0 ≡ get_or (reverse bytes) (suffix_len p bytes) 0 =
    get_or-take n bytes (length (take n bytes) - 1) 0 (omega arith)
    ∙ (ap (λ i. get_or bytes i 0) (sym turned) ∙ sym (get_or-reverse bytes (suffix_len p bytes) 0 (omega arith))) in
    ap p read ∙ prefix_len_stops p (reverse bytes) 0 (omega (arith, length-reverse bytes))

-- ---- the bytes that are kept

pub loses_front : (p : ℕ → Bool) (bytes : List ℕ) → LosesFront p bytes (stripped_left p bytes)
loses_front p bytes = record {
  front = take (prefix_len p bytes) bytes;
  whole = take-append-drop (prefix_len p bytes) bytes;
  front_goes = front_passes p bytes;
  first = first_kept p bytes;
}

pub loses_back : (p : ℕ → Bool) (bytes : List ℕ) → LosesBack p bytes (stripped_right p bytes)
loses_back p bytes = record {
  back = drop (length bytes - suffix_len p bytes) bytes;
  whole = take-append-drop (length bytes - suffix_len p bytes) bytes;
  back_goes = back_passes p bytes;
  last = last_kept p bytes;
}

pub loses_ends : (p : ℕ → Bool) (bytes : List ℕ) → LosesEnds p bytes (stripped p bytes)
loses_ends p bytes =
    let rest : List ℕ = stripped_left p bytes in
    let back : List ℕ = drop (length rest - suffix_len p rest) rest in
    let behind : stripped p bytes ++ back ≡ rest = take-append-drop (length rest - suffix_len p rest) rest in
    record {
      front = take (prefix_len p bytes) bytes;
      back = back;
      whole = ap (λ (bs : List ℕ). take (prefix_len p bytes) bytes ++ bs) behind ∙ take-append-drop (prefix_len p bytes) bytes;
      front_goes = front_passes p bytes;
      back_goes = back_passes p rest;
      first = λ some.
          let same : get_or (stripped p bytes) 0 0 ≡ get_or rest 0 0 =
          sym (get_or_append_left (stripped p bytes) back 0 0 some) ∙ ap (λ (bs : List ℕ). get_or bs 0 0) behind in
          ap p same ∙ first_kept p bytes (omega (arith, length-take (length rest - suffix_len p rest) rest));
      last = last_kept p rest;
    }

-- ---- which bytes are stripped

pub goes-named : (chars : List ℕ) (b : ℕ) → IsTrue (goes (Some chars) b) ↔ Contains chars b
goes-named chars b = (
  λ h. let found = Any-from_list_any (λ c. c == b) chars h in
      let is : found.1 ≡ b = eqb-true found.1 b found.4 in
      (found.0, found.2, ap (λ d. get_or chars found.0 d) (sym is) ∙ (found.3 ∙ is)),
  λ h. list_any_at (λ c. c == b) chars h.0 b h.1 (eq-eqb (get_or chars h.0 b) b h.2),
)

pub goes-blanks : (b : ℕ) → IsTrue (goes None b) ↔ Contains the_blanks b
goes-blanks b =
    let same : list_any (λ c. c == b) the_blanks ≡ goes None b = sym (is_in-list_any the_blanks b) ∙ is_in-blanks b in
    let named = goes-named the_blanks b in (
      λ h. named.0 (same ∙ h),
      λ h. sym same ∙ named.1 h,
    )
