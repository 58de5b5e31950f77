-- The steps of a walk over rows and the places in them.
use Rattle.std.proofs.Common.{◌≡◌, ℕ, zero, suc, ◌+◌, ◌-◌, ◌^◌, ◌<◌, ℤ, pos, ◌+ℤ◌, ◌≤ℤ◌, Bool, true, List, ◌∷◌, ◌++◌, replicate, map, flat_map, refl, ap, sym, ◌∙◌, subst, arith}
use Rattle.std.proofs.lemmas.Int.{ints}
use Rattle.std.specs.List.{AllByRecursion}
use Rattle.pybuf_desc.specs.Valid.{IsInside}
use Rattle.pybuf_desc.specs.Segments.{line, range_at, IsWalk, AreRows, rows_left, row_places, places_left}
use Rattle.pybuf_desc.proofs.Rows.{first_left, first_row}

-- the next place of a row, if there is one
abbrev pub IsNext : ℕ → ℤ → ℕ → ℕ → Type 0
IsNext place stride left next = 0 < left → pos next ≡ pos place +ℤ stride

line-next : (place next left : ℕ) (stride : ℤ) → IsNext place stride left next → line (pos place +ℤ stride) stride left ≡ line (pos next) stride left
line-next place next zero stride e = refl
line-next place next (suc left) stride e = ap (λ q. line q stride (suc left)) (sym (e (omega arith)))

-- what is left after one item of a row is taken
left_after : (place next : ℕ) (stride : ℤ) (left row_len : ℕ) (rows : List ℤ) → IsNext place stride left next
    → places_left place stride (suc left) row_len rows ≡ pos place ∷ places_left next stride left row_len rows
left_after place next stride left row_len rows e =
    ap (λ (xs : List ℤ). pos place ∷ (xs ++ flat_map (λ p. line p stride row_len) rows)) (line-next place next left stride e)

-- every place that is left lies inside
abbrev pub AllInside : ℕ → List ℤ → Type 0
AllInside size places = AllByRecursion (IsInside size 9223372036854775807) places

-- what the arithmetic of a step needs
range_fits : (place : ℕ) (stride : ℤ) (left row_len size : ℕ) (rows : List ℤ) → AllInside size (places_left place stride (suc left) row_len rows) → place + size < 2 ^ 63
range_fits place stride left row_len size rows all = let i = all.0 in let h = i.high in omega (arith, ints)

next_fits : (place : ℕ) (stride : ℤ) (left row_len size : ℕ) (rows : List ℤ) → AllInside size (places_left place stride (suc left) row_len rows) → 0 < left
    → (pos 0 ≤ℤ (pos place +ℤ stride)) × ((pos place +ℤ stride) ≤ℤ pos 9223372036854775807)
next_fits place stride zero row_len size rows all h = absurd (omega arith)
next_fits place stride (suc left) row_len size rows all h = let i = all.1.0 in let low = i.low in let high = i.high in (low, omega (arith, ints))

-- ---- one step, where the code counts what is left

pub record Taken (place : ℕ) (stride : ℤ) (left row_len size : ℕ) (rows : List ℤ) : Type 0 where
  pub place_fits : place < 2 ^ 63
  pub range_fits : place + size < 2 ^ 63
  pub next_low : 0 < left - 1 → pos 0 ≤ℤ (pos place +ℤ stride)
  pub next_high : 0 < left - 1 → (pos place +ℤ stride) ≤ℤ pos 9223372036854775807
  pub inside : (next : ℕ) → (0 < left - 1 → pos next ≡ pos place +ℤ stride) → AllInside size (places_left next stride (left - 1) row_len rows)
  pub view : (next : ℕ) → (0 < left - 1 → pos next ≡ pos place +ℤ stride)
      → map (range_at size) (places_left place stride left row_len rows) ≡ range_at size (pos place) ∷ map (range_at size) (places_left next stride (left - 1) row_len rows)

taken_suc : (place : ℕ) (stride : ℤ) (left m row_len size : ℕ) (rows : List ℤ) → left ≡ suc m → left - 1 ≡ m
    → AllInside size (places_left place stride left row_len rows) → Taken place stride left row_len size rows
taken_suc place stride left m row_len size rows e f all =
    let all' : AllInside size (places_left place stride (suc m) row_len rows) = subst (λ n. AllInside size (places_left place stride n row_len rows)) e all in
    let fits : place + size < 2 ^ 63 = range_fits place stride m row_len size rows all' in
    record {
      place_fits = omega (arith, fits);
      range_fits = fits;
      next_low = λ h. (next_fits place stride m row_len size rows all' (subst (λ n. 0 < n) f h)).0;
      next_high = λ h. (next_fits place stride m row_len size rows all' (subst (λ n. 0 < n) f h)).1;
      inside = λ next h. subst (λ n. AllInside size (places_left next stride n row_len rows)) (sym f)
          (subst (AllInside size) (left_after place next stride m row_len rows (λ g. h (subst (λ n. 0 < n) (sym f) g))) all').1;
      view = λ next h.
          ap (λ n. map (range_at size) (places_left place stride n row_len rows)) e
          ∙ ap (λ (xs : List ℤ). map (range_at size) xs) (left_after place next stride m row_len rows (λ g. h (subst (λ n. 0 < n) (sym f) g)))
          ∙ ap (λ n. range_at size (pos place) ∷ map (range_at size) (places_left next stride n row_len rows)) (sym f);
    }

taken : (place : ℕ) (stride : ℤ) (left row_len size : ℕ) (rows : List ℤ) → 0 < left
    → AllInside size (places_left place stride left row_len rows) → Taken place stride left row_len size rows
taken place stride left row_len size rows h all =
    taken_suc place stride left (left - 1) row_len size rows (let e : left ≡ suc (left - 1) = omega (arith, h) in e) refl all

-- the next item of a row that was begun lies in this row
pub within_row : (rows : List (ℕ × ℤ × ℤ)) (indices : List ℕ) (row_place : ℕ) (has_row : Bool) (place : ℕ) (stride : ℤ) (left row_len size : ℕ) → 0 < left
    → IsWalk rows indices row_place has_row place stride left row_len size → Taken place stride left row_len size (rows_left rows indices row_place has_row)
within_row rows indices row_place has_row place stride left row_len size h w =
    taken place stride left row_len size (rows_left rows indices row_place has_row) h w.inside

-- what is left once a row is begun and others are left
begun_left : (rows : List (ℕ × ℤ × ℤ)) (indices : List ℕ) (row_place : ℕ) (has_row : Bool) (place : ℕ) (stride : ℤ) (left row_len : ℕ) (others : List ℤ) → left ≡ 0 → has_row ≡ true
    → rows_left rows indices row_place true ≡ pos row_place ∷ others
    → places_left place stride left row_len (rows_left rows indices row_place has_row) ≡ places_left row_place stride row_len row_len others
begun_left rows indices row_place has_row place stride left row_len others z t e =
    ap (λ n. places_left place stride n row_len (rows_left rows indices row_place has_row)) z
    ∙ ap (λ b. places_left place stride 0 row_len (rows_left rows indices row_place b)) t
    ∙ ap (λ xs. places_left place stride 0 row_len xs) e

pub row_begun : (rows : List (ℕ × ℤ × ℤ)) (indices : List ℕ) (row_place : ℕ) (has_row : Bool) (place : ℕ) (stride : ℤ) (left row_len size : ℕ) (others : List ℤ) → left ≡ 0 → has_row ≡ true
    → rows_left rows indices row_place true ≡ pos row_place ∷ others
    → IsWalk rows indices row_place has_row place stride left row_len size → Taken row_place stride row_len row_len size others
row_begun rows indices row_place has_row place stride left row_len size others z t e w =
    taken row_place stride row_len row_len size others (w.row_some t)
    (subst (AllInside size) (begun_left rows indices row_place has_row place stride left row_len others z t e) w.inside)

-- ---- a walk from the first row on

pub walk_begins : (rows : List (ℕ × ℤ × ℤ)) (indices : List ℕ) (start : ℕ) (stride : ℤ) (row_len size : ℕ) → indices ≡ replicate 64 0 → AreRows rows start stride row_len size
    → IsWalk rows indices start true 0 stride 0 row_len size
walk_begins rows indices start stride row_len size e r =
    record {
      row = λ _. first_row rows indices start e r.few r.placed;
      row_some = λ _. r.row_some;
      inside = subst (λ xs. AllInside size (places_left 0 stride 0 row_len xs)) (sym (first_left rows indices start e)) r.inside;
    }

pub walk_places : (rows : List (ℕ × ℤ × ℤ)) (indices : List ℕ) (start : ℕ) (stride : ℤ) (row_len size : ℕ) → indices ≡ replicate 64 0
    → map (range_at size) (places_left 0 stride 0 row_len (rows_left rows indices start true)) ≡ map (range_at size) (row_places rows start stride row_len)
walk_places rows indices start stride row_len size e = ap (λ xs. map (range_at size) (places_left 0 stride 0 row_len xs)) (first_left rows indices start e)
