-- Where the item at any indices of a view stands, in its bytes row by row and in column order.
use Rattle.std.proofs.Common.{◌≡◌, ℕ, zero, suc, ◌+◌, ◌*◌, ◌<◌, List, [], ◌∷◌, ◌++◌, length, map, flat_map, Bool, ap, sym, ◌∙◌, refl, subst, mul_comm, arith}
use Rattle.std.specs.Prelude.{Option, Some, None, Result, Ok, Err, slice_get, slice_index}
use Rattle.std.specs.List.{range_with_len}
use Rattle.std.specs.Option.{option_map}
use Rattle.std.proofs.lemmas.Grind.{common_steps}
use Rattle.std.proofs.lemmas.List.{length-append}
use Rattle.std.proofs.lemmas.List.FromFn.{length-map-range_with_len, get_or-map-range_with_len}
use Rattle.std.proofs.lemmas.Nat.{mul-add-lt}
use Rattle.std.proofs.lemmas.Option.{slice_get-map, slice_get-get_or, slice_get_within, get_or_from_slice_get}
use Rattle.pybuf_lemmas.proofs.Lists.{get-left}
use Rattle.pybuf_desc.specs.Layouts.{Layout, product, LiesInside}
use Rattle.pybuf_desc.specs.Items.{bytes_at, content_of_layout}
use Rattle.pybuf_desc.specs.ColumnOrder.{number_at, start_at, column_index_lists, column_starts, columns_of, column_content}
use Rattle.pybuf_desc.specs.Laws.{ColumnsStayInside}
use Rattle.pybuf_memoryview.specs.Laws.{AreEntries, ContentsAreWhole}
use Rattle.pybuf_command.specs.declared.commands.LocalReply.{LocalReply}
use Rattle.pybuf_command.specs.declared.commands.LocalReply.TheVariants as reply
use Rattle.pybuf_state.specs.Exporter.{Exporter, live_layout}
use Rattle.pybuf_state.specs.Laws.{LiveLayoutsAreSound}
use Rattle.pybuf_verbs_writes.specs.Laws.{ContentsHoldTheItems}
use Rattle.pybuf_exporter.specs.Columns.{column_number_at, HoldsTheSameItems, OrdersHoldTheSameItems}
use Rattle.pybuf_exporter.proofs.ColumnBytes.{read, read_by}

-- ---- the row-major number

below : (shape indices : List ℕ) → AreEntries shape indices → number_at shape indices < product shape
below [] [] there = omega arith
below [] (index ∷ indices) there = absurd there
below (n ∷ shape) [] there = absurd there
below (n ∷ shape) (index ∷ indices) there =
    subst (λ (k : ℕ). index * product shape + number_at shape indices < k) (mul_comm (product shape) n) (mul-add-lt index (product shape) (number_at shape indices) n there.0 (below shape indices there.1))

-- ---- the number in column order

get-right : {X : Type 0} (xs ys : List X) (k : ℕ) → slice_get (xs ++ ys) (length xs + k) ≡ slice_get ys k
get-right [] ys k = ap (slice_get ys) (let z : 0 + k ≡ k = omega arith in z)
get-right (x ∷ xs) ys k = ap (slice_get (x ∷ (xs ++ ys))) (let z : suc (length xs) + k ≡ suc (length xs + k) = omega arith in z) ∙ get-right xs ys k

-- an element of the m-th block, if all blocks have the same length
in_block : {X Y : Type 0} (f : X → List Y) (n : ℕ) → ((x : X) → length (f x) ≡ n) → (xs : List X) (m i : ℕ) (x : X) → slice_get xs m ≡ Some x → i < n → slice_get (flat_map f xs) (i + n * m) ≡ slice_get (f x) i
in_block f n each [] m i x given inside = absurd (cc)
in_block f n each (y ∷ xs) zero i x given inside =
    let same : y ≡ x = cc in
    ap (slice_get (f y ++ flat_map f xs)) (let z : i + n * zero ≡ i = omega arith in z)
    ∙ get-left (f y) (flat_map f xs) i (subst (λ (k : ℕ). i < k) (sym (each y)) inside)
    ∙ ap (λ z. slice_get (f z) i) same
in_block f n each (y ∷ xs) (suc m) i x given inside =
    let long = each y in
    ap (slice_get (f y ++ flat_map f xs)) (let z : i + n * suc m ≡ length (f y) + (i + n * m) = grind (arith, long) in z)
    ∙ get-right (f y) (flat_map f xs) (i + n * m)
    ∙ in_block f n each xs m i x given inside

long_blocks : {X Y : Type 0} (f : X → List Y) (n : ℕ) → ((x : X) → length (f x) ≡ n) → (xs : List X) → length (flat_map f xs) ≡ n * length xs
long_blocks f n each [] = let z : 0 ≡ n * 0 = omega arith in z
long_blocks f n each (x ∷ xs) =
    let rest = long_blocks f n each xs in
    let first = each x in
    length-append (f x) (flat_map f xs) ∙ grind (arith, first, rest)

-- the lists of indices whose first index is below a bound
abbrev one_more : ℕ → List ℕ → List (List ℕ)
one_more n indices = map (λ index. index ∷ indices) (range_with_len 0 n)

one_more_long : (n : ℕ) (indices : List ℕ) → length (one_more n indices) ≡ n
one_more_long n indices = length-map-range_with_len (λ index. index ∷ indices) 0 n

one_more_at : (n : ℕ) (indices : List ℕ) (i : ℕ) → i < n → slice_get (one_more n indices) i ≡ Some (i ∷ indices)
one_more_at n indices i inside =
    slice_get-get_or (one_more n indices) i [] (subst (λ (k : ℕ). i < k) (sym (one_more_long n indices)) inside)
    ∙ ap (λ (x : List ℕ). Some x) (get_or-map-range_with_len (λ index. index ∷ indices) 0 n i i [] inside (let z : 0 + i ≡ i = omega arith in z))

lists_long : (shape : List ℕ) → length (column_index_lists shape) ≡ product shape
lists_long [] = refl
lists_long (n ∷ shape) = long_blocks (one_more n) n (one_more_long n) (column_index_lists shape) ∙ ap (λ (k : ℕ). n * k) (lists_long shape)

numbered : (shape indices : List ℕ) → AreEntries shape indices → slice_get (column_index_lists shape) (column_number_at shape indices) ≡ Some indices
numbered [] [] there = refl
numbered [] (index ∷ indices) there = absurd there
numbered (n ∷ shape) [] there = absurd there
numbered (n ∷ shape) (index ∷ indices) there =
    in_block (one_more n) n (one_more_long n) (column_index_lists shape) (column_number_at shape indices) index indices (numbered shape indices there.1) there.0
    ∙ one_more_at n indices index there.0

-- ---- the bytes

starts_long : (view : Layout) → length (column_starts view) ≡ product view.shape
starts_long view = (let z : length (column_starts view) ≡ length (column_index_lists view.shape) = grind (arith, common_steps) in z) ∙ lists_long view.shape

start_there : (view : Layout) (indices : List ℕ) → AreEntries view.shape indices → slice_get (column_starts view) (column_number_at view.shape indices) ≡ Some (start_at view indices)
start_there view indices there =
    slice_get-map (start_at view) (column_index_lists view.shape) (column_number_at view.shape indices)
    ∙ ap (option_map (start_at view)) (numbered view.shape indices there)

same_item : ContentsHoldTheItems → (bytes : List ℕ) (view : Layout) (indices : List ℕ) → LiesInside (length bytes) view → LiesInside (length bytes) (columns_of view) → length view.starts ≡ product view.shape → AreEntries view.shape indices
    → bytes_at (column_content bytes view) view.itemsize (column_number_at view.shape indices * view.itemsize) ≡ bytes_at (content_of_layout bytes view) view.itemsize (number_at view.shape indices * view.itemsize)
same_item hold bytes view indices inside columns_inside counted there =
    let column : ℕ = column_number_at view.shape indices in
    let row : ℕ = number_at view.shape indices in
    let found = start_there view indices there in
    hold bytes (columns_of view) column columns_inside (slice_get_within (column_starts view) column (start_at view indices) found)
    ∙ ap (bytes_at bytes view.itemsize) (get_or_from_slice_get (column_starts view) column (start_at view indices) 0 found)
    ∙ sym (hold bytes view row inside (subst (λ (k : ℕ). row < k) (sym counted) (below view.shape indices there)))

pub same_items : ContentsHoldTheItems → ContentsAreWhole → ColumnsStayInside → LiveLayoutsAreSound → OrdersHoldTheSameItems
same_items hold whole stay sound_live e k layout sound live =
    let good = sound_live e k layout sound live in
    let columns_inside : LiesInside (length e.bytes) (columns_of layout) = stay (length e.bytes) layout good.formed.counted good.inside in
    record {
      rows = content_of_layout e.bytes layout;
      columns = column_content e.bytes layout;
      by_rows = read e k layout live;
      by_columns = read_by e k layout (70 ∷ []) live;
      as_many =
          whole e.bytes (columns_of layout) columns_inside
          ∙ ap (λ (n : ℕ). layout.itemsize * n) (starts_long layout ∙ sym good.formed.counted)
          ∙ sym (whole e.bytes layout good.inside);
      items = λ indices there. same_item hold e.bytes layout indices good.inside columns_inside good.formed.counted there;
    }
