-- Items that are read from bytes, in which they lie one after the other.
use Rattle.std.proofs.Common.{◌≡◌, ℕ, zero, suc, ◌+◌, ◌*◌, ◌-◌, ◌<◌, ◌≤◌, List, [], ◌∷◌, ◌++◌, length, map, take, drop, ap, ap₂, sym, ◌∙◌, subst, arith, suc-add, append_assoc}
use Rattle.std.specs.Prelude.{All, ◌/◌, ◌%◌}
use Rattle.std.proofs.lemmas.Grind.{common_steps}
use Rattle.std.proofs.lemmas.List.{length-append, length-take-le, length-drop, take-append-le, drop-append-le}
use Rattle.std.proofs.lemmas.List.Elements.{All-head, All-tail}
use Rattle.std.proofs.Math.Nat.{zero-div, div_self, mul-mod_left, add-mul-div_right, mod-add-div'}
use Rattle.pybuf_lemmas.proofs.Lists.{empty_if_no_length}
use Rattle.pybuf_value.specs.declared.values.Item.{Item}
use Rattle.pybuf_desc.specs.Layouts.{Layout, LiesInside}
use Rattle.pybuf_desc.specs.Items.{bytes_at, bytes_of_items, content_of_layout}
use Rattle.pybuf_memoryview.specs.Items.{item_by}
use Rattle.pybuf_memoryview.specs.Lists.{items_of_layout}
use Rattle.pybuf_memoryview.specs.Readers.{read_by}
use Rattle.pybuf_memoryview.specs.declared.readers.ItemReader.{ItemReader}
use Rattle.pybuf_verbs_reads.specs.ItemRuns.{items_in, items_of_run}

-- ---- bytes that follow one another

one_more : (size n len : ℕ) → len ≡ suc n * size → (size ≤ len) × (len - size ≡ n * size)
one_more size n len long = let e : suc n * size ≡ size + n * size = grind arith in (omega (arith, e, long), omega (arith, e, long))

in_both : (reader : ItemReader) (size : ℕ) (a b : List ℕ) (n m : ℕ) → length a ≡ n * size → items_in reader size (a ++ b) (n + m) ≡ items_in reader size a n ++ items_in reader size b m
in_both reader size a b zero m long =
    let none : length a ≡ 0 = omega (arith, long) in
    ap (items_in reader size (a ++ b)) (let same : 0 + m ≡ m = omega arith in same) ∙ ap (λ (xs : List ℕ). items_in reader size (xs ++ b) m) (empty_if_no_length a none)
in_both reader size a b (suc n) m long =
    let more = one_more size n (length a) long in
    let rest : length (drop size a) ≡ n * size = length-drop size a ∙ more.1 in
    ap (items_in reader size (a ++ b)) (suc-add n m)
    ∙ ap₂ (λ (run others : List ℕ). read_by reader run ∷ items_in reader size others (n + m)) (take-append-le size a b more.0) (drop-append-le size a b more.0)
    ∙ ap (λ (items : List Item). read_by reader (take size a) ∷ items) (in_both reader size (drop size a) b n m rest)

whole : (len size : ℕ) → len % size ≡ 0 → len ≡ len / size * size
whole len size is = let split = mod-add-div' len size in omega (arith, split, is)

-- whole items, and the bytes that follow them
run_both : (reader : ItemReader) (size : ℕ) (a b : List ℕ) → 0 < size → length a % size ≡ 0 → items_of_run reader size (a ++ b) ≡ items_of_run reader size a ++ items_of_run reader size b
run_both reader size a b some is =
    let long : length a ≡ length a / size * size = whole (length a) size is in
    let both : length (a ++ b) ≡ length b + length a / size * size = let l = length-append a b in omega (arith, l, long) in
    let count : length (a ++ b) / size ≡ length a / size + length b / size =
    ap (λ (k : ℕ). k / size) both ∙ add-mul-div_right (length b) (length a / size) some ∙ (let swap : length b / size + length a / size ≡ length a / size + length b / size = omega arith in swap) in
    ap (items_in reader size (a ++ b)) count ∙ in_both reader size a b (length a / size) (length b / size) long

no_run : (reader : ItemReader) (size : ℕ) → items_of_run reader size [] ≡ []
no_run reader size = ap (items_in reader size []) (zero-div size)

one_run : (reader : ItemReader) (size : ℕ) (bytes : List ℕ) → 0 < size → length bytes ≡ size → items_of_run reader size bytes ≡ read_by reader bytes ∷ []
one_run reader size bytes some long =
    let all : take size bytes ≡ bytes = grind (arith, common_steps, long) in
    ap (items_in reader size bytes) (ap (λ (k : ℕ). k / size) long ∙ div_self some) ∙ ap (λ (run : List ℕ). read_by reader run ∷ []) all

-- ---- all items

-- The reader reads items of this size as their format does.
abbrev pub ReadsAs : ItemReader → List ℕ → ℕ → Type 0
ReadsAs reader format size = (bytes : List ℕ) → length bytes ≡ size → read_by reader bytes ≡ item_by format bytes

content_read : (reader : ItemReader) (format : List ℕ) (size : ℕ) (bytes starts : List ℕ) → 0 < size → ReadsAs reader format size → All (λ start. start + size ≤ length bytes) starts
    → items_of_run reader size (bytes_of_items bytes size starts) ≡ map (λ start. item_by format (bytes_at bytes size start)) starts
content_read reader format size bytes [] some reads inside = no_run reader size
content_read reader format size bytes (start ∷ starts) some reads inside =
    let here : start + size ≤ length bytes = All-head (λ s. s + size ≤ length bytes) start starts inside in
    let fits : size ≤ length (drop start bytes) = let l = length-drop start bytes in omega (arith, l, here) in
    let long : length (bytes_at bytes size start) ≡ size = length-take-le size (drop start bytes) fits in
    let none : length (bytes_at bytes size start) % size ≡ 0 = ap (λ (k : ℕ). k % size) (long ∙ (let one : size ≡ 1 * size = omega arith in one)) ∙ mul-mod_left 1 size in
    run_both reader size (bytes_at bytes size start) (bytes_of_items bytes size starts) some none
    ∙ ap₂ (λ (xs ys : List Item). xs ++ ys) (one_run reader size (bytes_at bytes size start) some long ∙ ap (λ (item : Item). item ∷ []) (reads (bytes_at bytes size start) long))
    (content_read reader format size bytes starts some reads (All-tail (λ s. s + size ≤ length bytes) start starts inside))

-- The bytes of a view's items give the items of the view.
pub content_listed : (reader : ItemReader) (layout : Layout) (size : ℕ) (bytes content : List ℕ) → size ≡ layout.itemsize → 0 < size → ReadsAs reader layout.format size → LiesInside (length bytes) layout
    → content ≡ content_of_layout bytes layout → items_of_run reader size content ≡ items_of_layout bytes layout
content_listed reader layout size bytes content same some reads inside is =
    ap (items_of_run reader size) is
    ∙ ap (λ (k : ℕ). items_of_run reader size (bytes_of_items bytes k layout.starts)) (sym same)
    ∙ content_read reader layout.format size bytes layout.starts some reads (subst (λ (k : ℕ). All (λ s. s + k ≤ length bytes) layout.starts) (sym same) inside)
    ∙ ap (λ (k : ℕ). map (λ s. item_by layout.format (bytes_at bytes k s)) layout.starts) same

-- ---- steps of the loop

pub left_fits : (size left : ℕ) (rest : List ℕ) → 0 < left → left * size ≤ length rest → (size ≤ length rest) × ((left - 1) * size ≤ length (drop size rest))
left_fits size zero rest some fits = absurd (omega (arith, some))
left_fits size (suc n) rest some fits =
    let e : suc n * size ≡ size + n * size = grind arith in
    let same : suc n - 1 ≡ n = omega arith in
    let l = length-drop size rest in (
      omega (arith, e, fits),
      rw same (let after : n * size ≤ length (drop size rest) = omega (arith, e, fits, l) in after),
    )

pub run_step : (reader : ItemReader) (size left : ℕ) (rest : List ℕ) (items more total : List Item) → 0 < left → more ≡ items ++ read_by reader (take size rest) ∷ []
    → items ++ items_in reader size rest left ≡ total → more ++ items_in reader size (drop size rest) (left - 1) ≡ total
run_step reader size zero rest items more total some grown so_far = absurd (omega (arith, some))
run_step reader size (suc n) rest items more total some grown so_far =
    let same : suc n - 1 ≡ n = omega arith in
    ap₂ (λ (xs : List Item) (k : ℕ). xs ++ items_in reader size (drop size rest) k) grown same
    ∙ append_assoc items (read_by reader (take size rest) ∷ []) (items_in reader size (drop size rest) n) ∙ so_far

-- one step of the loop
pub run_step_at : (reader : ItemReader) (size left : ℕ) (rest front back : List ℕ) (items more total : List Item) (item : Item) → 0 < left → front ≡ take size rest → back ≡ drop size rest
    → item ≡ read_by reader front → more ≡ items ++ item ∷ [] → items ++ items_in reader size rest left ≡ total → left * size ≤ length rest
    → (more ++ items_in reader size back (left - 1) ≡ total) × ((left - 1) * size ≤ length back)
run_step_at reader size left rest front back items more total item some is_front is_back reads grown so_far fits = (
  ap (λ (bytes : List ℕ). more ++ items_in reader size bytes (left - 1)) is_back
      ∙ run_step reader size left rest items more total some (grown ∙ ap (λ (i : Item). items ++ i ∷ []) (reads ∙ ap (read_by reader) is_front)) so_far,
  subst (λ (bytes : List ℕ). (left - 1) * size ≤ length bytes) (sym is_back) (left_fits size left rest some fits).1,
)
